use Rattle.std.proofs.Common.{ap, sym, ◌∙◌}
use Rattle.epoch_laws.specs.Places.{is_among}
use Rattle.epoch_laws.specs.Seats.{Seat}
use Rattle.epoch_core.specs.Objects.{object_place}
use Rattle.epoch_core.proofs.HeldWords.{among-held}
use Rattle.epoch_core.proofs.SeatStores.{seat_read, low_read}
use Rattle.epoch_core.proofs.machine.Machine.holds.Goals as goal

pub returns : goal.returns
returns c s sh =
    let own = seat_read _ s sh c.args.seat c.index.result.now (low_read _ s sh c.args.seat c.requires) c.index.ensures in
    c.holds.ensures ∙ sym (among-held (object_place c.args.at) c.index.result.now.held.items) ∙ sym (ap (λ (q : Seat). is_among (object_place c.args.at) q.held) own.same)
