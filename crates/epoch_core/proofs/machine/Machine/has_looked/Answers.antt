use Rattle.std.proofs.Common.{◌≡◌, false, ap, sym}
use Rattle.epoch_laws.specs.Seats.{Seat, is_reclaiming}
use Rattle.epoch_laws.specs.TakeSteps.{LookedAt}
use Rattle.epoch_core.specs.Objects.{object_place}
use Rattle.epoch_core.proofs.Decided.{tested}
use Rattle.epoch_core.proofs.SeatStores.{seat_read, low_read}
use Rattle.epoch_core.proofs.machine.Machine.has_looked.Goals as goal

pub returns : goal.returns
returns c s sh =
    let low = low_read _ s sh c.args.seat c.requires in
    let own = seat_read _ s sh c.args.seat c.index.result.now low c.index.ensures in
    tested _ _ _ _ _ c.may_try-met.ensures (ap (λ (q : Seat). (is_reclaiming q.phase ≡ false) × LookedAt q.free_look (object_place c.args.at)) (sym own.same)) (c.stands.ensures s sh)
