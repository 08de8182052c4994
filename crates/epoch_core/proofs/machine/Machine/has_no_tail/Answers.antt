use Rattle.std.proofs.Common.{◌≡◌, None, ap, sym}
use Rattle.epoch_laws.specs.Seats.{Seat}
use Rattle.epoch_core.proofs.Decided.{tested}
use Rattle.epoch_core.proofs.SeatStores.{seat_read, low_read}
use Rattle.epoch_core.proofs.machine.Machine.has_no_tail.Goals as goal

pub returns : goal.returns
returns c s sh =
    let low = low_read _ s sh c.args.seat c.requires in
    let own = seat_read _ s sh c.args.seat c.index.result.now low c.index.ensures in
    tested _ _ _ _ _ c.has_no_tail-met.ensures (ap (λ (q : Seat). q.homing.tail ≡ None) (sym own.same)) (c.stands.ensures s sh)
