use Rattle.std.proofs.Common.{ap, sym}
use Rattle.epoch_laws.specs.Seats.{Seat}
use Rattle.epoch_laws.specs.HomeSteps.{Waits}
use Rattle.epoch_core.proofs.Decided.{tested}
use Rattle.epoch_core.proofs.SeatStores.{seat_read, low_read}
use Rattle.epoch_core.proofs.machine.Machine.waits.Goals as goal

pub returns : goal.returns
returns c s sh =
    let low = low_read _ s sh c.args.seat c.requires in
    let own = seat_read _ s sh c.args.seat c.index.result.now low c.index.ensures in
    tested _ _ _ _ _ c.waits-met.ensures (ap (λ (q : Seat). Waits q.homing.tail) (sym own.same)) (c.stands.ensures s sh)
