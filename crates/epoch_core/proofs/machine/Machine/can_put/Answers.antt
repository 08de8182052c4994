use Rattle.std.proofs.Common.{ap, sym}
use Rattle.epoch_laws.specs.Seats.{Seat}
use Rattle.epoch_core.specs.ChainNeeds.{MayPut}
use Rattle.epoch_core.proofs.Decided.{tested}
use Rattle.epoch_core.proofs.SeatStores.{seat_read, low_read}
use Rattle.epoch_core.proofs.machine.Machine.can_put.Goals as goal

pub returns : goal.returns
returns c s sh =
    let low = low_read _ s sh c.args.seat c.requires in
    let own = seat_read _ s sh c.args.seat c.index.result.now low c.index.ensures in
    tested _ _ _ _ _ c.may_put-met.ensures (ap (λ (q : Seat). MayPut q) (sym own.same)) (c.stands.ensures s sh)
