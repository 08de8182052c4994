use Rattle.std.proofs.Common.{◌≡◌, ap, sym}
use Rattle.epoch_laws.specs.Seats.{Seat}
use Rattle.epoch_core.specs.Phases.{phase_of}
use Rattle.epoch_core.proofs.Decided.{tested}
use Rattle.epoch_core.proofs.SeatStores.{seat_read, low_read}
use Rattle.epoch_core.proofs.machine.Machine.in_reclaim_phase.Goals as goal

pub returns : goal.returns
returns c s sh =
    let low = low_read _ s sh c.args.seat c.requires in
    let own = seat_read _ s sh c.args.seat c.index.result.now low c.index.ensures in
    tested _ _ _ _ _ c.is-met.ensures (ap (λ (q : Seat). q.phase ≡ phase_of c.args.phase) (sym own.same)) (c.reclaims.ensures s sh)
