use Rattle.std.proofs.Common.{◌≡◌, ap, sym}
use Rattle.epoch_laws.specs.Seats.{Seat}
use Rattle.epoch_core.specs.Phases.{phase_of}
use Rattle.epoch_core.proofs.Decided.{tested}
use Rattle.epoch_core.proofs.SeatStores.{seat_read, low_read}
use Rattle.epoch_core.proofs.machine.Machine.in_phase.Goals as goal

pub returns : goal.returns
returns c s sh =
    let shown = seat_read _ s sh c.args.seat c.index.result.now (low_read _ s sh c.args.seat c.requires) c.index.ensures in
    tested _ _ _ _ _ c.is.ensures (ap (λ (q : Seat). q.phase ≡ phase_of c.args.phase) (sym shown.same)) (c.stands.ensures s sh)
