use Rattle.epoch_core.specs.Opened.{AreNewSeats}
use Rattle.epoch_core.proofs.machine.opening_seats.Given as goal

abbrev pub invariant-loop-seat : goal.invariant-loop-seat
invariant-loop-seat l = AreNewSeats l._seat l.seats.items
