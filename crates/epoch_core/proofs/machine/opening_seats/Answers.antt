use Rattle.std.proofs.Common.{sym, subst, ◌+◌, List}
use Rattle.epoch_core.specs.declared.seats.Seat.{Seat as RunningSeat}
use Rattle.epoch_core.specs.Opened.{AreNewSeats}
use Rattle.epoch_core.proofs.Opened.{seats-push}
use Rattle.epoch_core.proofs.machine.opening_seats.Goals as goal

pub loop-seat-preserved : goal.loop-seat-preserved
loop-seat-preserved c =
    subst (λ (l : List RunningSeat). AreNewSeats (c.loop-seat._seat + 1) l) (sym c.in_ok-push.ensures.items)
    (seats-push c.loop-seat._seat c.loop-seat.seats.items c.new.result c.loop-seat.invariant c.new.ensures)
