use Rattle.epoch_core.specs.Objects.{object_place}
use Rattle.epoch_core.proofs.WayLoops.{GoesOn}
use Rattle.epoch_core.proofs.machine.Machine.let_go.Given as goal

abbrev pub invariant-loop-met : goal.invariant-loop-met
invariant-loop-met l = GoesOn l.initial.self l.self l.seat l.limit l.fn.top l.fn.tail l.end l.met (object_place l.at)
