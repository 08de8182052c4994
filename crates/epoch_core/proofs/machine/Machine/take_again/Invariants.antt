use Rattle.epoch_laws.specs.Places.{place_of}
use Rattle.epoch_core.specs.Objects.{object_place}
use Rattle.epoch_core.proofs.WayLoops.{TakesBack}
use Rattle.epoch_core.proofs.machine.Machine.take_again.Given as goal

abbrev pub invariant-loop-met : goal.invariant-loop-met
invariant-loop-met l = TakesBack l.initial.self l.self l.seat (place_of l.fn.top) l.count l._met (object_place l.at)
