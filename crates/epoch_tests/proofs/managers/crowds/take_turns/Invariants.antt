use Rattle.epoch_tests.specs.Carrying.{Carries}
use Rattle.epoch_tests.proofs.managers.crowds.take_turns.Given as goal

abbrev pub invariant-loop-round : goal.invariant-loop-round
invariant-loop-round g l = Carries l.manager l.caller.cells l.caller.pass l.caller.hand l.caller.cut l.caller.held
