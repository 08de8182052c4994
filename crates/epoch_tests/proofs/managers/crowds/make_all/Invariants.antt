use Rattle.epoch_tests.specs.Carrying.{Carries}
use Rattle.epoch_tests.proofs.managers.crowds.make_all.Given as goal

abbrev pub invariant-loop-call : goal.invariant-loop-call
invariant-loop-call g l = Carries l.manager l.caller.cells l.caller.pass l.caller.hand l.caller.cut l.caller.held
