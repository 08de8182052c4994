use Rattle.std.specs.List.{All}
use Rattle.epoch_tests.specs.Carrying.{Carries}
use Rattle.epoch_tests.proofs.managers.scripts.first_other.Given as goal

abbrev pub invariant-loop-place : goal.invariant-loop-place
invariant-loop-place g l = All (λ c. Carries l.manager c.cells c.pass c.hand c.cut c.held) l.callers
