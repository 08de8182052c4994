use Rattle.std.proofs.Common.{◌≡◌}
use Rattle.object_tests.proofs.plain_objects.answers_calls_in_turn.Given as goal

abbrev pub invariant-loop-call : goal.invariant-loop-call
invariant-loop-call g l = l.list.width ≡ 2
