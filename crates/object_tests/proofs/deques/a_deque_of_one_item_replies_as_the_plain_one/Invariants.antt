use Rattle.std.proofs.Common.{◌≡◌}
use Rattle.pass_table.specs.Passes.{pass_opening}
use Rattle.shared_deque.specs.Deques.{opening_of}
use Rattle.object_tests.proofs.deques.a_deque_of_one_item_replies_as_the_plain_one.Given as goal

abbrev pub invariant-loop-call : goal.invariant-loop-call
invariant-loop-call g l = pass_opening l.pass ≡ opening_of l.deque
