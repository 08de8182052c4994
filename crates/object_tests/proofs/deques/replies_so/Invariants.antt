use Rattle.std.proofs.Common.{◌≡◌}
use Rattle.pass_table.specs.Passes.{pass_opening}
use Rattle.shared_deque.specs.Deques.{opening_of}
use Rattle.pass_table.specs.Passes.{IsSamePass}
use Rattle.object_tests.proofs.deques.replies_so.Given as goal

abbrev pub invariant-loop-call : goal.invariant-loop-call
invariant-loop-call l = record { opening : pass_opening l.pass ≡ opening_of l.deque; same : IsSamePass l.initial.pass l.pass }
