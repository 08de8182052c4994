use Rattle.std.proofs.Common.{◌≡◌}
use Rattle.shared_deque.specs.Passes.{pass_opening}
use Rattle.shared_deque.specs.Deques.{opening_of}
use Rattle.bench_objects.proofs.deque_pairs.make_tries.Given as goal

abbrev pub invariant-loop-number : goal.invariant-loop-number
invariant-loop-number l = pass_opening l.pass ≡ opening_of l.deque
