use Rattle.std.proofs.Common.{◌≡◌}
use Rattle.shared_bag.specs.Passes.{pass_opening}
use Rattle.shared_bag.specs.Bags.{opening_of}
use Rattle.bench_objects.proofs.bag_pairs.make_tries.Given as goal

abbrev pub invariant-loop-number : goal.invariant-loop-number
invariant-loop-number l = pass_opening l.pass ≡ opening_of l.bag
