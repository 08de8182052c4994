use Rattle.std.proofs.Common.{◌≡◌}
use Rattle.pass_table.specs.Passes.{pass_opening}
use Rattle.shared_bag.specs.Bags.{opening_of}
use Rattle.object_tests.proofs.bags.add_until_room.Given as goal

abbrev pub invariant-loop : goal.invariant-loop
invariant-loop g l = pass_opening l.pass ≡ opening_of l.bag
