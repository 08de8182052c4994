use Rattle.std.proofs.Common.{◌≡◌}
use Rattle.pass_table.specs.Passes.{pass_opening}
use Rattle.shared_bag.specs.Bags.{opening_of}
use Rattle.object_tests.proofs.bags.rooms_at_the_borders_of_blocks_are_filled.Given as goal

abbrev pub invariant-loop-item : goal.invariant-loop-item
invariant-loop-item g l = pass_opening l.pass ≡ opening_of l.bag

abbrev pub invariant-loop : goal.invariant-loop
invariant-loop g l = pass_opening l.pass ≡ opening_of l.bag
