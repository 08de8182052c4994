use Rattle.std.proofs.Common.{◌≡◌}
use Rattle.pass_table.specs.Passes.{pass_opening}
use Rattle.shared_bag.specs.Bags.{opening_of, callers_of}
use Rattle.object_tests.proofs.bags.what_wanted_memory_can_be_done_once_more.Given as goal

abbrev pub invariant-loop-item : goal.invariant-loop-item
invariant-loop-item g l = (pass_opening l.pass ≡ opening_of l.bag) × (callers_of l.bag ≡ 1)
