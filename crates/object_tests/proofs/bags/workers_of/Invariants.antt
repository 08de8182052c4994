use Rattle.std.proofs.Common.{◌≡◌, vec_len}
use Rattle.std.specs.List.{All}
use Rattle.pass_table.specs.Passes.{pass_opening}
use Rattle.shared_bag.specs.Bags.{opening_of}
use Rattle.shared_bag.specs.Opened.{AreOfOpening}
use Rattle.object_tests.proofs.bags.workers_of.Given as goal

abbrev pub invariant-callers : goal.invariant-callers
invariant-callers l = record { left : AreOfOpening l.bag l.passes.items; made : All (λ w. pass_opening w.pass ≡ opening_of l.bag) l.workers.items }

abbrev pub decreases-callers : goal.decreases-callers
decreases-callers l = vec_len l.passes
