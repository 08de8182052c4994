use Rattle.std.proofs.Common.{◌≡◌}
use Rattle.pass_table.specs.Passes.{pass_opening}
use Rattle.shared_deque.specs.Deques.{opening_of}
use Rattle.object_tests.proofs.deques.a_ring_goes_round_both_ways.Given as goal

abbrev pub invariant-loop : goal.invariant-loop
invariant-loop g l = record { opening : pass_opening l.pass ≡ opening_of l.deque }
