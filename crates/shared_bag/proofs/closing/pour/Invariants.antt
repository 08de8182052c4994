use Rattle.std.proofs.Common.{◌≡◌, ◌+◌, ◌++◌, length, vec_len, vec_capacity}
use Rattle.std.specs.Prelude.{IsPermutation}
use Rattle.shared_bag.proofs.closing.pour.Given as goal

abbrev pub invariant-loop-item : goal.invariant-loop-item
invariant-loop-item l = record {
  so_far : IsPermutation (l.fn.items.items ++ l.fn.moved.items) (l.items.items ++ l.moved.items);
  count : vec_len l.items + length l.moved.items ≡ vec_len l.fn.items + length l.fn.moved.items;
  room : vec_capacity l.items ≡ vec_capacity l.fn.items;
}

abbrev pub decreases-loop-item : goal.decreases-loop-item
decreases-loop-item l = length l.moved.items
