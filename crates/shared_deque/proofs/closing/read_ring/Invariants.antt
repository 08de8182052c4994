use Rattle.std.proofs.Common.{◌≡◌, ◌≤◌, length, vec_len, vec_capacity}
use Rattle.std.specs.Slots.{slots_items}
use Rattle.shared_deque.specs.Layout.{head_in, size_in}
use Rattle.shared_deque.proofs.RingReads.{ReadsSoFar}
use Rattle.shared_deque.proofs.closing.read_ring.Given as goal

abbrev pub invariant-loop-place : goal.invariant-loop-place
invariant-loop-place l = record {
  filled : vec_len l.items ≡ l.place;
  count : length l.items.items ≡ l.place;
  room : size_in l.ends ≤ vec_capacity l.items;
  each : ReadsSoFar (slots_items l.closed.words) l.capacity (head_in l.ends) l.items.items;
}
