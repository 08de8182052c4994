use Rattle.std.proofs.Common.{◌≡◌, ℕ, ◌<◌, ◌≤◌, true, false, get_or, length, vec_len, vec_capacity}
use Rattle.std.specs.Prelude.{IsPermutation}
use Rattle.std.specs.Slots.{slots_filled, slots_len, slots_items}
use Rattle.shared_bag.specs.Counted.{items_of}
use Rattle.shared_bag.specs.Layout.{slots_in}
use Rattle.shared_bag.specs.Closed.{stored}
use Rattle.shared_bag.proofs.Pours.{segments_before}
use Rattle.shared_bag.proofs.closing.read_segments.Given as goal

abbrev pub invariant-loop-slot : goal.invariant-loop-slot
invariant-loop-slot l = record {
  full : (k : ℕ) → l.slot ≤ k → k < slots_in l.segments → get_or (slots_filled l.closed.slots) k false ≡ true;
  gone : (k : ℕ) → k < l.slot → get_or (slots_filled l.closed.slots) k false ≡ false;
  long : slots_len l.closed.slots ≡ slots_in l.segments;
  same : slots_items l.closed.slots ≡ slots_items l.fn.closed.slots;
  so_far : IsPermutation (items_of (stored (slots_items l.fn.closed.slots)) (segments_before l.slot)) l.items.items;
  count : vec_len l.items ≡ length (items_of (stored (slots_items l.fn.closed.slots)) (segments_before l.slot));
  room : vec_capacity l.items ≡ vec_capacity l.fn.items;
}
