use Rattle.std.proofs.Common.{ap, ap₂, ◌∙◌, subst, arith, length, slice_index, vec_capacity, ◌≡◌, ◌≤◌, ◌+◌, ◌%◌}
use Rattle.std.specs.Slots.{slots_items}
use Rattle.shared_deque.specs.Layout.{value_place, head_in, size_in}
use Rattle.pass_table.proofs.Lists.{count_after}
use Rattle.shared_deque.proofs.RingReads.{read_at, read_more}
use Rattle.shared_deque.proofs.closing.read_ring.Goals as goal

pub loop-place-preserved : goal.loop-place-preserved
loop-place-preserved c =
    let l = c.loop-place.invariant in
    let push = c.push_reserved.ensures in
    let place = c.loop-place.place in
    let cell : (c.head_at.result + place) % c.from-cells.result ≡ (head_in c.word-ends.result + place) % c.args.capacity = ap₂ (λ a b. (a + place) % b) c.head_at.ensures (omega arith) in
    record {
      filled = omega (arith, push.len, l.filled);
      count = count_after _ _ _ _ push.items l.count;
      room = omega (arith, push.capacity, l.room);
      each = read_more _ _ (head_in c.word-ends.result) c.loop-place.place _ _ _ _ push.items l.count c.word.ensures (c.value_at.ensures ∙ ap value_place cell) l.each;
    }

pub loop-place-init : goal.loop-place-init
loop-place-init c =
    let first : slice_index (slots_items c.args.closed.now.words) 0 ≡ c.word-ends.result = read_at _ 0 _ c.word-ends.ensures in record {
      filled = c.requires.room.1;
      count = ap length c.requires.room.0;
      room = subst (λ w. size_in w ≤ vec_capacity c.args.items) first c.requires.room.2;
      each = λ j below. absurd (omega (arith, ap length c.requires.room.0));
    }
