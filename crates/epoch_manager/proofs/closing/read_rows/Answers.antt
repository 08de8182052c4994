use Rattle.std.proofs.Common.{◌≡◌, ◌/◌, ◌%◌, ℕ, ap, arith, length, slice_index}
use Rattle.std.specs.Slots.{slots_items}
use Rattle.pass_table.proofs.Lists.{in_order_more, count_after}
use Rattle.epoch_table.specs.Layout.{InRow, object_at, place}
use Rattle.epoch_table.proofs.Openings.{in_order_none}
use Rattle.epoch_manager.proofs.closing.read_rows.Goals as goal

pub loop-number-preserved : goal.loop-number-preserved
loop-number-preserved c =
    let l = c.loop-number.invariant in
    let push = c.push_reserved.ensures in
    let s = c.args.shape.now in
    let P : ℕ → ℕ → Type 0 = λ k word. word ≡ slice_index (slots_items c.args.closed.now.words) (place s (InRow (object_at s (k / s.width)) (k % s.width))) in
    record {
      filled = omega (arith, push.len, l.filled);
      count = count_after _ _ _ _ push.items l.count;
      room = omega (arith, push.capacity, l.room);
      each = in_order_more P _ _ _ _ push.items l.count l.each c.nth_word.ensures;
    }

pub loop-number-init : goal.loop-number-init
loop-number-init c =
    let s = c.args.shape.now in
    let P : ℕ → ℕ → Type 0 = λ k word. word ≡ slice_index (slots_items c.args.closed.now.words) (place s (InRow (object_at s (k / s.width)) (k % s.width))) in
    record {
      filled = c.requires.room.1;
      count = ap length c.requires.room.0;
      room = c.requires.room.2;
      each = in_order_none P _ c.requires.room.0;
    }
