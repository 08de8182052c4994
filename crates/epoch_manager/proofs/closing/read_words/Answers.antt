use Rattle.std.proofs.Common.{◌≡◌, ℕ, ap, arith, length, slice_index}
use Rattle.std.specs.Slots.{slots_items}
use Rattle.pass_table.proofs.Lists.{in_order_more, count_after}
use Rattle.epoch_table.specs.Layout.{OfClient, place}
use Rattle.epoch_table.proofs.Openings.{in_order_none}
use Rattle.epoch_manager.proofs.closing.read_words.Goals as goal

pub loop-word-preserved : goal.loop-word-preserved
loop-word-preserved c =
    let l = c.loop-word.invariant in
    let push = c.push_reserved.ensures in
    let P : ℕ → ℕ → Type 0 = λ k word. word ≡ slice_index (slots_items c.args.closed.now.words) (place c.args.shape.now (OfClient k)) in
    record {
      filled = omega (arith, push.len, l.filled);
      count = count_after _ _ _ _ push.items l.count;
      room = omega (arith, push.capacity, l.room);
      each = in_order_more P _ _ _ _ push.items l.count l.each c.client_word.ensures;
    }

pub loop-word-init : goal.loop-word-init
loop-word-init c =
    let P : ℕ → ℕ → Type 0 = λ k word. word ≡ slice_index (slots_items c.args.closed.now.words) (place c.args.shape.now (OfClient k)) in
    record {
      filled = c.requires.room.1;
      count = ap length c.requires.room.0;
      room = c.requires.room.2;
      each = in_order_none P _ c.requires.room.0;
    }
