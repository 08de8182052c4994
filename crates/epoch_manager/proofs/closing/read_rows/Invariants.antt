use Rattle.std.proofs.Common.{◌≡◌, ◌≤◌, ◌/◌, ◌%◌, length, slice_index, vec_len, vec_capacity}
use Rattle.std.specs.Slots.{slots_items}
use Rattle.pass_table.specs.Openings.{AreInOrder}
use Rattle.epoch_table.specs.Layout.{InRow, object_at, place}
use Rattle.epoch_manager.specs.Closed.{row_words}
use Rattle.epoch_manager.proofs.closing.read_rows.Given as goal

abbrev pub invariant-loop-number : goal.invariant-loop-number
invariant-loop-number l = record {
  filled : vec_len l.rows ≡ l.number;
  count : length l.rows.items ≡ l.number;
  room : row_words l.shape ≤ vec_capacity l.rows;
  each : AreInOrder (λ k word. word ≡ slice_index (slots_items l.closed.words) (place l.shape (InRow (object_at l.shape (k / l.shape.width)) (k % l.shape.width)))) l.rows.items;
}
