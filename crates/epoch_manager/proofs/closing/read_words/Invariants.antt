use Rattle.std.proofs.Common.{◌≡◌, ◌≤◌, length, slice_index, vec_len, vec_capacity}
use Rattle.std.specs.Slots.{slots_items}
use Rattle.pass_table.specs.Openings.{AreInOrder}
use Rattle.epoch_table.specs.Layout.{OfClient, place}
use Rattle.epoch_manager.proofs.closing.read_words.Given as goal

abbrev pub invariant-loop-word : goal.invariant-loop-word
invariant-loop-word l = record {
  filled : vec_len l.words ≡ l.word;
  count : length l.words.items ≡ l.word;
  room : l.own ≤ vec_capacity l.words;
  each : AreInOrder (λ k word. word ≡ slice_index (slots_items l.closed.words) (place l.shape (OfClient k))) l.words.items;
}
