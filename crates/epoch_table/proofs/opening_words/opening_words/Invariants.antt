use Rattle.std.proofs.Common.{◌≡◌, ◌≤◌, length, vec_len, vec_capacity}
use Rattle.pass_table.specs.Openings.{AreInOrder}
use Rattle.epoch_table.specs.Layout.{opening_number, site_at, table_words}
use Rattle.epoch_table.proofs.opening_words.opening_words.Given as goal

abbrev pub invariant-loop-at : goal.invariant-loop-at
invariant-loop-at l = record {
  filled : vec_len l.words ≡ l.at;
  count : length l.words.items ≡ l.at;
  room : table_words l.shape l.own ≤ vec_capacity l.words;
  each : AreInOrder (λ at word. word ≡ opening_number l.shape l.start (site_at l.shape at)) l.words.items;
}
