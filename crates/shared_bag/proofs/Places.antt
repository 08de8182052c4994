-- A write of one word leaves the others: the count and the turns do not lie on one another.
use Rattle.std.proofs.Common.{◌≡◌, ◌≢◌, ℕ, ◌<◌, List, length, set, arith, slice_index}
use Rattle.std.proofs.lemmas.List.{get_or-set_same, get_or-set_other}
use Rattle.shared_bag.specs.Layout.{turn_in, turn_place}

module _ (words : List ℕ) (word : ℕ) where
  pub turn_in-set_count : (k : ℕ) → turn_in (set words 0 word) k ≡ turn_in words k
  turn_in-set_count k = get_or-set_other words 0 (turn_place k) word 0 (λ same. omega arith)

  pub count-set : 0 < length words → slice_index (set words 0 word) 0 ≡ word
  count-set some = get_or-set_same words 0 word 0 some

  module _ (segment : ℕ) where
    pub count-set_turn : slice_index (set words (turn_place segment) word) 0 ≡ slice_index words 0
    count-set_turn = get_or-set_other words (turn_place segment) 0 word 0 (λ same. omega arith)

    pub turn_in-set_turn : turn_place segment < length words → turn_in (set words (turn_place segment) word) segment ≡ word
    turn_in-set_turn within = get_or-set_same words (turn_place segment) word 0 within

    pub turn_in-set_other : (k : ℕ) → k ≢ segment → turn_in (set words (turn_place segment) word) k ≡ turn_in words k
    turn_in-set_other k away = get_or-set_other words (turn_place segment) (turn_place k) word 0 (λ same. away (omega arith))
