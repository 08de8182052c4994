-- A write of one word leaves the others: the ends, the owners and the values do not lie on one another.
use Rattle.std.proofs.Common.{◌≡◌, ◌≢◌, ℕ, ◌<◌, List, length, set, arith, slice_index}
use Rattle.std.proofs.lemmas.List.{get_or-set_same, get_or-set_other}
use Rattle.shared_deque.specs.Layout.{owner_in, value_in, owner_place, value_place}

module _ (words : List ℕ) (word : ℕ) where
  pub owner_in-set_ends : (k : ℕ) → owner_in (set words 0 word) k ≡ owner_in words k
  owner_in-set_ends k = get_or-set_other words 0 (owner_place k) word 0 (λ same. omega arith)

  pub value_in-set_ends : (k : ℕ) → value_in (set words 0 word) k ≡ value_in words k
  value_in-set_ends k = get_or-set_other words 0 (value_place k) word 0 (λ same. omega arith)

  pub ends-set : 0 < length words → slice_index (set words 0 word) 0 ≡ word
  ends-set some = get_or-set_same words 0 word 0 some

  module _ (cell : ℕ) where
    pub ends-set_owner : slice_index (set words (owner_place cell) word) 0 ≡ slice_index words 0
    ends-set_owner = get_or-set_other words (owner_place cell) 0 word 0 (λ same. omega arith)

    pub owner_in-set_owner : owner_place cell < length words → owner_in (set words (owner_place cell) word) cell ≡ word
    owner_in-set_owner within = get_or-set_same words (owner_place cell) word 0 within

    pub owner_in-set_other : (k : ℕ) → k ≢ cell → owner_in (set words (owner_place cell) word) k ≡ owner_in words k
    owner_in-set_other k away = get_or-set_other words (owner_place cell) (owner_place k) word 0 (λ same. away (omega arith))

    pub value_in-set_owner : (k : ℕ) → value_in (set words (owner_place cell) word) k ≡ value_in words k
    value_in-set_owner k = get_or-set_other words (owner_place cell) (value_place k) word 0 (λ same. omega arith)

    pub ends-set_value : slice_index (set words (value_place cell) word) 0 ≡ slice_index words 0
    ends-set_value = get_or-set_other words (value_place cell) 0 word 0 (λ same. omega arith)

    pub value_in-set_value : value_place cell < length words → value_in (set words (value_place cell) word) cell ≡ word
    value_in-set_value within = get_or-set_same words (value_place cell) word 0 within

    pub value_in-set_other : (k : ℕ) → k ≢ cell → value_in (set words (value_place cell) word) k ≡ value_in words k
    value_in-set_other k away = get_or-set_other words (value_place cell) (value_place k) word 0 (λ same. away (omega arith))

    pub owner_in-set_value : (k : ℕ) → owner_in (set words (value_place cell) word) k ≡ owner_in words k
    owner_in-set_value k = get_or-set_other words (value_place cell) (owner_place k) word 0 (λ same. omega arith)
