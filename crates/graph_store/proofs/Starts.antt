-- Where the rows of sorted pairs begin.
use Rattle.std.proofs.Common.{◌≡◌, ℕ, ◌+◌, ◌-◌, ◌^◌, ◌<◌, ◌≤◌, ◌↔◌, List, length, get_or, take, drop, ap, sym, ◌∙◌, inl, inr, arith}
use Rattle.std.specs.Prelude.{All, Contains}
use Rattle.std.specs.List.{AllWithin}
use Rattle.std.specs.List.Sorted.{IsNonDecreasingBy}
use Rattle.std.proofs.lemmas.Bool.{cases_lt}
use Rattle.std.proofs.lemmas.List.{get_or-take, get_or-drop, length-take-le, length-drop, get_or_default}
use Rattle.graph_store.specs.declared.pairs.Pair.{Pair}
use Rattle.graph_store.specs.Pairs.{rank}
use Rattle.graph_store.specs.Rows.{BeginsRow}

-- pairs in their order leave vertices that rise
pub by_from : (pairs : List Pair) → IsNonDecreasingBy rank pairs → All (λ (pair : Pair). pair.to < 2 ^ 32) pairs → IsNonDecreasingBy (λ (pair : Pair). pair.from) pairs
by_from pairs sorted small = λ i j d before within. omega (arith, sorted i j d before within, small i d (omega arith), small j d within)

-- the next row begins at the first pair that leaves a higher vertex
pub BeginsRow-next : (pairs : List Pair) (vertex end : ℕ) (pair : Pair) → IsNonDecreasingBy (λ (pair : Pair). pair.from) pairs → end < length pairs → AllWithin (λ pair. pair.from < vertex + 1) pairs 0 end → vertex < (get_or pairs end pair).from → BeginsRow pairs (vertex + 1) end
BeginsRow-next pairs vertex end pair sorted within passed beyond = record {
  within = omega arith;
  lower = passed;
  rest = λ place d after before.
      let from = ap (λ (e : Pair). e.from) (get_or_default pairs end d pair within) in
      omega (arith, sorted end place d after before, from);
}

-- no row begins before the one below it
pub BeginsRow-le : (pairs : List Pair) (vertex begin end : ℕ) → BeginsRow pairs vertex begin → BeginsRow pairs (vertex + 1) end → begin ≤ end
BeginsRow-le pairs vertex begin end at next =
    let none : Pair = record { from = 0; to = 0 } in
    elim (cases_lt end begin) [
      | inl before ↦ absurd (omega (arith, at.lower end none (omega arith) before, next.rest end none (omega arith) (omega (arith, at.within))))
      | inr after ↦ after
    ]

-- A row lies between two places.
module _ (pairs : List Pair) (vertex begin end : ℕ) (at : BeginsRow pairs vertex begin) (next : BeginsRow pairs (vertex + 1) end) where
  row : List Pair
  row = take (end - begin) (drop begin pairs)

  length-row : length row ≡ end - begin
  unfolding row
  length-row = length-take-le (end - begin) (drop begin pairs) (omega (arith, length-drop begin pairs, next.within))

  get_or-row : (place : ℕ) (d : Pair) → place < end - begin → get_or row place d ≡ get_or pairs (begin + place) d
  unfolding row
  get_or-row place d within = get_or-take (end - begin) (drop begin pairs) place d within ∙ get_or-drop begin pairs place d

  -- it has the pairs that leave the vertex, and no others
  pub Contains-row : (pair : Pair) → Contains (take (end - begin) (drop begin pairs)) pair ↔ (Contains pairs pair × (pair.from ≡ vertex))
  unfolding row
  Contains-row pair = (
    (λ h.
        let within : h.0 < end - begin = omega (arith, length-row, h.1) in
        let there : get_or pairs (begin + h.0) pair ≡ pair = sym (get_or-row h.0 pair within) ∙ h.2 in
        let from = ap (λ (e : Pair). e.from) there in
        let low = at.rest (begin + h.0) pair (omega arith) (omega (arith, next.within)) in
        let high = next.lower (begin + h.0) pair (omega arith) (omega arith) in
        ((begin + h.0, omega (arith, next.within), there), omega (arith, from, low, high))),
    (λ h.
        let place = h.0.0 in
        let there : get_or pairs place pair ≡ pair = h.0.2 in
        let from = ap (λ (e : Pair). e.from) there in
        let after : begin ≤ place = elim (cases_lt place begin) [
          | inl before ↦ absurd (omega (arith, from, h.1, at.lower place pair (omega arith) before))
          | inr after ↦ after
        ] in
        let before : place < end = elim (cases_lt place end) [
          | inl before ↦ before
          | inr after ↦ absurd (omega (arith, from, h.1, next.rest place pair after h.0.1))
        ] in
        let back : begin + (place - begin) ≡ place = omega arith in
        let same : get_or pairs (begin + (place - begin)) pair ≡ get_or pairs place pair = ap (λ (n : ℕ). get_or pairs n pair) back in
        (place - begin, omega (arith, length-row), get_or-row (place - begin) pair (omega arith) ∙ same ∙ there)),
  )

  -- in order of their targets
  pub rising-row : IsNonDecreasingBy rank pairs → IsNonDecreasingBy (λ (pair : Pair). pair.to) (take (end - begin) (drop begin pairs))
  unfolding row
  rising-row sorted = λ i j d before within.
      let last : j < end - begin = omega (arith, length-row, within) in
      let first : i < end - begin = omega arith in
      let ranked = sorted (begin + i) (begin + j) d (omega arith) (omega (arith, next.within)) in
      let low = at.rest (begin + i) d (omega arith) (omega (arith, next.within)) in
      let high = next.lower (begin + j) d (omega arith) (omega arith) in
      let low_j = at.rest (begin + j) d (omega arith) (omega (arith, next.within)) in
      let high_i = next.lower (begin + i) d (omega arith) (omega arith) in
      let at_i = ap (λ (e : Pair). e.to) (get_or-row i d first) in
      let at_j = ap (λ (e : Pair). e.to) (get_or-row j d last) in
      omega (arith, ranked, low, high, low_j, high_i, at_i, at_j)
