-- The rows of vertices, one after another.
use Rattle.std.proofs.Common.{◌≡◌, ℕ, ◌+◌, ◌-◌, ◌<◌, ◌≤◌, ◌==◌, ◌↔◌, List, [], ◌∷◌, ◌++◌, length, map, get_or, Bool, true, false, cond, take, drop, ap, sym, subst, refl, ◌∙◌, inl, inr, arith, length-append}
use Rattle.std.specs.Prelude.{Contains}
use Rattle.std.specs.List.Sorted.{IsNonDecreasingBy, IsSorted, IsStrictlyIncreasing}
use Rattle.std.specs.Ordering.{nat_cmp, is_lt}
use Rattle.std.specs.declared.cmp.Ordering.TheVariants.{Equal, Greater}
use Rattle.std.proofs.lemmas.Bool.{cases_lt, le-ltb}
use Rattle.std.proofs.lemmas.List.{get_or-map, length-map, get_or_append_left, get_or_push, get_or_default}
use Rattle.std.proofs.lemmas.List.Elements.{All-push}
use Rattle.std.proofs.lemmas.List.Kept.{Contains-dedup_nat, Contains-from_dedup}
use Rattle.std.proofs.lemmas.Map.Keys.{IsStrictlyIncreasing-dedup}
use Rattle.graph_store.specs.declared.pairs.Pair.{Pair}
use Rattle.graph_store.specs.Pairs.{HasPair, rank}
use Rattle.graph_store.specs.Rows.{AreRowsAlong, BeginsRow, distinct_targets, row_of}
use Rattle.graph_store.proofs.Starts.{Contains-row, rising-row}

not_above : (x y : ℕ) → x ≤ y → is_lt (nat_cmp y x) ≡ false
not_above x y ordered = rw (le-ltb y x ordered) (other (y == x))
  where
    other : (b : Bool) → is_lt (cond b Equal Greater) ≡ false
    other true = refl
    other false = refl

targets : List Pair → List ℕ
targets row = map (λ (pair : Pair). pair.to) row

sorted_targets : (row : List Pair) → IsNonDecreasingBy (λ (pair : Pair). pair.to) row → IsSorted nat_cmp (targets row)
unfolding targets
sorted_targets row rising = λ k d low within.
    let none : Pair = record { from = 0; to = 0 } in
    let to = λ (pair : Pair). pair.to in
    let many = length-map row to in
    let before = get_or-map to row k none d (omega arith) in
    let behind = get_or-map to row (k + 1) none d (omega arith) in
    not_above (get_or (map to row) k d) (get_or (map to row) (k + 1) d) (omega (arith, before, behind, rising k (k + 1) none (omega arith) (omega arith)))

-- what a pair leads to is a target
target_there : (row : List Pair) (pair : Pair) → Contains row pair → Contains (targets row) pair.to
unfolding targets
target_there row pair (place, within, is) =
    let to = λ (p : Pair). p.to in
    (place, omega (arith, within, length-map row to), get_or-map to row place pair pair.to within ∙ ap to is)

-- a target is what a pair leads to
target_back : (row : List Pair) (to : ℕ) → Contains (targets row) to → (pair : Pair) × Contains row pair × (pair.to ≡ to)
unfolding targets
target_back row to (place, within, is) =
    let none : Pair = record { from = 0; to = 0 } in
    let pair = get_or row place none in
    let inside : place < length row = omega (arith, within, length-map row (λ (p : Pair). p.to)) in
    (pair, (place, inside, get_or_default row place pair none inside), sym (get_or-map (λ (p : Pair). p.to) row place none to inside) ∙ is)

-- The row of a vertex: the distinct targets of the pairs that leave it.
module _ (pairs : List Pair) (vertex begin end : ℕ) (at : BeginsRow pairs vertex begin) (next : BeginsRow pairs (vertex + 1) end) where
  pub row_rises : IsNonDecreasingBy rank pairs → IsStrictlyIncreasing (distinct_targets (take (end - begin) (drop begin pairs)))
  unfolding targets
  row_rises sorted = IsStrictlyIncreasing-dedup _ (sorted_targets _ (rising-row pairs vertex begin end at next sorted))

  pub row_targets : (to : ℕ) → Contains (distinct_targets (take (end - begin) (drop begin pairs))) to ↔ HasPair pairs vertex to
  unfolding targets
  row_targets to =
      let row = take (end - begin) (drop begin pairs) in (
        (λ h.
            let there = target_back row to (Contains-from_dedup ◌==◌ (targets row) to h) in
            let pair = there.0 in
            let has = (Contains-row pairs vertex begin end at next pair).0 there.1 in
            subst (λ (v : ℕ). HasPair pairs v to) has.1 (subst (HasPair pairs pair.from) there.2 has.0)),
        (λ h.
            let pair : Pair = record { from = vertex; to = to } in
            Contains-dedup_nat (targets row) to (target_there row pair ((Contains-row pairs vertex begin end at next pair).1 (h, refl)))),
      )

-- one vertex more
pub AreRowsAlong-push : {Leads : ℕ → ℕ → Type 0} {first end : ℕ} (rows : List (List ℕ)) (row : List ℕ) → AreRowsAlong Leads first end rows → IsStrictlyIncreasing row → ((to : ℕ) → Contains row to ↔ Leads end to) → AreRowsAlong Leads first (end + 1) (rows ++ row ∷ [])
AreRowsAlong-push {Leads} {first} {end} rows row are rises leads = record {
  count = omega (arith, are.count, length-append rows (row ∷ []));
  rising = All-push IsStrictlyIncreasing rows row are.rising rises;
  targets = λ vertex to low high. elim (cases_lt vertex end) [
    | inl before ↦ subst (λ (l : List ℕ). Contains l to ↔ Leads vertex to) (sym (get_or_append_left rows (row ∷ []) [] (vertex - first) (omega (arith, are.count)))) (are.targets vertex to low before)
    | inr last ↦
        let is : end ≡ vertex = omega arith in
        let read : row_of (rows ++ row ∷ []) (vertex - first) ≡ row = get_or_push rows row [] (vertex - first) (omega (arith, are.count)) in
        subst (λ (l : List ℕ). Contains l to ↔ Leads vertex to) (sym read) (subst (λ (v : ℕ). Contains row to ↔ Leads v to) is (leads to))
  ];
}
