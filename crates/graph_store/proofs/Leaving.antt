-- The pairs that leave the vertices of a band.
use Rattle.std.proofs.Common.{◌≡◌, ℕ, zero, suc, ◌<◌, ◌≤◌, ◌^◌, ◌↔◌, ◌&&◌, Bool, true, false, cond, not, nat_lt, List, [], ◌∷◌, get_or, ap, sym, subst, refl, ◌∙◌, arith}
use Rattle.std.specs.Prelude.{All, Contains}
use Rattle.std.specs.List.{filter}
use Rattle.std.specs.List.Sorted.{IsPermutation}
use Rattle.std.proofs.lemmas.Bool.{le-ltb, lt-ltb, ltb-false}
use Rattle.std.proofs.lemmas.List.Elements.{All-nil, All-cons, All-head, All-tail, All-append, All-filter, filter_passes}
use Rattle.std.proofs.lemmas.List.Sorted.{All-permutation, Contains-permutation, IsPermutation-sym}
use Rattle.edge_text.specs.declared.edges.Edge.{Edge}
use Rattle.edge_text.specs.Edges.{HasEdge, HasIds, HaveIds}
use Rattle.graph_store.specs.declared.pairs.Pair.{Pair}
use Rattle.graph_store.specs.Pairs.{AreFrom, HasPair, edge_pairs, leaves_between, pairs_of}
use Rattle.graph_store.specs.Rows.{AreRowsAlong}
use Rattle.graph_store.proofs.PairLemmas.{HasEdge-pair, HasPair-edge}

-- ---- what a filter keeps

contains_behind : (y : Pair) (ys : List Pair) (x : Pair) → Contains ys x → Contains (y ∷ ys) x
contains_behind y ys x h = (suc h.0, omega (arith, h.1), h.2)

kept : (p : Pair → Bool) (xs : List Pair) (x : Pair) → Contains xs x → p x ≡ true → Contains (filter p xs) x
kept p [] x h passes = absurd (omega (arith, h.1))
kept p (y ∷ ys) x (zero, within, is) passes = subst (λ (b : Bool). Contains (cond b (y ∷ filter p ys) (filter p ys)) x) (sym (ap p is ∙ passes)) (0, omega arith, is)
kept p (y ∷ ys) x (suc place, within, is) passes = either (p y) (kept p ys x (place, omega arith, is) passes)
  where
    either : (b : Bool) → Contains (filter p ys) x → Contains (cond b (y ∷ filter p ys) (filter p ys)) x
    either true rest = contains_behind y (filter p ys) x rest
    either false rest = rest

head_or_rest : (y : Pair) (ys zs : List Pair) (x : Pair) → (Contains ys x → Contains zs x) → Contains (y ∷ ys) x → Contains (y ∷ zs) x
head_or_rest y ys zs x rest (zero, within, is) = (0, omega arith, is)
head_or_rest y ys zs x rest (suc place, within, is) = contains_behind y zs x (rest (place, omega arith, is))

was_there : (p : Pair → Bool) (xs : List Pair) (x : Pair) → Contains (filter p xs) x → Contains xs x
was_there p [] x h = h
was_there p (y ∷ ys) x h = either (p y) (was_there p ys x) h
  where
    either : (b : Bool) → (Contains (filter p ys) x → Contains ys x) → Contains (cond b (y ∷ filter p ys) (filter p ys)) x → Contains (y ∷ ys) x
    either true rest there = head_or_rest y (filter p ys) ys x rest there
    either false rest there = contains_behind y ys x (rest there)

-- ---- pairs that leave vertices of a band

leaves : (first end : ℕ) (pair : Pair) → first ≤ pair.from → pair.from < end → leaves_between first end pair ≡ true
leaves first end pair low high = rw (le-ltb pair.from first low, lt-ltb pair.from end high) refl

begins : (first end : ℕ) (pair : Pair) → leaves_between first end pair ≡ true → first ≤ pair.from
begins first end pair is = either (nat_lt pair.from first) refl is
  where
    either : (b : Bool) → nat_lt pair.from first ≡ b → (not b && nat_lt pair.from end) ≡ true → first ≤ pair.from
    either true lower h = cc
    either false lower h = ltb-false pair.from first lower

edge_small : (both : Bool) (edge : Edge) → HasIds edge → All (λ (pair : Pair). pair.to < 2 ^ 32) (edge_pairs both edge)
edge_small true edge ids =
    let IsSmall = λ (pair : Pair). pair.to < 2 ^ 32 in
    let there : Pair = record { from = edge.from; to = edge.to } in
    let back : Pair = record { from = edge.to; to = edge.from } in
    All-cons IsSmall there (back ∷ []) (omega (arith, ids.1)) (All-cons IsSmall back [] (omega (arith, ids.0)) (All-nil IsSmall))
edge_small false edge ids =
    let IsSmall = λ (pair : Pair). pair.to < 2 ^ 32 in
    let there : Pair = record { from = edge.from; to = edge.to } in
    All-cons IsSmall there [] (omega (arith, ids.1)) (All-nil IsSmall)

small : (both : Bool) (edges : List Edge) → HaveIds edges → All (λ (pair : Pair). pair.to < 2 ^ 32) (pairs_of both edges)
small both [] ids = All-nil (λ (pair : Pair). pair.to < 2 ^ 32)
small both (edge ∷ edges) ids = All-append (λ (pair : Pair). pair.to < 2 ^ 32) (edge_pairs both edge) (pairs_of both edges) (edge_small both edge (All-head HasIds edge edges ids)) (small both edges (All-tail HasIds edge edges ids))

-- The pairs of a band, in any order.
module _ (both : Bool) (edges : List Edge) (first end : ℕ) (pairs : List Pair) (permuted : IsPermutation (filter (leaves_between first end) (pairs_of both edges)) pairs) where
  pub AreFrom-band : HaveIds edges → AreFrom first pairs
  AreFrom-band ids =
      let test = leaves_between first end in
      let all = pairs_of both edges in
      All-permutation (λ (pair : Pair). (first ≤ pair.from) × (pair.to < 2 ^ 32)) (filter test all) pairs permuted
      (λ k d within. (begins first end (get_or (filter test all) k d) (filter_passes test all k d within), All-filter test (λ (pair : Pair). pair.to < 2 ^ 32) all (small both edges ids) k d within))

  -- they are the edges that leave those vertices
  pub HasPair-band : (from to : ℕ) → first ≤ from → from < end → HasPair pairs from to ↔ HasEdge (record { edges = edges; both = both }) from to
  HasPair-band from to low high =
      let test = leaves_between first end in
      let all = pairs_of both edges in
      let pair : Pair = record { from = from; to = to } in (
        (λ h. HasEdge-pair both edges from to (was_there test all pair (Contains-permutation pairs (filter test all) pair (IsPermutation-sym (filter test all) pairs permuted) h))),
        (λ h. Contains-permutation (filter test all) pairs pair permuted (kept test all pair (HasPair-edge both edges from to h) (leaves first end pair low high))),
      )

-- rows along one relation are rows along another that is the same there
pub AreRowsAlong-same : {Leads Also : ℕ → ℕ → Type 0} {first end : ℕ} (rows : List (List ℕ)) → ((vertex to : ℕ) → first ≤ vertex → vertex < end → Leads vertex to ↔ Also vertex to) → AreRowsAlong Leads first end rows → AreRowsAlong Also first end rows
AreRowsAlong-same rows same are = record {
  count = are.count;
  rising = are.rising;
  targets = λ vertex to low high.
      let here = are.targets vertex to low high in
      let there = same vertex to low high in
      ((λ h. there.0 (here.0 h)), (λ h. here.1 (there.1 h)));
}
