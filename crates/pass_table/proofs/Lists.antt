-- Functions and lists with one place changed.
use Rattle.std.proofs.Common.{◌≡◌, ◌≢◌, ℕ, zero, suc, ◌<◌, List, [], ◌∷◌, ◌++◌, length, cond, ap, refl, sym, ◌∙◌, subst, ◌+◌, map, slice_get, get_or, eqb, Bool, true, false, Some, length-append, take, ◌-◌, eq-eqb, ne_eqb, ◌⊎◌, inl, inr, ⊎_elim, arith}
use Rattle.std.specs.List.{All, AllPairs, Contains, list_any}
use Rattle.std.proofs.Math.Seq.{get_or-append_seam}
use Rattle.std.proofs.lemmas.Bool.{eqb-true}
use Rattle.std.proofs.lemmas.Bool.Decides.{Decides-eqb}
use Rattle.std.proofs.lemmas.List.Folds.{list_any_at}
use Rattle.std.proofs.lemmas.Map.Made.{IsDistinct-from_AllPairs}
use Rattle.std.proofs.lemmas.Map.Steps.{length-le_from_distinct_below}
use Rattle.std.proofs.lemmas.Map.Views.{Contains-from_any}
use Rattle.std.proofs.lemmas.Option.{get_or_from_slice_get, slice_get_within}
use mathlib.Core.Option.{some, some-ne-none, some-injective}
use lib.ListN.{get_elem?}
use Rattle.pass_table.specs.Terms.{put}
use Rattle.pass_table.specs.Openings.{AreInOrder}

module _ {A : Type 0} where
  pub put_here : (parts : ℕ → A) (caller : ℕ) (part : A) (other : ℕ) → other ≡ caller → put parts caller part other ≡ part
  put_here parts caller part other is = ap (λ b. cond b part (parts other)) (eq-eqb other caller is)

  pub put_else : (parts : ℕ → A) (caller : ℕ) (part : A) (other : ℕ) → other ≢ caller → put parts caller part other ≡ parts other
  put_else parts caller part other isnt = ap (λ b. cond b part (parts other)) (ne_eqb other caller isnt)

  -- what stands behind a list, at its end or before
  pub at_end : (l : List A) (a b : A) (j : ℕ) → get_elem? (l ++ a ∷ []) j ≡ some b → (get_elem? l j ≡ some b) ⊎ ((j ≡ length l) × (a ≡ b))
  at_end [] a b zero e = inr (refl, some-injective a b e)
  at_end [] a b (suc j) e = absurd (some-ne-none b (sym e))
  at_end (x ∷ xs) a b zero e = inl e
  at_end (x ∷ xs) a b (suc j) e = ⊎_elim inl (λ t. inr (ap suc t.0, t.1)) (at_end xs a b j e)

  pub all_cons : (P : A → Type 0) (a : A) (l : List A) → P a → All P l → All P (a ∷ l)
  all_cons P a l p all zero d below = p
  all_cons P a l p all (suc k) d below = all k d (omega arith)

  -- what holds between one and each of a list, and within the list, holds within both
  pub pairs_cons : (R : A → A → Type 0) (a : A) (l : List A) → All (λ x. R a x) l → AllPairs R l → AllPairs R (a ∷ l)
  pairs_cons R a l all pairs zero zero d less within = absurd (omega (arith, less))
  pairs_cons R a l all pairs zero (suc j) d less within = all j d (omega arith)
  pairs_cons R a l all pairs (suc i) zero d less within = absurd (omega (arith, less))
  pairs_cons R a l all pairs (suc i) (suc j) d less within = pairs i j d (omega arith) (omega arith)

  pub pairs_one : (R : A → A → Type 0) (a : A) → AllPairs R (a ∷ [])
  pairs_one R a i zero d less within = absurd (omega (arith, less))
  pairs_one R a i (suc j) d less within = absurd (omega (arith, within))

  pub all_one : (P : A → Type 0) (a : A) → P a → All P (a ∷ [])
  all_one P a p zero d below = p
  all_one P a p (suc k) d below = absurd (omega arith)

  got_snoc : (l : List A) (a b : A) (j : ℕ) → slice_get (l ++ a ∷ []) j ≡ Some b → (slice_get l j ≡ Some b) ⊎ ((j ≡ length l) × (a ≡ b))
  got_snoc [] a b zero e = inr (refl, cc e)
  got_snoc [] a b (suc j) e = absurd (cc e)
  got_snoc (x ∷ xs) a b zero e = inl e
  got_snoc (x ∷ xs) a b (suc j) e = ⊎_elim inl (λ t. inr (ap suc t.0, t.1)) (got_snoc xs a b j e)

  -- one more in order
  pub in_order_more : (P : ℕ → A → Type 0) (old new : List A) (a : A) (n : ℕ) → new ≡ old ++ a ∷ [] → length old ≡ n → AreInOrder P old → P n a → AreInOrder P new
  in_order_more P old new a n is count each one =
      subst (AreInOrder P) (sym is)
      (λ k b at. ⊎_elim (each k b) (λ t. subst (λ j. P j b) (sym (t.0 ∙ count)) (subst (P n) t.1 one)) (got_snoc old a b k at))

  there : (xs : List A) (k : ℕ) → k < length xs → (a : A) × (slice_get xs k ≡ Some a)
  there [] k below = absurd (omega arith)
  there (x ∷ xs) zero below = (x, refl)
  there (x ∷ xs) (suc k) below = there xs k (omega arith)

  -- a list after a push
  pub count_after : (old new : List A) (a : A) (n : ℕ) → new ≡ old ++ a ∷ [] → length old ≡ n → length new ≡ n + 1
  count_after old new a n is count = ap length is ∙ omega (arith, length-append old (a ∷ []))

  -- what holds in order of each place holds of all
  pub all_in_order : (P : ℕ → A → Type 0) (Q : A → Type 0) (xs : List A) → ((k : ℕ) (a : A) → P k a → Q a) → AreInOrder P xs → All Q xs
  all_in_order P Q xs gives each k d within =
      let here = there xs k within in
      subst Q (sym (get_or_from_slice_get xs k here.0 d here.1)) (gives k here.0 (each k here.0 here.1))

  -- what holds of each element holds of one in the middle
  pub all_mid : (P : A → Type 0) (xs : List A) (a : A) (ys : List A) → All P (xs ++ a ∷ ys) → P a
  all_mid P xs a ys all = subst P (get_or-append_seam xs a ys a) (all (length xs) a (omega (arith, length-append xs (a ∷ ys))))

  -- what holds of each holds of one that stands at a place
  pub all_at : (P : A → Type 0) (l : List A) (k : ℕ) (a : A) → All P l → slice_get l k ≡ Some a → P a
  all_at P l k a all at = subst P (get_or_from_slice_get l k a a at) (all k a (slice_get_within l k a at))

  -- one of the list has this number, and what holds of each holds of it
  pub contained : (f : A → ℕ) (P : A → Type 0) (xs : List A) (c : ℕ) → All P xs → Contains (map f xs) c → (a : A) × P a × (f a ≡ c)
  contained f P [] c all has = absurd (omega (arith, has.1))
  contained f P (x ∷ xs) c all (zero, below, is) = (x, all zero x (omega arith), is)
  contained f P (x ∷ xs) c all (suc k, below, is) = contained f P xs c (λ j d within. all (suc j) d (omega arith)) (k, omega arith, is)

  -- what is left where nothing came out
  pub none_left : (xs ys : List A) (n : ℕ) → xs ≡ ys ++ [] → ys ≡ take (n - 1) xs → n ≡ 0 → xs ≡ []
  none_left xs ys n is rest none = is ∙ ap (λ (l : List A). l ++ []) (rest ∙ ap (λ m. take (m - 1) xs) none)

-- So many numbers below this, of which no two are the same, are all of them.
pub all_below : (xs : List ℕ) (n c : ℕ) → AllPairs (λ x y. x ≢ y) xs → All (λ x. x < n) xs → length xs ≡ n → c < n → Contains xs c
all_below xs n c apart below count less = by (list_any (eqb c) xs) refl
  where
    below_in : (q : ℕ) → Contains (c ∷ xs) q → q < n
    below_in q (zero, within, is) = omega (arith, is, less)
    below_in q (suc k, within, is) = subst (λ x. x < n) is (below k q (omega arith))

    by : (b : Bool) → list_any (eqb c) xs ≡ b → Contains xs c
    by true is = Contains-from_any eqb-true c xs is
    by false is =
        let others : All (λ x. c ≢ x) xs = λ k d within same. cc (sym (list_any_at (eqb c) xs k d within (eq-eqb c (get_or xs k d) same)) ∙ is) in
        let distinct = IsDistinct-from_AllPairs Decides-eqb (c ∷ xs) (pairs_cons (λ x y. x ≢ y) c xs others apart) in
        absurd (omega (arith, count, length-le_from_distinct_below (c ∷ xs) n distinct (λ q has. below_in q (Contains-from_any eqb-true q (c ∷ xs) has))))
