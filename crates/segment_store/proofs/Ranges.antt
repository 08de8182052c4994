-- Parts of lists, from one place up to another.
use Rattle.std.proofs.Common.{◌≡◌, ℕ, ◌+◌, ◌-◌, ◌<◌, ◌≤◌, min, List, [], ◌∷◌, ◌++◌, length, take, drop, slice_set, slice_range, slice_index_or, arith, rules}
use Rattle.std.proofs.lemmas.List.{places, same_lists, get_or-set_same}
use Rattle.std.proofs.lemmas.Bool.{cases_eq}

-- a part grows at its end by what is written there
pub slice_range-set : {X : Type 0} (xs : List X) (s e : ℕ) (x : X) → s ≤ e → e < length xs → slice_range (slice_set xs e x) s (e + 1) ≡ slice_range xs s e ++ x ∷ []
slice_range-set xs s e x ordered inside = same_lists _ _ (search (rules, places)) (λ k d below. grind (arith, places, get_or-set_same, cases_eq k (e - s)))

-- a part and the element after it
pub slice_range-more : {X : Type 0} (xs : List X) (s e : ℕ) (d : X) → s ≤ e → e < length xs → slice_range xs s (e + 1) ≡ slice_range xs s e ++ slice_index_or xs e d ∷ []
slice_range-more xs s e d ordered inside = same_lists _ _ (search (rules, places)) (λ k d below. grind (arith, places, cases_eq k (e - s)))

-- the front of a part
pub take-slice_range : {X : Type 0} (xs : List X) (s c e : ℕ) → s ≤ c → c ≤ e → take (c - s) (slice_range xs s e) ≡ slice_range xs s c
take-slice_range xs s c e behind within = same_lists _ _ (search (rules, places)) (λ k d below. grind (arith, places))

-- what follows the front
pub drop-slice_range : {X : Type 0} (xs : List X) (s c e : ℕ) → s ≤ c → c ≤ e → drop (c - s) (slice_range xs s e) ≡ slice_range xs c e
drop-slice_range xs s c e behind within = same_lists _ _ (search (rules, places)) (λ k d below. grind (arith, places))

-- a part of what is left of a list
pub slice_range-drop : {X : Type 0} (xs : List X) (n s e : ℕ) → n ≤ s → s ≤ e → slice_range (drop n xs) (s - n) (e - n) ≡ slice_range xs s e
slice_range-drop xs n s e behind ordered = same_lists _ _ (search (rules, places)) (λ k d below. grind (arith, places))

-- a part of the front of a list
pub slice_range-take : {X : Type 0} (xs : List X) (n s e : ℕ) → s ≤ e → e ≤ n → slice_range (take n xs) s e ≡ slice_range xs s e
slice_range-take xs n s e ordered within = same_lists _ _ (search (rules, places)) (λ k d below. grind (arith, places))

-- a part that may reach from one list into the next
pub slice_range-append : {X : Type 0} (xs ys : List X) (s e : ℕ) → s ≤ e → slice_range (xs ++ ys) s e ≡ slice_range xs (min s (length xs)) (min e (length xs)) ++ slice_range ys (s - length xs) (e - length xs)
slice_range-append xs ys s e ordered = same_lists _ _ (search (rules, places)) (λ k d below. grind (arith, places))

-- a part that lies in the first of two lists
pub slice_range-front : {X : Type 0} (xs ys : List X) (s e : ℕ) → e ≤ length xs → slice_range (xs ++ ys) s e ≡ slice_range xs s e
slice_range-front xs ys s e within = same_lists _ _ (search (rules, places)) (λ k d below. grind (arith, places))
