-- A bag as the list of its items, the newest last.
use Rattle.std.proofs.Common.{◌≡◌, ℕ, List, [], ◌∷◌, ◌++◌}
use Rattle.std.specs.Prelude.{IsPermutation}
use Rattle.std.proofs.lemmas.List.Sorted.{IsPermutation-sym, IsPermutation-to_front}

-- the list with the item at its end is one with one more of it
pub one_more : (old new : List ℕ) (item : ℕ) → new ≡ old ++ item ∷ [] → IsPermutation (item ∷ old) new
one_more old new item added = rw added (IsPermutation-sym _ _ (IsPermutation-to_front old item))

-- without the item at its end it is one with one fewer of it
pub one_fewer : (old new : List ℕ) (item : ℕ) → old ≡ new ++ item ∷ [] → IsPermutation old (item ∷ new)
one_fewer old new item taken = rw taken (IsPermutation-to_front new item)
