-- The sequential bag: which replies a call may get, and what it leaves.
use Rattle.std.specs.Prelude.{◌≡◌, ℕ, List, [], ◌∷◌, IsPermutation}
use Rattle.seq_objects.specs.declared.bags.BagCall.{BagCall}
use Rattle.seq_objects.specs.declared.bags.BagCall.TheVariants.{Add, Remove}
use Rattle.seq_objects.specs.declared.bags.BagReply.{BagReply}
use Rattle.seq_objects.specs.declared.bags.BagReply.TheVariants.{Added, Took, Empty}

-- From old, the call may get the reply and leave new. A bag is the list of its items in any order.
abbrev pub BagStep : List ℕ → BagCall → BagReply → List ℕ → Type 0
-- new is old with one more of the item
BagStep old (Add item) Added new = IsPermutation (item ∷ old) new
-- the item is one of old, and new is old with one fewer of it
BagStep old Remove (Took item) new = IsPermutation old (item ∷ new)
-- there is no item
BagStep old Remove Empty new = (old ≡ []) × (new ≡ [])
-- no call gets another reply
BagStep old (Add item) (Took other) new = ⊥
BagStep old (Add item) Empty new = ⊥
BagStep old Remove Added new = ⊥
