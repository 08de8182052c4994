-- The words that a call reads at the segments that it visits.
use Rattle.std.specs.Prelude.{◌≡◌, ◌⊎◌, ℕ, zero, suc, [], ◌∷◌, ◌++◌, Option, Some, None}
use Rattle.shared_bag.specs.declared.shapes.Shape.{Shape}
use Rattle.shared_bag.specs.Kinds.{Looks, turn_read, length_read, NamesAnother}

-- the segment's turn was read as another caller's
abbrev pub IsHeld : ℕ → ℕ → ℕ → Looks → Type 0
IsHeld callers caller segment words = (turn : ℕ) × NamesAnother callers caller turn × (words ≡ turn_read segment turn ∷ [])

-- the caller got the segment's turn, found so many items there, and left them
abbrev pub HasLeft : ℕ → ℕ → Looks → Type 0
HasLeft count segment words = words ≡ turn_read segment 0 ∷ length_read segment count ∷ []

-- the caller got the segment's turn, and kept it
abbrev pub HasKept : Option ℕ → ℕ → Looks → Type 0
HasKept None segment words = ⊥
HasKept (Some kept) segment words = (segment ≡ kept) × (words ≡ turn_read segment 0 ∷ [])

-- a kept segment is left last, and had no item
abbrev pub left_last : Option ℕ → Looks
left_last None = []
left_last (Some kept) = length_read kept 0 ∷ []

-- an add finds no room in a segment that is held, or full
abbrev pub FindsNoRoom : Shape → ℕ → ℕ → Looks → Type 0
FindsNoRoom shape caller segment words = IsHeld shape.callers caller segment words ⊎ HasLeft shape.room segment words

-- a removal finds nothing in a segment that is held, or empty. It may keep one that is empty
abbrev pub FindsNothing : Shape → ℕ → Option ℕ → ℕ → Looks → Type 0
FindsNothing shape caller kept segment words = IsHeld shape.callers caller segment words ⊎ (HasLeft 0 segment words ⊎ HasKept kept segment words)

-- these words were read at the first n segments that the caller tries, one after another
abbrev pub Visits : (ℕ → Looks → Type 0) → (ℕ → ℕ) → ℕ → Looks → Type 0
Visits finds order zero words = words ≡ []
Visits finds order (suc n) words = (before here : Looks) × (words ≡ before ++ here) × Visits finds order n before × finds (order n) here

-- one of the turns that were read was another caller's
abbrev pub SomeHeld : ℕ → ℕ → Looks → Type 0
SomeHeld callers caller words =
    (before after : Looks) × (segment turn : ℕ) × NamesAnother callers caller turn × (words ≡ before ++ turn_read segment turn ∷ after)
