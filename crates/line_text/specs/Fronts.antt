-- The fronts of words and of numbers.
use Rattle.std.specs.Prelude.{◌≡◌, ◌⊎◌, ℕ, ◌*◌, ◌<◌, List, [], ◌++◌, length, slice_index_or}
use Rattle.line_text.specs.declared.forms.Bounds.{Bounds}
use Rattle.line_text.specs.declared.forms.Reject.{Reject}
use Rattle.line_text.specs.declared.forms.Reject.TheVariants.{Bad}

abbrev pub Begins : List ℕ → List ℕ → Type 0
Begins word front = (more : List ℕ) × (word ≡ front ++ more)

-- none of the words begins so
abbrev pub BeginsNone : List (List ℕ) → List ℕ → Type 0
BeginsNone words front = (index : ℕ) → index < length words → Begins (slice_index_or words index []) front → ⊥

-- the word at this place begins so
abbrev pub BeginsOne : List (List ℕ) → List ℕ → ℕ → Type 0
BeginsOne words front index = (index < length words) × Begins (slice_index_or words index []) front

-- However digits go on behind the number, they write none within the bounds: for this reason.
abbrev pub IsOutside : Bounds → ℕ → Reject → Type 0
IsOutside bounds value reject =
    ((bounds.most < value) × (reject ≡ bounds.above)) ⊎ ((0 < value) × (value < bounds.least) × (bounds.most < value * 10) × (reject ≡ Bad))
