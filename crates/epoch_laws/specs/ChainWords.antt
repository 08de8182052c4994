-- Where the words of a chain lead.
use Rattle.std.specs.Prelude.{◌≡◌, ◌⊎◌, ℕ}
use Rattle.pgas_base.specs.declared.shapes.Shape.{Shape}
use Rattle.epoch_laws.specs.Places.{place_in}
use Rattle.epoch_laws.specs.States.{IsPlace}

-- there is no further object, or it is one of the shape
abbrev pub IsChainWord : Shape → ℕ → Type 0
IsChainWord shape word = (word ≡ 0) ⊎ IsPlace shape (place_in word)
