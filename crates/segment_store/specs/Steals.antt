-- What it is to take half of a segment's items.
use Rattle.std.specs.Prelude.{◌≡◌, ◌⊎◌, ℕ, ◌+◌, ◌/◌, List, [], ◌∷◌, ◌++◌, length}

module _ (had own rest : List ℕ) (item : ℕ) where
  -- the item is the last of the first half, rounded down: the items before it are the thief's, and those behind it are left
  pub record TakesHalf : Type 0 where
    pub parts : had ≡ own ++ item ∷ rest
    pub half : length own + 1 ≡ length had / 2

  -- the item is the last of all, and the others are left
  pub record TakesLast : Type 0 where
    pub parts : had ≡ rest ++ item ∷ []
    pub nothing : own ≡ []

  -- half of the items are taken, or the last alone: of one item, and where there was no memory
  abbrev pub Steals : Type 0
  Steals = TakesHalf ⊎ TakesLast
