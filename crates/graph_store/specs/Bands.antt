use Rattle.std.specs.Prelude.{◌≡◌, ℕ, ◌+◌, ◌<◌, ◌≤◌, List, [], ◌∷◌, All, flat_map, length}
use Rattle.std.specs.List.Sorted.{IsStrictlyIncreasing}

-- the rows of all bands, in order
abbrev pub joined : List (List (List ℕ)) → List (List ℕ)
joined bands = flat_map (λ band. band) bands

-- each band has so many rows, and the last no more
abbrev pub AreFull : ℕ → List (List (List ℕ)) → Type 0
AreFull width [] = Unit {0}
AreFull width (band ∷ []) = length band ≤ width
AreFull width (band ∷ next ∷ rest) = (length band ≡ width) × AreFull width (next ∷ rest)

-- bands of so many rising rows each, which have so many together
pub record AreBands (width vertices : ℕ) (bands : List (List (List ℕ))) : Type 0 where
  pub some : 0 < width
  pub full : AreFull width bands
  pub count : length (joined bands) ≡ vertices
  pub rising : All IsStrictlyIncreasing (joined bands)

-- the numbers from the first on, in steps of the width, as far as the end
abbrev pub StepsTo : ℕ → ℕ → List ℕ → ℕ → Type 0
StepsTo width first [] end = first ≡ end
StepsTo width first (start ∷ rest) end = (start ≡ first) × StepsTo width (first + width) rest end
