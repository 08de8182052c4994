use Rattle.std.specs.Prelude.{◌≡◌, ℕ, ◌+◌, List, [], ◌∷◌, Contains, length, slice_get, Some}

-- from each vertex of the list an edge leads to the next
abbrev pub IsLinked : (ℕ → ℕ → Type 0) → List ℕ → Type 0
IsLinked Leads [] = Unit {0}
IsLinked Leads (vertex ∷ []) = Unit {0}
IsLinked Leads (vertex ∷ next ∷ rest) = Leads vertex next × IsLinked Leads (next ∷ rest)

-- A walk of so many steps from a source to the vertex: the vertices that it visits, in order.
pub record IsWalk (Leads : ℕ → ℕ → Type 0) (sources : List ℕ) (vertex steps : ℕ) (walk : List ℕ) : Type 0 where
  pub count : length walk ≡ steps + 1
  pub source : ℕ
  pub among : Contains sources source
  pub begins : slice_get walk 0 ≡ Some source
  pub ends : slice_get walk steps ≡ Some vertex
  pub linked : IsLinked Leads walk
