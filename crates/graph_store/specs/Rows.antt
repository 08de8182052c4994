use Rattle.std.specs.Prelude.{◌≡◌, ℕ, ◌+◌, ◌-◌, ◌<◌, ◌≤◌, ◌==◌, ◌↔◌, List, [], ◌∷◌, All, Contains, length, map, slice_index_or, slice_range}
use Rattle.std.specs.List.{AllWithin, dedup}
use Rattle.std.specs.List.Sorted.{IsStrictlyIncreasing}
use Rattle.graph_store.specs.declared.pairs.Pair.{Pair}

-- the row at the place
abbrev pub row_of : List (List ℕ) → ℕ → List ℕ
row_of rows place = slice_index_or rows place []

-- the rows of these targets, of which each begins where the one before it ends
abbrev pub rows_of : List ℕ → List ℕ → List (List ℕ)
rows_of targets [] = []
rows_of targets (begin ∷ []) = []
rows_of targets (begin ∷ end ∷ ends) = slice_range targets begin end ∷ rows_of targets (end ∷ ends)

-- the places rise, and the last is the end
abbrev pub AreStarts : List ℕ → ℕ → Type 0
AreStarts [] end = ⊥
AreStarts (start ∷ []) end = start ≡ end
AreStarts (start ∷ next ∷ rest) end = (start ≤ next) × AreStarts (next ∷ rest) end

-- the pairs before the place leave lower vertices, and those from it on don't
pub record BeginsRow (pairs : List Pair) (vertex place : ℕ) : Type 0 where
  pub within : place ≤ length pairs
  pub lower : AllWithin (λ pair. pair.from < vertex) pairs 0 place
  pub rest : AllWithin (λ pair. vertex ≤ pair.from) pairs place (length pairs)

-- the targets of the pairs in order, without those that are the same as the one before
abbrev pub distinct_targets : List Pair → List ℕ
distinct_targets pairs = dedup ◌==◌ (map (λ pair. pair.to) pairs)

-- the vertex's row has the target
abbrev pub HasTarget : List (List ℕ) → ℕ → ℕ → Type 0
HasTarget rows vertex to = Contains (row_of rows vertex) to

-- The rows of so many vertices: what each pair leads to, in any order, also more than once.
pub record AreRows (Leads : ℕ → ℕ → Type 0) (vertices : ℕ) (rows : List (List ℕ)) : Type 0 where
  pub count : length rows ≡ vertices
  pub targets : (vertex to : ℕ) → HasTarget rows vertex to ↔ Leads vertex to
  pub within : (vertex to : ℕ) → HasTarget rows vertex to → to < vertices

-- The rows of the vertices from the first on and before the end: what each pair leads to, each once, rising.
pub record AreRowsAlong (Leads : ℕ → ℕ → Type 0) (first end : ℕ) (rows : List (List ℕ)) : Type 0 where
  pub count : first + length rows ≡ end
  pub rising : All IsStrictlyIncreasing rows
  pub targets : (vertex to : ℕ) → first ≤ vertex → vertex < end → Contains (row_of rows (vertex - first)) to ↔ Leads vertex to
