-- Levels along a relation between vertices: the edges of a list, or the pairs of a graph.
use Rattle.std.specs.Prelude.{ℕ, ◌≤◌, ◌==◌, List, MatchBool}
use Rattle.levels_engine.specs.Walks.{IsWalk}
use Rattle.levels_engine.specs.declared.plain_levels.TheConstants.{NOT_REACHED}

-- The level of a vertex: so many steps has a walk to it from a source, and no walk has fewer.
pub record IsLevel (Leads : ℕ → ℕ → Type 0) (sources : List ℕ) (vertex level : ℕ) : Type 0 where
  pub reached : (walk : List ℕ) × IsWalk Leads sources vertex level walk
  pub least : (steps : ℕ) (walk : List ℕ) → IsWalk Leads sources vertex steps walk → level ≤ steps

-- no walk leads to the vertex
abbrev pub HasNoLevel : (ℕ → ℕ → Type 0) → List ℕ → ℕ → Type 0
HasNoLevel Leads sources vertex = (steps : ℕ) (walk : List ℕ) → IsWalk Leads sources vertex steps walk → ⊥

-- the number says the vertex's level, or that it has none
abbrev pub IsLevelNumber : (ℕ → ℕ → Type 0) → List ℕ → ℕ → ℕ → Type 0
IsLevelNumber Leads sources vertex number =
    MatchBool (number == NOT_REACHED) (HasNoLevel Leads sources vertex) (IsLevel Leads sources vertex number)
