use Rattle.std.specs.Prelude.{◌≡◌, ℕ, ◌+◌, ◌<◌, ◌==◌, List, [], ◌∷◌, ◌++◌, length, Contains, codes, max, if◌then◌else◌}
use Rattle.std.specs.List.{flat_map}
use Rattle.std.specs.Fmt.{decimal}
use Rattle.edge_text.specs.Edges.{PlainEdges, HasEdge}
use Rattle.levels_engine.specs.Levels.{IsLevel}
use Rattle.levels_engine.specs.declared.plain_levels.TheConstants.{NOT_REACHED}

-- a vertex and its level
pub record Reached : Type 0 where
  pub vertex : ℕ
  pub level : ℕ

-- from each vertex of the list to the next the ids rise
abbrev pub Rises : List Reached → Type 0
Rises [] = Unit {0}
Rises (first ∷ []) = Unit {0}
Rises (first ∷ second ∷ rest) = (first.vertex < second.vertex) × Rises (second ∷ rest)

-- all vertices with a level, each with its level, by rising id
pub record AreReached (Leads : ℕ → ℕ → Type 0) (sources : List ℕ) (reached : List Reached) : Type 0 where
  pub rises : Rises reached
  pub each : (vertex level : ℕ) → Contains reached (record { vertex = vertex; level = level }) → IsLevel Leads sources vertex level
  pub all : (vertex level : ℕ) → IsLevel Leads sources vertex level → Contains reached (record { vertex = vertex; level = level })

-- the greatest level, or 0
abbrev pub depth_of : List Reached → ℕ
depth_of [] = 0
depth_of (first ∷ rest) = max first.level (depth_of rest)

-- VERTEX LEVEL
abbrev pub line : Reached → List ℕ
line reached = decimal reached.vertex ++ 32 ∷ decimal reached.level ++ 10 ∷ []

-- # reached COUNT depth GREATEST
abbrev pub summary : ℕ → ℕ → List ℕ
summary count depth = codes "# reached " ++ decimal count ++ codes " depth " ++ decimal depth ++ 10 ∷ []

abbrev pub levels_text : List Reached → List ℕ
levels_text reached = flat_map line reached ++ summary (length reached) (depth_of reached)

-- the text of the levels of the edge list from the sources
abbrev pub IsLevelsText : PlainEdges → List ℕ → List ℕ → Type 0
IsLevelsText list sources text = (reached : List Reached) × AreReached (HasEdge list) sources reached × (text ≡ levels_text reached)

-- the vertices with a level, where the numbers are those of the vertices from `vertex` on
abbrev pub reached_from : ℕ → List ℕ → List Reached
reached_from vertex [] = []
reached_from vertex (number ∷ numbers) =
    if number == NOT_REACHED then reached_from (vertex + 1) numbers
    else record { vertex = vertex; level = number } ∷ reached_from (vertex + 1) numbers
