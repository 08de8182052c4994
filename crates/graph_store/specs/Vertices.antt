use Rattle.std.specs.Prelude.{ℕ, ◌+◌, List, [], ◌∷◌, max}
use Rattle.edge_text.specs.declared.edges.Edge.{Edge}

-- one more than the greatest of all ids and the sources, or 0 where there are none
abbrev pub vertex_count : List Edge → List ℕ → ℕ
vertex_count [] [] = 0
vertex_count [] (source ∷ sources) = max (source + 1) (vertex_count [] sources)
vertex_count (edge ∷ edges) sources = max (max edge.from edge.to + 1) (vertex_count edges sources)
