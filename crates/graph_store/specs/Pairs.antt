use Rattle.std.specs.Prelude.{ℕ, ◌+◌, ◌*◌, ◌<◌, ◌≤◌, ◌^◌, ◌&&◌, Bool, true, false, List, [], ◌∷◌, ◌++◌, All, Contains, nat_lt, not}
use Rattle.edge_text.specs.declared.edges.Edge.{Edge}
use Rattle.graph_store.specs.declared.pairs.Pair.{Pair}

-- the pairs that an edge makes
abbrev pub edge_pairs : Bool → Edge → List Pair
edge_pairs true edge = record { from = edge.from; to = edge.to } ∷ record { from = edge.to; to = edge.from } ∷ []
edge_pairs false edge = record { from = edge.from; to = edge.to } ∷ []

-- the pairs of edges, in order, also those that repeat
abbrev pub pairs_of : Bool → List Edge → List Pair
pairs_of both [] = []
pairs_of both (edge ∷ edges) = edge_pairs both edge ++ pairs_of both edges

-- the pair stands in the list
abbrev pub HasPair : List Pair → ℕ → ℕ → Type 0
HasPair pairs from to = Contains pairs (record { from = from; to = to })

-- each pair is of two of so many vertices
abbrev pub AreBetween : List Pair → ℕ → Type 0
AreBetween pairs vertices = All (λ pair. (pair.from < vertices) × (pair.to < vertices)) pairs

-- whether the pair leaves a vertex from the first on and before the end
abbrev pub leaves_between : ℕ → ℕ → Pair → Bool
leaves_between first end pair = not (nat_lt pair.from first) && nat_lt pair.from end

-- the place of a pair in the order of pairs: by the vertex that it leaves, then by the one that it leads to
abbrev pub rank : Pair → ℕ
rank pair = pair.from * 2 ^ 32 + pair.to

-- each pair leaves a vertex from the first on, and leads to one whose number fits 32 bits
abbrev pub AreFrom : ℕ → List Pair → Type 0
AreFrom first pairs = All (λ pair. (first ≤ pair.from) × (pair.to < 2 ^ 32)) pairs
