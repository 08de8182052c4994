use Rattle.std.specs.Prelude.{◌≡◌, ℕ, ◌<◌, ◌^◌, ◌⊎◌, Bool, true, List, All, Any}
use Rattle.edge_text.specs.declared.edges.Edge.{Edge}
use Rattle.edge_text.specs.declared.edges.EdgeList.{EdgeList}

-- an edge list as plain data: the edges in order, and whether each leads both ways
pub record PlainEdges : Type 0 where
  pub edges : List Edge
  pub both : Bool

abbrev pub plain_edges : EdgeList → PlainEdges
plain_edges list = record { edges = list.edges.items; both = list.both }

-- both ids are vertex ids
abbrev pub HasIds : Edge → Type 0
HasIds edge = (edge.from < 2 ^ 24) × (edge.to < 2 ^ 24)

-- each id is a vertex id
abbrev pub HaveIds : List Edge → Type 0
HaveIds edges = All HasIds edges

-- one of the edges is written from the one to the other
abbrev pub IsWritten : List Edge → ℕ → ℕ → Type 0
IsWritten edges from to = Any (λ edge. (edge.from ≡ from) × (edge.to ≡ to)) edges

-- An edge leads from the one to the other: it is written so, or the other way round in a list whose edges lead both ways.
abbrev pub HasEdge : PlainEdges → ℕ → ℕ → Type 0
HasEdge list from to = IsWritten list.edges from to ⊎ ((list.both ≡ true) × IsWritten list.edges to from)
