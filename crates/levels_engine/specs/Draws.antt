-- The generator of edges: the multiplier and the modulus of Park and Miller.
use Rattle.std.specs.Prelude.{ℕ, zero, suc, ◌+◌, ◌*◌, ◌%◌, List, [], ◌∷◌, false}
use Rattle.edge_text.specs.declared.edges.Edge.{Edge}
use Rattle.edge_text.specs.Edges.{PlainEdges}

-- the state that a seed opens
abbrev pub first_state : ℕ → ℕ
first_state seed = 1 + seed % 2147483646

-- a draw gives the next state
abbrev pub next_state : ℕ → ℕ
next_state state = state * 48271 % 2147483647

-- an edge takes two draws, for its ends in their order
abbrev pub drawn_edge : ℕ → ℕ → Edge
drawn_edge vertices state = record {
  from = next_state state % vertices;
  to = next_state (next_state state) % vertices;
  weight = 1;
}

-- so many edges, one after another
abbrev pub drawn_edges : ℕ → ℕ → ℕ → List Edge
drawn_edges vertices state zero = []
drawn_edges vertices state (suc count) = drawn_edge vertices state ∷ drawn_edges vertices (next_state (next_state state)) count

-- the list of a seed, with so many vertices and edges
abbrev pub made_list : ℕ → ℕ → ℕ → PlainEdges
made_list seed vertices edges = record { edges = drawn_edges vertices (first_state seed) edges; both = false }

-- what contracts see of a generator
pub record Drawing : Type 0 where
  pub vertices : ℕ
  pub state : ℕ
