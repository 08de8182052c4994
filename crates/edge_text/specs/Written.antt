use Rattle.std.specs.Prelude.{◌≡◌, ◌<◌, ◌≤◌, ◌^◌, ℕ, Bool, true, false, List, ◌∷◌, ◌++◌, [], codes, length, All}
use Rattle.std.specs.List.{flat_map}
use Rattle.std.specs.Fmt.{decimal}
use Rattle.edge_text.specs.declared.edges.Edge.{Edge}
use Rattle.edge_text.specs.Edges.{HaveIds, PlainEdges}
use Rattle.edge_text.specs.EdgeText.{IsEdgeText}

-- FROM TO, and LF
abbrev pub edge_line : Edge → List ℕ
edge_line edge = decimal edge.from ++ 32 ∷ decimal edge.to ++ 10 ∷ []

-- the lines of edges, in order
abbrev pub edges_text : List Edge → List ℕ
edges_text edges = flat_map edge_line edges

-- no line of these needs a weight
abbrev pub WeighOne : List Edge → Type 0
WeighOne edges = All (λ edge. edge.weight ≡ 1) edges

-- what is written of the edges is the text of their list
abbrev pub ReadBack : List Edge → Type 0
ReadBack edges = HaveIds edges → WeighOne edges → length edges ≤ 2 ^ 25 → IsEdgeText (edges_text edges) (record { edges = edges; both = false })

-- FROM TO WEIGHT, and LF
abbrev pub weighted_line : Edge → List ℕ
weighted_line edge = decimal edge.from ++ 32 ∷ decimal edge.to ++ 32 ∷ decimal edge.weight ++ 10 ∷ []

-- the head line of a direction
abbrev pub head_line : Bool → List ℕ
head_line true = codes "%pgas 2 both" ++ 10 ∷ []
head_line false = codes "%pgas 2 directed" ++ 10 ∷ []

-- a head line, and the lines of edges with their weights, in order
abbrev pub weighted_text : PlainEdges → List ℕ
weighted_text list = head_line list.both ++ flat_map weighted_line list.edges

-- each weight is one
abbrev pub HaveWeights : List Edge → Type 0
HaveWeights edges = All (λ edge. edge.weight < 2 ^ 32) edges

-- what is written of the list with its weights is its text
abbrev pub WeightedReadBack : PlainEdges → Type 0
WeightedReadBack list = HaveIds list.edges → HaveWeights list.edges → length list.edges ≤ 2 ^ 25 → IsEdgeText (weighted_text list) list
