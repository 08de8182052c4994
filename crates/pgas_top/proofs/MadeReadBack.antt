-- A made list is one that its text gives back.
use Rattle.std.proofs.Common.{◌≡◌, ℕ, zero, suc, ◌<◌, ◌≤◌, ◌^◌, length, refl, arith}
use Rattle.std.proofs.lemmas.List.Elements.{All-nil, All-cons}
use Rattle.edge_text.specs.declared.edges.Edge.{Edge}
use Rattle.edge_text.specs.EdgeText.{IsEdgeText}
use Rattle.edge_text.specs.Edges.{HasIds, HaveIds}
use Rattle.edge_text.specs.Written.{WeighOne, edges_text}
use Rattle.edge_text.proofs.Written.{edges_read_back}
use Rattle.levels_engine.specs.Draws.{drawn_edge, drawn_edges, first_state, made_list, next_state}

drawn_count : (vertices state count : ℕ) → length (drawn_edges vertices state count) ≡ count
drawn_count vertices state zero = refl
drawn_count vertices state (suc count) = omega (arith, drawn_count vertices (next_state (next_state state)) count)

drawn_ids : (vertices state count : ℕ) → 0 < vertices → vertices ≤ 2 ^ 24 → HaveIds (drawn_edges vertices state count)
drawn_ids vertices state zero some few = All-nil HasIds
drawn_ids vertices state (suc count) some few =
    let next = next_state (next_state state) in
    All-cons HasIds (drawn_edge vertices state) (drawn_edges vertices next count) (omega arith, omega arith) (drawn_ids vertices next count some few)

drawn_weights : (vertices state count : ℕ) → WeighOne (drawn_edges vertices state count)
drawn_weights vertices state zero = All-nil (λ (edge : Edge). edge.weight ≡ 1)
drawn_weights vertices state (suc count) =
    let next = next_state (next_state state) in
    All-cons (λ (edge : Edge). edge.weight ≡ 1) (drawn_edge vertices state) (drawn_edges vertices next count) refl (drawn_weights vertices next count)

pub made_list_read : (seed vertices edges : ℕ) → 0 < vertices → vertices ≤ 2 ^ 24 → edges ≤ 2 ^ 25 → IsEdgeText (edges_text (made_list seed vertices edges).edges) (made_list seed vertices edges)
made_list_read seed vertices edges some few short =
    let drawn = drawn_edges vertices (first_state seed) edges in
    edges_read_back drawn (drawn_ids vertices (first_state seed) edges some few) (drawn_weights vertices (first_state seed) edges) (omega (arith, drawn_count vertices (first_state seed) edges))
