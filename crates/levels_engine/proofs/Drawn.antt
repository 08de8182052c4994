-- Drawing one more edge.
use Rattle.std.proofs.Common.{◌≡◌, ℕ, suc, ◌+◌, ◌-◌, ◌<◌, List, [], ◌∷◌, ◌++◌, ap, sym, ◌∙◌, append_assoc, arith}
use Rattle.edge_text.specs.declared.edges.Edge.{Edge}
use Rattle.levels_engine.specs.Draws.{Drawing, drawn_edge, drawn_edges, next_state}

-- what was drawn, and what is still to be drawn, are the whole
pub drawn_more : (before after : List Edge) (edge : Edge) (old new : Drawing) (vertices count drawn : ℕ) (all : List Edge) → drawn < count → old.vertices ≡ vertices → after ≡ before ++ edge ∷ [] → edge ≡ drawn_edge old.vertices old.state
    → new ≡ record old { state = next_state (next_state old.state) } → before ++ drawn_edges vertices old.state (count - drawn) ≡ all → after ++ drawn_edges vertices new.state (count - (drawn + 1)) ≡ all
drawn_more before after edge old new vertices count drawn all less same longer is moved whole =
    let left : count - drawn ≡ suc (count - (drawn + 1)) = omega arith in
    let rest = drawn_edges vertices (next_state (next_state old.state)) (count - (drawn + 1)) in
    let here : edge ≡ drawn_edge vertices old.state = is ∙ ap (λ (v : ℕ). drawn_edge v old.state) same in
    ap (λ (d : Drawing). after ++ drawn_edges vertices d.state (count - (drawn + 1))) moved
    ∙ (ap (λ (xs : List Edge). xs ++ rest) (longer ∙ ap (λ (e : Edge). before ++ e ∷ []) here)
    ∙ (append_assoc before (drawn_edge vertices old.state ∷ []) rest
    ∙ (ap (λ (n : ℕ). before ++ drawn_edges vertices old.state n) (sym left) ∙ whole)))
