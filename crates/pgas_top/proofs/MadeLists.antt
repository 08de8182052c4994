-- How the text of a made list goes on by a line.
use Rattle.std.proofs.Common.{◌≡◌, ℕ, suc, ◌+◌, ◌-◌, ◌<◌, List, ◌++◌, ap, sym, ◌∙◌, append_assoc, arith}
use Rattle.edge_text.specs.declared.edges.Edge.{Edge}
use Rattle.edge_text.specs.Written.{edge_line, edges_text}
use Rattle.levels_engine.specs.Draws.{Drawing, drawn_edge, drawn_edges, next_state}

-- what was written and the piece take in a line
pub line_more : (written more old new line rest before all : List ℕ) → more ++ new ≡ old ++ line → before ≡ line ++ rest → (written ++ old) ++ before ≡ all → ((written ++ more) ++ new) ++ rest ≡ all
line_more written more old new line rest before all moved cut whole =
    ap (λ (l : List ℕ). l ++ rest) (append_assoc written more new ∙ (ap (λ (l : List ℕ). written ++ l) moved ∙ sym (append_assoc written old line)))
    ∙ (append_assoc (written ++ old) line rest ∙ (ap (λ (l : List ℕ). (written ++ old) ++ l) (sym cut) ∙ whole))

-- the text that is still to be written begins with the line of the edge that is drawn next
pub drawn_line : (old new : Drawing) (edge : Edge) (vertices count drawn : ℕ) → drawn < count → old.vertices ≡ vertices → edge ≡ drawn_edge old.vertices old.state → new ≡ record old { state = next_state (next_state old.state) }
    → edges_text (drawn_edges vertices old.state (count - drawn)) ≡ edge_line edge ++ edges_text (drawn_edges vertices new.state (count - (drawn + 1)))
drawn_line old new edge vertices count drawn less same is moved =
    let left : count - drawn ≡ suc (count - (drawn + 1)) = omega arith in
    let here : edge ≡ drawn_edge vertices old.state = is ∙ ap (λ (v : ℕ). drawn_edge v old.state) same in
    ap (λ (n : ℕ). edges_text (drawn_edges vertices old.state n)) left
    ∙ (ap (λ (e : Edge). edge_line e ++ edges_text (drawn_edges vertices (next_state (next_state old.state)) (count - (drawn + 1)))) (sym here)
    ∙ ap (λ (d : Drawing). edge_line edge ++ edges_text (drawn_edges vertices d.state (count - (drawn + 1)))) (sym moved))
