use Rattle.std.proofs.Common.{ℕ, List, ◌++◌, ◌-◌, take, drop, ap, sym, ◌∙◌, append_assoc}
use Rattle.std.proofs.lemmas.List.{take-append-drop}
use Rattle.std.proofs.KnownBytes.{Appends-trans}
use Rattle.edge_text.specs.Written.{edge_line, edges_text}
use Rattle.levels_engine.specs.Draws.{Drawing, drawn_edges}
use Rattle.pgas_top.proofs.MadeLists.{drawn_line, line_more}
use Rattle.pgas_top.proofs.made_lists.write_made.Goals as goal

pub returns-in_err-add_line-clause-front : goal.returns-in_err-add_line-clause-front
returns-in_err-add_line-clause-front g c =
    let whole = c.loop-drawn.invariant.whole in
    let parts = c.in_err-add_line.ensures.parts in
    let rest = edges_text (drawn_edges c.args.vertices c.loop-drawn.draws.state (c.args.edges - c.loop-drawn._drawn)) in (
      whole.0 ++ parts.0,
      parts.2.0 ++ rest,
      Appends-trans _ _ _ whole.0 parts.0 whole.1 parts.1,
      sym whole.2 ∙ (ap (λ (l : List ℕ). (whole.0 ++ l) ++ rest) parts.2.1
          ∙ (ap (λ (l : List ℕ). l ++ rest) (sym (append_assoc whole.0 parts.0 parts.2.0)) ∙ append_assoc (whole.0 ++ parts.0) parts.2.0 rest)),
    )

pub loop-drawn-preserved : goal.loop-drawn-preserved
loop-drawn-preserved g c =
    let whole = c.loop-drawn.invariant.whole in
    let parts = c.in_ok-add_line.ensures.parts in
    let moved = c.next_edge.ensures.state in
    let line = c.as_str.ensures.value ∙ c.write_edge-line.ensures in
    let cut = drawn_line c.loop-drawn.draws c.next_edge.new.self c.next_edge.result c.args.vertices c.args.edges c.loop-drawn._drawn c.loop-drawn-test.true c.loop-drawn.invariant.vertices c.next_edge.ensures.edge moved in
    record {
      vertices = ap (λ (d : Drawing). d.vertices) moved ∙ c.loop-drawn.invariant.vertices;
      whole = (
        whole.0 ++ parts.0,
        Appends-trans _ _ _ whole.0 parts.0 whole.1 parts.1,
        line_more whole.0 parts.0 c.loop-drawn.piece.bytes c.add_line.new.piece.bytes (edge_line c.next_edge.result) _ _ _ (parts.2 ∙ ap (λ (l : List ℕ). c.loop-drawn.piece.bytes ++ l) line) cut whole.2,
      );
      faults = c.in_ok-add_line.ensures.kept.0 ∙ c.loop-drawn.invariant.faults;
      refusals = c.in_ok-add_line.ensures.kept.1 ∙ c.loop-drawn.invariant.refusals;
    }

pub returns-clause-front : goal.returns-clause-front
returns-clause-front g c =
    let whole = c.loop-drawn.invariant.whole in
    let piece = c.loop-drawn.piece.bytes in
    let front = rw (c.as_bytes.ensures.value ∙ c.deref.ensures.0) at c.write_whole.ensures.front in
    let rest = edges_text (drawn_edges c.args.vertices c.loop-drawn.draws.state (c.args.edges - c.loop-drawn._drawn)) in (
      whole.0 ++ take front.0 piece,
      drop front.0 piece ++ rest,
      Appends-trans _ _ _ whole.0 (take front.0 piece) whole.1 front.2,
      sym whole.2 ∙ (ap (λ (l : List ℕ). (whole.0 ++ l) ++ rest) (sym (take-append-drop front.0 piece))
          ∙ (ap (λ (l : List ℕ). l ++ rest) (sym (append_assoc whole.0 (take front.0 piece) (drop front.0 piece))) ∙ append_assoc (whole.0 ++ take front.0 piece) (drop front.0 piece) rest)),
    )
