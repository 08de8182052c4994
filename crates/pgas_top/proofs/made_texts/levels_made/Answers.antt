use Rattle.std.proofs.Common.{ap, ◌∙◌}
use Rattle.std.proofs.lemmas.Result.{err_from_is_err_and}
use Rattle.edge_text.specs.Edges.{HasEdge, plain_edges}
use Rattle.pgas_top.proofs.MadeTexts.{levels_made, levels_refused}
use Rattle.pgas_top.proofs.ReachedFrom.{are_reached}
use Rattle.pgas_top.specs.LevelsText.{levels_text, reached_from}
use Rattle.pgas_top.proofs.made_texts.levels_made.Goals as goal

pub returns-in_err-edges : goal.returns-in_err-edges
returns-in_err-edges g c =
    let p = err_from_is_err_and c.from_residual.result c.from_residual.ensures.1 in
    rw (p.1) (levels_refused c.args.sources.now _ c.in_err-edges.field-0.0 p.0 c.in_err-edges.ensures.reading c.in_err-edges.ensures.accepted p.2)

pub returns : goal.returns
returns g c =
    let list = c.in_ok-edges.edges in
    let numbers = c.in_ok-levels.levels.items in
    let text = c.in_ok-text.ensures ∙ ap (λ ns. levels_text (reached_from 0 ns)) c.as_slice.ensures.value in
    levels_made c.args.sources.now _ list c.in_ok-text.text c.in_ok-edges.ensures.reading (reached_from 0 numbers, are_reached (HasEdge (plain_edges list)) c.args.sources.now numbers c.in_ok-levels.ensures.levels, text)
