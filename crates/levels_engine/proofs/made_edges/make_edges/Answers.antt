use Rattle.std.proofs.Common.{subst, sym, ap, ◌∙◌}
use Rattle.std.proofs.lemmas.List.Elements.{All-push}
use Rattle.edge_text.specs.Edges.{HasIds, HaveIds}
use Rattle.levels_engine.specs.Draws.{Drawing}
use Rattle.levels_engine.proofs.Drawn.{drawn_more}
use Rattle.levels_engine.proofs.made_edges.make_edges.Goals as goal

pub loop-drawn-preserved : goal.loop-drawn-preserved
loop-drawn-preserved c =
    let before = c.loop-drawn.list.items in
    let edge = c.next_edge.result in
    let moved = c.next_edge.ensures.state in
    let longer = c.in_ok-push.ensures.items in
    record {
      vertices = ap (λ (d : Drawing). d.vertices) moved ∙ c.loop-drawn.invariant.vertices;
      whole = drawn_more before c.push.new.self.items edge c.loop-drawn.draws c.next_edge.new.self c.args.vertices c.args.edges c.loop-drawn._drawn _
          c.loop-drawn-test.true c.loop-drawn.invariant.vertices longer c.next_edge.ensures.edge moved c.loop-drawn.invariant.whole;
      ids = subst HaveIds (sym longer) (All-push HasIds before edge c.loop-drawn.invariant.ids c.next_edge.ensures.ids);
    }
