use Rattle.std.proofs.Common.{◌≡◌, ◌++◌, ◌-◌}
use Rattle.edge_text.specs.Edges.{HaveIds}
use Rattle.levels_engine.specs.Draws.{drawn_edges, first_state}
use Rattle.levels_engine.proofs.made_edges.make_edges.Given as goal

-- what was drawn so far, and what is still to be drawn, are the whole
abbrev pub invariant-loop-drawn : goal.invariant-loop-drawn
invariant-loop-drawn l = record {
  vertices : l.draws.vertices ≡ l.vertices;
  whole : l.list.items ++ drawn_edges l.vertices l.draws.state (l.edges - l._drawn) ≡ drawn_edges l.vertices (first_state l.seed) l.edges;
  ids : HaveIds l.list.items;
}
