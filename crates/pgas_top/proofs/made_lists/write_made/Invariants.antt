use Rattle.std.proofs.Common.{◌≡◌, ◌++◌, ◌-◌, List, ℕ}
use Rattle.std.specs.Io.KnownBytes.{Appends}
use Rattle.edge_text.specs.Written.{edges_text}
use Rattle.levels_engine.specs.Draws.{drawn_edges, first_state}
use Rattle.pgas_top.proofs.made_lists.write_made.Given as goal

-- what was written, the piece, and the lines of the edges that are still to be drawn are the whole text
abbrev pub invariant-loop-drawn : goal.invariant-loop-drawn
invariant-loop-drawn g l = record {
  vertices : l.draws.vertices ≡ l.vertices;
  whole : (written : List ℕ) × Appends (g.K.Sink.taken l.fn.sink) (g.K.Sink.taken l.sink) written
      × ((written ++ l.piece.bytes) ++ edges_text (drawn_edges l.vertices l.draws.state (l.edges - l._drawn)) ≡ edges_text (drawn_edges l.vertices (first_state l.seed) l.edges));
  faults : g.K.Sink.faults l.sink ≡ g.K.Sink.faults l.fn.sink;
  refusals : g.K.Sink.refusals l.sink ≡ g.K.Sink.refusals l.fn.sink;
}
