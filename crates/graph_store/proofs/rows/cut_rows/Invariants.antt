use Rattle.graph_store.specs.Pairs.{HasPair}
use Rattle.graph_store.specs.Rows.{AreRowsAlong, AreStarts, BeginsRow, rows_of}
use Rattle.std.proofs.Common.{length}
use Rattle.graph_store.proofs.rows.cut_rows.Given as goal

-- the rows of the vertices that were passed stand cut, and the next one begins at the place
abbrev pub invariant-loop-vertex : goal.invariant-loop-vertex
invariant-loop-vertex l = record {
  place : BeginsRow l.pairs l.vertex l.place;
  starts : AreStarts l.starts.items (length l.targets.items);
  rows : AreRowsAlong (HasPair l.pairs) l.first l.vertex (rows_of l.targets.items l.starts.items);
}
