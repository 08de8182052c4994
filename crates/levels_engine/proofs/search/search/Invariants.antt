use Rattle.std.proofs.Common.{◌≡◌, ◌-◌, length}
use Rattle.graph_store.specs.Rows.{HasTarget}
use Rattle.levels_engine.proofs.Frontiers.{IsSearched}
use Rattle.levels_engine.proofs.search.search.Given as goal

abbrev pub invariant-loop-begin : goal.invariant-loop-begin
invariant-loop-begin l =
    (length l.marks.levels ≡ length l.rows) × IsSearched (HasTarget l.rows) l.sources l.level l.begin l.marks

abbrev pub decreases-loop-begin : goal.decreases-loop-begin
decreases-loop-begin l = length l.rows - l.begin
