use Rattle.std.proofs.Common.{ℕ}
use Rattle.graph_store.specs.Rows.{HasTarget}
use Rattle.levels_engine.specs.Marks.{IsMarked, IsNextTo, MarksMore}
use Rattle.levels_engine.proofs.search.expand.Given as goal

abbrev pub invariant-loop-place : goal.invariant-loop-place
invariant-loop-place l =
    MarksMore l.level (IsNextTo (HasTarget l.rows) l.initial.marks.queue l.begin l.end) l.initial.marks l.marks
    × ((vertex : ℕ) → IsNextTo (HasTarget l.rows) l.initial.marks.queue l.begin l.place vertex → IsMarked l.marks.levels vertex)
