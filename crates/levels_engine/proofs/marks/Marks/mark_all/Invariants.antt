use Rattle.std.proofs.Common.{All, take}
use Rattle.std.specs.Prelude.{Contains}
use Rattle.levels_engine.specs.Marks.{IsMarked, MarksMore}
use Rattle.levels_engine.proofs.marks.Marks.mark_all.Given as goal

abbrev pub invariant-loop-vertex : goal.invariant-loop-vertex
invariant-loop-vertex l =
    MarksMore l.level (Contains l.vertices) l.initial.self l.self
    × All (IsMarked l.self.levels) (take l.vertex-index l.vertices)
