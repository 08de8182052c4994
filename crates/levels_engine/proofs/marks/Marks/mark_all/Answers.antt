use Rattle.std.proofs.Common.{ℕ, arith, ◌≤◌, length}
use Rattle.std.specs.Prelude.{Contains}
use Rattle.std.proofs.lemmas.List.{take_all}
use Rattle.std.proofs.lemmas.List.Elements.{Contains-get_or}
use Rattle.levels_engine.proofs.Marking.{marks_more}
use Rattle.levels_engine.proofs.marks.Marks.mark_all.Goals as goal

pub loop-vertex-preserved : goal.loop-vertex-preserved
loop-vertex-preserved c =
    let vertices = c.args.vertices.now in
    let place = c.loop-vertex.vertex-index in
    let within = c.loop-vertex-test.true in
    marks_more (λ (vertex : ℕ). vertex) (Contains vertices) vertices place c.args.level 0 c.args.self.now c.loop-vertex.self c.mark.new.self c.requires.level
    within c.requires.vertices (Contains-get_or vertices place 0 within) c.loop-vertex.invariant.0 c.loop-vertex.invariant.1 c.in_ok-mark.ensures.ok

pub returns-clause-all : goal.returns-clause-all
returns-clause-all c =
    let past : length c.args.vertices.now ≤ c.loop-vertex.vertex-index = omega arith in
    rw (take_all c.loop-vertex.vertex-index c.args.vertices.now past) at c.loop-vertex.invariant.1
