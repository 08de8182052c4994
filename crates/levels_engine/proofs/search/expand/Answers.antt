use Rattle.std.proofs.Common.{ℕ, ◌↔◌, List, get_or, subst, sym, arith}
use Rattle.std.specs.Prelude.{Contains}
use Rattle.std.proofs.lemmas.List.{get_or_default}
use Rattle.graph_store.specs.Rows.{HasTarget}
use Rattle.levels_engine.proofs.Frontiers.{frontier_more}
use Rattle.levels_engine.proofs.search.expand.Goals as goal

pub mark_all-requires-clause-vertices : goal.mark_all-requires-clause-vertices
mark_all-requires-clause-vertices c = λ place d within.
    let row = c.row.result.now in
    let rows = c.args.rows.now in
    let vertex = c.vertex_at-vertex.result in
    let target = get_or row place d in
    let there : HasTarget rows vertex target = subst (λ (xs : List ℕ). Contains xs target) c.row.ensures (place, within, sym (get_or_default row place d target within)) in
    omega (arith, c.requires.targets vertex target there, c.requires.vertices, c.loop-place.invariant.0.count)

pub loop-place-preserved : goal.loop-place-preserved
loop-place-preserved c =
    let rows = c.args.rows.now in
    let row = c.row.result.now in
    let vertex = c.vertex_at-vertex.result in
    let is : (to : ℕ) → Contains row to ↔ HasTarget rows vertex to = λ to. subst (λ (xs : List ℕ). Contains xs to ↔ HasTarget rows vertex to) (sym c.row.ensures) ((λ h. h), (λ h. h)) in
    frontier_more (HasTarget rows) row c.args.begin c.loop-place.place c.args.end c.args.level vertex
    c.args.marks.now c.loop-place.marks c.mark_all.new.self c.requires.level c.loop-place.auto.place c.loop-place-test.true c.requires.frontier
    c.vertex_at-vertex.ensures.vertex is c.loop-place.invariant.0 c.loop-place.invariant.1 c.in_ok-mark_all.ensures.more c.in_ok-mark_all.ensures.all

pub returns-clause-all : goal.returns-clause-all
returns-clause-all c = λ vertex next.
    c.loop-place.invariant.1 vertex (next.0, next.1, omega arith, next.3)
