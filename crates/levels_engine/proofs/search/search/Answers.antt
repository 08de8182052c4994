use Rattle.std.proofs.Common.{All, ℕ, ◌≡◌, ◌≢◌, ◌+◌, ◌<◌, ◌≤◌, ◌∙◌, List, length, replicate, ap, arith, subst, sym}
use Rattle.std.proofs.lemmas.List.{length-replicate}
use Rattle.graph_store.specs.Rows.{HasTarget}
use Rattle.levels_engine.specs.Levels.{IsLevelNumber}
use Rattle.levels_engine.specs.Marks.{level_of}
use Rattle.levels_engine.specs.declared.plain_levels.TheConstants.{NOT_REACHED}
use Rattle.levels_engine.proofs.Frontiers.{IsSearched-done, IsSearched-next, IsSearched-reordered, IsSearched-start}
use Rattle.levels_engine.proofs.Marking.{IsPermutation-reordered}
use Rattle.std.proofs.lemmas.List.Sorted.{length_permutation}
use Rattle.levels_engine.proofs.search.search.Goals as goal

pub loop-begin-init : goal.loop-begin-init
loop-begin-init c =
    let vertices = length c.args.rows.now in
    let empty = c.in_ok-marks.marks in
    let levels : empty.levels ≡ replicate vertices NOT_REACHED = rw c.count.ensures at c.in_ok-marks.ensures.levels in
    let more = c.in_ok-mark_all.ensures.more in (
      more.count ∙ (ap length levels ∙ length-replicate vertices NOT_REACHED),
      IsSearched-start (HasTarget c.args.rows.now) c.args.sources.now vertices empty c.mark_all.new.self levels c.in_ok-marks.ensures.queue more c.in_ok-mark_all.ensures.all,
    )

pub expand-requires-clause-frontier : goal.expand-requires-clause-frontier
expand-requires-clause-frontier c =
    omega (arith, c.count-end.ensures.count, length_permutation c.loop-begin.marks.queue c.sort_from.new.self.queue (IsPermutation-reordered c.loop-begin.begin c.loop-begin.marks c.sort_from.new.self c.sort_from.ensures))

pub loop-begin-preserved : goal.loop-begin-preserved
loop-begin-preserved c =
    let Leads : ℕ → ℕ → Type 0 = HasTarget c.args.rows.now in
    let again = c.sort_from.ensures in
    let was = IsSearched-reordered Leads c.args.sources.now c.loop-begin.level c.loop-begin.begin c.loop-begin.marks c.sort_from.new.self again c.loop-begin.invariant.1 in
    let same_length = length_permutation c.loop-begin.marks.queue c.sort_from.new.self.queue (IsPermutation-reordered c.loop-begin.begin c.loop-begin.marks c.sort_from.new.self again) in
    let left : c.loop-begin.begin < c.count-end.result = omega arith in
    let high : c.loop-begin.level + 1 ≢ NOT_REACHED = λ e. absurd (omega (arith, was.depth)) in (
      c.in_ok-expand.ensures.more.count ∙ (ap length again.levels ∙ c.loop-begin.invariant.0),
      IsSearched-next Leads c.args.sources.now c.loop-begin.level c.loop-begin.begin c.count-end.result c.sort_from.new.self c.expand.new.marks
          high left (c.count-end.ensures.count ∙ sym same_length) was c.in_ok-expand.ensures.more c.in_ok-expand.ensures.all,
    )

pub returns-clause-levels : goal.returns-clause-levels
returns-clause-levels c =
    let Leads : ℕ → ℕ → Type 0 = HasTarget c.args.rows.now in
    let sources = c.args.sources.now in
    let empty : length c.loop-begin.marks.queue ≤ c.loop-begin.begin = omega arith in
    let AreRight : List ℕ → Type 0 = λ levels. (vertex : ℕ) → IsLevelNumber Leads sources vertex (level_of levels vertex) in
    subst AreRight (sym c.into_levels.ensures.levels)
    (IsSearched-done Leads sources c.loop-begin.level c.loop-begin.begin c.loop-begin.marks empty c.loop-begin.invariant.1 c.into_levels.ensures.queued)

pub mark_all-requires-clause-vertices : goal.mark_all-requires-clause-vertices
mark_all-requires-clause-vertices c =
    let vertices = length c.args.rows.now in
    let levels : c.in_ok-marks.marks.levels ≡ replicate vertices NOT_REACHED = rw c.count.ensures at c.in_ok-marks.ensures.levels in
    let count : vertices ≡ length c.in_ok-marks.marks.levels = sym (ap length levels ∙ length-replicate vertices NOT_REACHED) in
    subst (λ (n : ℕ). All (λ (source : ℕ). source < n) c.args.sources.now) count c.requires.sources
