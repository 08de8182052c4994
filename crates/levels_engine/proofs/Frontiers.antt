use Rattle.std.proofs.Common.{◌≡◌, ◌≢◌, ℕ, Bool, eqb, ◌+◌, ◌<◌, ◌≤◌, List, [], ◌∷◌, ◌++◌, length, replicate, slice_index, sym, ap, subst, ◌∙◌, inl, inr, ⊎_elim, arith}
use Rattle.std.specs.Prelude.{All, Contains, MatchBool, ◌↔◌}
use Rattle.std.proofs.lemmas.Bool.{cases_Bool, cases_lt, eqb-false, eqb-true}
use Rattle.std.proofs.lemmas.List.{get_or_default}
use Rattle.std.proofs.lemmas.List.Elements.{All-contains}
use Rattle.std.proofs.lemmas.List.Sorted.{length_permutation}
use Rattle.levels_engine.specs.Levels.{HasNoLevel, IsLevel, IsLevelNumber}
use Rattle.levels_engine.specs.Marks.{IsMarked, IsNextTo, Marking, MarksMore, Reorders, level_of, marked}
use Rattle.levels_engine.specs.Walks.{IsWalk}
use Rattle.levels_engine.specs.declared.plain_levels.TheConstants.{NOT_REACHED}
use Rattle.levels_engine.proofs.Marking.{IsMarked-more, IsPermutation-reordered, behind-reordered, slice_index-reordered, level_of-replicate, MarksMore-trans, MarksMore-weaker}
use Rattle.levels_engine.proofs.Walks.{IsWalk-keeps, IsWalk-none, IsWalk-push}

-- The search has come to a level, whose vertices stand in the queue from a place on.
pub record IsSearched (Leads : ℕ → ℕ → Type 0) (sources : List ℕ) (level begin : ℕ) (marking : Marking) : Type 0 where
  pub start : (source : ℕ) → Contains sources source → level_of marking.levels source ≡ 0
  pub marked : (place : ℕ) → place < length marking.queue → IsMarked marking.levels (slice_index marking.queue place)
  pub walks : (vertex : ℕ) → IsMarked marking.levels vertex → (walk : List ℕ) × IsWalk Leads sources vertex (level_of marking.levels vertex) walk
  pub highest : (vertex : ℕ) → IsMarked marking.levels vertex → level_of marking.levels vertex ≤ level
  pub frontier : (place : ℕ) → begin ≤ place → place < length marking.queue → level_of marking.levels (slice_index marking.queue place) ≡ level
  pub settled : (place to : ℕ) → place < begin → Leads (slice_index marking.queue place) to → IsMarked marking.levels to × (level_of marking.levels to ≤ level_of marking.levels (slice_index marking.queue place) + 1)
  pub depth : level ≤ begin
  pub within : begin ≤ length marking.queue

-- A frontier so far as it is expanded, and one more of its vertices, whose row has what it leads to.
pub frontier_more : (Leads : ℕ → ℕ → Type 0) (row : List ℕ) (begin place end level vertex : ℕ) (old mid new : Marking) → level ≢ NOT_REACHED → begin ≤ place → place < end → end ≤ length old.queue → vertex ≡ slice_index mid.queue place → ((to : ℕ) → Contains row to ↔ Leads vertex to) → MarksMore level (IsNextTo Leads old.queue begin end) old mid → ((to : ℕ) → IsNextTo Leads old.queue begin place to → IsMarked mid.levels to) → MarksMore level (Contains row) mid new → All (IsMarked new.levels) row → MarksMore level (IsNextTo Leads old.queue begin end) old new × ((to : ℕ) → IsNextTo Leads old.queue begin (place + 1) to → IsMarked new.levels to)
frontier_more Leads row begin place end level vertex old mid new high from below within read is more all step targets =
    let at : vertex ≡ slice_index old.queue place = read ∙ more.front place (omega arith) in
    let IsNear : ℕ → Type 0 = IsNextTo Leads old.queue begin end in
    let near : (to : ℕ) → Contains row to → IsNear to = λ to h. (place, from, below, subst (λ (v : ℕ). Leads v to) at ((is to).0 h)) in (
      MarksMore-trans level IsNear old mid new high more (MarksMore-weaker level (Contains row) IsNear mid new near step),
      λ to next. elim (cases_lt next.0 place) [
        | inl earlier ↦ IsMarked-more level (Contains row) mid new step to (all to (next.0, next.1, earlier, next.3))
        | inr later ↦
            let here : next.0 ≡ place = omega (arith, next.2) in
            let edge : Leads vertex to = subst (λ (v : ℕ). Leads v to) (ap (slice_index old.queue) here ∙ sym at) next.3 in
            All-contains (IsMarked new.levels) row to targets ((is to).1 edge)
      ],
    )

-- before the first frontier is expanded the sources alone have a level
pub IsSearched-start : (Leads : ℕ → ℕ → Type 0) (sources : List ℕ) (vertices : ℕ) (empty new : Marking) → empty.levels ≡ replicate vertices NOT_REACHED → empty.queue ≡ [] → MarksMore 0 (Contains sources) empty new → All (IsMarked new.levels) sources → IsSearched Leads sources 0 0 new
IsSearched-start Leads sources vertices empty new levels queue more all =
    let unmarked : (vertex : ℕ) → IsMarked empty.levels vertex → ⊥ = λ vertex h. h (ap (λ (ls : List ℕ). level_of ls vertex) levels ∙ level_of-replicate vertices vertex) in
    let none : length empty.queue ≡ 0 = ap length queue in
    let now : (vertex : ℕ) → IsMarked new.levels vertex → (level_of new.levels vertex ≡ 0) × Contains sources vertex = λ vertex h. ⊎_elim (λ before. absurd (unmarked vertex before)) (λ gained. gained) (more.gained vertex h) in
    record {
      start = λ source among. (now source (All-contains (IsMarked new.levels) sources source all among)).0;
      marked = λ place below e. absurd (omega (arith, none, more.back place (omega (arith, none)) below, e));
      walks = λ vertex h. (
        vertex ∷ [],
        subst (λ (n : ℕ). IsWalk Leads sources vertex n (vertex ∷ [])) (sym (now vertex h).0) (IsWalk-none Leads sources vertex (now vertex h).1),
      );
      highest = λ vertex h. omega (arith, (now vertex h).0);
      frontier = λ place from below. more.back place (omega (arith, none)) below;
      settled = λ place to before edge. absurd (omega arith);
      depth = omega arith;
      within = omega arith;
    }

-- the frontier in another order
pub IsSearched-reordered : (Leads : ℕ → ℕ → Type 0) (sources : List ℕ) (level begin : ℕ) (old new : Marking) → Reorders begin old new → IsSearched Leads sources level begin old → IsSearched Leads sources level begin new
IsSearched-reordered Leads sources level begin old new again is =
    let P : List ℕ → Type 0 = λ levels. IsSearched Leads sources level begin (record { levels = levels; queue = new.queue }) in
    let same_length : length new.queue ≡ length old.queue = length_permutation old.queue new.queue (IsPermutation-reordered begin old new again) in
    subst P (sym again.levels) (record {
      start = is.start;
      marked = λ place below. elim (cases_lt place begin) [
        | inl before ↦ subst (IsMarked old.levels) (sym (slice_index-reordered begin old new again place before)) (is.marked place (omega (arith, same_length)))
        | inr behind ↦ behind-reordered begin old new again (IsMarked old.levels) (λ k from within. is.marked k within) place behind below
      ];
      walks = is.walks;
      highest = is.highest;
      frontier = λ place from below. behind-reordered begin old new again (λ (v : ℕ). level_of old.levels v ≡ level) is.frontier place from below;
      settled = λ place to before edge.
          let Q : ℕ → Type 0 = λ v. Leads v to → IsMarked old.levels to × (level_of old.levels to ≤ level_of old.levels v + 1) in
          subst Q (sym (slice_index-reordered begin old new again place before)) (is.settled place to before) edge;
      depth = is.depth;
      within = omega (arith, is.within, same_length);
    })

-- The next frontier.
module _ (Leads : ℕ → ℕ → Type 0) (sources : List ℕ) (level begin end : ℕ) (old new : Marking) (high : level + 1 ≢ NOT_REACHED) (left : begin < end) (whole : end ≡ length old.queue) (is : IsSearched Leads sources level begin old) (more : MarksMore (level + 1) (IsNextTo Leads old.queue begin end) old new) (all : (vertex : ℕ) → IsNextTo Leads old.queue begin end vertex → IsMarked new.levels vertex) where
  source_marked : (source : ℕ) → Contains sources source → IsMarked old.levels source
  source_marked source among = λ e. absurd (omega (arith, is.start source among, e))

  -- an old place has its vertex and its level
  kept_at : (place : ℕ) → place < length old.queue → level_of new.levels (slice_index new.queue place) ≡ level_of old.levels (slice_index old.queue place)
  kept_at place before = ap (level_of new.levels) (more.front place before) ∙ more.kept (slice_index old.queue place) (is.marked place before)

  still_marked : (place : ℕ) → place < length new.queue → IsMarked new.levels (slice_index new.queue place)
  still_marked place below = elim (cases_lt place (length old.queue)) [
    | inl before ↦ λ e. is.marked place before (sym (kept_at place before) ∙ e)
    | inr after ↦ λ e. high (sym (more.back place after below) ∙ e)
  ]

  walks : (vertex : ℕ) → IsMarked new.levels vertex → (walk : List ℕ) × IsWalk Leads sources vertex (level_of new.levels vertex) walk
  walks vertex h = elim (more.gained vertex h) [
    | inl before ↦ subst (λ (n : ℕ). (walk : List ℕ) × IsWalk Leads sources vertex n walk) (sym (more.kept vertex before)) (is.walks vertex before)
    | inr now ↦
        let place = now.1.0 in
        let from = slice_index old.queue place in
        let within : place < length old.queue = omega (arith, now.1.2) in
        let walk = is.walks from (is.marked place within) in
        let one_more : level_of old.levels from + 1 ≡ level_of new.levels vertex = omega (arith, is.frontier place now.1.1 within, now.0) in
        (walk.0 ++ vertex ∷ [], subst (λ (n : ℕ). IsWalk Leads sources vertex n (walk.0 ++ vertex ∷ [])) one_more (IsWalk-push Leads sources from (level_of old.levels from) vertex walk.0 walk.1 now.1.3))
  ]

  highest : (vertex : ℕ) → IsMarked new.levels vertex → level_of new.levels vertex ≤ level + 1
  highest vertex h = elim (more.gained vertex h) [
    | inl before ↦ omega (arith, more.kept vertex before, is.highest vertex before)
    | inr now ↦ omega (arith, now.0)
  ]

  settled : (place to : ℕ) → place < end → Leads (slice_index new.queue place) to → IsMarked new.levels to × (level_of new.levels to ≤ level_of new.levels (slice_index new.queue place) + 1)
  settled place to below edge =
      let before : place < length old.queue = omega arith in
      let there : Leads (slice_index old.queue place) to = subst (λ (v : ℕ). Leads v to) (more.front place before) edge in
      elim (cases_lt place begin) [
        | inl early ↦
            let old_settled = is.settled place to early there in (
              λ e. old_settled.0 (sym (more.kept to old_settled.0) ∙ e),
              omega (arith, old_settled.1, more.kept to old_settled.0, kept_at place before),
            )
        | inr late ↦
            let to_marked = all to (place, late, below, there) in
            (to_marked, omega (arith, highest to to_marked, kept_at place before, is.frontier place late before))
      ]

  pub IsSearched-next : IsSearched Leads sources (level + 1) end new
  IsSearched-next = record {
    start = λ source among. more.kept source (source_marked source among) ∙ is.start source among;
    marked = still_marked;
    walks = walks;
    highest = highest;
    frontier = λ place from below. more.back place (omega arith) below;
    settled = settled;
    depth = omega (arith, is.depth);
    within = omega (arith, more.longer);
  }

-- When no frontier is left, the levels are found: each step of a walk takes its level at most one further.
module _ (Leads : ℕ → ℕ → Type 0) (sources : List ℕ) (level begin : ℕ) (marking : Marking) (none : length marking.queue ≤ begin) (is : IsSearched Leads sources level begin marking) (queued : (vertex : ℕ) → IsMarked marking.levels vertex → Contains marking.queue vertex) where
  Within : ℕ → ℕ → Type 0
  Within vertex steps = IsMarked marking.levels vertex × (level_of marking.levels vertex ≤ steps)

  step : (from to steps : ℕ) → Within from steps → Leads from to → Within to (steps + 1)
  unfolding Within
  step from to steps h edge =
      let place = queued from h.0 in
      let here : slice_index marking.queue place.0 ≡ from = get_or_default marking.queue place.0 0 from place.1 ∙ place.2 in
      let settled = is.settled place.0 to (omega (arith, place.1)) (subst (λ (v : ℕ). Leads v to) (sym here) edge) in
      let level_here = ap (level_of marking.levels) here in
      (settled.0, omega (arith, settled.1, level_here, h.1))

  within : (vertex steps : ℕ) (walk : List ℕ) → IsWalk Leads sources vertex steps walk → Within vertex steps
  unfolding Within
  within vertex steps walk walks = IsWalk-keeps Leads sources Within step vertex steps walk (λ source among. (λ e. absurd (omega (arith, is.start source among, e)), omega (arith, is.start source among))) walks

  pub IsSearched-done : (vertex : ℕ) → IsLevelNumber Leads sources vertex (level_of marking.levels vertex)
  unfolding Within
  IsSearched-done vertex =
      let number = level_of marking.levels vertex in
      let Says : Bool → Type 0 = λ b. MatchBool b (HasNoLevel Leads sources vertex) (IsLevel Leads sources vertex number) in
      elim (cases_Bool (eqb number NOT_REACHED)) [
        | inl unmarked ↦ subst Says (sym unmarked) (λ steps walk walks. (within vertex steps walk walks).0 (eqb-true number NOT_REACHED unmarked))
        | inr marked ↦ subst Says (sym marked) (record {
          reached = is.walks vertex (eqb-false number NOT_REACHED marked);
          least = λ steps walk walks. (within vertex steps walk walks).1;
        })
      ]
