use Rattle.std.proofs.Common.{◌≡◌, ◌≢◌, ℕ, ◌+◌, ◌-◌, ◌<◌, ◌≤◌, Bool, cond, eqb, List, [], ◌∷◌, ◌++◌, length, get_or, replicate, slice_index, set, take, drop, refl, sym, ap, subst, ◌∙◌, inl, inr, arith, append-nil, length-set}
use Rattle.std.specs.Prelude.{All, Contains, count_by}
use Rattle.std.proofs.lemmas.Bool.{cases_Bool, cases_eq, cases_lt, cond-false, cond-true, eq-eqb, eqb-false, eqb-true, ne_eqb}
use borrow.Rule.Slice.PartMut.{post_of, put_mid}
use Rattle.std.proofs.Math.Seq.{take-length}
use Rattle.std.proofs.lemmas.List.{drop_all, drop_at, length-take-le, get_or-drop, get_or-take, length-drop, take-append-drop, get_or-replicate, length-replicate, get_or-set_same, get_or-set_other, get_or_push, get_or_append_left, get_or_default, length_push, get_or_past}
use Rattle.std.proofs.lemmas.List.Elements.{All-more, All-push, All-weaker, Contains-push, Contains-append_left}
use Rattle.std.proofs.lemmas.List.Sums.{sum_by-set}
use Rattle.std.proofs.lemmas.List.Sorted.{All-permutation, Contains-permutation, IsPermutation-append_right, length_permutation}
use Rattle.std.specs.List.Sorted.{IsPermutation}
use Rattle.levels_engine.specs.Marks.{IsMarked, IsMarking, Marking, MarksMore, Reorders, level_of, marked}
use Rattle.levels_engine.specs.declared.plain_levels.TheConstants.{NOT_REACHED}

-- at first no vertex has a level
pub level_of-replicate : (vertices vertex : ℕ) → level_of (replicate vertices NOT_REACHED) vertex ≡ NOT_REACHED
level_of-replicate vertices vertex = elim (cases_lt vertex vertices) [
  | inl within ↦ get_or-replicate vertices vertex NOT_REACHED NOT_REACHED within
  | inr past ↦ get_or_past (replicate vertices NOT_REACHED) vertex NOT_REACHED (omega (arith, length-replicate vertices NOT_REACHED))
]

-- a level that is set
module _ (levels : List ℕ) (vertex level : ℕ) where
  pub level_of-set_same : vertex < length levels → level_of (set levels vertex level) vertex ≡ level
  level_of-set_same within = get_or-set_same levels vertex level NOT_REACHED within

  pub level_of-set_other : (other : ℕ) → other ≢ vertex → level_of (set levels vertex level) other ≡ level_of levels other
  level_of-set_other other apart = get_or-set_other levels vertex other level NOT_REACHED apart

-- A marking in which a vertex gets its level.
module _ (levels queue : List ℕ) (vertex level : ℕ) (within : vertex < length levels) (high : level ≢ NOT_REACHED) where
  here : level_of (set levels vertex level) vertex ≡ level
  here = level_of-set_same levels vertex level within

  IsMarked-set : (other : ℕ) → IsMarked levels other → IsMarked (set levels vertex level) other
  IsMarked-set other h = elim (cases_eq other vertex) [
    | inl same ↦ λ e. high (sym here ∙ ap (λ (v : ℕ). level_of (set levels vertex level) v) (sym same) ∙ e)
    | inr apart ↦ λ e. h (sym (level_of-set_other levels vertex level other apart) ∙ e)
  ]

  module _ (old : IsMarking levels queue) (none : level_of levels vertex ≡ NOT_REACHED) where
    counted : length (queue ++ vertex ∷ []) + count_by (λ n. eqb n NOT_REACHED) (set levels vertex level) ≡ length (set levels vertex level)
    counted =
        let is_none : ℕ → ℕ = λ n. cond (eqb n NOT_REACHED) 1 0 in
        let change = sum_by-set is_none levels vertex level NOT_REACHED within in
        let before : is_none (level_of levels vertex) ≡ 1 = ap (λ (b : Bool). cond b 1 0) (eq-eqb _ _ none) in
        let after : is_none level ≡ 0 = ap (λ (b : Bool). cond b 1 0) (ne_eqb level NOT_REACHED high) in
        omega (arith, old.counted, change, before, after, length_push queue vertex, length-set levels vertex level)

    -- a vertex that had no level gets one, and goes to the end of the queue
    pub IsMarking-set : IsMarking (set levels vertex level) (queue ++ vertex ∷ [])
    IsMarking-set = record {
      marked = All-push (IsMarked (set levels vertex level)) queue vertex
          (All-weaker (IsMarked levels) (IsMarked (set levels vertex level)) IsMarked-set queue old.marked)
          (λ e. high (sym here ∙ e));
      queued = λ other h. elim (cases_eq other vertex) [
        | inl same ↦ subst (Contains (queue ++ vertex ∷ [])) (sym same) (Contains-push queue vertex)
        | inr apart ↦ Contains-append_left queue (vertex ∷ []) other (old.queued other (λ e. h (level_of-set_other levels vertex level other apart ∙ e)))
      ];
      counted = counted;
    }

-- nothing changes
pub MarksMore-refl : (level : ℕ) (IsNear : ℕ → Type 0) (marking : Marking) → MarksMore level IsNear marking marking
MarksMore-refl level IsNear marking = record {
  count = refl;
  kept = λ vertex h. refl;
  gained = λ vertex h. inl h;
  longer = omega arith;
  front = λ place before. refl;
  back = λ place after before. absurd (omega arith);
}

-- a mark stays
pub IsMarked-more : (level : ℕ) (IsNear : ℕ → Type 0) (old new : Marking) → MarksMore level IsNear old new → (vertex : ℕ) → IsMarked old.levels vertex → IsMarked new.levels vertex
IsMarked-more level IsNear old new more vertex h = λ e. h (sym (more.kept vertex h) ∙ e)

-- more vertices are near
pub MarksMore-weaker : (level : ℕ) (IsNear IsNearby : ℕ → Type 0) (old new : Marking) → ((vertex : ℕ) → IsNear vertex → IsNearby vertex) → MarksMore level IsNear old new → MarksMore level IsNearby old new
MarksMore-weaker level IsNear IsNearby old new wider more = record {
  count = more.count;
  kept = more.kept;
  gained = λ vertex h. elim (more.gained vertex h) [
    | inl before ↦ inl before
    | inr now ↦ inr (now.0, wider vertex now.1)
  ];
  longer = more.longer;
  front = more.front;
  back = more.back;
}

-- one change after another
pub MarksMore-trans : (level : ℕ) (IsNear : ℕ → Type 0) (old mid new : Marking) → level ≢ NOT_REACHED → MarksMore level IsNear old mid → MarksMore level IsNear mid new → MarksMore level IsNear old new
MarksMore-trans level IsNear old mid new high first then = record {
  count = then.count ∙ first.count;
  kept = λ vertex h. then.kept vertex (IsMarked-more level IsNear old mid first vertex h) ∙ first.kept vertex h;
  gained = λ vertex h. elim (then.gained vertex h) [
    | inl before ↦ elim (first.gained vertex before) [
      | inl long_before ↦ inl long_before
      | inr now ↦ inr (then.kept vertex before ∙ now.0, now.1)
    ]
    | inr now ↦ inr now
  ];
  longer = omega (arith, first.longer, then.longer);
  front = λ place before. then.front place (omega (arith, first.longer)) ∙ first.front place before;
  back = λ place after before. elim (cases_lt place (length mid.queue)) [
    | inl early ↦
        let vertex = slice_index mid.queue place in
        let there : level_of mid.levels vertex ≡ level = first.back place after early in
        ap (λ (v : ℕ). level_of new.levels v) (then.front place early) ∙ then.kept vertex (λ e. high (sym there ∙ e)) ∙ there
    | inr late ↦ then.back place late before
  ];
}

-- What `marked` makes of a marking.
module _ (marking : Marking) (vertex level : ℕ) (within : vertex < length marking.levels) (high : level ≢ NOT_REACHED) where
  MarksMore-set : (IsNear : ℕ → Type 0) → IsNear vertex → level_of marking.levels vertex ≡ NOT_REACHED → MarksMore level IsNear marking (record { levels = set marking.levels vertex level; queue = marking.queue ++ vertex ∷ [] })
  MarksMore-set IsNear near none = record {
    count = length-set marking.levels vertex level;
    kept = λ other h. level_of-set_other marking.levels vertex level other (λ e. h (ap (level_of marking.levels) e ∙ none));
    gained = λ other h. elim (cases_eq other vertex) [
      | inl same ↦ inr (ap (level_of (set marking.levels vertex level)) same ∙ level_of-set_same marking.levels vertex level within, subst IsNear (sym same) near)
      | inr apart ↦ inl (λ e. h (level_of-set_other marking.levels vertex level other apart ∙ e))
    ];
    longer = omega (arith, length_push marking.queue vertex);
    front = λ place before. get_or_append_left marking.queue (vertex ∷ []) 0 place before;
    back = λ place after before.
        let at : length marking.queue ≡ place = omega (arith, length_push marking.queue vertex) in
        ap (level_of (set marking.levels vertex level)) (get_or_push marking.queue vertex 0 place at) ∙ level_of-set_same marking.levels vertex level within;
  }

  -- a vertex gets a level, or has one
  pub MarksMore-marked : (IsNear : ℕ → Type 0) → IsNear vertex → MarksMore level IsNear marking (marked marking vertex level)
  MarksMore-marked IsNear near = elim (cases_Bool (eqb (level_of marking.levels vertex) NOT_REACHED)) [
    | inl none ↦ subst (MarksMore level IsNear marking) (sym (cond-true _ _ _ none)) (MarksMore-set IsNear near (eqb-true _ _ none))
    | inr some ↦ subst (MarksMore level IsNear marking) (sym (cond-false _ _ _ some)) (MarksMore-refl level IsNear marking)
  ]

  -- so it has one afterwards
  pub IsMarked-marked : IsMarked (marked marking vertex level).levels vertex
  IsMarked-marked = elim (cases_Bool (eqb (level_of marking.levels vertex) NOT_REACHED)) [
    | inl none ↦ subst (λ (m : Marking). IsMarked m.levels vertex) (sym (cond-true _ _ _ none)) (λ e. high (sym (level_of-set_same marking.levels vertex level within) ∙ e))
    | inr some ↦ subst (λ (m : Marking). IsMarked m.levels vertex) (sym (cond-false _ _ _ some)) (eqb-false _ _ some)
  ]

-- vertices that are named in a list, so far as they are marked, and one more
pub marks_more : {X : Type 0} (vertex_of : X → ℕ) (IsNear : ℕ → Type 0) (xs : List X) (place level : ℕ) (x : X) (old mid new : Marking) → level ≢ NOT_REACHED → place < length xs → All (λ x. vertex_of x < length old.levels) xs → IsNear (vertex_of (get_or xs place x)) → MarksMore level IsNear old mid → All (λ x. IsMarked mid.levels (vertex_of x)) (take place xs) → new ≡ marked mid (vertex_of (get_or xs place x)) level → MarksMore level IsNear old new × All (λ x. IsMarked new.levels (vertex_of x)) (take (place + 1) xs)
marks_more {X} vertex_of IsNear xs place level x old mid new high within inside near more all is =
    let target = vertex_of (get_or xs place x) in
    let below : target < length mid.levels = omega (arith, inside place x within, more.count) in
    let step : MarksMore level IsNear mid new = subst (MarksMore level IsNear mid) (sym is) (MarksMore-marked mid target level below high IsNear near) in
    let AreMarked : Marking → X → Type 0 = λ m x. IsMarked m.levels (vertex_of x) in
    let last : AreMarked new (get_or xs place x) = subst (λ (m : Marking). IsMarked m.levels target) (sym is) (IsMarked-marked mid target level below high) in (
      MarksMore-trans level IsNear old mid new high more step,
      All-more (AreMarked new) xs place x within
          (All-weaker (AreMarked mid) (AreMarked new) (λ x. IsMarked-more level IsNear mid new step (vertex_of x)) (take place xs) all) last,
    )

-- what stands from a place on after it was sorted there
pub IsPermutation-tail : (xs ys : List ℕ) (begin : ℕ) → begin ≤ length xs → IsPermutation (take (length xs - begin) (drop begin xs)) ys → IsPermutation (drop begin xs) (drop begin (put_mid begin (length xs - begin) xs ys))
IsPermutation-tail xs ys begin within moved =
    let count = length-drop begin xs in
    let whole : take (length xs - begin) (drop begin xs) ≡ drop begin xs = rw (sym count) (take-length (drop begin xs)) in
    let none : post_of begin (length xs - begin) xs ≡ [] = drop_all (length xs - begin) (drop begin xs) (omega (arith, count)) in
    let after : drop begin (put_mid begin (length xs - begin) xs ys) ≡ ys = drop_at (take begin xs) (ys ++ post_of begin (length xs - begin) xs) begin (length-take-le begin xs within) ∙ (ap (λ (zs : List ℕ). ys ++ zs) none ∙ append-nil ys) in
    subst (λ (zs : List ℕ). IsPermutation (drop begin xs) zs) (sym after) (subst (λ (zs : List ℕ). IsPermutation zs ys) whole moved)

-- another order of the queue
module _ (begin : ℕ) (old new : Marking) (again : Reorders begin old new) where
  pub IsPermutation-reordered : IsPermutation old.queue new.queue
  IsPermutation-reordered =
      subst (λ (xs : List ℕ). IsPermutation xs new.queue) (take-append-drop begin old.queue)
      (subst (λ (ys : List ℕ). IsPermutation (take begin old.queue ++ drop begin old.queue) ys) (ap (λ (front : List ℕ). front ++ drop begin new.queue) (sym again.front) ∙ take-append-drop begin new.queue)
      (IsPermutation-append_right (take begin old.queue) (drop begin old.queue) (drop begin new.queue) again.rest))

  pub IsMarking-reordered : IsMarking old.levels old.queue → IsMarking new.levels new.queue
  IsMarking-reordered is =
      let moved = IsPermutation-reordered in
      subst (λ (levels : List ℕ). IsMarking levels new.queue) (sym again.levels) (record {
        marked = All-permutation (IsMarked old.levels) old.queue new.queue moved is.marked;
        queued = λ vertex h. Contains-permutation old.queue new.queue vertex moved (is.queued vertex h);
        counted = omega (arith, is.counted, length_permutation old.queue new.queue moved);
      })

  -- a place before stays as it was
  pub slice_index-reordered : (place : ℕ) → place < begin → slice_index new.queue place ≡ slice_index old.queue place
  slice_index-reordered place before = sym (get_or-take begin new.queue place 0 before) ∙ (ap (λ (front : List ℕ). slice_index front place) again.front ∙ get_or-take begin old.queue place 0 before)

  -- what holds of each vertex from there on holds of each after
  pub behind-reordered : (P : ℕ → Type 0) → ((place : ℕ) → begin ≤ place → place < length old.queue → P (slice_index old.queue place)) → (place : ℕ) → begin ≤ place → place < length new.queue → P (slice_index new.queue place)
  behind-reordered P each place from below =
      let all : All P (drop begin old.queue) = λ k d within. subst P (get_or_default old.queue (begin + k) 0 d (omega (arith, within, length-drop begin old.queue)) ∙ sym (get_or-drop begin old.queue k d)) (each (begin + k) (omega arith) (omega (arith, within, length-drop begin old.queue))) in
      let moved = All-permutation P (drop begin old.queue) (drop begin new.queue) again.rest all in
      let here : begin + (place - begin) ≡ place = omega arith in
      subst P (get_or-drop begin new.queue (place - begin) 0 ∙ ap (slice_index new.queue) here) (moved (place - begin) 0 (omega (arith, length-drop begin new.queue)))
