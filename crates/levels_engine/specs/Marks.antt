use Rattle.std.specs.Prelude.{◌≡◌, ◌≢◌, ℕ, ◌+◌, ◌<◌, ◌≤◌, ◌==◌, ◌⊎◌, List, [], ◌∷◌, ◌++◌, All, Contains, if◌then◌else◌, count_by, drop, length, slice_index, slice_index_or, slice_set, take}
use Rattle.std.specs.List.Sorted.{IsPermutation}
use Rattle.levels_engine.specs.declared.plain_levels.TheConstants.{NOT_REACHED}

-- the levels of vertices, and the vertices that have one, in the order in which they got it
pub record Marking : Type 0 where
  pub levels : List ℕ
  pub queue : List ℕ

-- the vertex's level, or that it has none
abbrev pub level_of : List ℕ → ℕ → ℕ
level_of levels vertex = slice_index_or levels vertex NOT_REACHED

-- the vertex has a level
abbrev pub IsMarked : List ℕ → ℕ → Type 0
IsMarked levels vertex = level_of levels vertex ≢ NOT_REACHED

-- the queue holds the vertices that have a level, each once
pub record IsMarking (levels queue : List ℕ) : Type 0 where
  pub marked : All (IsMarked levels) queue
  pub queued : (vertex : ℕ) → IsMarked levels vertex → Contains queue vertex
  pub counted : length queue + count_by (λ level. level == NOT_REACHED) levels ≡ length levels

-- the marking once the vertex has a level, this one if it had none
abbrev pub marked : Marking → ℕ → ℕ → Marking
marked marking vertex level =
    if level_of marking.levels vertex == NOT_REACHED
    then record { levels = slice_set marking.levels vertex level; queue = marking.queue ++ vertex ∷ [] }
    else marking

-- the vertices from a place of the queue on stand in another order
pub record Reorders (begin : ℕ) (old new : Marking) : Type 0 where
  pub levels : new.levels ≡ old.levels
  pub front : take begin new.queue ≡ take begin old.queue
  pub rest : IsPermutation (drop begin old.queue) (drop begin new.queue)

-- an edge leads to the vertex from this part of the queue
abbrev pub IsNextTo : (ℕ → ℕ → Type 0) → List ℕ → ℕ → ℕ → ℕ → Type 0
IsNextTo Leads queue begin end vertex =
    (place : ℕ) × (begin ≤ place) × (place < end) × Leads (slice_index queue place) vertex

-- Levels stay. Each vertex that got one is near and has this level, and they alone follow in the queue.
pub record MarksMore (level : ℕ) (IsNear : ℕ → Type 0) (old new : Marking) : Type 0 where
  pub count : length new.levels ≡ length old.levels
  pub kept : (vertex : ℕ) → IsMarked old.levels vertex → level_of new.levels vertex ≡ level_of old.levels vertex
  pub gained : (vertex : ℕ) → IsMarked new.levels vertex → IsMarked old.levels vertex ⊎ ((level_of new.levels vertex ≡ level) × IsNear vertex)
  pub longer : length old.queue ≤ length new.queue
  pub front : (place : ℕ) → place < length old.queue → slice_index new.queue place ≡ slice_index old.queue place
  pub back : (place : ℕ) → length old.queue ≤ place → place < length new.queue → level_of new.levels (slice_index new.queue place) ≡ level
