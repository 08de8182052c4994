-- The rule of a deque: the history is legal and the words show what it leaves, and of each cell what its owner is about to do.
use Rattle.std.specs.Prelude.{◌≡◌, ◌≢◌, ℕ, ◌+◌, ◌*◌, ◌%◌, ◌<◌, ◌≤◌, Bool, true, false, List, [], length, slice_index, All}
use Rattle.seq_objects.specs.declared.deques.DequeCall.{DequeCall}
use Rattle.seq_objects.specs.declared.deques.DequeReply.{DequeReply}
use Rattle.seq_objects.specs.DequeSteps.{DequeState}
use Rattle.pass_table.specs.Terms.{Terms, Moment}
use Rattle.shared_deque.specs.declared.layout.Word.{Word}
use Rattle.shared_deque.specs.declared.layout.Word.TheVariants.{Ends}
use Rattle.shared_deque.specs.declared.sides.Aim.{Aim}
use Rattle.shared_deque.specs.declared.clients.Plan.{Plan}
use Rattle.shared_deque.specs.declared.clients.Stage.{Stage}
use Rattle.shared_deque.specs.declared.clients.Stage.TheVariants.{Idle, Looked, Claimed, Read, Storing, Leaving}
use Rattle.shared_deque.specs.Layout.{owner_in, value_in, size_in}
use Rattle.shared_deque.specs.Aims.{call_of, cell_of, MayGo}
use Rattle.shared_deque.specs.Counted.{DequeEntry, LeavesItems, left_of, head_from, ends_of, deque_with, Shows, PushesKept}

-- no cell is this caller's
abbrev pub HasNoCell : (ℕ → ℕ) → ℕ → ℕ → Type 0
HasNoCell owner capacity caller = (cell : ℕ) → cell < capacity → owner cell ≢ caller + 1

-- this cell is the caller's, and no other
pub record HasCell (owner : ℕ → ℕ) (capacity caller cell : ℕ) : Type 0 where
  pub within : cell < capacity
  pub named : owner cell ≡ caller + 1
  pub only : (other : ℕ) → other < capacity → owner other ≡ caller + 1 → other ≡ cell

-- A cell has an owner, a value, and the item that it has, which a push that won the ends has yet to store.
-- Its owner is one of the callers or nobody, and then its value is its item
pub record CellFits (owner value has : ℕ → ℕ) (callers cell : ℕ) : Type 0 where
  pub named : owner cell ≤ callers
  pub stored : owner cell ≡ 0 → value cell ≡ has cell

-- the items stand in the cells of the ring, from the first cell on
abbrev pub IsLaid : ℕ → ℕ → (ℕ → ℕ) → List ℕ → Type 0
IsLaid capacity head has items = (j : ℕ) → j < length items → slice_index items j ≡ has ((head + j) % capacity)

-- the history is legal, its items are kept and fit, and the ring begins within the cells
pub record IsLog (keeps : ℕ → Type 0) (capacity : ℕ) (h : List DequeEntry) : Type 0 where
  pub legal : LeavesItems capacity h (left_of capacity h)
  pub calls_kept : All (λ (e : DequeEntry). PushesKept keeps e.call) h
  pub items_kept : All keeps (left_of capacity h)
  pub short : length (left_of capacity h) ≤ capacity
  pub head_within : head_from capacity 0 h < capacity

-- the call may go on with the ends that it loaded, which one caller alone still finds there
abbrev pub IsLoaded : ℕ → ℕ → ℕ → Aim → ℕ → Type 0
IsLoaded capacity callers now aim ends = MayGo capacity ends aim × (callers ≡ 1 → ends ≡ now)

module _ (owner value has : ℕ → ℕ) (capacity callers now caller : ℕ) where
  -- what a caller has at each stage of a call
  abbrev pub IsAt : Stage → Type 0
  IsAt Idle = HasNoCell owner capacity caller
  IsAt (Looked aim ends) = HasNoCell owner capacity caller × IsLoaded capacity callers now aim ends
  IsAt (Claimed aim ends) =
      let cell = cell_of capacity ends (call_of aim) in HasCell owner capacity caller cell × IsLoaded capacity callers now aim ends × (value cell ≡ has cell)
  IsAt (Read aim ends found) =
      let cell = cell_of capacity ends (call_of aim) in HasCell owner capacity caller cell × IsLoaded capacity callers now aim ends × (value cell ≡ has cell) × (has cell ≡ found)
  IsAt (Storing cell item) = HasCell owner capacity caller cell × (has cell ≡ item)
  IsAt (Leaving cell) = HasCell owner capacity caller cell × (value cell ≡ has cell)

abbrev pub is_idle : Stage → Bool
is_idle Idle = true
is_idle stage = false

module _ {K : Type 0} where
  pub record DequeRule (keeps : K → ℕ → Type 0) (plan : Plan K) (m : Moment Unit DequeCall DequeReply Stage) : Type 0 where
    pub has : ℕ → ℕ
    pub some_cell : 0 < plan.capacity
    pub most_cells : plan.capacity ≤ 16777216
    pub wide : length m.words ≡ 2 * plan.capacity + 1
    pub log : IsLog (keeps plan.keeper) plan.capacity m.history
    pub ends : slice_index m.words 0 ≡ ends_of plan.capacity m.history
    pub laid : IsLaid plan.capacity (head_from plan.capacity 0 m.history) has (left_of plan.capacity m.history)
    pub cells : (cell : ℕ) → cell < plan.capacity → CellFits (owner_in m.words) (value_in m.words) has plan.callers cell
    pub stages : (c : ℕ) → c < plan.callers → IsAt (owner_in m.words) (value_in m.words) has plan.capacity plan.callers (slice_index m.words 0) c (m.parts c)

  -- what a deque brings to its table
  abbrev pub deque_terms : (K → ℕ → Type 0) → Terms Unit DequeCall DequeReply DequeState (Plan K) Stage Word
  deque_terms keeps = record {
    start = λ plan. deque_with plan.capacity [];
    callers = λ plan. plan.callers;
    first = Idle;
    rests = is_idle;
    first_word = Ends;
    size = size_in;
    shows = λ plan h name word. Shows plan.capacity h name word;
    holds = DequeRule keeps;
  }
