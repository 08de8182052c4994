-- What each kind of step does: from which stage, to which, and what it tells.
use Rattle.std.specs.Prelude.{◌≡◌, ◌≢◌, ◌==◌, ℕ, ◌+◌, ◌<◌, List, [], ◌∷◌, MatchBool}
use Rattle.atomic_table.specs.Table.{Me}
use Rattle.pass_book.specs.declared.entries.Look.{Look}
use Rattle.seq_objects.specs.declared.deques.DequeCall.{DequeCall}
use Rattle.seq_objects.specs.declared.deques.DequeReply.{DequeReply}
use Rattle.seq_objects.specs.Meanings.{DequeOpens, DequeSteps}
use Rattle.pass_table.specs.declared.views.View.{View}
use Rattle.pass_table.specs.Terms.{Effect, SeesSo, MovesSo, Permits}
use Rattle.pass_table.specs.Steps.{GoesTo, StaysTo}
use Rattle.shared_deque.specs.declared.layout.Word.{Word}
use Rattle.shared_deque.specs.declared.layout.Word.TheVariants.{Ends, Turn, Value}
use Rattle.shared_deque.specs.declared.sides.Aim.{Aim}
use Rattle.shared_deque.specs.declared.sides.Aim.TheVariants.{Push, Pop}
use Rattle.shared_deque.specs.declared.clients.Plan.{Plan}
use Rattle.shared_deque.specs.declared.clients.Stage.{Stage}
use Rattle.shared_deque.specs.declared.clients.Stage.TheVariants.{Idle, Looked, Claimed, Read, Storing, Leaving}
use Rattle.shared_deque.specs.declared.clients.Kind.{Kind}
use Rattle.shared_deque.specs.declared.clients.Kind.TheVariants.{EndsLook, Claim, CellLook, EndsExchange, CellStore, Leave}
use Rattle.shared_deque.specs.Aims.{call_of, cell_of, is_turned_away, MayGo, refusal, success, HandsOut}
use Rattle.shared_deque.specs.Counted.{DequeEntry}
use Rattle.shared_deque.specs.Rule.{deque_terms}

abbrev pub Looks : Type 0
Looks = List (Look Word)

-- the ends were read
abbrev pub ends_read : ℕ → Look Word
ends_read word = record { name = Ends; word = word }

-- the turn of a cell was read
abbrev pub turn_read : ℕ → ℕ → Look Word
turn_read cell word = record { name = Turn cell; word = word }

-- the value of a cell was read
abbrev pub value_read : ℕ → ℕ → Look Word
value_read cell word = record { name = Value cell; word = word }

abbrev pub entry : ℕ → DequeCall → DequeReply → DequeEntry
entry caller call reply = record { caller = caller; call = call; reply = reply }

-- a turn word names a caller other than this one
abbrev pub NamesAnother : ℕ → ℕ → ℕ → Type 0
NamesAnother callers caller word = (other : ℕ) × (other < callers) × (other ≢ caller) × (word ≡ other + 1)

-- where a call stands before it exchanges the ends: a pop has read its cell's value
abbrev pub ready : Aim → ℕ → ℕ → Stage
ready (Push side item) ends value = Claimed (Push side item) ends
ready (Pop side) ends value = Read (Pop side) ends value

-- where it goes on after it has won the ends
abbrev pub won : Aim → ℕ → Stage
won (Push side item) cell = Storing cell item
won (Pop side) cell = Leaving cell

-- the stage from which a step is made
abbrev pub stage_before : Kind → Stage
stage_before (EndsLook aim) = Idle
stage_before (Claim aim ends) = Looked aim ends
stage_before (CellLook aim ends) = Claimed aim ends
stage_before (EndsExchange aim ends value) = ready aim ends value
stage_before (CellStore cell item) = Storing cell item
stage_before (Leave cell) = Leaving cell

module _ {K : Type 0} (keeps : K → ℕ → Type 0) (plan : Plan K) (caller : ℕ) (sees : Looks → List DequeEntry → Stage → Type 0) (moves : Stage → Type 0) where
  -- What a step tells of the word that was found, in terms of the words that it reads, the entries that it makes and the stage that it leads to
  abbrev pub Tells : Kind → ℕ → Type 0
  -- the ends turn the call away, which is its entry, or let it go on
  Tells (EndsLook aim) found =
      MatchBool (is_turned_away plan.capacity found aim)
      (sees (ends_read found ∷ []) (entry caller (call_of aim) (refusal aim) ∷ []) Idle)
      (sees (ends_read found ∷ []) [] (Looked aim found) × MayGo plan.capacity found aim × (cell_of plan.capacity found (call_of aim) < plan.capacity))
  -- the cell was nobody's and is now the caller's, or it is another's, who can't be where there is one caller
  Tells (Claim aim ends) found =
      MatchBool (found == 0)
      (sees (turn_read (cell_of plan.capacity ends (call_of aim)) found ∷ []) [] (Claimed aim ends))
      (sees (turn_read (cell_of plan.capacity ends (call_of aim)) found ∷ []) [] Idle × NamesAnother plan.callers caller found × (plan.callers ≢ 1))
  Tells (CellLook aim ends) found = sees (value_read (cell_of plan.capacity ends (call_of aim)) found ∷ []) [] (Read aim ends found)
  -- the ends were as the call had loaded them, which is its entry, or others, which can't come of one caller alone
  Tells (EndsExchange aim ends value) found =
      MatchBool (found == ends)
      (sees (ends_read found ∷ []) (entry caller (call_of aim) (success aim value) ∷ []) (won aim (cell_of plan.capacity ends (call_of aim))) × HandsOut (keeps plan.keeper) aim value)
      (sees (ends_read found ∷ []) [] (Leaving (cell_of plan.capacity ends (call_of aim))) × (plan.callers ≢ 1))
  Tells (CellStore cell item) found = moves (Leaving cell)
  Tells (Leave cell) found = moves Idle

module _ {K : Type 0} (keeps : K → ℕ → Type 0) (plan : Plan K) where
  -- the same of a step's effect
  abbrev pub TellsChosen : ℕ → List (ℕ × Unit {0}) → Kind → ℕ → Effect Unit DequeCall DequeReply Stage Word → Type 0
  TellsChosen caller carried kind found e = Tells keeps plan caller (λ looks entries stage. SeesSo e looks entries stage carried) (λ stage. MovesSo e stage carried) kind found

  -- the same of a seat before and after
  abbrev pub Does : Kind → Me Unit (View DequeCall DequeReply (Plan K) Stage Word) → ℕ → Me Unit (View DequeCall DequeReply (Plan K) Stage Word) → Type 0
  Does kind m found n =
      Tells keeps plan m.0.number
      (λ looks entries stage. GoesTo (deque_terms keeps) DequeOpens DequeSteps plan m n looks entries stage m.1)
      (λ stage. StaysTo (deque_terms keeps) DequeOpens DequeSteps plan m n stage m.1)
      kind found

  -- a push that has won the ends stores its item and leaves its cell
  abbrev pub Fills : ℕ → ℕ → Me Unit (View DequeCall DequeReply (Plan K) Stage Word) → Me Unit (View DequeCall DequeReply (Plan K) Stage Word) → Type 0
  Fills cell item m n = (k : Me Unit (View DequeCall DequeReply (Plan K) Stage Word)) × Does (CellStore cell item) m item k × Does (Leave cell) k 0 n

  -- the step is permitted to its caller
  abbrev pub MayDo : ℕ → Kind → Me Unit (View DequeCall DequeReply (Plan K) Stage Word) → ℕ → (ℕ → ℕ) → (ℕ → ℕ) → Type 0
  MayDo slots kind m place f said =
      Permits (deque_terms keeps) DequeOpens DequeSteps plan slots m.0.number m.0.rests m.0.part m.1 place f (λ found e. TellsChosen m.0.number m.1 kind (said found) e)
