-- How a single call stands, with its reply, in its caller's stretch of the history.
use Rattle.std.specs.Prelude.{◌≡◌, ◌⊎◌, ◌==◌, ℕ, ◌*◌, ◌≤◌, List, [], ◌∷◌, ◌++◌, length, MatchBool}
use mathlib.Core.List.{IsPrefix}
use Rattle.pass_book.specs.declared.entries.Entry.{Entry}
use Rattle.pass_book.specs.Histories.{Leaves, entries_of, IsOfOthers}
use Rattle.seq_objects.specs.declared.lists.ListCall.{ListCall}
use Rattle.seq_objects.specs.declared.lists.ListReply.{ListReply}
use Rattle.seq_objects.specs.declared.bags.BagCall.{BagCall}
use Rattle.seq_objects.specs.declared.bags.BagCall.TheVariants.{Add, Remove}
use Rattle.seq_objects.specs.declared.bags.BagReply.{BagReply}
use Rattle.seq_objects.specs.declared.deques.DequeCall.{DequeCall}
use Rattle.seq_objects.specs.declared.deques.DequeReply.{DequeReply}
use Rattle.seq_objects.specs.BagSteps.{BagStep}
use Rattle.seq_objects.specs.Meanings.{BagOpens}
use Rattle.script_text.specs.declared.scripts.Call.{Call}
use Rattle.script_text.specs.declared.scripts.Call.TheVariants.{List as OfList, Bag as OfBag, Deque as OfDeque}
use Rattle.script_text.specs.declared.replies.Reply.{Reply}
use Rattle.script_text.specs.declared.replies.Reply.TheVariants.{Added, Full}
use Rattle.script_engine.specs.Shown.{ShowsList, ShowsBag, ShowsDeque, IsTooLong, Never}

module _ {Asked Told : Type 0} where
  -- the caller has this one entry in the stretch
  abbrev pub IsEntered : ℕ → Asked → Told → List (Entry Asked Told) → Type 0
  IsEntered caller asked told stretch = entries_of caller stretch ≡ record { caller = caller; call = asked; reply = told } ∷ []

  -- The call has its entry, or needs none whatever the history is.
  abbrev pub SaysPlainly : (Call → Reply → Asked → Told → Type 0) → (Call → Reply → Type 0) → ℕ → Call → Reply → List (Entry Asked Told) → List (Entry Asked Told) → Type 0
  SaysPlainly Shows HasNoEntry caller call reply before stretch =
      (HasNoEntry call reply × IsOfOthers caller stretch)
      ⊎ ((asked : Asked) × (told : Told) × Shows call reply asked told × IsEntered caller asked told stretch)

  -- At a moment of the stretch, before any entry of the caller's own, the whole history so far is such.
  abbrev pub AtMoment : (List (Entry Asked Told) → Type 0) → ℕ → List (Entry Asked Told) → List (Entry Asked Told) → Type 0
  AtMoment holds caller before stretch = (moment : List (Entry Asked Told)) × IsPrefix moment stretch × IsOfOthers caller moment × holds (before ++ moment)

abbrev pub SaysList : ℕ → ℕ → Call → Reply → List (Entry ListCall ListReply) → List (Entry ListCall ListReply) → Type 0
SaysList width = SaysPlainly ShowsList (IsTooLong width)

-- a bag that is never full
abbrev pub SaysPlainBag : ℕ → Call → Reply → List (Entry BagCall BagReply) → List (Entry BagCall BagReply) → Type 0
SaysPlainBag = SaysPlainly ShowsBag Never

-- the history leaves a bag of so many items
abbrev pub LeavesMany : (ℕ → Type 0) → List (Entry BagCall BagReply) → Type 0
LeavesMany many history = (items : List ℕ) × Leaves BagOpens BagStep [] history items × many (length items)

-- A bag of several callers is full only where it has at least the items of one segment, a bag of one caller exactly
-- where it has those of all segments of a locale.
abbrev pub IsFullWith : ℕ → ℕ → ℕ → ℕ → Type 0
IsFullWith callers segments room count = MatchBool (callers == 1) (count ≡ segments * room) (room ≤ count)

-- the history leaves a bag so full
abbrev pub LeavesFull : ℕ → ℕ → ℕ → List (Entry BagCall BagReply) → Type 0
LeavesFull callers segments room = LeavesMany (IsFullWith callers segments room)

abbrev pub IsAdd : Call → Type 0
IsAdd (OfBag (Add item) once) = Unit {0}
IsAdd (OfBag Remove once) = ⊥
IsAdd (OfList call) = ⊥
IsAdd (OfDeque call once) = ⊥

-- An add to a bag may find it full, and has no entry then. A single caller's add is entered only where the bag is not full.
abbrev pub SaysBag : ℕ → ℕ → ℕ → ℕ → Call → Reply → List (Entry BagCall BagReply) → List (Entry BagCall BagReply) → Type 0
SaysBag callers segments room caller call reply before stretch =
    (IsAdd call × (reply ≡ Full) × IsOfOthers caller stretch × AtMoment (LeavesFull callers segments room) caller before stretch)
    ⊎ (SaysPlainBag caller call reply before stretch
    × (callers ≡ 1 → reply ≡ Added → AtMoment (λ history. LeavesFull callers segments room history → ⊥) caller before stretch))

abbrev pub SaysDeque : ℕ → Call → Reply → List (Entry DequeCall DequeReply) → List (Entry DequeCall DequeReply) → Type 0
SaysDeque = SaysPlainly ShowsDeque Never
