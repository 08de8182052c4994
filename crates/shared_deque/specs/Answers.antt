-- What a push and a pop answer: the entry that each has, and the words that are its cause.
use Rattle.std.specs.Prelude.{◌≡◌, ◌≢◌, ◌⊎◌, ℕ, ◌<◌, List, [], ◌∷◌, Option, Some, None, Result, Ok, Err}
use Rattle.pass_book.specs.Histories.{IsLegal, IsOfCallers}
use Rattle.pass_book.specs.Pages.{Page, IsPageOf, Enters, EntersNothing}
use Rattle.seq_objects.specs.declared.deques.DequeCall.{DequeCall}
use Rattle.seq_objects.specs.declared.deques.DequeReply.{DequeReply}
use Rattle.seq_objects.specs.declared.deques.DequeReply.TheVariants.{Pushed, Took, Empty, Full}
use Rattle.seq_objects.specs.Meanings.{DequeOpens, DequeSteps}
use Rattle.pass_table.specs.Passes.{Change}
use Rattle.pass_table.specs.Calls.{Reads, ReadsWaiting}
use Rattle.shared_deque.specs.declared.layout.Word.{Word}
use Rattle.shared_deque.specs.declared.faults.PushFault.{PushFault}
use Rattle.shared_deque.specs.declared.faults.PushFault.TheVariants.{Full as NoRoom, Busy}
use Rattle.shared_deque.specs.declared.faults.BusyAt.{BusyAt}
use Rattle.shared_deque.specs.declared.faults.Full.{Full as FullDeque}
use Rattle.shared_deque.specs.Layout.{size_in}
use Rattle.shared_deque.specs.Aims.{cell_of}
use Rattle.shared_deque.specs.Counted.{DequeEntry, deque_with, IsCounted, Shows}
use Rattle.shared_deque.specs.Kinds.{Looks, ends_read, turn_read, value_read, NamesAnother}

abbrev pub DequePage : Type 0
DequePage = Page DequeCall DequeReply

abbrev pub DequeChange : Type 0
DequeChange = Change DequeCall DequeReply Word

module _ (capacity : ℕ) (change : DequeChange) where
  -- the call has its entry, with this reply, behind which nothing is seen
  abbrev pub EntersDeque : DequeCall → DequeReply → Type 0
  EntersDeque call reply = Enters DequeOpens DequeSteps (deque_with capacity []) change.caller change.old change.new call reply

  -- the call has no entry
  abbrev pub EntersNoDeque : Type 0
  EntersNoDeque = EntersNothing DequeOpens DequeSteps (deque_with capacity []) change.caller change.old change.new

  -- a push has an entry unless it is busy
  abbrev pub PushEnters : DequeCall → Result Unit PushFault → Type 0
  PushEnters call (Ok u) = EntersDeque call Pushed
  PushEnters call (Err NoRoom) = EntersDeque call Full
  PushEnters call (Err (Busy seen)) = EntersNoDeque

  -- a pop has an entry unless it is busy
  abbrev pub PopEnters : DequeCall → Result (Option ℕ) BusyAt → Type 0
  PopEnters call (Ok (Some item)) = EntersDeque call (Took item)
  PopEnters call (Ok None) = EntersDeque call Empty
  PopEnters call (Err busy) = EntersNoDeque

module _ (capacity callers caller : ℕ) (call : DequeCall) (words : Looks) where
  -- the turn of the call's cell was read as another caller's
  abbrev pub FoundTaken : ℕ → ℕ → Type 0
  FoundTaken ends seen = (words ≡ ends_read ends ∷ turn_read (cell_of capacity ends call) seen ∷ []) × NamesAnother callers caller seen

  -- A push's answer and the words that it read, in order. It is busy where its cell's turn was another's, or the ends were others than those that it had loaded
  abbrev pub PushCause : Result Unit PushFault → Type 0
  PushCause (Ok u) = (ends : ℕ) × (size_in ends < capacity) × (words ≡ ends_read ends ∷ turn_read (cell_of capacity ends call) 0 ∷ ends_read ends ∷ [])
  PushCause (Err NoRoom) = (ends : ℕ) × (size_in ends ≡ capacity) × (words ≡ ends_read ends ∷ [])
  PushCause (Err (Busy seen)) =
      (ends : ℕ) × (size_in ends < capacity)
      × (FoundTaken ends seen ⊎ ((words ≡ ends_read ends ∷ turn_read (cell_of capacity ends call) 0 ∷ ends_read seen ∷ []) × (seen ≢ ends)))

  -- the same of a pop, which reads its cell's value before it exchanges the ends
  abbrev pub PopCause : Result (Option ℕ) BusyAt → Type 0
  PopCause (Ok (Some item)) =
      (ends : ℕ) × (0 < size_in ends)
      × (words ≡ ends_read ends ∷ turn_read (cell_of capacity ends call) 0 ∷ value_read (cell_of capacity ends call) item ∷ ends_read ends ∷ [])
  PopCause (Ok None) = (ends : ℕ) × (size_in ends ≡ 0) × (words ≡ ends_read ends ∷ [])
  PopCause (Err busy) =
      (ends : ℕ) × (0 < size_in ends)
      × (FoundTaken ends busy.seen
      ⊎ ((value : ℕ) × (words ≡ ends_read ends ∷ turn_read (cell_of capacity ends call) 0 ∷ value_read (cell_of capacity ends call) value ∷ ends_read busy.seen ∷ []) × (busy.seen ≢ ends)))

-- one try of a push, or of a pop, was busy, and these are the words that it read
abbrev pub IsBusyPush : ℕ → ℕ → ℕ → DequeCall → Looks → Type 0
IsBusyPush capacity callers caller call words = (seen : ℕ) × PushCause capacity callers caller call words (Err (Busy seen))

abbrev pub IsBusyPop : ℕ → ℕ → ℕ → DequeCall → Looks → Type 0
IsBusyPop capacity callers caller call words = (busy : BusyAt) × PopCause capacity callers caller call words (Err busy)

abbrev pub AnswersBusyPush : Result Unit PushFault → Type 0
AnswersBusyPush (Ok u) = ⊥
AnswersBusyPush (Err NoRoom) = ⊥
AnswersBusyPush (Err (Busy seen)) = Unit {0}

abbrev pub AnswersBusyPop : Result (Option ℕ) BusyAt → Type 0
AnswersBusyPop (Ok taken) = ⊥
AnswersBusyPop (Err busy) = Unit {0}

-- in a deque of one caller all that was seen is its own, so that the replies are the plain deque's
abbrev pub SeesOwnAlone : ℕ → DequePage → Type 0
SeesOwnAlone callers page = callers ≡ 1 → page.seen ≡ page.mine

-- the same, and a push is never busy
abbrev pub PushesAlone : ℕ → DequePage → Result Unit PushFault → Type 0
PushesAlone callers page result = callers ≡ 1 → (¬ AnswersBusyPush result) × (page.seen ≡ page.mine)

-- the same of a pop
abbrev pub PopsAlone : ℕ → DequePage → Result (Option ℕ) BusyAt → Type 0
PopsAlone callers page result = callers ≡ 1 → (¬ AnswersBusyPop result) × (page.seen ≡ page.mine)

-- a call that waits answers as its last try, which is not busy
abbrev pub last_push : Result Unit FullDeque → Result Unit PushFault
last_push (Ok u) = Ok u
last_push (Err full) = Err NoRoom

abbrev pub last_pop : Option ℕ → Result (Option ℕ) BusyAt
last_pop taken = Ok taken

module _ (capacity callers : ℕ) (change : DequeChange) (call : DequeCall) where
  -- the words that the push read are its answer's cause
  abbrev pub PushIsCaused : Result Unit PushFault → Type 0
  PushIsCaused result = Reads (Shows capacity) change (λ words. PushCause capacity callers change.caller call words result)

  -- the same of a pop
  abbrev pub PopIsCaused : Result (Option ℕ) BusyAt → Type 0
  PopIsCaused result = Reads (Shows capacity) change (λ words. PopCause capacity callers change.caller call words result)

  -- the words that a push which waits read are those of busy tries and then its answer's cause
  abbrev pub PushWaitIsCaused : Result Unit FullDeque → Type 0
  PushWaitIsCaused result =
      ReadsWaiting (Shows capacity) change (IsBusyPush capacity callers change.caller call) (λ words. PushCause capacity callers change.caller call words (last_push result))

  -- the same of a pop
  abbrev pub PopWaitIsCaused : Option ℕ → Type 0
  PopWaitIsCaused taken =
      ReadsWaiting (Shows capacity) change (IsBusyPop capacity callers change.caller call) (λ words. PopCause capacity callers change.caller call words (Ok taken))

-- There was a legal history, of the deque's callers alone, which begins with what the page has seen, has just its entries of its caller, and leaves as
-- many items as the ends word says
pub record MeetsEnds (capacity callers caller : ℕ) (page : DequePage) (ends : ℕ) : Type 0 where
  pub met : List DequeEntry
  pub fits : IsPageOf caller met page
  pub legal : IsLegal DequeOpens DequeSteps (deque_with capacity []) met
  pub callers_are : IsOfCallers callers met
  pub counted : IsCounted capacity met ends
