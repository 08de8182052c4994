-- What one try of a push or a pop, and a call that waits, do to their caller's view.
use Rattle.std.specs.Prelude.{◌≢◌, ℕ, List, [], ◌∷◌, ◌++◌, Option, Some, None, Result, Ok, Err}
use Rattle.seq_objects.specs.declared.deques.DequeCall.{DequeCall}
use Rattle.seq_objects.specs.declared.deques.DequeReply.{DequeReply}
use Rattle.seq_objects.specs.declared.deques.DequeReply.TheVariants.{Pushed, Took, Empty, Full}
use Rattle.seq_objects.specs.Meanings.{DequeOpens, DequeSteps}
use Rattle.pass_table.specs.declared.views.View.{View}
use Rattle.pass_table.specs.Words.{AreTries}
use Rattle.pass_table.specs.Steps.{Goes}
use Rattle.shared_deque.specs.declared.layout.Word.{Word}
use Rattle.shared_deque.specs.declared.clients.Plan.{Plan}
use Rattle.shared_deque.specs.declared.clients.Stage.{Stage}
use Rattle.shared_deque.specs.declared.faults.PushFault.{PushFault}
use Rattle.shared_deque.specs.declared.faults.PushFault.TheVariants.{Full as NoRoom, Busy}
use Rattle.shared_deque.specs.declared.faults.BusyAt.{BusyAt}
use Rattle.shared_deque.specs.declared.faults.Full.{Full as FullDeque}
use Rattle.shared_deque.specs.Counted.{DequeEntry}
use Rattle.shared_deque.specs.Rule.{deque_terms}
use Rattle.shared_deque.specs.Kinds.{Looks, entry}
use Rattle.shared_deque.specs.Answers.{PushCause, PopCause, IsBusyPush, IsBusyPop, AnswersBusyPush, AnswersBusyPop, last_push}

-- the entries that a push makes, and a pop
abbrev pub push_entries : ℕ → DequeCall → Result Unit PushFault → List DequeEntry
push_entries caller call (Ok u) = entry caller call Pushed ∷ []
push_entries caller call (Err NoRoom) = entry caller call Full ∷ []
push_entries caller call (Err (Busy seen)) = []

abbrev pub pop_entries : ℕ → DequeCall → Result (Option ℕ) BusyAt → List DequeEntry
pop_entries caller call (Ok (Some item)) = entry caller call (Took item) ∷ []
pop_entries caller call (Ok None) = entry caller call Empty ∷ []
pop_entries caller call (Err busy) = []

-- what is taken is kept
abbrev pub TakenIsKept : (ℕ → Type 0) → Option ℕ → Type 0
TakenIsKept keeps (Some item) = keeps item
TakenIsKept keeps None = Unit {0}

abbrev pub PoppedIsKept : (ℕ → Type 0) → Result (Option ℕ) BusyAt → Type 0
PoppedIsKept keeps (Ok taken) = TakenIsKept keeps taken
PoppedIsKept keeps (Err busy) = Unit {0}

module _ {K : Type 0} (keeps : K → ℕ → Type 0) (plan : Plan K) (call : DequeCall) (v w : View DequeCall DequeReply (Plan K) Stage Word) where
  -- one try of a push
  pub record TriesPush (result : Result Unit PushFault) : Type 0 where
    pub words : Looks
    pub goes : Goes (deque_terms keeps) DequeOpens DequeSteps plan v w words (push_entries v.number call result)
    pub cause : PushCause plan.capacity plan.callers v.number call words result
    pub not_alone : AnswersBusyPush result → plan.callers ≢ 1

  -- one try of a pop
  pub record TriesPop (result : Result (Option ℕ) BusyAt) : Type 0 where
    pub words : Looks
    pub goes : Goes (deque_terms keeps) DequeOpens DequeSteps plan v w words (pop_entries v.number call result)
    pub cause : PopCause plan.capacity plan.callers v.number call words result
    pub not_alone : AnswersBusyPop result → plan.callers ≢ 1
    pub kept : PoppedIsKept (keeps plan.keeper) result

  -- busy tries of a push, and then the try that ends them
  pub record WaitsPush (result : Result Unit FullDeque) : Type 0 where
    pub before : Looks
    pub words : Looks
    pub goes : Goes (deque_terms keeps) DequeOpens DequeSteps plan v w (before ++ words) (push_entries v.number call (last_push result))
    pub tries : AreTries (IsBusyPush plan.capacity plan.callers v.number call) before
    pub cause : PushCause plan.capacity plan.callers v.number call words (last_push result)

  -- the same of a pop
  pub record WaitsPop (taken : Option ℕ) : Type 0 where
    pub before : Looks
    pub words : Looks
    pub goes : Goes (deque_terms keeps) DequeOpens DequeSteps plan v w (before ++ words) (pop_entries v.number call (Ok taken))
    pub tries : AreTries (IsBusyPop plan.capacity plan.callers v.number call) before
    pub cause : PopCause plan.capacity plan.callers v.number call words (Ok taken)
    pub kept : TakenIsKept (keeps plan.keeper) taken
