-- What a call's clauses say of its pass, from what it did to its caller's view.
use Rattle.std.proofs.Common.{ℕ, List, Option, Some, None, Result, Ok, Err}
use Rattle.std.specs.Prelude.{IfOk, IfSome}
use Rattle.seq_objects.specs.declared.deques.DequeCall.{DequeCall}
use Rattle.seq_objects.specs.declared.deques.DequeReply.{DequeReply}
use Rattle.seq_objects.specs.declared.deques.DequeReply.TheVariants.{Pushed, Took, Empty, Full}
use Rattle.seq_objects.specs.Meanings.{DequeOpens, DequeSteps}
use Rattle.pass_table.specs.declared.views.View.{View}
use Rattle.pass_table.specs.Views.{page_of}
use Rattle.pass_table.specs.Steps.{Goes}
use Rattle.pass_table.proofs.Going.{enters_of, nothing_of, alone}
use Rattle.shared_deque.specs.declared.layout.Word.{Word}
use Rattle.shared_deque.specs.declared.clients.Plan.{Plan}
use Rattle.shared_deque.specs.declared.clients.Stage.{Stage}
use Rattle.shared_deque.specs.declared.faults.PushFault.{PushFault}
use Rattle.shared_deque.specs.declared.faults.PushFault.TheVariants.{Full as NoRoom, Busy}
use Rattle.shared_deque.specs.declared.faults.BusyAt.{BusyAt}
use Rattle.shared_deque.specs.declared.faults.Full.{Full as FullDeque}
use Rattle.shared_deque.specs.Rule.{deque_terms}
use Rattle.shared_deque.specs.Counted.{DequeEntry}
use Rattle.shared_deque.specs.Kinds.{Looks}
use Rattle.shared_deque.specs.Answers.{DequeChange, PushEnters, PopEnters, PushIsCaused, PopIsCaused, PushWaitIsCaused, PopWaitIsCaused, PushesAlone, PopsAlone, SeesOwnAlone}
use Rattle.shared_deque.specs.Tries.{TriesPush, TriesPop, WaitsPush, WaitsPop, push_entries, pop_entries, TakenIsKept, PoppedIsKept}

module _ {K : Type 0} (keeps : K → ℕ → Type 0) (plan : Plan K) (call : DequeCall) (v w : View DequeCall DequeReply (Plan K) Stage Word) where
  -- the change of a pass whose view this is
  abbrev pub changed : DequeChange
  changed = record { caller = v.number; old = page_of v; new = page_of w; looked_old = v.looked; looked_new = w.looked }

  pub push_history : (result : Result Unit PushFault) (words : Looks) → Goes (deque_terms keeps) DequeOpens DequeSteps plan v w words (push_entries v.number call result) → PushEnters plan.capacity changed call result
  push_history (Ok u) words goes = enters_of (deque_terms keeps) DequeOpens DequeSteps plan v w words call Pushed goes
  push_history (Err NoRoom) words goes = enters_of (deque_terms keeps) DequeOpens DequeSteps plan v w words call Full goes
  push_history (Err (Busy seen)) words goes = nothing_of (deque_terms keeps) DequeOpens DequeSteps plan v w words goes

  pub pop_history : (result : Result (Option ℕ) BusyAt) (words : Looks) → Goes (deque_terms keeps) DequeOpens DequeSteps plan v w words (pop_entries v.number call result) → PopEnters plan.capacity changed call result
  pop_history (Ok (Some item)) words goes = enters_of (deque_terms keeps) DequeOpens DequeSteps plan v w words call (Took item) goes
  pop_history (Ok None) words goes = enters_of (deque_terms keeps) DequeOpens DequeSteps plan v w words call Empty goes
  pop_history (Err busy) words goes = nothing_of (deque_terms keeps) DequeOpens DequeSteps plan v w words goes

  pub push_cause : (result : Result Unit PushFault) → TriesPush keeps plan call v w result → PushIsCaused plan.capacity plan.callers changed call result
  push_cause result tries = record { words = tries.words; looked = tries.goes.looked; cause = tries.cause; meets = tries.goes.meets }

  pub pop_cause : (result : Result (Option ℕ) BusyAt) → TriesPop keeps plan call v w result → PopIsCaused plan.capacity plan.callers changed call result
  pop_cause result tries = record { words = tries.words; looked = tries.goes.looked; cause = tries.cause; meets = tries.goes.meets }

  pub push_wait_cause : (result : Result Unit FullDeque) → WaitsPush keeps plan call v w result → PushWaitIsCaused plan.capacity plan.callers changed call result
  push_wait_cause result waits = record { before = waits.before; words = waits.words; looked = waits.goes.looked; tries = waits.tries; cause = waits.cause; meets = waits.goes.meets }

  pub pop_wait_cause : (taken : Option ℕ) → WaitsPop keeps plan call v w taken → PopWaitIsCaused plan.capacity plan.callers changed call taken
  pop_wait_cause taken waits = record { before = waits.before; words = waits.words; looked = waits.goes.looked; tries = waits.tries; cause = waits.cause; meets = waits.goes.meets }

  pub sees_own : (words : Looks) (entries : List DequeEntry) → Goes (deque_terms keeps) DequeOpens DequeSteps plan v w words entries → SeesOwnAlone plan.callers (page_of w)
  sees_own words entries goes one = alone (deque_terms keeps) DequeOpens DequeSteps plan w goes.sound one

  pub push_alone : (result : Result Unit PushFault) → TriesPush keeps plan call v w result → PushesAlone plan.callers (page_of w) result
  push_alone result tries one = ((λ busy. tries.not_alone busy one), sees_own tries.words (push_entries v.number call result) tries.goes one)

  pub pop_alone : (result : Result (Option ℕ) BusyAt) → TriesPop keeps plan call v w result → PopsAlone plan.callers (page_of w) result
  pop_alone result tries one = ((λ busy. tries.not_alone busy one), sees_own tries.words (pop_entries v.number call result) tries.goes one)

-- what is handed out is kept
pub taken_kept : (keeps : ℕ → Type 0) (taken : Option ℕ) → TakenIsKept keeps taken → IfSome taken keeps
taken_kept keeps (Some item) kept = kept
taken_kept keeps None kept = tt

pub popped_kept : (keeps : ℕ → Type 0) (result : Result (Option ℕ) BusyAt) → PoppedIsKept keeps result → IfOk result (λ taken. IfSome taken keeps)
popped_kept keeps (Ok taken) kept = taken_kept keeps taken kept
popped_kept keeps (Err busy) kept = tt
