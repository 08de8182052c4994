-- What a script's calls of a shared deque give, by the deque's own clauses.
use Rattle.std.specs.Prelude.{◌≡◌, ℕ, true, false, Option, Some, None, Result, Ok, Err}
use Rattle.seq_objects.specs.declared.deques.DequeCall.{DequeCall}
use Rattle.seq_objects.specs.declared.deques.DequeCall.TheVariants.{PushBack, PushFront, PopBack, PopFront}
use Rattle.seq_objects.specs.declared.deques.DequeReply.{DequeReply}
use Rattle.seq_objects.specs.declared.kept_items.AnyItem.{AnyItem}
use Rattle.pass_table.specs.declared.passes.Pass.{Pass}
use Rattle.pass_table.specs.Passes.{change}
use Rattle.shared_deque.specs.declared.clients.Plan.{Plan}
use Rattle.shared_deque.specs.declared.clients.Stage.{Stage}
use Rattle.shared_deque.specs.declared.deques.Deque.{Deque}
use Rattle.shared_deque.specs.declared.faults.PushFault.{PushFault}
use Rattle.shared_deque.specs.declared.faults.PushFault.TheVariants.{Full as NoRoom, Busy}
use Rattle.shared_deque.specs.declared.faults.BusyAt.{BusyAt}
use Rattle.shared_deque.specs.declared.faults.Full.{Full as FullDeque}
use Rattle.shared_deque.specs.declared.layout.Word.{Word}
use Rattle.shared_deque.specs.Answers.{PushEnters, PopEnters, PushIsCaused, PopIsCaused, PushWaitIsCaused, PopWaitIsCaused, last_push}
use Rattle.shared_deque.specs.Deques.{capacity_of, callers_of}
use Rattle.script_text.specs.declared.scripts.Call.{Call}
use Rattle.script_text.specs.declared.scripts.Call.TheVariants.{Deque as OfDeque}
use Rattle.script_text.specs.declared.replies.Reply.{Reply}
use Rattle.script_text.specs.declared.replies.Reply.TheVariants.{Full, Took, Empty, Pushed}
use Rattle.script_text.specs.Rows.{is_once}
use Rattle.script_engine.specs.Replied.{IsDequeCall}

-- a pass of a script's deque
abbrev pub AnyPass : Type 0
AnyPass = Pass Unit DequeCall DequeReply (Plan AnyItem) Stage Word

-- the reply that shows a push's answer; a busy one is never shown
abbrev pub ShowsPush : Result Unit PushFault → Reply → Type 0
ShowsPush (Ok u) reply = reply ≡ Pushed
ShowsPush (Err NoRoom) reply = reply ≡ Full
ShowsPush (Err (Busy seen)) reply = ⊥

-- the same of a pop
abbrev pub ShowsPop : Result (Option ℕ) BusyAt → Reply → Type 0
ShowsPop (Ok (Some item)) reply = reply ≡ Took item
ShowsPop (Ok None) reply = reply ≡ Empty
ShowsPop (Err busy) reply = ⊥

-- It is a call of the deque, and is tried once only where the deque has one caller.
abbrev pub IsAskedOfDeque : Deque AnyItem → Call → Type 0
IsAskedOfDeque d call = IsDequeCall call × (is_once call ≡ true → callers_of d ≡ 1)

module _ (d : Deque AnyItem) (old new : AnyPass) (call : DequeCall) (reply : Reply) where
  -- a push that was tried once, with its entry and its cause
  abbrev pub TriesPush : Type 0
  TriesPush = (result : Result Unit PushFault) × ShowsPush result reply × PushEnters (capacity_of d) (change old new) call result
      × PushIsCaused (capacity_of d) (callers_of d) (change old new) call result

  -- a pop that was tried once
  abbrev pub TriesPop : Type 0
  TriesPop = (result : Result (Option ℕ) BusyAt) × ShowsPop result reply × PopEnters (capacity_of d) (change old new) call result
      × PopIsCaused (capacity_of d) (callers_of d) (change old new) call result

  -- a push that waited
  abbrev pub WaitsPush : Type 0
  WaitsPush = (result : Result Unit FullDeque) × ShowsPush (last_push result) reply × PushEnters (capacity_of d) (change old new) call (last_push result)
      × PushWaitIsCaused (capacity_of d) (callers_of d) (change old new) call result

  -- a pop that waited
  abbrev pub WaitsPop : Type 0
  WaitsPop = (taken : Option ℕ) × ShowsPop (Ok taken) reply × PopEnters (capacity_of d) (change old new) call (Ok taken)
      × PopWaitIsCaused (capacity_of d) (callers_of d) (change old new) call taken

-- a call that was tried once
abbrev pub DequeTries : Deque AnyItem → AnyPass → DequeCall → Reply → AnyPass → Type 0
DequeTries d old (PushBack item) reply new = TriesPush d old new (PushBack item) reply
DequeTries d old (PushFront item) reply new = TriesPush d old new (PushFront item) reply
DequeTries d old PopBack reply new = TriesPop d old new PopBack reply
DequeTries d old PopFront reply new = TriesPop d old new PopFront reply

-- a call that waited
abbrev pub DequeWaits : Deque AnyItem → AnyPass → DequeCall → Reply → AnyPass → Type 0
DequeWaits d old (PushBack item) reply new = WaitsPush d old new (PushBack item) reply
DequeWaits d old (PushFront item) reply new = WaitsPush d old new (PushFront item) reply
DequeWaits d old PopBack reply new = WaitsPop d old new PopBack reply
DequeWaits d old PopFront reply new = WaitsPop d old new PopFront reply

-- a script's call of the deque, with its reply
abbrev pub DequeGives : Deque AnyItem → AnyPass → Call → Reply → AnyPass → Type 0
DequeGives d old (OfDeque call true) reply new = DequeTries d old call reply new
DequeGives d old (OfDeque call false) reply new = DequeWaits d old call reply new
DequeGives d old call reply new = ⊥
