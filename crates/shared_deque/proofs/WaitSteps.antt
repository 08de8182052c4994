-- Busy tries, one after another, and the try that ends them.
use Rattle.std.proofs.Common.{◌≡◌, ℕ, subst, Option, Result, Ok, Err}
use Rattle.seq_objects.specs.declared.deques.DequeCall.{DequeCall}
use Rattle.seq_objects.specs.declared.deques.DequeReply.{DequeReply}
use Rattle.seq_objects.specs.Meanings.{DequeOpens, DequeSteps}
use Rattle.pass_table.specs.declared.views.View.{View}
use Rattle.pass_table.specs.Steps.{Goes, HasTried}
use Rattle.pass_table.proofs.Going.{tried_then, tried_more, tried_number}
use Rattle.shared_deque.specs.declared.layout.Word.{Word}
use Rattle.shared_deque.specs.declared.clients.Plan.{Plan}
use Rattle.shared_deque.specs.declared.clients.Stage.{Stage}
use Rattle.shared_deque.specs.declared.faults.PushFault.TheVariants.{Busy}
use Rattle.shared_deque.specs.declared.faults.BusyAt.{BusyAt}
use Rattle.shared_deque.specs.declared.faults.Full.{Full as FullDeque}
use Rattle.shared_deque.specs.Rule.{deque_terms}
use Rattle.shared_deque.specs.Answers.{PushCause, PopCause, IsBusyPush, IsBusyPop, last_push}
use Rattle.shared_deque.specs.Tries.{TriesPush, TriesPop, WaitsPush, WaitsPop, push_entries, pop_entries}

module _ {K : Type 0} (keeps : K → ℕ → Type 0) (plan : Plan K) (call : DequeCall) (v m w : View DequeCall DequeReply (Plan K) Stage Word) where
  pub push_waits : (result : Result Unit FullDeque) → HasTried (deque_terms keeps) DequeOpens DequeSteps plan (IsBusyPush plan.capacity plan.callers v.number call) v m
      → TriesPush keeps plan call m w (last_push result) → WaitsPush keeps plan call v w result
  push_waits result tried last =
      let same : m.number ≡ v.number = tried_number (deque_terms keeps) DequeOpens DequeSteps plan (IsBusyPush plan.capacity plan.callers v.number call) v m tried in
      record {
        before = tried.0;
        words = last.words;
        goes = tried_then (deque_terms keeps) DequeOpens DequeSteps plan (IsBusyPush plan.capacity plan.callers v.number call) v m w last.words (push_entries v.number call (last_push result)) tried
            (subst (λ c. Goes (deque_terms keeps) DequeOpens DequeSteps plan m w last.words (push_entries c call (last_push result))) same last.goes);
        tries = tried.1;
        cause = subst (λ c. PushCause plan.capacity plan.callers c call last.words (last_push result)) same last.cause;
      }

  pub push_tried : (seen : ℕ) → HasTried (deque_terms keeps) DequeOpens DequeSteps plan (IsBusyPush plan.capacity plan.callers v.number call) v m → TriesPush keeps plan call m w (Err (Busy seen))
      → HasTried (deque_terms keeps) DequeOpens DequeSteps plan (IsBusyPush plan.capacity plan.callers v.number call) v w
  push_tried seen tried last =
      let same : m.number ≡ v.number = tried_number (deque_terms keeps) DequeOpens DequeSteps plan (IsBusyPush plan.capacity plan.callers v.number call) v m tried in
      tried_more (deque_terms keeps) DequeOpens DequeSteps plan (IsBusyPush plan.capacity plan.callers v.number call) v m w last.words tried last.goes (seen, subst (λ c. PushCause plan.capacity plan.callers c call last.words (Err (Busy seen))) same last.cause)

  pub pop_waits : (taken : Option ℕ) → HasTried (deque_terms keeps) DequeOpens DequeSteps plan (IsBusyPop plan.capacity plan.callers v.number call) v m → TriesPop keeps plan call m w (Ok taken) → WaitsPop keeps plan call v w taken
  pop_waits taken tried last =
      let same : m.number ≡ v.number = tried_number (deque_terms keeps) DequeOpens DequeSteps plan (IsBusyPop plan.capacity plan.callers v.number call) v m tried in
      record {
        before = tried.0;
        words = last.words;
        goes = tried_then (deque_terms keeps) DequeOpens DequeSteps plan (IsBusyPop plan.capacity plan.callers v.number call) v m w last.words (pop_entries v.number call (Ok taken)) tried
            (subst (λ c. Goes (deque_terms keeps) DequeOpens DequeSteps plan m w last.words (pop_entries c call (Ok taken))) same last.goes);
        tries = tried.1;
        cause = subst (λ c. PopCause plan.capacity plan.callers c call last.words (Ok taken)) same last.cause;
        kept = last.kept;
      }

  pub pop_tried : (busy : BusyAt) → HasTried (deque_terms keeps) DequeOpens DequeSteps plan (IsBusyPop plan.capacity plan.callers v.number call) v m → TriesPop keeps plan call m w (Err busy)
      → HasTried (deque_terms keeps) DequeOpens DequeSteps plan (IsBusyPop plan.capacity plan.callers v.number call) v w
  pop_tried busy tried last =
      let same : m.number ≡ v.number = tried_number (deque_terms keeps) DequeOpens DequeSteps plan (IsBusyPop plan.capacity plan.callers v.number call) v m tried in
      tried_more (deque_terms keeps) DequeOpens DequeSteps plan (IsBusyPop plan.capacity plan.callers v.number call) v m w last.words tried last.goes (busy, subst (λ c. PopCause plan.capacity plan.callers c call last.words (Err busy)) same last.cause)
