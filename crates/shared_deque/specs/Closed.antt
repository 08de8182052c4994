-- What the closing of a deque asks and gives.
use Rattle.std.specs.Prelude.{◌≡◌, ℕ, ◌+◌, ◌%◌, ◌<◌, List, [], length, slice_index, All}
use Rattle.pass_book.specs.Pages.{Book, IsBook, IsPageOf}
use Rattle.seq_objects.specs.declared.deques.DequeCall.{DequeCall}
use Rattle.seq_objects.specs.declared.deques.DequeReply.{DequeReply}
use Rattle.seq_objects.specs.DequeSteps.{DequeState}
use Rattle.seq_objects.specs.Meanings.{DequeOpens, DequeSteps}
use Rattle.pass_table.specs.declared.passes.Pass.{Pass}
use Rattle.pass_table.specs.Passes.{caller_of, page}
use Rattle.shared_deque.specs.declared.layout.Word.{Word}
use Rattle.shared_deque.specs.declared.clients.Plan.{Plan}
use Rattle.shared_deque.specs.declared.clients.Stage.{Stage}
use Rattle.shared_deque.specs.declared.deques.Deque.{Deque}
use Rattle.shared_deque.specs.Layout.{head_in, size_in, value_in}
use Rattle.shared_deque.specs.Counted.{DequeEntry, LeavesItems, PushesKept, deque_with}
use Rattle.shared_deque.specs.Deques.{capacity_of, callers_of}

-- these are the values of the ring's cells, from the first on
pub record ReadsRing (words : List ℕ) (capacity : ℕ) (items : List ℕ) : Type 0 where
  pub count : length items ≡ size_in (slice_index words 0)
  pub each : (j : ℕ) → j < length items → slice_index items j ≡ value_in words ((head_in (slice_index words 0) + j) % capacity)

module _ {K : Type 0} (d : Deque K) where
  -- There is the one book of the deque: its history is legal, has calls of its callers alone, and leaves these items, and each pushed item is kept.
  -- The book has a page for each caller, with just its entries, and each pass has the entries of its caller's page, and had seen a beginning of the history
  pub record ClosesWith (passes : List (Pass Unit DequeCall DequeReply (Plan K) Stage Word)) (keeps : ℕ → Type 0) (items : List ℕ) : Type 0 where
    pub book : Book DequeCall DequeReply DequeState
    pub legal : IsBook DequeOpens DequeSteps book
    pub opened : book.start ≡ deque_with (capacity_of d) []
    pub callers : length book.pages ≡ callers_of d
    pub leaves : LeavesItems (capacity_of d) book.history items
    pub kept : All (λ (e : DequeEntry). PushesKept keeps e.call) book.history
    pub pages : All (λ p. IsPageOf (caller_of p) book.history (page p)) passes
