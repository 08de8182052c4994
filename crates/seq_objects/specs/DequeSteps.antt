-- The sequential deque of a capacity: what each call replies to, and what it leaves.
use Rattle.std.specs.Prelude.{ℕ, ◌-◌, List, [], ◌∷◌, ◌++◌, Option, Some, None, nat_lt, if◌then◌else◌, length, take, drop, slice_get}
use Rattle.seq_objects.specs.declared.deques.DequeCall.{DequeCall}
use Rattle.seq_objects.specs.declared.deques.DequeCall.TheVariants.{PushBack, PushFront, PopBack, PopFront}
use Rattle.seq_objects.specs.declared.deques.DequeReply.{DequeReply}
use Rattle.seq_objects.specs.declared.deques.DequeReply.TheVariants.{Pushed, Took, Empty, Full}

-- a deque and its capacity; the items stand from front to back
pub record DequeState : Type 0 where
  pub capacity : ℕ
  pub items : List ℕ

-- the reply to a pop
abbrev pub pop_reply : Option ℕ → DequeReply
pop_reply (Some item) = Took item
pop_reply None = Empty

abbrev pub deque_reply : ℕ → List ℕ → DequeCall → DequeReply
deque_reply capacity items (PushBack item) = if nat_lt (length items) capacity then Pushed else Full
deque_reply capacity items (PushFront item) = if nat_lt (length items) capacity then Pushed else Full
deque_reply capacity items PopBack = pop_reply (slice_get items (length items - 1))
deque_reply capacity items PopFront = pop_reply (slice_get items 0)

abbrev pub deque_after : ℕ → List ℕ → DequeCall → List ℕ
deque_after capacity items (PushBack item) = if nat_lt (length items) capacity then items ++ item ∷ [] else items
deque_after capacity items (PushFront item) = if nat_lt (length items) capacity then item ∷ items else items
deque_after capacity items PopBack = take (length items - 1) items
deque_after capacity items PopFront = drop 1 items
