-- What a deque's history leaves, and the ends word that shows it.
use Rattle.std.specs.Prelude.{◌≡◌, ℕ, List, [], ◌∷◌, length}
use Rattle.pass_book.specs.declared.entries.Entry.{Entry}
use Rattle.pass_book.specs.Histories.{Leaves}
use Rattle.seq_objects.specs.declared.deques.DequeCall.{DequeCall}
use Rattle.seq_objects.specs.declared.deques.DequeCall.TheVariants.{PushBack, PushFront, PopBack, PopFront}
use Rattle.seq_objects.specs.declared.deques.DequeReply.{DequeReply}
use Rattle.seq_objects.specs.declared.deques.DequeReply.TheVariants.{Pushed, Took}
use Rattle.seq_objects.specs.DequeSteps.{DequeState, deque_after}
use Rattle.seq_objects.specs.Meanings.{DequeOpens, DequeSteps}
use Rattle.shared_deque.specs.declared.layout.Word.{Word}
use Rattle.shared_deque.specs.declared.layout.Word.TheVariants.{Ends, Turn, Value}
use Rattle.shared_deque.specs.Layout.{ends_word, size_in, cell_before, cell_behind}

abbrev pub DequeEntry : Type 0
DequeEntry = Entry DequeCall DequeReply

-- a deque of this capacity with these items
abbrev pub deque_with : ℕ → List ℕ → DequeState
deque_with capacity items = record { capacity = capacity; items = items }

-- the history of a deque of this capacity leaves these items
abbrev pub LeavesItems : ℕ → List DequeEntry → List ℕ → Type 0
LeavesItems capacity h items = Leaves DequeOpens DequeSteps (deque_with capacity []) h (deque_with capacity items)

abbrev pub items_after : ℕ → List ℕ → List DequeEntry → List ℕ
items_after capacity items [] = items
items_after capacity items (e ∷ h) = items_after capacity (deque_after capacity items e.call) h

-- the items that a history leaves
abbrev pub left_of : ℕ → List DequeEntry → List ℕ
left_of capacity h = items_after capacity [] h

-- a history leaves as many items as the ends word says
abbrev pub IsCounted : ℕ → List DequeEntry → ℕ → Type 0
IsCounted capacity h ends = length (left_of capacity h) ≡ size_in ends

-- what a word that was read says of the history at that moment
abbrev pub Shows : ℕ → List DequeEntry → Word → ℕ → Type 0
Shows capacity h Ends word = IsCounted capacity h word
Shows capacity h (Turn cell) word = Unit {0}
Shows capacity h (Value cell) word = Unit {0}

-- a push asks for an item that is kept
abbrev pub PushesKept : (ℕ → Type 0) → DequeCall → Type 0
PushesKept keeps (PushBack item) = keeps item
PushesKept keeps (PushFront item) = keeps item
PushesKept keeps PopBack = Unit {0}
PushesKept keeps PopFront = Unit {0}

-- the first cell of the ring after a call
abbrev pub head_after : ℕ → ℕ → DequeCall → DequeReply → ℕ
head_after capacity head (PushFront item) Pushed = cell_before capacity head
head_after capacity head PopFront (Took item) = cell_behind capacity head
head_after capacity head call reply = head

abbrev pub head_from : ℕ → ℕ → List DequeEntry → ℕ
head_from capacity head [] = head
head_from capacity head (e ∷ h) = head_from capacity (head_after capacity head e.call e.reply) h

-- the ends word after a history
abbrev pub ends_of : ℕ → List DequeEntry → ℕ
ends_of capacity h = ends_word (head_from capacity 0 h) (length (left_of capacity h))
