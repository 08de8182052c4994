-- What a call is about to do at one end: its cell, the ends after it, and its reply.
use Rattle.std.specs.Prelude.{◌==◌, ℕ, ◌+◌, ◌-◌, ◌%◌, ◌<◌, Bool}
use Rattle.seq_objects.specs.declared.deques.DequeCall.{DequeCall}
use Rattle.seq_objects.specs.declared.deques.DequeCall.TheVariants.{PushBack, PushFront, PopBack, PopFront}
use Rattle.seq_objects.specs.declared.deques.DequeReply.{DequeReply}
use Rattle.seq_objects.specs.declared.deques.DequeReply.TheVariants.{Pushed, Took, Empty, Full}
use Rattle.shared_deque.specs.declared.sides.Side.{Side}
use Rattle.shared_deque.specs.declared.sides.Side.TheVariants.{Front, Back}
use Rattle.shared_deque.specs.declared.sides.Aim.{Aim}
use Rattle.shared_deque.specs.declared.sides.Aim.TheVariants.{Push, Pop}
use Rattle.shared_deque.specs.Layout.{ends_word, head_in, size_in, cell_before, cell_behind}

-- the call of the plain deque
abbrev pub call_of : Aim → DequeCall
call_of (Push Back item) = PushBack item
call_of (Push Front item) = PushFront item
call_of (Pop Back) = PopBack
call_of (Pop Front) = PopFront

-- the cell that a call claims, once it has read the ends
abbrev pub cell_of : ℕ → ℕ → DequeCall → ℕ
cell_of capacity ends (PushBack item) = (head_in ends + size_in ends) % capacity
cell_of capacity ends (PushFront item) = cell_before capacity (head_in ends)
cell_of capacity ends PopBack = (head_in ends + size_in ends - 1) % capacity
cell_of capacity ends PopFront = head_in ends

-- the first cell after a push, and after a pop
abbrev pub head_pushed : ℕ → Side → ℕ → ℕ
head_pushed capacity Back head = head
head_pushed capacity Front head = cell_before capacity head

abbrev pub head_popped : ℕ → Side → ℕ → ℕ
head_popped capacity Back head = head
head_popped capacity Front head = cell_behind capacity head

-- the ends after the call
abbrev pub ends_after : ℕ → ℕ → Aim → ℕ
ends_after capacity ends (Push side item) = ends_word (head_pushed capacity side (head_in ends)) (size_in ends + 1)
ends_after capacity ends (Pop side) = ends_word (head_popped capacity side (head_in ends)) (size_in ends - 1)

-- whether the ends leave no room for a push, or no item for a pop
abbrev pub is_turned_away : ℕ → ℕ → Aim → Bool
is_turned_away capacity ends (Push side item) = size_in ends == capacity
is_turned_away capacity ends (Pop side) = size_in ends == 0

-- there is room for a push, or an item for a pop
abbrev pub MayGo : ℕ → ℕ → Aim → Type 0
MayGo capacity ends (Push side item) = size_in ends < capacity
MayGo capacity ends (Pop side) = 0 < size_in ends

-- the reply to a call that is turned away, and to one that goes through, where the cell's value is this
abbrev pub refusal : Aim → DequeReply
refusal (Push side item) = Full
refusal (Pop side) = Empty

abbrev pub success : Aim → ℕ → DequeReply
success (Push side item) value = Pushed
success (Pop side) value = Took value

-- a push asks for an item that is kept, and a pop hands out one that is
abbrev pub Asks : (ℕ → Type 0) → Aim → Type 0
Asks keeps (Push side item) = keeps item
Asks keeps (Pop side) = Unit {0}

abbrev pub HandsOut : (ℕ → Type 0) → Aim → ℕ → Type 0
HandsOut keeps (Push side item) value = Unit {0}
HandsOut keeps (Pop side) value = keeps value
