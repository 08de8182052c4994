-- Where the words of a deque stand, and what the ends word says.
-- Word 0 is the ends: the first cell of the ring in its high half, and the number of items in its low half. Then each cell has its owner and its value.
use Rattle.std.specs.Prelude.{ℕ, ◌+◌, ◌-◌, ◌*◌, ◌/◌, ◌%◌, List, slice_index}

abbrev pub ends_word : ℕ → ℕ → ℕ
ends_word head size = head * 4294967296 + size

abbrev pub head_in : ℕ → ℕ
head_in ends = ends / 4294967296

abbrev pub size_in : ℕ → ℕ
size_in ends = ends % 4294967296

abbrev pub owner_place : ℕ → ℕ
owner_place cell = 2 * cell + 1

abbrev pub value_place : ℕ → ℕ
value_place cell = 2 * cell + 2

abbrev pub owner_in : List ℕ → ℕ → ℕ
owner_in words cell = slice_index words (owner_place cell)

abbrev pub value_in : List ℕ → ℕ → ℕ
value_in words cell = slice_index words (value_place cell)

-- the cell before another, in the ring
abbrev pub cell_before : ℕ → ℕ → ℕ
cell_before capacity cell = (cell + capacity - 1) % capacity

-- the cell behind another, in the ring
abbrev pub cell_behind : ℕ → ℕ → ℕ
cell_behind capacity cell = (cell + 1) % capacity
