-- Where the words and slots of a bag stand. Word 0 is the count. Then each segment has its turn, eight words behind the one before. Its slot stands four behind the one before.
use Rattle.std.specs.Prelude.{ℕ, ◌+◌, ◌*◌, List, slice_index}

abbrev pub turn_place : ℕ → ℕ
turn_place segment = 8 * segment + 8

abbrev pub turn_in : List ℕ → ℕ → ℕ
turn_in words segment = slice_index words (turn_place segment)

-- how many words there are
abbrev pub words_of : ℕ → ℕ
words_of segments = 8 * segments + 1

abbrev pub slot_place : ℕ → ℕ
slot_place segment = 4 * segment

-- how many slots there are
abbrev pub slots_in : ℕ → ℕ
slots_in segments = 4 * segments
