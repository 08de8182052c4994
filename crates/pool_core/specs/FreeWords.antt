-- The words of the heads of stacks of free objects.
use Rattle.std.specs.Prelude.{ℕ, ◌+◌, ◌*◌, ◌/◌, ◌%◌, ◌^◌}

-- the count above the low 24 bits, the index in them
abbrev pub free_head_word : ℕ → ℕ → ℕ
free_head_word count index = count * 2 ^ 24 + index

abbrev pub free_count : ℕ → ℕ
free_count word = word / 2 ^ 24

abbrev pub free_index : ℕ → ℕ
free_index word = word % 2 ^ 24
