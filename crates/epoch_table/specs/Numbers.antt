-- What the number in a word says.
use Rattle.std.specs.Prelude.{◌==◌, ℕ, ◌/◌, ◌%◌, ◌^◌, if◌then◌else◌}
use Rattle.pool_core.specs.declared.headers.Header.{Header}
use Rattle.pool_core.specs.declared.headers.State.{State as HeaderState}
use Rattle.pool_core.specs.declared.headers.State.TheVariants.{Free, Own, Shown, Worn}
use Rattle.pool_core.specs.declared.free_words.FreeWord.{FreeWord}
use Rattle.pool_core.specs.FreeWords.{free_count, free_index}

-- what the low bits of a header's word say
abbrev pub state_in : ℕ → HeaderState
state_in number = if number == 0 then Free else (if number == 1 then Own else (if number == 2 then Shown else Worn))

abbrev pub header_in : ℕ → Header
header_in word = record { count = word / 8; state = state_in (word % 8) }

abbrev pub head_in : ℕ → FreeWord
head_in word = record { count = free_count word; index = free_index word }

-- the count of the pointer with this word
abbrev pub count_in : ℕ → ℕ
count_in word = word % 2 ^ 32
