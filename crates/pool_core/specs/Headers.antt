-- The words of objects' headers.
use Rattle.std.specs.Prelude.{◌==◌, ℕ, ◌+◌, ◌*◌, ◌%◌, ◌^◌, ◌<◌, ◌≤◌, if◌then◌else◌}
use Rattle.pool_core.specs.declared.headers.State.{State}
use Rattle.pool_core.specs.declared.headers.State.TheVariants.{Free, Own, Shown, Worn}

abbrev pub state_number : State → ℕ
state_number Free = 0
state_number Own = 1
state_number Shown = 2
state_number Worn = 3

-- the count above the low three bits, the state in them
abbrev pub header_word : ℕ → State → ℕ
header_word count state = count * 8 + state_number state

-- an object that is released: one count higher and free, and worn with the last count
abbrev pub released_word : ℕ → ℕ
released_word count = if count == 4294967295 then header_word count Worn else header_word (count + 1) Free

-- the count has 32 bits, and the low three bits are a state
abbrev pub IsHeaderWord : ℕ → Type 0
IsHeaderWord word = (word < 2 ^ 35) × (word % 8 ≤ 3)
