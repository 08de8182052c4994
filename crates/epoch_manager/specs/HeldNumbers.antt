-- The objects that a pass holds, by numbers, as the running code keeps them.
use Rattle.std.specs.Prelude.{◌==◌, ℕ, ◌+◌, ◌*◌, ◌^◌, if◌then◌else◌, List, ◌∷◌, Option, Some, None}
use Rattle.std.specs.List.{list_any}
use Rattle.pgas_base.specs.Pointers.{Pointer}
use Rattle.epoch_laws.specs.Places.{Place, place_of}

-- the number of an object: its locale above the low 24 bits, its index in them
abbrev pub number_of : Place → ℕ
number_of p = p.locale * 2 ^ 24 + p.index

-- the numbers with this one, which stands there once
abbrev pub joined_number : ℕ → List ℕ → List ℕ
joined_number n numbers = if list_any (λ m. m == n) numbers then numbers else n ∷ numbers

-- the same, where an object was found
abbrev pub joined_numbers : Option Pointer → List ℕ → List ℕ
joined_numbers None numbers = numbers
joined_numbers (Some q) numbers = joined_number (number_of (place_of q)) numbers
