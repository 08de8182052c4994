-- What an opening is made of.
use Rattle.std.specs.Prelude.{◌≡◌, ◌==◌, ◌+◌, ◌/◌, ◌%◌, ◌<◌, ℕ, if◌then◌else◌, List, [], None, length, slice_index_or}
use Rattle.pgas_base.specs.declared.shapes.Shape.{Shape}
use Rattle.pgas_base.specs.Pointers.{word_of}
use Rattle.epoch_laws.specs.States.{opening_seat}
use Rattle.epoch_core.specs.declared.seats.Seat.{Seat as RunningSeat}
use Rattle.epoch_core.specs.Seated.{seat_with}

-- a running seat that has done nothing
pub record IsNewSeat (r : RunningSeat) : Type 0 where
  pub same : seat_with r [] [] [] ≡ opening_seat
  pub hand : r.hand ≡ 0
  pub walked : r.reclaim.walked ≡ 0
  pub tail : r.homing.tail ≡ None

abbrev pub AreNewSeats : ℕ → List RunningSeat → Type 0
AreNewSeats count seats = (length seats ≡ count) × ((k : ℕ) (d : RunningSeat) → k < count → IsNewSeat (slice_index_or seats k d))

-- the first next word of the object with this number: that of a pointer to the object behind it, and 0 of the last of a locale
abbrev pub first_link : Shape → ℕ → ℕ → ℕ
first_link shape count k =
    if k % shape.objects + 1 == shape.objects then 0 else word_of (record { locale = k / shape.objects; index = k % shape.objects + 2; count = count })

abbrev pub AreFirstLinks : Shape → ℕ → ℕ → List ℕ → Type 0
AreFirstLinks shape count most links = (length links ≡ most) × ((k d : ℕ) → k < most → slice_index_or links k d ≡ first_link shape count k)
