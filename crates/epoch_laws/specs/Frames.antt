-- What a step leaves as it was of the words that concern another seat.
use Rattle.std.specs.Prelude.{◌≡◌, ◌⊎◌, ℕ, true}
use Rattle.epoch_laws.specs.Places.{Place, is_among}
use Rattle.epoch_laws.specs.Seats.{Seat}
use Rattle.epoch_laws.specs.States.{State}

-- the seat owns the object, has it in its hand or has walked over it
abbrev pub HasAlone : Seat → Place → Type 0
HasAlone seat p = (is_among p seat.owned ≡ true) ⊎ ((is_among p seat.hand ≡ true) ⊎ (is_among p seat.reclaim.walked ≡ true))

-- From the first state to the next, an object that the seat has alone keeps its header and its next word, and one that it holds its header
pub record LeavesOthers (s next : State) (c : ℕ) : Type 0 where
  pub headers : (p : Place) → HasAlone (s.seat c) p → next.words.header p ≡ s.words.header p
  pub held : (p : Place) → is_among p ((s.seat c).held) ≡ true → next.words.header p ≡ s.words.header p
  pub nexts : (p : Place) → HasAlone (s.seat c) p → next.words.next p ≡ s.words.next p
  pub seat : next.seat c ≡ s.seat c
