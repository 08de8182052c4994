-- That the rows of steps are met.
use Rattle.std.proofs.Common.{◌≡◌, ◌<◌, ◌++◌, ℕ, true, false, Some, ap}
use Rattle.std.specs.Prelude.{unwrap_or}
use Rattle.pgas_base.specs.declared.shapes.Shape.{Shape}
use Rattle.pgas_base.specs.Pointers.{Pointer}
use Rattle.epoch_laws.specs.declared.steps.Kind.TheVariants.{Register, Unregister, PinLook, PinSet, Unpin, Show, Touch}
use Rattle.epoch_laws.specs.Seats.{Seat, Idle, Registered, PinLooked, Pinned, is_reclaiming}
use Rattle.epoch_laws.specs.HoldSteps.{touch}
use Rattle.epoch_laws.specs.Places.{place_of, is_among}
use Rattle.epoch_laws.specs.States.{IsPlace}
use Rattle.epoch_laws.specs.Steps.{move}
use Rattle.epoch_laws.specs.TakeSteps.{show}
use Rattle.epoch_laws.specs.TokenSteps.{register, unregister, pin_look, pin_set, unpin}
use Rattle.epoch_table.specs.Facts.{Facts, count_of}
use Rattle.epoch_table.specs.Knowledge.{Row}

module _ (shape : Shape) (seats c : ℕ) (seat : Seat) (facts : Facts) (below : c < seats) where
  pub register_row : (l n : ℕ) → l < shape.locales → n < shape.tokens → seat.phase ≡ Idle → Row shape seats c seat facts (Register l n)
  unfolding move register
  register_row l n hl hn is = ((below, (hl, (hn, (is, tt)))), tt)

  pub unregister_row : seat.phase ≡ Registered → Row shape seats c seat facts Unregister
  unfolding move unregister
  unregister_row is = ((below, (is, tt)), tt)

  pub pin_look_row : seat.phase ≡ Registered → Row shape seats c seat facts PinLook
  unfolding move pin_look
  pin_look_row is = ((below, (is, tt)), tt)

  pub pin_set_row : seat.phase ≡ PinLooked → Row shape seats c seat facts PinSet
  unfolding move pin_set
  pin_set_row is = ((below, (is, tt)), tt)

  pub unpin_row : seat.phase ≡ Pinned → Row shape seats c seat facts Unpin
  unfolding move unpin
  unpin_row is = ((below, (is, tt)), tt)

  pub show_row : (q : Pointer) → IsPlace shape (place_of q) → is_reclaiming seat.phase ≡ false → count_of facts (place_of q) ≡ Some q.count → is_among (place_of q) seat.owned ≡ true → Row shape seats c seat facts (Show q)
  unfolding move show
  show_row q inside rests count among = ((below, (inside, (rests, (ap (λ x. unwrap_or x 0) count, (among, tt))))), count)

  pub touch_row : (q : Pointer) → IsPlace shape (place_of q) → is_reclaiming seat.phase ≡ false → count_of facts (place_of q) ≡ Some q.count → is_among (place_of q) (seat.owned ++ seat.held) ≡ true → Row shape seats c seat facts (Touch q)
  unfolding move touch
  touch_row q inside rests count among = ((below, (inside, (rests, (ap (λ x. unwrap_or x 0) count, (among, tt))))), count)
