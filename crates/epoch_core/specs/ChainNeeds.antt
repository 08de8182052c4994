-- What the steps on chains of a hand need before the next words are followed.
use Rattle.std.specs.Prelude.{◌≡◌, ◌≢◌, ◌<◌, ℕ, false, List, [], ◌∷◌, None}
use Rattle.pgas_base.specs.Pointers.{Pointer}
use Rattle.epoch_laws.specs.Needs.{Need, has_count, inside, pointer_inside, stands}
use Rattle.epoch_laws.specs.Seats.{Seat, NoLook, is_reclaiming}
use Rattle.epoch_laws.specs.StackSteps.{in_hand_of, last_stack_count}
use Rattle.epoch_laws.specs.States.{State}

abbrev pub MayPut : Seat → Type 0
MayPut seat = (is_reclaiming seat.phase ≡ false) × (seat.stack.phase ≢ NoLook) × (seat.stack.head.count < last_stack_count)

abbrev pub put_needs : State → ℕ → Pointer → Pointer → List Need
put_needs s c top tail =
    inside c s.seats ∷ pointer_inside s top ∷ pointer_inside s tail ∷ stands s c (MayPut (s.seat c)) ∷ has_count s top ∷ has_count s tail
    ∷ in_hand_of s c top ((s.seat c).stack.locale) ∷ in_hand_of s c tail ((s.seat c).stack.locale) ∷ []

abbrev pub home_needs : State → ℕ → Pointer → Pointer → List Need
home_needs s c top tail =
    inside c s.seats ∷ pointer_inside s top ∷ pointer_inside s tail ∷ stands s c ((s.seat c).homing.tail ≡ None) ∷ has_count s top ∷ has_count s tail
    ∷ in_hand_of s c top top.locale ∷ in_hand_of s c tail top.locale ∷ []
