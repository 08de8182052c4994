-- What steps leave their seat and list.
use Rattle.std.proofs.Common.{◌≡◌, ◌≢◌, ℕ, [], ◌∷◌, refl, ap, eq-eqb, ne_eqb}
use Rattle.pgas_base.specs.declared.shapes.Shape.{Shape}
use Rattle.pgas_base.specs.Pointers.{Pointer}
use Rattle.epoch_laws.specs.declared.events.EpochEvent.TheVariants.{Registered as IsRegistered, Unregistered, Pinned as IsPinned, Unpinned, Shown}
use Rattle.epoch_laws.specs.declared.events.Item.TheVariants.{Event}
use Rattle.epoch_laws.specs.declared.steps.Kind.TheVariants.{Register, Unregister, PinLook, PinSet, Unpin, Show}
use Rattle.epoch_laws.specs.Needs.{event}
use Rattle.epoch_laws.specs.Places.{place_of, without}
use Rattle.epoch_laws.specs.Seats.{Seat, Idle, Registered, PinLooked, Pinned}
use Rattle.epoch_laws.specs.Steps.{move}
use Rattle.epoch_laws.specs.TakeSteps.{show}
use Rattle.epoch_laws.specs.TokenSteps.{register, unregister, pin_look, pin_set, unpin}
use Rattle.epoch_laws.proofs.Updates.{number_here}
use Rattle.epoch_table.specs.Facts.{Facts}
use Rattle.epoch_table.specs.Knowledge.{tells}

module _ (shape : Shape) (seats c : ℕ) (seat : Seat) (facts : Facts) where
  pub register_lost : (l n found : ℕ) → found ≢ 0 → tells shape seats c seat facts (Register l n) found ≡ record { seat = seat; items = [] }
  unfolding move register
  register_lost l n found ne = rw (ne_eqb found 0 ne) refl

  pub register_won : (l n found : ℕ) → found ≡ 0
      → tells shape seats c seat facts (Register l n) found ≡ record { seat = record seat { phase = Registered; token = record { locale = l; number = n } }; items = event c (IsRegistered (record { locale = l; number = n })) }
  unfolding move register
  register_won l n found is =
      rw (eq-eqb found 0 is) (ap (λ (s : Seat). record { seat = s; items = event c (IsRegistered (record { locale = l; number = n })) }) (number_here (λ d. seat) c (record seat { phase = Registered; token = record { locale = l; number = n } })))

  pub unregister_told : (found : ℕ) → tells shape seats c seat facts Unregister found ≡ record { seat = record seat { phase = Idle }; items = event c (Unregistered seat.token) }
  unfolding move unregister
  unregister_told found = ap (λ (s : Seat). record { seat = s; items = event c (Unregistered seat.token) }) (number_here (λ d. seat) c (record seat { phase = Idle }))

  pub pin_look_told : (found : ℕ) → tells shape seats c seat facts PinLook found ≡ record { seat = record seat { phase = PinLooked; announced = found }; items = [] }
  unfolding move pin_look
  pin_look_told found = ap (λ (s : Seat). record { seat = s; items = [] }) (number_here (λ d. seat) c (record seat { phase = PinLooked; announced = found }))

  pub pin_set_told : (found : ℕ) → tells shape seats c seat facts PinSet found ≡ record { seat = record seat { phase = Pinned }; items = Event c (IsPinned seat.token) seat.announced ∷ [] }
  unfolding move pin_set
  pin_set_told found = ap (λ (s : Seat). record { seat = s; items = Event c (IsPinned seat.token) seat.announced ∷ [] }) (number_here (λ d. seat) c (record seat { phase = Pinned }))

  pub unpin_told : (found : ℕ) → tells shape seats c seat facts Unpin found ≡ record { seat = record seat { phase = Registered; held = [] }; items = event c (Unpinned seat.token) }
  unfolding move unpin
  unpin_told found = ap (λ (s : Seat). record { seat = s; items = event c (Unpinned seat.token) }) (number_here (λ d. seat) c (record seat { phase = Registered; held = [] }))

  pub show_told : (q : Pointer) (found : ℕ) → tells shape seats c seat facts (Show q) found ≡ record { seat = record seat { owned = without (place_of q) seat.owned }; items = event c (Shown q) }
  unfolding move show
  show_told q found = ap (λ (s : Seat). record { seat = s; items = event c (Shown q) }) (number_here (λ d. seat) c (record seat { owned = without (place_of q) seat.owned }))
