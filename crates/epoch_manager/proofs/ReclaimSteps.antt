-- What the steps of a reclaim leave their seat and list, and that their rows are met.
use Rattle.std.proofs.Common.{◌≡◌, ◌≢◌, ◌<◌, ◌+◌, ℕ, true, false, ltb, if◌then◌else◌, [], ◌∷◌, Some, refl, ap, eq-eqb, ne_eqb}
use Rattle.std.specs.Prelude.{unwrap_or}
use Rattle.pgas_base.specs.declared.shapes.Shape.{Shape}
use Rattle.pgas_base.specs.Pointers.{Pointer}
use Rattle.epoch_laws.specs.declared.events.EpochEvent.TheVariants.{Freed}
use Rattle.epoch_laws.specs.declared.events.Item.TheVariants.{Claim, Advance as Advances, Leave as Leaves}
use Rattle.epoch_laws.specs.declared.steps.Kind.TheVariants.{ElectLocal, ElectGlobal, EpochLook, Advance, Spread, Collect, Walk, Release, Leave}
use Rattle.epoch_laws.specs.Needs.{event}
use Rattle.epoch_laws.specs.Places.{place_of, place_in, is_among, without}
use Rattle.epoch_laws.specs.ReclaimSteps.{elect_local, elect_global, epoch_look, advance, spread, collect, walk, release, leave, IsBetweenLists, MayLeave, has_global, last_epoch, last_count}
use Rattle.epoch_laws.specs.Seats.{Seat, Phase, Registered, WonLocal, LostGlobal, WonGlobal, Scanning, Stopped, Advanced, LeftGlobal}
use Rattle.epoch_laws.specs.States.{IsPlace}
use Rattle.epoch_laws.specs.Steps.{move}
use Rattle.epoch_laws.proofs.Updates.{number_here}
use Rattle.epoch_table.specs.Facts.{Facts, count_of}
use Rattle.epoch_table.specs.Knowledge.{Row, tells}

-- where a look at the epoch leaves the seat
abbrev pub looked_phase : ℕ → Phase
looked_phase epoch = if ltb epoch last_epoch then Scanning else Stopped

module _ (shape : Shape) (seats c : ℕ) (seat : Seat) (facts : Facts) where
  -- ---- elections

  pub local_won : (found : ℕ) → found ≡ 0 → tells shape seats c seat facts ElectLocal found ≡ record { seat = record seat { phase = WonLocal }; items = Claim c false ∷ [] }
  unfolding move elect_local
  local_won found is = rw (eq-eqb found 0 is) (ap (λ (s : Seat). record { seat = s; items = Claim c false ∷ [] }) (number_here (λ d. seat) c (record seat { phase = WonLocal })))

  pub local_lost : (found : ℕ) → found ≢ 0 → tells shape seats c seat facts ElectLocal found ≡ record { seat = seat; items = [] }
  unfolding move elect_local
  local_lost found ne = rw (ne_eqb found 0 ne) refl

  pub global_won : (found : ℕ) → found ≡ 0 → tells shape seats c seat facts ElectGlobal found ≡ record { seat = record seat { phase = WonGlobal }; items = Claim c true ∷ [] }
  unfolding move elect_global
  global_won found is = rw (eq-eqb found 0 is) (ap (λ (s : Seat). record { seat = s; items = Claim c true ∷ [] }) (number_here (λ d. seat) c (record seat { phase = WonGlobal })))

  pub global_lost : (found : ℕ) → found ≢ 0 → tells shape seats c seat facts ElectGlobal found ≡ record { seat = record seat { phase = LostGlobal }; items = [] }
  unfolding move elect_global
  global_lost found ne = rw (ne_eqb found 0 ne) (ap (λ (s : Seat). record { seat = s; items = [] }) (number_here (λ d. seat) c (record seat { phase = LostGlobal })))

  pub global_left : (found : ℕ) → has_global seat.phase ≡ true → tells shape seats c seat facts Leave found ≡ record { seat = record seat { phase = LeftGlobal }; items = Leaves c true ∷ [] }
  unfolding move leave
  global_left found is = rw is (ap (λ (s : Seat). record { seat = s; items = Leaves c true ∷ [] }) (number_here (λ d. seat) c (record seat { phase = LeftGlobal })))

  pub local_left : (found : ℕ) → has_global seat.phase ≡ false → tells shape seats c seat facts Leave found ≡ record { seat = record seat { phase = Registered }; items = Leaves c false ∷ [] }
  unfolding move leave
  local_left found is = rw is (ap (λ (s : Seat). record { seat = s; items = Leaves c false ∷ [] }) (number_here (λ d. seat) c (record seat { phase = Registered })))

  -- ---- the epoch

  pub epoch_told : (found : ℕ)
      → tells shape seats c seat facts EpochLook found ≡ record { seat = record seat { phase = looked_phase found; reclaim = record seat.reclaim { epoch = found; scan = record { locale = 0; number = 0 } } }; items = [] }
  unfolding move epoch_look
  epoch_told found =
      ap (λ (s : Seat). record { seat = s; items = [] }) (number_here (λ d. seat) c (record seat { phase = looked_phase found; reclaim = record seat.reclaim { epoch = found; scan = record { locale = 0; number = 0 } } }))

  pub advance_told : (found : ℕ)
      → tells shape seats c seat facts Advance found ≡ record { seat = record seat { phase = Advanced; reclaim = record seat.reclaim { spread = 0; collected = 0; chain = 0; walked = [] } }; items = Advances c (seat.reclaim.epoch + 1) ∷ [] }
  unfolding move advance
  advance_told found =
      ap (λ (s : Seat). record { seat = s; items = Advances c (seat.reclaim.epoch + 1) ∷ [] }) (number_here (λ d. seat) c (record seat { phase = Advanced; reclaim = record seat.reclaim { spread = 0; collected = 0; chain = 0; walked = [] } }))

  pub spread_told : (found : ℕ) → tells shape seats c seat facts Spread found ≡ record { seat = record seat { reclaim = record seat.reclaim { spread = seat.reclaim.spread + 1 } }; items = [] }
  unfolding move spread
  spread_told found = ap (λ (s : Seat). record { seat = s; items = [] }) (number_here (λ d. seat) c (record seat { reclaim = record seat.reclaim { spread = seat.reclaim.spread + 1 } }))

  -- ---- lists

  pub collect_told : (found : ℕ) → tells shape seats c seat facts Collect found ≡ record { seat = record seat { reclaim = record seat.reclaim { collected = seat.reclaim.collected + 1; chain = found } }; items = [] }
  unfolding move collect
  collect_told found = ap (λ (s : Seat). record { seat = s; items = [] }) (number_here (λ d. seat) c (record seat { reclaim = record seat.reclaim { collected = seat.reclaim.collected + 1; chain = found } }))

  pub walk_told : (found : ℕ)
      → tells shape seats c seat facts Walk found ≡ record { seat = record seat { reclaim = record seat.reclaim { chain = found; walked = place_in seat.reclaim.chain ∷ seat.reclaim.walked } }; items = [] }
  unfolding move walk
  walk_told found =
      ap (λ (s : Seat). record { seat = s; items = [] }) (number_here (λ d. seat) c (record seat { reclaim = record seat.reclaim { chain = found; walked = place_in seat.reclaim.chain ∷ seat.reclaim.walked } }))

  pub release_free : (q : Pointer) (found : ℕ) → q.count ≢ last_count
      → tells shape seats c seat facts (Release q) found ≡ record { seat = record seat { reclaim = record seat.reclaim { walked = without (place_of q) seat.reclaim.walked }; hand = place_of q ∷ seat.hand }; items = event c (Freed q) }
  unfolding move release
  release_free q found ne =
      rw (ne_eqb q.count last_count ne)
      (ap (λ (s : Seat). record { seat = s; items = event c (Freed q) }) (number_here (λ d. seat) c (record seat { reclaim = record seat.reclaim { walked = without (place_of q) seat.reclaim.walked }; hand = place_of q ∷ seat.hand })))

  pub release_worn : (q : Pointer) (found : ℕ) → q.count ≡ last_count
      → tells shape seats c seat facts (Release q) found ≡ record { seat = record seat { reclaim = record seat.reclaim { walked = without (place_of q) seat.reclaim.walked } }; items = event c (Freed q) }
  unfolding move release
  release_worn q found is =
      rw (eq-eqb q.count last_count is) (ap (λ (s : Seat). record { seat = s; items = event c (Freed q) }) (number_here (λ d. seat) c (record seat { reclaim = record seat.reclaim { walked = without (place_of q) seat.reclaim.walked } })))

  -- ---- rows

  module _ (below : c < seats) where
    pub local_row : seat.phase ≡ Registered → Row shape seats c seat facts ElectLocal
    unfolding move elect_local
    local_row is = ((below, (is, tt)), tt)

    pub global_row : seat.phase ≡ WonLocal → Row shape seats c seat facts ElectGlobal
    unfolding move elect_global
    global_row is = ((below, (is, tt)), tt)

    pub leave_row : MayLeave shape.locales seat.phase seat.reclaim → seat.hand ≡ [] → Row shape seats c seat facts Leave
    unfolding move leave
    leave_row may none = ((below, ((may, none), tt)), tt)

    pub epoch_row : seat.phase ≡ WonGlobal → Row shape seats c seat facts EpochLook
    unfolding move epoch_look
    epoch_row is = ((below, (is, tt)), tt)

    pub advance_row : seat.phase ≡ Scanning → seat.reclaim.scan.locale ≡ shape.locales → Row shape seats c seat facts Advance
    unfolding move advance
    advance_row is all = ((below, ((is, all), tt)), tt)

    pub spread_row : seat.phase ≡ Advanced → seat.reclaim.spread < shape.locales → Row shape seats c seat facts Spread
    unfolding move spread
    spread_row is low = ((below, ((is, low), tt)), tt)

    pub collect_row : seat.phase ≡ Advanced → IsBetweenLists shape.locales seat.reclaim → seat.reclaim.collected < shape.locales → Row shape seats c seat facts Collect
    unfolding move collect
    collect_row is between low = ((below, ((is, between, low), tt)), tt)

    pub walk_row : seat.phase ≡ Advanced → seat.reclaim.chain ≢ 0 → Row shape seats c seat facts Walk
    unfolding move walk
    walk_row is some = ((below, ((is, some), tt)), tt)

    pub release_row : (q : Pointer) → IsPlace shape (place_of q) → seat.phase ≡ Advanced → is_among (place_of q) seat.reclaim.walked ≡ true → count_of facts (place_of q) ≡ Some q.count → Row shape seats c seat facts (Release q)
    unfolding move release
    release_row q inside is walked count = ((below, (inside, (is, (ap (λ o. unwrap_or o 0) count, (walked, tt))))), count)
