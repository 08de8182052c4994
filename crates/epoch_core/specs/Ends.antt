-- What the next word of a chain's tail has to be, and where the next words lead.
use Rattle.std.specs.Prelude.{◌==◌, ℕ, zero, suc, Bool, true, false, List, [], ◌∷◌, ◌≡◌, Result, Ok, Err}
use Rattle.epoch_laws.specs.Places.{Place, is_among, index_in, pending, place_in, without_all}
use Rattle.epoch_laws.specs.States.{State, with_seat}
use Rattle.epoch_laws.specs.Words.{Words}
use Rattle.epoch_laws.specs.Chains.{Led, Reaches, Breaks}
use Rattle.epoch_laws.specs.declared.steps.Illegal.{Illegal}
use Rattle.epoch_core.specs.declared.machine.Machine.{Machine}
use Rattle.epoch_core.specs.Shown.{IsShowing}
use Rattle.epoch_core.specs.declared.ways.End.{End}
use Rattle.epoch_core.specs.declared.ways.End.TheVariants.{Index, Pending}

abbrev pub ends_at : End → ℕ → Bool
ends_at (Index index) word = index_in word == index
ends_at Pending word = word == pending

-- the object that the next word of another leads to
abbrev pub behind : Words → Place → Place
behind words p = place_in (words.next p)

-- so many objects from one on, along the next words
abbrev pub path : Words → Place → ℕ → List Place
path words p zero = []
path words p (suc n) = p ∷ path words (behind words p) n

-- the state without these objects in the seat's hand
abbrev pub hand_but : State → ℕ → List Place → State
hand_but s c gone = with_seat s c (record (s.seat c) { hand = without_all gone ((s.seat c).hand) })

-- so many different objects of the hand, from one on
abbrev pub IsWay : Words → List Place → Place → ℕ → Type 0
IsWay words hand p zero = Unit {0}
IsWay words hand p (suc n) = (is_among p hand ≡ true) × (is_among p (path words (behind words p) n) ≡ false) × IsWay words hand (behind words p) n

-- where the next words lead as they should the hand is without the objects led over; else it is as it was, and the word is told
abbrev pub LetsGo : State → ℕ → Led → Place → Machine → Result ℕ Illegal → Type 0
LetsGo s c way top after (Ok count) =
    (way ≡ Reaches (path s.words top count)) × IsWay s.words ((s.seat c).hand) top count × IsShowing after (hand_but s c (path s.words top count))
LetsGo s c way top after (Err e) = (way ≡ Breaks e.word) × (7 ≡ e.need) × IsShowing after s
