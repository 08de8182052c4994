-- Where each object is: in just one of the stacks, chains, hands, lists and the like.
use Rattle.std.proofs.Common.{◌≡◌, ℕ, true, false, List, [], ◌∷◌}
use Rattle.pgas_base.specs.declared.shapes.Shape.{Shape}
use Rattle.epoch_laws.specs.Places.{Place, is_among}
use Rattle.epoch_laws.specs.States.{IsPlace}

-- no place stands there twice
abbrev pub IsDistinct : List Place → Type 0
IsDistinct [] = Unit {0}
IsDistinct (p ∷ places) = (is_among p places ≡ false) × IsDistinct places

-- of a locale: its stack, its home chain. Of a seat: its taken home chain, its hand, what it owns, the object of a deferral before its swap,
-- the rest of its collected chain, what it has walked over. Of a locale and a number: a list. The shown ones that aren't deferred, and the worn
pub data Kind : Type 0 where
  InStack InHome InTaken InHand IsOwned IsLive InDeferral InList InRest IsWalked IsWorn : Kind

pub record Location : Type 0 where
  pub kind : Kind
  pub first : ℕ
  pub second : ℕ

abbrev pub at_ : Kind → ℕ → Location
at_ kind n = record { kind = kind; first = n; second = 0 }

-- the list has just the places of the shape that are at this location, each once
pub record IsListed (shape : Shape) (loc : Place → Location) (k : Location) (places : List Place) : Type 0 where
  pub all : (p : Place) → is_among p places ≡ true → (loc p ≡ k) × IsPlace shape p
  pub each : (p : Place) → loc p ≡ k → IsPlace shape p → is_among p places ≡ true
  pub distinct : IsDistinct places

abbrev pub AreListed : Shape → (Place → Location) → (Location → List Place) → Type 0
AreListed shape loc content = (k : Location) → IsListed shape loc k (content k)
