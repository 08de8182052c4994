-- What an object's next word says of the object that follows it, also while a link was not stored yet.
use Rattle.std.proofs.Common.{◌≡◌, ◌≢◌, ◌⊎◌, ℕ, Option, Some}
use Rattle.epoch_laws.specs.Places.{Place, index_in, pending}
use Rattle.epoch_laws.specs.Locations.{Kind, InStack, InHome, InTaken, InList, InRest, Location}
use Rattle.epoch_laws.specs.Paths.{led_to, top_at}

-- an object whose link was not stored yet, and the word that is to be stored
pub record Wait : Type 0 where
  pub place : Place
  pub old : ℕ

abbrev pub Waits : Type 0
Waits = ℕ → Option Wait

-- a seat waits to store this object's link
abbrev pub IsWaited : Waits → Place → (ℕ → Option Place) → Option Place → Type 0
IsWaited waits p leads link = (d : ℕ) × (w : Wait) × (waits d ≡ Some w) × (w.place ≡ p) × (link ≡ leads w.old)

module _ (next : Place → ℕ) (link : Place → Option Place) (homes lists : Waits) where
  abbrev pub IsHomeLink : Place → Type 0
  IsHomeLink p = ((next p ≢ pending) × (link p ≡ led_to (next p))) ⊎ ((next p ≡ pending) × IsWaited homes p led_to (link p))

  -- what the next word of an object of such a location says
  abbrev pub IsLink : Kind → ℕ → Place → Type 0
  IsLink InStack i p = link p ≡ top_at i (index_in (next p))
  IsLink InHome i p = IsHomeLink p
  IsLink InTaken i p = IsHomeLink p
  IsLink InList i p = (link p ≡ led_to (next p)) ⊎ IsWaited lists p led_to (link p)
  IsLink InRest i p = link p ≡ led_to (next p)
  IsLink _ i p = Unit {0}

abbrev pub IsHomeKind : Kind → Type 0
IsHomeKind k = (k ≡ InHome) ⊎ (k ≡ InTaken)

pub record IsHomeWait (loc : Place → Location) (next : Place → ℕ) (link : Place → Option Place) (w : Wait) : Type 0 where
  pub at_home : IsHomeKind ((loc w.place).kind)
  pub follows : link w.place ≡ led_to w.old
  pub is_pending : next w.place ≡ pending
  pub old : w.old ≢ pending

pub record IsListWait (loc : Place → Location) (link : Place → Option Place) (w : Wait) : Type 0 where
  pub in_list : (loc w.place).kind ≡ InList
  pub follows : link w.place ≡ led_to w.old

pub record IsLinked (loc : Place → Location) (link : Place → Option Place) (next : Place → ℕ) (homes lists : Waits) (home_head : ℕ → ℕ) : Type 0 where
  pub links : (p : Place) → IsLink next link homes lists ((loc p).kind) ((loc p).first) p
  pub home_waits : (c : ℕ) (w : Wait) → homes c ≡ Some w → IsHomeWait loc next link w
  pub one_wait : (c d : ℕ) (w v : Wait) → homes c ≡ Some w → homes d ≡ Some v → w.place ≡ v.place → c ≡ d
  pub list_waits : (c : ℕ) (w : Wait) → lists c ≡ Some w → IsListWait loc link w
  pub heads : (l : ℕ) → home_head l ≢ pending
