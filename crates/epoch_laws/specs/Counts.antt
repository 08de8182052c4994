-- Words that lead to objects are those of pointers with the present counts of their objects.
use Rattle.std.proofs.Common.{◌≡◌, ◌≢◌, ◌⊎◌, ℕ, Some}
use Rattle.pgas_base.specs.declared.shapes.Shape.{Shape}
use Rattle.pgas_base.specs.Pointers.{word_of}
use Rattle.epoch_laws.specs.Places.{Place, place_in, pointer_at, pending}
use Rattle.epoch_laws.specs.Seats.{Homing, Seat}
use Rattle.epoch_laws.specs.States.{State, IsPlace}
use Rattle.epoch_laws.specs.Locations.{Kind, InHome, InTaken, InList, InRest, Location}
use Rattle.epoch_laws.specs.Links.{Wait, Waits}
use Rattle.epoch_laws.specs.Ages.{Deferring}
use Rattle.epoch_laws.specs.Sound.{Phased, phased, home_wait_at}

-- An object of a home chain is of its locale, and all of a taken chain are of one
abbrev pub IsLocal : (ℕ → Seat) → Kind → ℕ → Place → Type 0
IsLocal seat InHome l p = p.locale ≡ l
IsLocal seat InTaken c p = p.locale ≡ (place_in (seat c).homing.chain).locale
IsLocal seat _ i p = Unit {0}

module _ (shape : Shape) (count : Place → ℕ) where
  -- the word is 0, or that of the pointer to the present use of an object
  abbrev pub IsCurrent : ℕ → Type 0
  IsCurrent word = (word ≡ 0) ⊎ ((p : Place) × IsPlace shape p × (word ≡ word_of (pointer_at p (count p))))

  -- The next word of an object of a home chain may be pending, and that of one of a list is of no account while a seat waits to store its link
  abbrev pub IsNextCurrent : (Place → ℕ) → Waits → Kind → Place → Type 0
  IsNextCurrent next waits InHome p = (next p ≡ pending) ⊎ IsCurrent (next p)
  IsNextCurrent next waits InTaken p = (next p ≡ pending) ⊎ IsCurrent (next p)
  IsNextCurrent next waits InList p = ((c : ℕ) × (w : Wait) × (waits c ≡ Some w) × (w.place ≡ p)) ⊎ IsCurrent (next p)
  IsNextCurrent next waits InRest p = IsCurrent (next p)
  IsNextCurrent next waits _ p = Unit {0}

  -- of the words that a seat has read: the rest of a collected and of a taken chain, and the old heads that it is to store
  pub record IsSeatCurrent (part : Phased) (homing : Homing) : Type 0 where
    pub rest : IsCurrent part.rest
    pub taken : IsCurrent homing.chain
    pub list_old : (w : Wait) → part.list_wait ≡ Some w → IsCurrent w.old
    pub home_old : (w : Wait) → home_wait_at homing.tail homing.old ≡ Some w → IsCurrent w.old
    pub tail : (w : Wait) → home_wait_at homing.tail homing.old ≡ Some w → IsPlace shape w.place
    -- its deferral's pointer has the present count
    pub deferral : (x : Deferring) → part.deferring ≡ Some x → x.count ≡ count x.place

  pub record AreCurrent (loc : Place → Location) (list_head : ℕ → ℕ → ℕ) (home_head : ℕ → ℕ) (next : Place → ℕ) (seat : ℕ → Seat) : Type 0 where
    pub list_heads : (l n : ℕ) → IsCurrent (list_head l n)
    pub home_heads : (l : ℕ) → IsCurrent (home_head l)
    pub seats : (c : ℕ) → IsSeatCurrent (phased (seat c)) (seat c).homing
    pub nexts : (p : Place) → IsPlace shape p → IsNextCurrent next (λ c. (phased (seat c)).list_wait) ((loc p).kind) p
    pub locals : (p : Place) → IsPlace shape p → IsLocal seat ((loc p).kind) ((loc p).first) p
    -- only locations of lists have two numbers
    pub flat : (p : Place) → (loc p).kind ≢ InList → (loc p).second ≡ 0

-- of every word that leads to objects, but the next words of objects of stacks and hands
abbrev pub HasCounts : State → (Place → Location) → Type 0
HasCounts s loc = AreCurrent s.shape (λ p. (s.words.header p).count) loc s.words.list_head s.words.home_head s.words.next s.seat
