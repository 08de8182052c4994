-- Chains of a caller's hand that go home, and what a reclaim gathers in its hand by home.
use Rattle.std.specs.Prelude.{◌≡◌, ◌+◌, ℕ, true, false, List, [], ◌∷◌, length, Option, Some, None}
use Rattle.pass_book.specs.declared.entries.Look.{Look}
use Rattle.pgas_base.specs.declared.shapes.Shape.{Shape}
use Rattle.pgas_base.specs.Pointers.{Pointer}
use Rattle.pass_table.specs.Steps.{GoesTo}
use Rattle.epoch_laws.specs.Locations.{IsDistinct}
use Rattle.epoch_laws.specs.Places.{Place, place_of, pending, is_among, without_all}
use Rattle.epoch_laws.specs.States.{IsPlace}
use Rattle.epoch_laws.specs.Words.{WordName}
use Rattle.epoch_table.specs.declared.parts.Plan.{Plan}
use Rattle.epoch_table.specs.declared.parts.Part.{Part}
use Rattle.epoch_table.specs.Clients.{ClientTerms}
use Rattle.epoch_table.specs.Events.{PastOpens, PastSteps}
use Rattle.epoch_table.specs.Facts.{Facts, count_of}
use Rattle.epoch_table.specs.Knowledge.{AreAllKnown}
use Rattle.epoch_table.specs.Rule.{manager_terms}
use Rattle.epoch_manager.specs.declared.homes.HomeChain.{HomeChain}
use Rattle.epoch_manager.specs.Returning.{home_words}
use Rattle.epoch_manager.specs.TakeSeats.{SeatOf, Under, places, AreLinked, IsOfChain, AreOfChain, last_of}

-- ---- one chain

-- The hand has a chain from the one object to the other, among others, whose last object has no link yet, and all objects of the hand are known
pub record HasChain {View' : Type 0} (shape : Shape) (part : Part View') (top tail : Pointer) : Type 0 where
  pub rest : List Pointer
  pub last : tail ≡ last_of top rest
  pub inside : (p : Place) → is_among p (places (top ∷ rest)) ≡ true → is_among p part.seat.hand ≡ true
  pub distinct : IsDistinct (places (top ∷ rest))
  pub linked : AreLinked part.facts top rest pending
  pub place : IsPlace shape (place_of top)
  pub count : count_of part.facts (place_of top) ≡ Some top.count
  pub each : AreOfChain shape part.facts top.locale rest
  pub known : AreAllKnown part.facts part.seat.hand
  pub none : part.seat.homing.tail ≡ None

-- these objects are gone home, the last of which was linked to what was there
abbrev pub part_sent : {View' : Type 0} → Pointer → List Pointer → Pointer → ℕ → Part View' → Part View'
part_sent top rest tail old part = record part {
  seat = record part.seat { hand = without_all (places (top ∷ rest)) part.seat.hand; homing = record part.seat.homing { tail = None; old = old } };
  facts = record part.facts { nexts = record { place = place_of tail; number = Some old } ∷ part.facts.nexts };
}

-- ---- all chains

-- these objects of a locale are in this chain, linked from its top to its tail, or there are none
abbrev pub IsChainOf : Shape → Facts → ℕ → Option HomeChain → List Pointer → Type 0
IsChainOf shape facts locale chain [] = chain ≡ None
IsChainOf shape facts locale chain (q ∷ rest) =
    (chain ≡ Some (record { top = q; tail = last_of q rest; many = length rest + 1 })) × IsDistinct (places (q ∷ rest)) × AreLinked facts q rest pending × AreOfChain shape facts locale (q ∷ rest)

-- the hand has just the objects of these chains, by home
pub record Gathers (shape : Shape) (hand : List Place) (facts : Facts) (chains : ℕ → Option HomeChain) : Type 0 where
  pub pointers : ℕ → List Pointer
  pub each : (l : ℕ) → IsChainOf shape facts l (chains l) (pointers l)
  pub all : (p : Place) → is_among p hand ≡ true → is_among p (places (pointers p.locale)) ≡ true
  pub only : (l : ℕ) (p : Place) → is_among p (places (pointers l)) ≡ true → is_among p hand ≡ true

-- there are none
abbrev pub no_chains : ℕ → Option HomeChain
no_chains locale = None

-- a freed object is in the hand beside them
pub record HasFree {View' : Type 0} (shape : Shape) (part : Part View') (q : Pointer) (chains : ℕ → Option HomeChain) : Type 0 where
  pub back : List Place
  pub hand : part.seat.hand ≡ place_of q ∷ back
  pub fresh : is_among (place_of q) back ≡ false
  pub gathers : Gathers shape back part.facts chains
  pub free : IsOfChain shape part.facts q.locale q
  pub none : part.seat.homing.tail ≡ None

module _ {C View' Call Reply State' : Type 0} (K : ClientTerms C View' Call Reply State') (opens : State' → Type 0) (step : State' → Call → Reply → State' → Type 0) (plan : Plan C) where
  -- the chain went home
  abbrev pub SendsHome : Pointer → Pointer → SeatOf K opens step plan → SeatOf K opens step plan → Type 0
  SendsHome top tail m n =
      (chain : HasChain plan.shape m.0.part top tail) → (old : ℕ) × GoesTo (manager_terms K) (PastOpens opens) (PastSteps step) plan m n (home_words top.locale old) [] (part_sent top chain.rest tail old m.0.part) m.1

  -- The freed objects of the hand then are these chains, and nothing else has changed but their next words and home heads
  pub record GathersOn (chains : ℕ → Option HomeChain) (m n : SeatOf K opens step plan) : Type 0 where
    pub looks : List (Look WordName)
    pub under : Under K opens step plan m n looks
    pub chain : n.0.part.seat.homing.chain ≡ m.0.part.seat.homing.chain
    pub won : n.0.part.won ≡ m.0.part.won
    pub gathers : Gathers plan.shape n.0.part.seat.hand n.0.part.facts chains
    pub none : n.0.part.seat.homing.tail ≡ None
