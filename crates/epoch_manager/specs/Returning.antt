-- What a give-back does, and the word that it reads.
use Rattle.std.specs.Prelude.{◌≡◌, ◌<◌, ℕ, true, false, List, [], ◌∷◌, Some, None}
use Rattle.atomic_table.specs.Table.{Me}
use Rattle.pass_book.specs.declared.entries.Look.{Look}
use Rattle.pgas_base.specs.declared.shapes.Shape.{Shape}
use Rattle.pgas_base.specs.Pointers.{Pointer}
use Rattle.epoch_laws.specs.declared.events.EpochEvent.TheVariants.{Returned}
use Rattle.epoch_laws.specs.Needs.{event}
use Rattle.epoch_laws.specs.Places.{place_of, pending, is_among, without}
use Rattle.epoch_laws.specs.Seats.{Seat, is_reclaiming}
use Rattle.epoch_laws.specs.States.{IsPlace}
use Rattle.epoch_laws.specs.Words.{WordName, home_chain}
use Rattle.pass_table.specs.declared.views.View.{View}
use Rattle.pass_table.specs.Steps.{GoesTo, GoesAmongTo}
use Rattle.epoch_table.specs.declared.events.Happens.{Happens}
use Rattle.epoch_table.specs.declared.parts.Plan.{Plan}
use Rattle.epoch_table.specs.declared.parts.Part.{Part}
use Rattle.epoch_table.specs.Clients.{ClientTerms, Returns}
use Rattle.epoch_table.specs.Events.{PastOpens, PastSteps}
use Rattle.epoch_table.specs.Facts.{Facts, count_of}
use Rattle.epoch_table.specs.Kinds.{entries_of_items}
use Rattle.epoch_table.specs.Rule.{manager_terms}

-- the home head of a locale was read as this
abbrev pub home_words : ℕ → ℕ → List (Look WordName)
home_words locale old = record { name = home_chain locale; word = old } ∷ []

-- the word that a give-back reads
abbrev pub ReturnCause : ℕ → List (Look WordName) → Type 0
ReturnCause locale words = (old : ℕ) × (words ≡ home_words locale old)

-- nothing is in its hand, and no chain waits for its link
pub record IsSettled (seat : Seat) : Type 0 where
  pub hand : seat.hand ≡ []
  pub tail : seat.homing.tail ≡ None

-- just this object is in the hand
pub record HasAlone {View' : Type 0} (shape : Shape) (part : Part View') (q : Pointer) : Type 0 where
  pub inside : IsPlace shape (place_of q)
  pub hand : part.seat.hand ≡ place_of q ∷ []
  pub tail : part.seat.homing.tail ≡ None
  pub count : count_of part.facts (place_of q) ≡ Some q.count

abbrev pub part_homed : {View' : Type 0} → Pointer → ℕ → Part View' → Part View'
part_homed q old part = record part {
  seat = record part.seat { hand = []; homing = record part.seat.homing { tail = None; old = old } };
  facts = record part.facts { nexts = record { place = place_of q; number = Some old } ∷ record { place = place_of q; number = Some pending } ∷ part.facts.nexts };
}

-- what a pass knows of the words of its objects after a give-back
abbrev pub facts_returned : Pointer → ℕ → Facts → Facts
facts_returned q old facts = record {
  counts = record { place = place_of q; number = Some q.count } ∷ record { place = place_of q; number = None } ∷ facts.counts;
  nexts = record { place = place_of q; number = Some old } ∷ record { place = place_of q; number = Some pending } ∷ record { place = place_of q; number = None } ∷ facts.nexts;
}

module _ {C View' Call Reply State' : Type 0} (K : ClientTerms C View' Call Reply State') where
  -- what the steps of a give-back ask of their pass
  pub record MayReturn (plan : Plan C) (q : Pointer) (number : ℕ) (part : Part View') : Type 0 where
    pub below : number < plan.callers
    pub inside : IsPlace plan.shape (place_of q)
    pub settled : IsSettled part.seat
    pub quiet : is_reclaiming part.seat.phase ≡ false
    pub own : is_among (place_of q) part.seat.owned ≡ true
    pub count : count_of part.facts (place_of q) ≡ Some q.count
    pub allowed : K.gives_back

  -- what a pass knows after a give-back
  abbrev pub part_returned : Pointer → ℕ → Part View' → Part View'
  part_returned q old part = record part {
    seat = record part.seat { owned = without (place_of q) part.seat.owned; hand = []; homing = record part.seat.homing { tail = None; old = old } };
    facts = facts_returned q old part.facts;
    client = K.after part.client (Returns q) 0;
  }

module _ {C View' Call Reply State' : Type 0} (K : ClientTerms C View' Call Reply State') (opens : State' → Type 0) (step : State' → Call → Reply → State' → Type 0) (plan : Plan C) where
  -- an object of the hand went home as a chain of one
  abbrev pub GoesAlone : Pointer → Me (Unit {0}) (View (Happens Call Reply) (Unit {0}) (Plan C) (Part View') WordName) → Me (Unit {0}) (View (Happens Call Reply) (Unit {0}) (Plan C) (Part View') WordName) → Type 0
  GoesAlone q m n = (old : ℕ) × GoesTo (manager_terms K) (PastOpens opens) (PastSteps step) plan m n (home_words q.locale old) [] (part_homed q old m.0.part) m.1

  -- what the four steps of a give-back do to its caller's seat
  abbrev pub ReturnsSeat : Pointer → Me (Unit {0}) (View (Happens Call Reply) (Unit {0}) (Plan C) (Part View') WordName) → Me (Unit {0}) (View (Happens Call Reply) (Unit {0}) (Plan C) (Part View') WordName) → Type 0
  ReturnsSeat q m n =
      (old : ℕ)
      × GoesAmongTo (manager_terms K) (PastOpens opens) (PastSteps step) plan m n (home_words q.locale old) (entries_of_items m.0.number (event m.0.number (Returned q)))
      (part_returned K q old m.0.part) m.1
