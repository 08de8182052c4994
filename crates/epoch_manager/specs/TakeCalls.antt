-- What a take does to its pass, by its answer.
use Rattle.std.specs.Prelude.{◌≡◌, ℕ, List, ◌∷◌, Result, Ok, Err}
use Rattle.pass_book.specs.declared.entries.Look.{Look}
use Rattle.pgas_base.specs.declared.shapes.Shape.{Shape}
use Rattle.pgas_base.specs.Pointers.{Pointer}
use Rattle.epoch_laws.specs.Places.{place_of}
use Rattle.epoch_laws.specs.States.{IsPlace}
use Rattle.epoch_laws.specs.Words.{WordName}
use Rattle.epoch_table.specs.declared.parts.Plan.{Plan}
use Rattle.epoch_table.specs.Clients.{ClientTerms, Takes}
use Rattle.epoch_manager.specs.declared.faults.TakeFault.{TakeFault}
use Rattle.epoch_manager.specs.declared.faults.TakeFault.TheVariants.{Spent}
use Rattle.epoch_manager.specs.Takes.{TakeTells, CanSpend}
use Rattle.epoch_manager.specs.Tours.{TakeReads}
use Rattle.epoch_manager.specs.TakeSeats.{SeatOf, Under, IsEmptyHanded, TakesOne}

-- the objects owned afterwards
abbrev pub owned_then : List Pointer → Result Pointer TakeFault → List Pointer
owned_then old (Ok q) = q ∷ old
owned_then old (Err fault) = old

-- an object that was taken is one of the shape
abbrev pub IsInside : Shape → Result Pointer TakeFault → Type 0
IsInside shape (Ok q) = IsPlace shape (place_of q)
IsInside shape (Err fault) = Unit {0}

-- a refusal tells the locale that was asked for, or the last count
abbrev pub IsTold : ℕ → Result Pointer TakeFault → Type 0
IsTold asked (Ok q) = Unit {0}
IsTold asked (Err fault) = TakeTells asked fault

module _ {C View' Call Reply State' : Type 0} (K : ClientTerms C View' Call Reply State') where
  -- what is known of the client afterwards
  abbrev pub knows_then : View' → Result Pointer TakeFault → View'
  knows_then view (Ok q) = K.after view (Takes q) 0
  knows_then view (Err fault) = view

  module _ (opens : State' → Type 0) (step : State' → Call → Reply → State' → Type 0) (plan : Plan C) where
    -- no object was got
    pub record Refuses (asked : ℕ) (fault : TakeFault) (m n : SeatOf K opens step plan) : Type 0 where
      pub looks : List (Look WordName)
      pub under : Under K opens step plan m n looks
      pub rests : IsEmptyHanded n.0.part
      pub cause : TakeReads plan.shape asked (Err fault) looks
      pub tells : TakeTells asked fault
      pub can_spend : (count : ℕ) → fault ≡ Spent count → CanSpend plan n.0.seen

    abbrev pub TakesSeat : ℕ → SeatOf K opens step plan → SeatOf K opens step plan → Result Pointer TakeFault → Type 0
    TakesSeat asked m n (Ok q) = (takes : TakesOne K opens step plan m n q) × TakeReads plan.shape asked (Ok q) takes.looks
    TakesSeat asked m n (Err fault) = Refuses asked fault m n
