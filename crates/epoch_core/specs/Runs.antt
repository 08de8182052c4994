-- What a machine shows after a run, and what a step makes of it.
use Rattle.std.specs.Prelude.{◌≡◌, ◌<◌, ◌^◌, ℕ, List, [], ◌∷◌, ◌++◌, Result, Ok, Err}
use Rattle.pgas_base.specs.declared.shapes.Shape.{Shape}
use Rattle.pgas_base.specs.declared.starts.Start.{Start}
use Rattle.pgas_base.specs.Shapes.{IsShape}
use Rattle.epoch_laws.specs.declared.steps.Illegal.{Illegal}
use Rattle.epoch_laws.specs.declared.steps.Seen.{Seen}
use Rattle.epoch_laws.specs.declared.steps.Step.{Step}
use Rattle.epoch_laws.specs.HomeSteps.{home_walk}
use Rattle.epoch_laws.specs.Places.{place_in}
use Rattle.epoch_laws.specs.ReclaimSteps.{walk}
use Rattle.epoch_laws.specs.Runs.{IsAllowed, IsRefused, IsRun, outcome, state_after}
use Rattle.epoch_laws.specs.States.{State, opening}
use Rattle.epoch_core.specs.declared.machine.Machine.{Machine}
use Rattle.epoch_core.specs.Fresh.{FreshIf, PopsFresh}
use Rattle.epoch_core.specs.Shown.{IsShowing}

-- what the seat may take next is no seat's
pub record TakesFresh (s : State) (c : ℕ) : Type 0 where
  pub popped : PopsFresh s c
  pub taken : FreshIf s ((home_walk s c).needs) (place_in (s.seat c).homing.chain)
  pub walked : FreshIf s ((walk s c).needs) (place_in (s.seat c).reclaim.chain)

-- the machine shows the state that the steps leave, which are a run
pub record IsAfter (m : Machine) (shape : Shape) (start : Start) (seats : ℕ) (steps : List Step) : Type 0 where
  pub shaped : IsShape shape
  pub count : start.count < 2 ^ 32
  pub run : IsRun shape start seats steps
  pub shows : IsShowing m (state_after (opening shape start seats) steps)

-- A step is made exactly where the machine's definition allows it. Else the first need that isn't met and its word are told, and nothing changes
abbrev pub Goes : Shape → Start → ℕ → List Step → Step → Machine → Result Seen Illegal → Type 0
Goes shape start seats steps step after (Ok seen) =
    let s = state_after (opening shape start seats) steps in
    IsAllowed s step × (seen ≡ (outcome s step).seen) × IsAfter after shape start seats (steps ++ step ∷ [])
Goes shape start seats steps step after (Err e) =
    IsRefused (state_after (opening shape start seats) steps) step e.need e.word × IsAfter after shape start seats steps
