-- What holds of every run.
use Rattle.std.specs.Prelude.{◌≤◌, ◌≡◌, ◌≢◌, ◌<◌, ◌^◌, ℕ, true, false, List}
use Rattle.pgas_base.specs.declared.shapes.Shape.{Shape}
use Rattle.pgas_base.specs.declared.starts.Start.{Start}
use Rattle.pgas_base.specs.Shapes.{IsShape}
use Rattle.epoch_laws.specs.declared.events.Item.{Item}
use Rattle.epoch_laws.specs.declared.steps.Step.{Step}
use Rattle.epoch_laws.specs.Places.{Place, place_in, index_in, is_among}
use Rattle.epoch_laws.specs.States.{State, IsPlace, opening}
use Rattle.epoch_laws.specs.Needs.{AllMet}
use Rattle.epoch_laws.specs.ReclaimSteps.{walk}
use Rattle.epoch_laws.specs.StackSteps.{stack_pop, looked_top, same_head}
use Rattle.epoch_laws.specs.HomeSteps.{home_walk}
use Rattle.epoch_laws.specs.Runs.{IsAllowed, IsRun, outcome, state_after, items_of}
use Rattle.epoch_laws.specs.Elections.{IsElected}
use Rattle.epoch_laws.specs.Holds.{AreHeld}
use Rattle.epoch_laws.specs.Owners.{AreOwned}
use Rattle.epoch_laws.specs.Accounts.{account, account_of}
use Rattle.epoch_laws.specs.Sound.{Map, IsSound}
use Rattle.epoch_laws.specs.Counts.{HasCounts}
use Rattle.epoch_laws.specs.Told.{IsTold, view_of}
use Rattle.epoch_laws.specs.Frames.{LeavesOthers}
use Rattle.epoch_laws.specs.Histories.{IsLegalHistory}
use Rattle.epoch_laws.specs.Items.{happenings, IsExactRelease}

-- what holds of a state that is reached, and what the items so far tell of it
pub record IsReached (first count : ℕ) (s : State) (items : List Item) : Type 0 where
  pub map : Map
  pub sound : IsSound s map
  pub elected : IsElected s
  pub held : AreHeld s
  pub owned : AreOwned s
  pub said : account count items ≡ account_of s
  pub current : HasCounts s map.loc
  pub told : IsTold first count (view_of s map.loc) items

-- it holds of every state that a run leaves
abbrev pub StatesAreSound : Type 0
StatesAreSound = (shape : Shape) (start : Start) (seats : ℕ) (steps : List Step)
    → IsShape shape → start.count < 2 ^ 32 → IsRun shape start seats steps
    → IsReached start.epoch start.count (state_after (opening shape start seats) steps) (items_of (opening shape start seats) steps)

-- an object of the shape that no seat owns, has in hand or has walked over
pub record IsNobodys (s : State) (p : Place) : Type 0 where
  pub inside : IsPlace s.shape p
  pub owned : (d : ℕ) → is_among p ((s.seat d).owned) ≡ false
  pub hand : (d : ℕ) → is_among p ((s.seat d).hand) ≡ false
  pub walked : (d : ℕ) → is_among p ((s.seat d).reclaim.walked) ≡ false

-- an object that a step takes from a stack, a home chain or a collected chain was nobody's
pub record TakesNobodys (s : State) (c : ℕ) : Type 0 where
  pub popped : AllMet ((stack_pop s c).needs) → same_head (s.words.free_head (s.seat c).stack.locale) (s.seat c).stack.head ≡ true
      → IsNobodys s (looked_top ((s.seat c).stack))
  -- the next word that a won pop read has an index of the shape, or 0
  pub below : AllMet ((stack_pop s c).needs) → same_head (s.words.free_head (s.seat c).stack.locale) (s.seat c).stack.head ≡ true
      → index_in ((s.seat c).stack.next) ≤ s.shape.objects
  pub taken : AllMet ((home_walk s c).needs) → IsNobodys s (place_in ((s.seat c).homing.chain))
  pub walked : AllMet ((walk s c).needs) → IsNobodys s (place_in ((s.seat c).reclaim.chain))

-- in every state that a run leaves each object is one seat's at most
abbrev pub ObjectsAreApart : Type 0
ObjectsAreApart = (shape : Shape) (start : Start) (seats : ℕ) (steps : List Step)
    → IsShape shape → start.count < 2 ^ 32 → IsRun shape start seats steps
    → (c : ℕ) → TakesNobodys (state_after (opening shape start seats) steps) c

-- a step after a run leaves the other seats what they have and hold
abbrev pub StepsLeaveOthers : Type 0
StepsLeaveOthers = (shape : Shape) (start : Start) (seats : ℕ) (steps : List Step)
    → IsShape shape → start.count < 2 ^ 32 → IsRun shape start seats steps
    → (step : Step) → IsAllowed (state_after (opening shape start seats) steps) step
    → (c : ℕ) → c ≢ step.seat
    → LeavesOthers (state_after (opening shape start seats) steps) (outcome (state_after (opening shape start seats) steps) step).next c

-- the events of every run are a legal history
abbrev pub EventsAreLegal : Type 0
EventsAreLegal = (shape : Shape) (start : Start) (seats : ℕ) (steps : List Step)
    → IsShape shape → start.count < 2 ^ 32 → IsRun shape start seats steps
    → IsLegalHistory start.count (happenings (items_of (opening shape start seats) steps))

-- the advances, tags and releases of every run are exact
abbrev pub ReleaseIsExact : Type 0
ReleaseIsExact = (shape : Shape) (start : Start) (seats : ℕ) (steps : List Step)
    → IsShape shape → start.count < 2 ^ 32 → IsRun shape start seats steps
    → IsExactRelease start.epoch start.count (items_of (opening shape start seats) steps)
