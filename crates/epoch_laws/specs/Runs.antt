-- Runs of the machine, and the items that they list.
use Rattle.std.specs.Prelude.{ℕ, List, [], ◌∷◌, ◌++◌}
use Rattle.pgas_base.specs.declared.shapes.Shape.{Shape}
use Rattle.pgas_base.specs.declared.starts.Start.{Start}
use Rattle.epoch_laws.specs.declared.steps.Step.{Step}
use Rattle.epoch_laws.specs.declared.events.Item.{Item}
use Rattle.epoch_laws.specs.States.{State, opening}
use Rattle.epoch_laws.specs.Needs.{AllMet, FirstUnmet, Outcome}
use Rattle.epoch_laws.specs.Steps.{move}

-- the step's row is met
abbrev pub IsAllowed : State → Step → Type 0
IsAllowed s step = AllMet ((move s step.seat step.kind).needs)

-- the row isn't met: this is the number of the first need that isn't, and this word is told
abbrev pub IsRefused : State → Step → ℕ → ℕ → Type 0
IsRefused s step need word = FirstUnmet ((move s step.seat step.kind).needs) need word

abbrev pub outcome : State → Step → Outcome
outcome s step = (move s step.seat step.kind).outcome

-- each step is allowed in the state that those before it leave
abbrev pub AreAllowed : State → List Step → Type 0
AreAllowed s [] = Unit {0}
AreAllowed s (step ∷ steps) = IsAllowed s step × AreAllowed ((outcome s step).next) steps

-- the state that the steps leave
abbrev pub state_after : State → List Step → State
state_after s [] = s
state_after s (step ∷ steps) = state_after ((outcome s step).next) steps

-- the items that the steps list, in their order
abbrev pub items_of : State → List Step → List Item
items_of s [] = []
items_of s (step ∷ steps) = (outcome s step).items ++ items_of ((outcome s step).next) steps

-- a list of steps that the machine allows from its opening on
abbrev pub IsRun : Shape → Start → ℕ → List Step → Type 0
IsRun shape start seats steps = AreAllowed (opening shape start seats) steps
