-- A run that goes on by one step.
use Rattle.std.proofs.Common.{◌≡◌, List, [], ◌∷◌, ◌++◌, refl, ap, sym, ◌∙◌, append_assoc}
use Rattle.std.proofs.lemmas.List.{append-nil}
use Rattle.epoch_laws.specs.declared.steps.Step.{Step}
use Rattle.epoch_laws.specs.States.{State}
use Rattle.epoch_laws.specs.Runs.{AreAllowed, IsAllowed, outcome, state_after, items_of}

pub allowed_then : (s : State) (steps : List Step) (step : Step) → AreAllowed s steps → IsAllowed (state_after s steps) step → AreAllowed s (steps ++ step ∷ [])
allowed_then s [] step before one = (one, tt)
allowed_then s (first ∷ steps) step before one = (before.0, allowed_then ((outcome s first).next) steps step before.1 one)

pub after_then : (s : State) (steps : List Step) (step : Step) → state_after s (steps ++ step ∷ []) ≡ (outcome (state_after s steps) step).next
after_then s [] step = refl
after_then s (first ∷ steps) step = after_then ((outcome s first).next) steps step

pub items_then : (s : State) (steps : List Step) (step : Step) → items_of s (steps ++ step ∷ []) ≡ items_of s steps ++ (outcome (state_after s steps) step).items
items_then s [] step = append-nil (outcome s step).items
items_then s (first ∷ steps) step = ap (λ l. (outcome s first).items ++ l) (items_then ((outcome s first).next) steps step) ∙ sym (append_assoc (outcome s first).items _ _)
