-- What the steps of a check make.
use Rattle.std.proofs.Common.{◌≡◌, ◌<◌, ◌^◌, ◌+◌, suc, length, take, drop, get_or, Option, Some, None, ℕ, List, [], ◌∷◌, ◌++◌, refl, ap, sym, ◌∙◌, subst, ⊎_elim, append_assoc, append-nil}
use Rattle.std.proofs.Math.Seq.{split_at}
use Rattle.std.proofs.lemmas.List.{map-append, take_more}
use Rattle.pgas_base.specs.Shapes.{IsShape}
use Rattle.pgas_base.specs.declared.shapes.Shape.{Shape}
use Rattle.pgas_base.specs.declared.starts.Start.{Start}
use Rattle.epoch_core.specs.declared.machine.Machine.{Machine}
use Rattle.epoch_laws.specs.declared.events.Item.{Item}
use Rattle.epoch_laws.specs.declared.steps.Illegal.{Illegal}
use Rattle.epoch_laws.specs.declared.steps.Step.{Step}
use Rattle.epoch_laws.specs.Laws.{EventsAreLegal, ReleaseIsExact}
use Rattle.epoch_laws.specs.Needs.{Need, AllMet, FirstUnmet}
use Rattle.epoch_laws.specs.Runs.{AreAllowed, IsAllowed, items_of, outcome, state_after}
use Rattle.epoch_laws.specs.States.{State}
use Rattle.run_text.specs.declared.checking.RunEnd.{RunEnd}
use Rattle.run_text.specs.declared.checking.RunEnd.TheVariants.{Run, NotRun}
use Rattle.run_text.specs.declared.runs.StepLine.{StepLine}
use Rattle.run_text.specs.Checks.{opened, ListsItems, HasChecked, HasMade, IsVerdict, IsLegalIn, IsExactIn}
use Rattle.run_text.specs.Runs.{PlainRun, steps_of}

-- ---- one step more

pub items_then : (s : State) (steps : List Step) (step : Step) → items_of s (steps ++ step ∷ []) ≡ items_of s steps ++ (outcome (state_after s steps) step).items
items_then s [] step = append-nil (outcome s step).items
items_then s (first ∷ steps) step =
    ap (λ (l : List Item). (outcome s first).items ++ l) (items_then (outcome s first).next steps step)
    ∙ sym (append_assoc (outcome s first).items (items_of (outcome s first).next steps) (outcome (state_after (outcome s first).next steps) step).items)

pub steps_then : (lines : List StepLine) (line : StepLine) → steps_of (lines ++ line ∷ []) ≡ steps_of lines ++ line.step ∷ []
steps_then lines line = map-append (λ (l : StepLine). l.step) lines (line ∷ [])

-- ---- the verdict

unmet_not : (needs : List Need) (number word : ℕ) → FirstUnmet needs number word → AllMet needs → ⊥
unmet_not [] number word unmet all = unmet
unmet_not (need ∷ needs) number word unmet all = ⊎_elim (λ here. here.0 all.0) (λ later. unmet_not needs number word later.1 all.1) unmet

-- each step of a run is allowed behind those before it
allowed_at : (s : State) (front : List StepLine) (line : StepLine) (rest : List StepLine) → AreAllowed s (steps_of (front ++ line ∷ rest)) → IsAllowed (state_after s (steps_of front)) line.step
allowed_at s [] line rest all = all.0
allowed_at s (first ∷ front) line rest all = allowed_at (outcome s first.step).next front line rest all.1

no_run : (number need word : ℕ) → ◌≡◌ {A = RunEnd} (NotRun number need word) Run → ⊥
no_run number need word is = cc

pub verdict : (run : PlainRun) (items : List Item) (end : RunEnd) → HasChecked run items end → IsVerdict run end
verdict run items Run checked = (λ _. checked.0, λ _. refl)
verdict run items (NotRun number need word) checked = (
  λ is. absurd (no_run number need word is),
  λ all. absurd (unmet_not _ need word checked.told (allowed_at (opened run) checked.front checked.refused checked.rest (subst (λ (l : List StepLine). AreAllowed (opened run) (steps_of l)) checked.parts all))),
)

-- ---- what holds of every run

-- some lines are a run and list the items
listing : (run : PlainRun) (items : List Item) (end : RunEnd) → HasChecked run items end → (lines : List StepLine) × ListsItems run lines items
listing run items Run checked = (run.steps, checked)
listing run items (NotRun number need word) checked = (checked.front, checked.lists)

module _ (run : PlainRun) (items : List Item) (end : RunEnd) (shaped : IsShape run.shape) (count : run.start.count < 2 ^ 32) (checked : HasChecked run items end) where
  pub legal : EventsAreLegal → IsLegalIn run items
  legal law = let found = listing run items end checked in
      subst (λ (l : List Item). IsLegalIn run l) (sym found.1.1) (law run.shape run.start run.seats (steps_of found.0) shaped count found.1.0)

  pub exact : ReleaseIsExact → IsExactIn run items
  exact law = let found = listing run items end checked in
      subst (λ (l : List Item). IsExactIn run l) (sym found.1.1) (law run.shape run.start run.seats (steps_of found.0) shaped count found.1.0)

-- ---- steps that were made

pub made_all : (shape : Shape) (start : Start) (seats : ℕ) (steps : List Step) (step : Step) (after : Machine) (old new : List Item) (r : Option Illegal)
    → ((e : Illegal) → r ≡ Some e → ⊥) → HasMade shape start seats steps step after old new r → HasMade shape start seats steps step after old new None
made_all shape start seats steps step after old new None none made = made
made_all shape start seats steps step after old new (Some e) none made = absurd (none e refl)

-- the lines before one and it itself
pub lines_more : (lines : List StepLine) (i : ℕ) (line : StepLine) → i < length lines → get_or lines i line ≡ line → steps_of (take (i + 1) lines) ≡ steps_of (take i lines) ++ line.step ∷ []
lines_more lines i line within is =
    ap steps_of (take_more lines i line within) ∙ (steps_then (take i lines) (get_or lines i line) ∙ ap (λ (l : StepLine). steps_of (take i lines) ++ l.step ∷ []) is)

pub parted : (lines : List StepLine) (i : ℕ) (line : StepLine) → i < length lines → get_or lines i line ≡ line → lines ≡ take i lines ++ line ∷ drop (suc i) lines
parted lines i line within is = split_at lines i line within ∙ ap (λ (l : StepLine). take i lines ++ l ∷ drop (suc i) lines) is
