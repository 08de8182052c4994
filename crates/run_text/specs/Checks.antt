-- What a check of a run answers.
use Rattle.std.specs.Prelude.{◌≡◌, ◌↔◌, ℕ, List, [], ◌∷◌, ◌++◌, Option, Some, None}
use Rattle.pgas_base.specs.declared.shapes.Shape.{Shape}
use Rattle.pgas_base.specs.declared.starts.Start.{Start}
use Rattle.epoch_core.specs.declared.machine.Machine.{Machine}
use Rattle.epoch_core.specs.Runs.{IsAfter}
use Rattle.epoch_laws.specs.declared.events.Item.{Item}
use Rattle.epoch_laws.specs.declared.steps.Illegal.{Illegal}
use Rattle.epoch_laws.specs.declared.steps.Step.{Step}
use Rattle.epoch_laws.specs.Histories.{IsLegalHistory}
use Rattle.epoch_laws.specs.Items.{IsExactRelease, happenings}
use Rattle.epoch_laws.specs.Runs.{IsRefused, IsRun, items_of, outcome, state_after}
use Rattle.epoch_laws.specs.States.{State, opening}
use Rattle.run_text.specs.declared.checking.RunEnd.{RunEnd}
use Rattle.run_text.specs.declared.checking.RunEnd.TheVariants.{Run, NotRun}
use Rattle.run_text.specs.declared.runs.StepLine.{StepLine}
use Rattle.run_text.specs.Runs.{PlainRun, steps_of}

-- the state that the text opens
abbrev pub opened : PlainRun → State
opened run = opening run.shape run.start run.seats

abbrev pub AreRun : PlainRun → List Step → Type 0
AreRun run steps = IsRun run.shape run.start run.seats steps

-- the steps of these lines are a run, and list these items
abbrev pub ListsItems : PlainRun → List StepLine → List Item → Type 0
ListsItems run lines items = AreRun run (steps_of lines) × (items ≡ items_of (opened run) (steps_of lines))

-- the steps before this line's are a run and list the items, and its own isn't allowed behind them: this need isn't met, and tells this word
pub record FirstRefused (run : PlainRun) (items : List Item) (number need word : ℕ) : Type 0 where
  pub front : List StepLine
  pub refused : StepLine
  pub rest : List StepLine
  pub parts : run.steps ≡ front ++ refused ∷ rest
  pub lists : ListsItems run front items
  pub line : refused.line ≡ number
  pub told : IsRefused (state_after (opened run) (steps_of front)) refused.step need word

abbrev pub HasChecked : PlainRun → List Item → RunEnd → Type 0
HasChecked run items Run = ListsItems run run.steps items
HasChecked run items (NotRun number need word) = FirstRefused run items number need word

-- the text is said to be a run exactly where it is one
abbrev pub IsVerdict : PlainRun → RunEnd → Type 0
IsVerdict run end = (end ≡ Run) ↔ AreRun run (steps_of run.steps)

abbrev pub IsLegalIn : PlainRun → List Item → Type 0
IsLegalIn run items = IsLegalHistory run.start.count (happenings items)

abbrev pub IsExactIn : PlainRun → List Item → Type 0
IsExactIn run items = IsExactRelease run.start.epoch run.start.count items

-- a step was made behind others, and its item added; or it isn't allowed, and nothing changed
abbrev pub HasMade : Shape → Start → ℕ → List Step → Step → Machine → List Item → List Item → Option Illegal → Type 0
HasMade shape start seats steps step after old new None =
    IsAfter after shape start seats (steps ++ step ∷ []) × (new ≡ old ++ (outcome (state_after (opening shape start seats) steps) step).items)
HasMade shape start seats steps step after old new (Some e) =
    IsAfter after shape start seats steps × IsRefused (state_after (opening shape start seats) steps) step e.need e.word × (new ≡ old)
