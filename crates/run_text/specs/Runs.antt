-- The text of a run, as plain data.
use Rattle.std.specs.Prelude.{◌<◌, ◌≤◌, ◌^◌, ℕ, List, map}
use Rattle.pgas_base.specs.Pointers.{IsPointer}
use Rattle.pgas_base.specs.Shapes.{IsShape}
use Rattle.pgas_base.specs.Starts.{IsStart}
use Rattle.pgas_base.specs.declared.shapes.Shape.{Shape}
use Rattle.pgas_base.specs.declared.starts.Start.{Start}
use Rattle.epoch_laws.specs.declared.steps.Kind.{Kind}
use Rattle.epoch_laws.specs.declared.steps.Kind.TheVariants.{Register, TakeLook, TakeTry, Show, Hold, Touch, Return, DeferLook, Release, StackLook, StackPut, HandLink, HomeSwap, HomeTake}
use Rattle.epoch_laws.specs.declared.steps.Step.{Step}
use Rattle.run_text.specs.declared.runs.RunText.{RunText}
use Rattle.run_text.specs.declared.runs.StepLine.{StepLine}

pub record PlainRun : Type 0 where
  pub shape : Shape
  pub start : Start
  pub seats : ℕ
  pub steps : List StepLine

abbrev pub plain_run : RunText → PlainRun
plain_run run = record { shape = run.shape; start = run.start; seats = run.seats; steps = run.steps.items }

-- the steps without their lines
abbrev pub steps_of : List StepLine → List Step
steps_of lines = map (λ (l : StepLine). l.step) lines

-- the numbers of a step are those of its types
abbrev pub IsKind : Kind → Type 0
IsKind (Register l n) = (l < 2 ^ 8) × (n < 2 ^ 32)
IsKind (TakeLook l n) = (l < 2 ^ 8) × (n < 2 ^ 32)
IsKind (TakeTry l n) = (l < 2 ^ 8) × (n < 2 ^ 32)
IsKind (Show p) = IsPointer p
IsKind (Hold p) = IsPointer p
IsKind (Touch p) = IsPointer p
IsKind (Return p) = IsPointer p
IsKind (DeferLook p) = IsPointer p
IsKind (Release p) = IsPointer p
IsKind (StackLook l) = l < 2 ^ 8
IsKind (StackPut top tail) = IsPointer top × IsPointer tail
IsKind (HandLink p n) = IsPointer p × (n < 2 ^ 64)
IsKind (HomeSwap top tail) = IsPointer top × IsPointer tail
IsKind (HomeTake l) = l < 2 ^ 8
IsKind kind = Unit {0}

abbrev pub IsStep : Step → Type 0
IsStep step = (step.seat < 2 ^ 32) × IsKind step.kind

-- the machine can be opened, with 1 to 1,024 seats
pub record IsOpening (shape : Shape) (start : Start) (seats : ℕ) : Type 0 where
  pub shape_is : IsShape shape
  pub start_is : IsStart start
  pub some_seat : 1 ≤ seats
  pub few_seats : seats ≤ 1024
