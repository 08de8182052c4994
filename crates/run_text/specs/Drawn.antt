use Rattle.std.specs.Prelude.{ℕ, List}
use Rattle.pgas_base.specs.declared.shapes.Shape.{Shape}
use Rattle.pgas_base.specs.declared.starts.Start.{Start}
use Rattle.run_text.specs.declared.drafts.Stage.{Stage}
use Rattle.run_text.specs.declared.runs.StepLine.{StepLine}

-- what lines make of a run
pub record Drawn : Type 0 where
  pub lines : ℕ
  pub stage : Stage
  pub shape : Shape
  pub start : Start
  pub seats : ℕ
  pub steps : List StepLine
