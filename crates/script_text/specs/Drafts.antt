use Rattle.std.specs.Prelude.{List}
use Rattle.script_text.specs.declared.scripts.Call.{Call}
use Rattle.script_text.specs.declared.lines.Stage.{Stage}

-- what the lines so far have made: the rounds before the present one, and the calls of the present one
pub record Progress : Type 0 where
  pub stage : Stage
  pub before : List (List (List Call))
  pub calls : List (List Call)
