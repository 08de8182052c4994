use Rattle.std.proofs.Common.{◌≡◌, ◌++◌, take, string_bytes}
use Rattle.std.specs.List.{flat_map}
use Rattle.run_text.specs.declared.runs.StepLine.{StepLine}
use Rattle.run_text.specs.Written.{step_line}
use Rattle.run_text.proofs.writer.push_steps.Given as goal

abbrev pub invariant-loop-line : goal.invariant-loop-line
invariant-loop-line l = string_bytes l.text ≡ string_bytes l.fn.text ++ flat_map (λ (l : StepLine). step_line l.step) (take l.line-index l.steps)
