use Rattle.std.proofs.Common.{◌≡◌, [], take}
use Rattle.epoch_core.specs.Runs.{IsAfter}
use Rattle.epoch_laws.specs.Runs.{items_of}
use Rattle.run_text.specs.Checks.{opened}
use Rattle.run_text.specs.Runs.{PlainRun, steps_of}
use Rattle.run_text.proofs.checking.make_steps.Given as goal

abbrev pub invariant-loop-line : goal.invariant-loop-line
invariant-loop-line l =
    (run : PlainRun) → run.steps ≡ l.steps → IsAfter l.fn.machine run.shape run.start run.seats [] → l.fn.items.items ≡ []
    → IsAfter l.machine run.shape run.start run.seats (steps_of (take l.line-index l.steps)) × (l.items.items ≡ items_of (opened run) (steps_of (take l.line-index l.steps)))
