use Rattle.std.proofs.Common.{map}
use Rattle.script_engine.specs.Runs.{AreDismissed}
use Rattle.script_engine.proofs.many.dismiss.Given as goal

abbrev pub invariant-loop-worker : goal.invariant-loop-worker
invariant-loop-worker g l = AreDismissed l.yielded l.passes.items (map (λ replies. replies.items) l.replies.items)
