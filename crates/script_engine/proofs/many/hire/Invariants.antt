use Rattle.script_engine.specs.Runs.{AreHired}
use Rattle.script_engine.proofs.many.hire.Given as goal

abbrev pub invariant-loop-pass : goal.invariant-loop-pass
invariant-loop-pass g l = AreHired l.yielded l.workers.items
