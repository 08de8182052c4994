use Rattle.std.proofs.Common.{take}
use Rattle.script_engine.specs.Workers.{AreIdle}
use Rattle.script_engine.proofs.rounds.is_busy.Given as goal

abbrev pub invariant-loop-its : goal.invariant-loop-its
invariant-loop-its l = AreIdle (take l.its-index l.calls)
