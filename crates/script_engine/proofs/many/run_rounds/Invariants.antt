use Rattle.std.proofs.Common.{◌≡◌, length, map, take}
use Rattle.script_text.specs.Scripts.{plain_round}
use Rattle.script_engine.specs.Runs.{HaveRun}
use Rattle.script_engine.proofs.many.run_rounds.Given as goal

abbrev pub invariant-loop-round : goal.invariant-loop-round
invariant-loop-round g l = record {
  same : length l.workers ≡ length l.fn.workers;
  run : HaveRun (g.O.Shared.fits l.object) g.O.Shared.caller g.O.Shared.page (g.O.Shared.says l.object) (map plain_round (take l.round-index l.rounds)) l.workers;
}
