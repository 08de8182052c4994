use Rattle.std.proofs.Common.{◌<◌, ◌^◌, List, length, map, sym, subst}
use Rattle.script_text.specs.declared.scripts.Round.{Round}
use Rattle.script_text.specs.Scripts.{plain_script, plain_round}
use Rattle.script_engine.specs.Runs.{calls_of}
use Rattle.script_engine.proofs.ValidScripts.{few_calls}
use Rattle.script_engine.proofs.scripts.run_on_deque.Goals as goal

pub run_shared-requires-clause-few : goal.run_shared-requires-clause-few
run_shared-requires-clause-few g c κs bounds caller =
    subst (λ (rounds : List Round). length (calls_of caller (map plain_round rounds)) < 2 ^ 32) (sym c.as_slice.ensures.value) (few_calls (plain_script c.args.script.now) c.requires.valid caller)
