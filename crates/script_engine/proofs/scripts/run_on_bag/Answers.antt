use Rattle.std.proofs.Common.{◌<◌, ◌^◌, ◌∙◌, List, length, map, ap, sym, subst}
use Rattle.std.proofs.lemmas.Option.{slice_get-get_or}
use Rattle.script_text.specs.declared.scripts.Round.{Round}
use Rattle.script_text.specs.Scripts.{plain_script, plain_round}
use Rattle.script_engine.specs.Runs.{calls_of}
use Rattle.script_engine.proofs.ValidScripts.{few_calls}
use Rattle.script_engine.proofs.scripts.run_on_bag.Goals as goal

pub run_shared-requires-clause-new : goal.run_shared-requires-clause-new
run_shared-requires-clause-new g c κs bounds =
    let opened = c.in-Ok.ensures.ok in
    let passes = c.in-Ok.passes.items in record {
      count = opened.count ∙ sym (ap (λ s. s.callers) opened.shaped);
      fit = opened.opening;
      number = λ k d within. (opened.each k _ (slice_get-get_or passes k d within)).numbered;
      empty = λ k d within. (opened.each k _ (slice_get-get_or passes k d within)).empty;
    }

pub run_shared-requires-clause-few : goal.run_shared-requires-clause-few
run_shared-requires-clause-few g c κs bounds caller =
    subst (λ (rounds : List Round). length (calls_of caller (map plain_round rounds)) < 2 ^ 32) (sym c.as_slice.ensures.value) (few_calls (plain_script c.args.script.now) c.requires.valid caller)
