use Rattle.std.proofs.Common.{[], slice_index_or, ap, ◌∙◌}
use Rattle.script_text.specs.declared.scripts.Round.{Round}
use Rattle.script_text.specs.Scripts.{plain_round}
use Rattle.script_engine.proofs.Chains.{asked-at, has-round}
use Rattle.script_engine.proofs.alone.ask_rounds.Goals as goal

pub ask_calls-requires : goal.ask_calls-requires
ask_calls-requires g c =
    let first = c.first_list.ensures ∙ ap (λ (r : Round). slice_index_or (plain_round r) 0 []) c.round-item.is in
    asked-at g.O.Asked.asks c.args.rounds.now c.loop-round.round-index _ c.first_list.result.now c.requires c.loop-round-test.true first

pub loop-round-preserved : goal.loop-round-preserved
loop-round-preserved g c =
    let first = c.first_list.ensures ∙ ap (λ (r : Round). slice_index_or (plain_round r) 0 []) c.round-item.is in
    has-round g.O.Asked.does _ _ _ c.args.rounds.now _ _ _ _ _ _ c.loop-round-test.true c.loop-round.invariant first c.in_ok-ask_calls.ensures
