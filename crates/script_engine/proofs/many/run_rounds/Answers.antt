use Rattle.std.proofs.Common.{ap, ◌∙◌}
use Rattle.script_text.specs.declared.scripts.Round.{Round}
use Rattle.script_engine.proofs.RoundAfterRound.{ready_next, ran_next, crew_stays}
use Rattle.script_engine.proofs.many.run_rounds.Goals as goal

pub run_round-requires-clause-ready : goal.run_round-requires-clause-ready
run_round-requires-clause-ready g c κs bounds =
    let here = c.as_slice.ensures.value ∙ ap (λ (r : Round). r.calls.items) c.round-item.is in
    ready_next (g.O.Shared.fits c.args.object.now) g.O.Shared.caller g.O.Shared.page (g.O.Shared.says c.args.object.now) (g.O.Shared.widens c.args.object.now) (g.O.Shared.asks c.args.object.now) c.args.rounds.now c.loop-round.round-index c.round-item.result
    c.loop-round-test.true c.as_slice.result.now here _ c.loop-round.workers c.loop-round.invariant.same c.loop-round.invariant.run c.requires.asked c.requires.few

pub loop-round-preserved : goal.loop-round-preserved
loop-round-preserved g c =
    let here = c.as_slice.ensures.value ∙ ap (λ (r : Round). r.calls.items) c.round-item.is in
    let on = c.in_ok-run_round.ensures in record {
      same = crew_stays (g.O.Shared.fits c.args.object.now) g.O.Shared.caller g.O.Shared.page (g.O.Shared.says c.args.object.now) (g.O.Shared.widens c.args.object.now) c.loop-round.workers on.0 c.run_round.new.workers c.as_slice.result.now on.1 on.2 ∙ c.loop-round.invariant.same;
      run = ran_next (g.O.Shared.fits c.args.object.now) g.O.Shared.caller g.O.Shared.page (g.O.Shared.says c.args.object.now) (g.O.Shared.widens c.args.object.now) (g.O.Shared.asks c.args.object.now) c.args.rounds.now c.loop-round.round-index c.round-item.result
          c.loop-round-test.true c.as_slice.result.now here c.loop-round.workers on.0 c.run_round.new.workers c.loop-round.invariant.run on.1 on.2;
    }
