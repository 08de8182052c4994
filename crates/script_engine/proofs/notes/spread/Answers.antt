use Rattle.std.proofs.Common.{rules}
use Rattle.script_engine.proofs.Telling.{spread_step}
use Rattle.script_engine.proofs.notes.spread.Goals as goal

pub loop-k-preserved : goal.loop-k-preserved
loop-k-preserved g c = record {
  fit = search rules;
  same = search rules;
  still = search rules;
  told = spread_step (g.O.Shared.fits c.args.object.now) g.O.Shared.caller g.O.Shared.page c.args.others.now c.loop-k.others c.loop-k.k c.index-others-k.result c.args.pass.now c.loop-k.pass c.inform.new.taker
      c.loop-k-test.true c.loop-k.invariant.still c.loop-k.invariant.told c.inform.ensures.taker.0 c.inform.ensures.taker.1 c.inform.ensures.told;
}
