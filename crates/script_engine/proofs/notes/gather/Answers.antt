use Rattle.std.proofs.Common.{slice_index_or, arith, rules}
use Rattle.script_engine.specs.Workers.{HasTold}
use Rattle.script_engine.proofs.Telling.{gather_step}
use Rattle.script_engine.proofs.notes.gather.Goals as goal

pub loop-k-preserved : goal.loop-k-preserved
loop-k-preserved g c =
    let tells : HasTold (g.O.Shared.fits c.args.object.now) g.O.Shared.caller g.O.Shared.page (slice_index_or c.args.calls.now c.loop-k.k c.index-calls-k.result).items (slice_index_or c.loop-k.others c.loop-k.k c.index-others-k.result).pass (g.O.Shared.page c.gather_one.new.pass).seen = search rules in
    let step =
    gather_step (g.O.Shared.fits c.args.object.now) g.O.Shared.caller g.O.Shared.page c.args.others.now c.loop-k.others c.args.calls.now c.loop-k.k c.index-calls-k.result c.index-others-k.result c.gather_one.new.other c.args.pass.now c.loop-k.pass c.gather_one.new.pass
    c.requires.each c.loop-k-test.true c.loop-k.invariant.still c.loop-k.invariant.learnt c.loop-k.invariant.told (search rules) c.gather_one.ensures.pass tells in
    record { still = step.0; learnt = step.1; told = step.2 }

pub returns-clause-told : goal.returns-clause-told
returns-clause-told g c k its d within = c.loop-k.invariant.told k its d (omega arith)
