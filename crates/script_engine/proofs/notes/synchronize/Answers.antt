use Rattle.std.proofs.Common.{rules}
use Rattle.script_engine.proofs.Telling.{spread_all}
use Rattle.script_engine.proofs.notes.synchronize.Goals as goal

pub returns : goal.returns
returns g c =
    spread_all (g.O.Shared.fits c.args.object.now) g.O.Shared.caller g.O.Shared.page c.args.calls.now c.in-Some.theirs.now c.in-Some.field-0-0.now c.args.workers.now c.in-Some-split_first_mut.others.now c.gather.new.others c.spread.new.others
    c.in-Some-split_first_mut.first.now c.gather.new.pass c.spread.new.pass (search rules) (search rules) c.gather.ensures.others c.gather.ensures.pass c.gather.ensures.told c.spread.ensures.pass.0 c.spread.ensures.pass.1 c.spread.ensures.pass.2
    c.spread.ensures.told
