use Rattle.script_engine.proofs.RoundAfterRound.{worked_ready}
use Rattle.script_engine.proofs.many.run_round.Goals as goal

pub synchronize-requires-clause-each : goal.synchronize-requires-clause-each
synchronize-requires-clause-each g c κs bounds =
    (worked_ready (g.O.Shared.fits c.args.object.now) g.O.Shared.caller g.O.Shared.page (g.O.Shared.says c.args.object.now) (g.O.Shared.widens c.args.object.now) c.args.workers.now c.work_all.new.workers c.args.calls.now c.requires.own c.in_ok-work_all.ensures).0

pub synchronize-requires-clause-fit : goal.synchronize-requires-clause-fit
synchronize-requires-clause-fit g c κs bounds =
    (worked_ready (g.O.Shared.fits c.args.object.now) g.O.Shared.caller g.O.Shared.page (g.O.Shared.says c.args.object.now) (g.O.Shared.widens c.args.object.now) c.args.workers.now c.work_all.new.workers c.args.calls.now c.requires.own c.in_ok-work_all.ensures).1

pub synchronize-requires-clause-own : goal.synchronize-requires-clause-own
synchronize-requires-clause-own g c κs bounds =
    (worked_ready (g.O.Shared.fits c.args.object.now) g.O.Shared.caller g.O.Shared.page (g.O.Shared.says c.args.object.now) (g.O.Shared.widens c.args.object.now) c.args.workers.now c.work_all.new.workers c.args.calls.now c.requires.own c.in_ok-work_all.ensures).2
