use Rattle.std.proofs.Common.{◌≡◌, length, rules}
use Rattle.script_engine.proofs.Crews.{nobody_worked}
use Rattle.script_engine.proofs.rounds.work_alone.Goals as goal

pub returns-in_default : goal.returns-in_default
returns-in_default g c =
    let none : length c.args.calls.now ≡ 0 = search rules in
    nobody_worked (g.O.Shared.fits c.args.object.now) (g.O.Shared.asks c.args.object.now) g.O.Shared.caller g.O.Shared.page (g.O.Shared.says c.args.object.now) c.args.workers.now c.args.calls.now c.requires.ready none
