use Rattle.pass_table.specs.Passes.{me_of}
use Rattle.epoch_manager.specs.Managers.{plan_of}
use Rattle.epoch_manager.proofs.Rounds.{head_then}
use Rattle.epoch_manager.proofs.managers.Manager.get.Goals as goal

pub returns-in-Empty-clause-gets : goal.returns-in-Empty-clause-gets
returns-in-Empty-clause-gets g c =
    let K = g.C.Client.terms in
    let o = g.C.Object.Object.opens in
    let s = g.C.Object.Object.step in
    let p = plan_of c.args.self.now in
    let m = me_of c.args.seat.now in
    let k = me_of c.pop-popped.new.seat in
    let n = me_of c.take_home.new.seat in
    let first = c.in-Empty.ensures.gets in
    head_then K o s p c.args.locale m k n c.take_home.result first.0 first.2.0 first.2.2 first.1 c.take_home.ensures.gets
