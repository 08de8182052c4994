use Rattle.pass_table.specs.Passes.{me_of}
use Rattle.epoch_manager.specs.Managers.{plan_of}
use Rattle.epoch_manager.proofs.Rounds.{got_one, spent_misses, empty_misses}
use Rattle.epoch_manager.proofs.managers.Manager.try_locale.Goals as goal

pub returns-in-Got-clause-tries : goal.returns-in-Got-clause-tries
returns-in-Got-clause-tries g c =
    let K = g.C.Client.terms in
    let o = g.C.Object.Object.opens in
    let s = g.C.Object.Object.step in
    let p = plan_of c.args.self.now in
    let m = me_of c.args.seat.now in
    let k = me_of c.get-got.new.seat in
    let n = me_of c.own-ptr.new.seat in
    let gets = c.in-Got.ensures.gets in
    got_one K o s p c.args.locale m k n gets.0 c.own-ptr.result gets.2.0 gets.1 gets.2.2 c.own-ptr.ensures.takes c.own-ptr.ensures.local

pub returns-in-Empty-clause-tries : goal.returns-in-Empty-clause-tries
returns-in-Empty-clause-tries g c =
    let K = g.C.Client.terms in
    let o = g.C.Object.Object.opens in
    let s = g.C.Object.Object.step in
    let p = plan_of c.args.self.now in
    let m = me_of c.args.seat.now in
    let k = me_of c.get-got.new.seat in
    let n = me_of c.scan-free.new.seat in
    empty_misses K o s p c.args.locale m k n c.scan-free.result c.requires.locale c.in-Empty.ensures.gets c.scan-free.ensures.scans

pub returns-in-Spent-clause-tries : goal.returns-in-Spent-clause-tries
returns-in-Spent-clause-tries g c =
    let K = g.C.Client.terms in
    let o = g.C.Object.Object.opens in
    let s = g.C.Object.Object.step in
    let p = plan_of c.args.self.now in
    let m = me_of c.args.seat.now in
    let k = me_of c.get-got.new.seat in
    spent_misses K o s p c.args.locale m k c.in-Spent.ensures.gets
