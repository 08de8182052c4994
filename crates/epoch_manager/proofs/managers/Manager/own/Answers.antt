use Rattle.std.proofs.Common.{sym, subst}
use Rattle.pass_table.specs.Passes.{me_of}
use Rattle.epoch_manager.specs.Managers.{plan_of}
use Rattle.epoch_manager.specs.TakeSeats.{OwnsOne}
use Rattle.epoch_manager.proofs.HeaderTakes.{may_see, k_count, may_own, own_takes}
use Rattle.epoch_manager.proofs.managers.Manager.own.Goals as goal

pub take_look-header-requires-clause-may : goal.take_look-header-requires-clause-may
take_look-header-requires-clause-may g c =
    let K = g.C.Client.terms in
    let o = g.C.Object.Object.opens in
    let s = g.C.Object.Object.step in
    let p = plan_of c.args.self.now in
    let l = c.args.locale in
    let i = c.args.index in
    let m = me_of c.args.seat.now in
    may_see K o s p m l i c.requires.below c.requires.phase c.requires.one.inside

pub take_try-requires-clause-count : goal.take_try-requires-clause-count
take_try-requires-clause-count g c =
    let K = g.C.Client.terms in
    let o = g.C.Object.Object.opens in
    let s = g.C.Object.Object.step in
    let p = plan_of c.args.self.now in
    let l = c.args.locale in
    let i = c.args.index in
    let m = me_of c.args.seat.now in
    let k = me_of c.take_look-header.new.seat in
    let looks = c.take_look-header.ensures.makes in
    k_count K o s p m k k l i c.count_in-count.result c.take_look-header.result 0 c.requires.below c.requires.phase c.requires.one c.count_in-count.ensures looks

pub take_try-requires-clause-may : goal.take_try-requires-clause-may
take_try-requires-clause-may g c =
    let K = g.C.Client.terms in
    let o = g.C.Object.Object.opens in
    let s = g.C.Object.Object.step in
    let p = plan_of c.args.self.now in
    let l = c.args.locale in
    let i = c.args.index in
    let m = me_of c.args.seat.now in
    let k = me_of c.take_look-header.new.seat in
    let looks = c.take_look-header.ensures.makes in
    may_own K o s p m k k l i c.count_in-count.result c.take_look-header.result 0 c.requires.below c.requires.phase c.requires.one c.count_in-count.ensures looks c.requires.allowed

pub returns-clause-takes : goal.returns-clause-takes
returns-clause-takes g c =
    let K = g.C.Client.terms in
    let o = g.C.Object.Object.opens in
    let s = g.C.Object.Object.step in
    let p = plan_of c.args.self.now in
    let l = c.args.locale in
    let i = c.args.index in
    let m = me_of c.args.seat.now in
    let k = me_of c.take_look-header.new.seat in
    let looks = c.take_look-header.ensures.makes in
    let n = me_of c.take_try.new.seat in
    subst (OwnsOne K o s p m n) (sym c.new.ensures) (own_takes K o s p m k n l i c.count_in-count.result c.take_look-header.result c.take_try.result c.requires.below c.requires.phase c.requires.one c.count_in-count.ensures looks c.take_try.ensures.makes)
