use Rattle.std.proofs.Common.{◌<◌, ◌+◌, sym, ap, subst, arith}
use Rattle.pass_table.specs.Passes.{me_of}
use Rattle.epoch_manager.specs.Managers.{plan_of}
use Rattle.epoch_manager.specs.Reclaiming.{AdvancesTo}
use Rattle.epoch_manager.proofs.AdvanceSteps.{may_advance, advance_so, epoch_still, spread_here, may_spread, one_spread}
use Rattle.epoch_manager.proofs.managers.Manager.advance_all.Goals as goal

pub advance-requires-clause-epoch : goal.advance-requires-clause-epoch
advance-requires-clause-epoch g c =
    let K = g.C.Client.terms in
    let o = g.C.Object.Object.opens in
    let s = g.C.Object.Object.step in
    let p = plan_of c.args.self.now in
    let m = me_of c.args.seat.now in
    let e = c.args.epoch in
    let scanned = c.requires.scanned in
    (sym scanned.read, c.requires.epoch)

pub advance-requires-clause-may : goal.advance-requires-clause-may
advance-requires-clause-may g c =
    let K = g.C.Client.terms in
    let o = g.C.Object.Object.opens in
    let s = g.C.Object.Object.step in
    let p = plan_of c.args.self.now in
    let m = me_of c.args.seat.now in
    let e = c.args.epoch in
    let scanned = c.requires.scanned in
    may_advance K o s p e m scanned c.requires.below

pub loop-locale-init : goal.loop-locale-init
loop-locale-init g c =
    let K = g.C.Client.terms in
    let o = g.C.Object.Object.opens in
    let s = g.C.Object.Object.step in
    let p = plan_of c.args.self.now in
    let m = me_of c.args.seat.now in
    let e = c.args.epoch in
    let scanned = c.requires.scanned in
    record { seat = c.advance.ensures.seat; advances = advance_so K o s p e m scanned (me_of c.advance.new.seat) c.advance.ensures.makes }

pub spread-requires-clause-epoch : goal.spread-requires-clause-epoch
spread-requires-clause-epoch g c =
    let K = g.C.Client.terms in
    let o = g.C.Object.Object.opens in
    let s = g.C.Object.Object.step in
    let p = plan_of c.args.self.now in
    let m = me_of c.args.seat.now in
    let e = c.args.epoch in
    let scanned = c.requires.scanned in
    let k = c.loop-locale.locale in
    let j = me_of c.loop-locale.seat in
    let so = c.loop-locale.invariant.advances in
    (epoch_still K o s p e m scanned k j so, c.requires.epoch)

pub spread-requires-clause-locale : goal.spread-requires-clause-locale
spread-requires-clause-locale g c =
    let K = g.C.Client.terms in
    let o = g.C.Object.Object.opens in
    let s = g.C.Object.Object.step in
    let p = plan_of c.args.self.now in
    let m = me_of c.args.seat.now in
    let e = c.args.epoch in
    let scanned = c.requires.scanned in
    let k = c.loop-locale.locale in
    let j = me_of c.loop-locale.seat in
    let so = c.loop-locale.invariant.advances in
    (spread_here K o s p e m scanned k j so, subst (λ h. k < h.locales) c.args.self.now.words.planned (let t = c.loop-locale-test.true in let h = ap (λ x. x.locales) c.args.self.now.planned in omega (arith, t, h)))

pub spread-requires-clause-may : goal.spread-requires-clause-may
spread-requires-clause-may g c =
    let K = g.C.Client.terms in
    let o = g.C.Object.Object.opens in
    let s = g.C.Object.Object.step in
    let p = plan_of c.args.self.now in
    let m = me_of c.args.seat.now in
    let e = c.args.epoch in
    let scanned = c.requires.scanned in
    let k = c.loop-locale.locale in
    let j = me_of c.loop-locale.seat in
    let so = c.loop-locale.invariant.advances in
    may_spread K o s p e m scanned k j so c.requires.below (let t = c.loop-locale-test.true in let h = ap (λ x. x.locales) c.args.self.now.planned in omega (arith, t, h))

pub loop-locale-preserved : goal.loop-locale-preserved
loop-locale-preserved g c =
    let K = g.C.Client.terms in
    let o = g.C.Object.Object.opens in
    let s = g.C.Object.Object.step in
    let p = plan_of c.args.self.now in
    let m = me_of c.args.seat.now in
    let e = c.args.epoch in
    let scanned = c.requires.scanned in
    let k = c.loop-locale.locale in
    let j = me_of c.loop-locale.seat in
    let so = c.loop-locale.invariant.advances in
    record { seat = c.spread.ensures.seat; advances = one_spread K o s p e m scanned k j so (me_of c.spread.new.seat) c.spread.ensures.makes }

pub returns-clause-advances : goal.returns-clause-advances
returns-clause-advances g c =
    let K = g.C.Client.terms in
    let o = g.C.Object.Object.opens in
    let s = g.C.Object.Object.step in
    let p = plan_of c.args.self.now in
    let m = me_of c.args.seat.now in
    let e = c.args.epoch in
    let scanned = c.requires.scanned in
    let k = c.loop-locale.locale in
    let j = me_of c.loop-locale.seat in
    let so = c.loop-locale.invariant.advances in
    subst (λ i. AdvancesTo K o s p (e + 1) i m j) (let last = c.loop-locale.auto.locale-end in let over = c.loop-locale-test.false in let h = ap (λ x. x.locales) c.args.self.now.planned in omega (arith, last, over, h)) so
