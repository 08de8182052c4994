use Rattle.std.proofs.Common.{subst, arith, ap}
use Rattle.pass_table.specs.Passes.{me_of}
use Rattle.epoch_manager.specs.HomeChains.{chain_of}
use Rattle.epoch_manager.specs.Managers.{plan_of}
use Rattle.epoch_manager.specs.Releasing.{ReleasesAll}
use Rattle.epoch_manager.proofs.ReleaseWhole.{first_so, list_so, gathered_so, below_all}
use Rattle.epoch_manager.proofs.managers.Manager.release_all.Goals as goal

pub loop-locale-init : goal.loop-locale-init
loop-locale-init g c =
    let K = g.C.Client.terms in
    let o = g.C.Object.Object.opens in
    let s = g.C.Object.Object.step in
    let p = plan_of c.args.self.now in
    let m = me_of c.args.seat.now in
    let r = c.requires in
    let e = c.args.epoch in
    record { seat = c.advance_all.ensures.seat; releases = first_so K o s p m e r.scanned.read r.hand r.tail (me_of c.advance_all.new.seat) c.advance_all.ensures.advances (chain_of c.none-homes.result.chains) c.none-homes.ensures }

pub release_list-freed-requires-clause-seat : goal.release_list-freed-requires-clause-seat
release_list-freed-requires-clause-seat g c =
    c.loop-locale.invariant.seat

pub release_list-freed-requires-clause-below : goal.release_list-freed-requires-clause-below
release_list-freed-requires-clause-below g c =
    let K = g.C.Client.terms in
    let o = g.C.Object.Object.opens in
    let s = g.C.Object.Object.step in
    let p = plan_of c.args.self.now in
    let m = me_of c.args.seat.now in
    let r = c.requires in
    let e = c.args.epoch in
    let j = me_of c.loop-locale.seat in
    let so = c.loop-locale.invariant.releases in
    let now = chain_of c.loop-locale.homes.chains in
    let k = c.loop-locale.locale in
    below_all K o s p m e k c.loop-locale.freed now j so r.below

pub release_list-freed-requires-clause-releasing : goal.release_list-freed-requires-clause-releasing
release_list-freed-requires-clause-releasing g c =
    c.loop-locale.invariant.releases.releasing

pub release_list-freed-requires-clause-freed : goal.release_list-freed-requires-clause-freed
release_list-freed-requires-clause-freed g c =
    c.loop-locale.invariant.releases.has

pub loop-locale-preserved : goal.loop-locale-preserved
loop-locale-preserved g c =
    let K = g.C.Client.terms in
    let o = g.C.Object.Object.opens in
    let s = g.C.Object.Object.step in
    let p = plan_of c.args.self.now in
    let m = me_of c.args.seat.now in
    let r = c.requires in
    let e = c.args.epoch in
    let j = me_of c.loop-locale.seat in
    let so = c.loop-locale.invariant.releases in
    let now = chain_of c.loop-locale.homes.chains in
    let k = c.loop-locale.locale in
    record { seat = c.release_list-freed.ensures.seat; releases = list_so K o s p m e k c.loop-locale.freed c.release_list-freed.result now (chain_of c.release_list-freed.new.homes.chains) j (me_of c.release_list-freed.new.seat) so c.release_list-freed.ensures.releases }

pub hand_over_all-requires-clause-seat : goal.hand_over_all-requires-clause-seat
hand_over_all-requires-clause-seat g c = c.loop-locale.invariant.seat

pub hand_over_all-requires-clause-below : goal.hand_over_all-requires-clause-below
hand_over_all-requires-clause-below g c =
    let K = g.C.Client.terms in
    let o = g.C.Object.Object.opens in
    let s = g.C.Object.Object.step in
    let p = plan_of c.args.self.now in
    let m = me_of c.args.seat.now in
    let r = c.requires in
    let e = c.args.epoch in
    let j = me_of c.loop-locale.seat in
    let so = c.loop-locale.invariant.releases in
    let now = chain_of c.loop-locale.homes.chains in
    let k = c.loop-locale.locale in
    below_all K o s p m e k c.loop-locale.freed now j so r.below

pub hand_over_all-requires-clause-gathers : goal.hand_over_all-requires-clause-gathers
hand_over_all-requires-clause-gathers g c = c.loop-locale.invariant.releases.releasing.walking.gathers

pub hand_over_all-requires-clause-tail : goal.hand_over_all-requires-clause-tail
hand_over_all-requires-clause-tail g c = c.loop-locale.invariant.releases.releasing.walking.tail

pub returns-clause-releases : goal.returns-clause-releases
returns-clause-releases g c =
    let K = g.C.Client.terms in
    let o = g.C.Object.Object.opens in
    let s = g.C.Object.Object.step in
    let p = plan_of c.args.self.now in
    let m = me_of c.args.seat.now in
    let r = c.requires in
    let e = c.args.epoch in
    let j = me_of c.loop-locale.seat in
    let so = c.loop-locale.invariant.releases in
    let now = chain_of c.loop-locale.homes.chains in
    let k = c.loop-locale.locale in
    let n = me_of c.hand_over_all.new.seat in
    let all = subst (λ i. ReleasesAll K o s p e i c.loop-locale.freed now m j) (let last = c.loop-locale.auto.locale-end in let over = c.loop-locale-test.false in let h = ap (λ x. x.locales) c.args.self.now.planned in omega (arith, last, over, h)) so in
    gathered_so K o s p m e p.shape.locales c.loop-locale.freed now j n all c.hand_over_all.ensures.gathers
