use Rattle.std.proofs.Common.{◌≢◌, ◌∙◌, ◌+◌, sym, subst, arith}
use Rattle.epoch_laws.specs.ReclaimSteps.{last_count}
use Rattle.pass_table.specs.Passes.{me_of}
use Rattle.epoch_manager.specs.Managers.{plan_of}
use Rattle.epoch_manager.specs.Gathering.{HasFree}
use Rattle.epoch_manager.specs.HomeChains.{chain_of}
use Rattle.epoch_manager.proofs.ReleaseSteps.{place_is, may_walk, may_release, worn_so, has_free, still_below, free_so}
use Rattle.epoch_manager.proofs.managers.Manager.release_next.Goals as goal

pub walk-next-requires-clause-current : goal.walk-next-requires-clause-current
walk-next-requires-clause-current g c =
    let K = g.C.Client.terms in
    let o = g.C.Object.Object.opens in
    let s = g.C.Object.Object.step in
    let p = plan_of c.args.self.now in
    let m = me_of c.args.seat.now in
    let q = c.args.ptr in
    let r = c.requires in
    let old = chain_of c.args.homes.now.chains in
    place_is K o s p q m r.below old r.walking r.pointer r.place r.chain ∙ (λ i. record { locale = sym c.locale.ensures.value i; index = sym c.index.ensures.value i })

pub walk-next-requires-clause-may : goal.walk-next-requires-clause-may
walk-next-requires-clause-may g c =
    let K = g.C.Client.terms in
    let o = g.C.Object.Object.opens in
    let s = g.C.Object.Object.step in
    let p = plan_of c.args.self.now in
    let m = me_of c.args.seat.now in
    let q = c.args.ptr in
    let r = c.requires in
    let old = chain_of c.args.homes.now.chains in
    may_walk K o s p q m r.below old r.walking r.pointer r.place r.chain

pub release-requires-clause-may : goal.release-requires-clause-may
release-requires-clause-may g c =
    let K = g.C.Client.terms in
    let o = g.C.Object.Object.opens in
    let s = g.C.Object.Object.step in
    let p = plan_of c.args.self.now in
    let m = me_of c.args.seat.now in
    let q = c.args.ptr in
    let r = c.requires in
    let old = chain_of c.args.homes.now.chains in
    let word = c.walk-next.result in
    let a = me_of c.walk-next.new.seat in
    let walks = c.walk-next.ensures.makes in
    may_release K o s p q m r.below old r.walking r.pointer r.place r.chain word a walks

pub returns-then-worn-clause-releases : goal.returns-then-worn-clause-releases
returns-then-worn-clause-releases g c =
    let K = g.C.Client.terms in
    let o = g.C.Object.Object.opens in
    let s = g.C.Object.Object.step in
    let p = plan_of c.args.self.now in
    let m = me_of c.args.seat.now in
    let q = c.args.ptr in
    let r = c.requires in
    let old = chain_of c.args.homes.now.chains in
    let word = c.walk-next.result in
    let a = me_of c.walk-next.new.seat in
    let walks = c.walk-next.ensures.makes in
    let b = me_of c.release.new.seat in
    let releases = c.release.ensures.makes in
    worn_so K o s p q m r.below old r.walking r.pointer r.place r.chain word a walks b releases (let full = c.if-worn.true in let is = c.count-worn.ensures in omega arith)

pub gather-requires-clause-below : goal.gather-requires-clause-below
gather-requires-clause-below g c =
    let K = g.C.Client.terms in
    let o = g.C.Object.Object.opens in
    let s = g.C.Object.Object.step in
    let p = plan_of c.args.self.now in
    let m = me_of c.args.seat.now in
    let q = c.args.ptr in
    let r = c.requires in
    let old = chain_of c.args.homes.now.chains in
    let word = c.walk-next.result in
    let a = me_of c.walk-next.new.seat in
    let walks = c.walk-next.ensures.makes in
    let b = me_of c.release.new.seat in
    let releases = c.release.ensures.makes in
    let ne : q.count ≢ last_count = (λ e. absurd (let other = c.if-worn.false in let is = c.count-worn.ensures in omega arith)) in
    still_below K o s p q m r.below old r.walking r.pointer r.place r.chain word a walks b releases ne

pub gather-requires-clause-free : goal.gather-requires-clause-free
gather-requires-clause-free g c =
    let K = g.C.Client.terms in
    let o = g.C.Object.Object.opens in
    let s = g.C.Object.Object.step in
    let p = plan_of c.args.self.now in
    let m = me_of c.args.seat.now in
    let q = c.args.ptr in
    let r = c.requires in
    let old = chain_of c.args.homes.now.chains in
    let word = c.walk-next.result in
    let a = me_of c.walk-next.new.seat in
    let walks = c.walk-next.ensures.makes in
    let b = me_of c.release.new.seat in
    let releases = c.release.ensures.makes in
    let ne : q.count ≢ last_count = (λ e. absurd (let other = c.if-worn.false in let is = c.count-worn.ensures in omega arith)) in
    subst (λ f. HasFree p.shape b.0.part f old) (let n = c.new-free.ensures in let l = c.locale-2.ensures.value in let i = c.index-2.ensures.value in let k = c.count.ensures in (λ t. record { locale = sym l t; index = sym i t; count = sym k t + 1 }) ∙ sym n)
    (has_free K o s p q m r.below old r.walking r.pointer r.place r.chain word a walks b releases ne)

pub returns-clause-releases : goal.returns-clause-releases
returns-clause-releases g c =
    let K = g.C.Client.terms in
    let o = g.C.Object.Object.opens in
    let s = g.C.Object.Object.step in
    let p = plan_of c.args.self.now in
    let m = me_of c.args.seat.now in
    let q = c.args.ptr in
    let r = c.requires in
    let old = chain_of c.args.homes.now.chains in
    let word = c.walk-next.result in
    let a = me_of c.walk-next.new.seat in
    let walks = c.walk-next.ensures.makes in
    let b = me_of c.release.new.seat in
    let releases = c.release.ensures.makes in
    let ne : q.count ≢ last_count = (λ e. absurd (let other = c.if-worn.false in let is = c.count-worn.ensures in omega arith)) in
    free_so K o s p q m r.below old r.walking r.pointer r.place r.chain word a walks b releases ne (me_of c.gather.new.seat) (chain_of c.gather.new.homes.chains) c.gather.ensures.gathers
