use Rattle.std.proofs.Common.{◌≤◌, ◌<◌, ◌+◌, ◌*◌, sym, subst, refl, arith, rules, ⊎_elim}
use Rattle.pass_table.specs.Passes.{me_of}
use Rattle.epoch_manager.specs.HomeChains.{chain_of}
use Rattle.epoch_manager.specs.Managers.{plan_of}
use Rattle.epoch_manager.specs.Releasing.{ReleasesList}
use Rattle.epoch_manager.proofs.HomeWalks.{ends_chain, chain_named}
use Rattle.epoch_manager.proofs.ReleaseLists.{most_objects, may_collect, collects_so, walking_on, below_on, inside_on, chain_on, low_now, one_released}
use Rattle.epoch_manager.proofs.managers.Manager.release_list.Goals as goal

pub collect-word-requires-clause-epoch : goal.collect-word-requires-clause-epoch
collect-word-requires-clause-epoch g c = (sym c.requires.releasing.read, c.requires.epoch)

pub collect-word-requires-clause-may : goal.collect-word-requires-clause-may
collect-word-requires-clause-may g c =
    let K = g.C.Client.terms in
    let o = g.C.Object.Object.opens in
    let s = g.C.Object.Object.step in
    let p = plan_of c.args.self.now in
    let m = me_of c.args.seat.now in
    let e = c.args.epoch in
    let l = c.args.locale in
    let f = c.args.freed in
    let old = chain_of c.args.homes.now.chains in
    let r = c.requires in
    may_collect K o s p m e l f old r.releasing r.locale r.below

pub loop-init : goal.loop-init
loop-init g c =
    let K = g.C.Client.terms in
    let o = g.C.Object.Object.opens in
    let s = g.C.Object.Object.step in
    let p = plan_of c.args.self.now in
    let m = me_of c.args.seat.now in
    let e = c.args.epoch in
    let l = c.args.locale in
    let f = c.args.freed in
    let old = chain_of c.args.homes.now.chains in
    let r = c.requires in
    record { seat = c.collect-word.ensures.seat; steps = omega arith; releases = collects_so K o s p m e l f old r.releasing r.locale r.below r.freed c.collect-word.result (me_of c.collect-word.new.seat) c.collect-word.ensures.makes }

pub linked-requires : goal.linked-requires
linked-requires g c =
    let p = plan_of c.args.self.now in
    let most : p.shape.locales ≤ 16 = subst (λ h. h.locales ≤ 16) (sym c.args.self.now.words.planned) c.args.self.now.words.shaped.0.1 in
    record { link = chain_named p.shape c.loop.word most c.loop.invariant.releases.leads }

pub returns-in_default-clause-seat : goal.returns-in_default-clause-seat
returns-in_default-clause-seat g c =
    c.loop.invariant.seat

pub returns-in_default-clause-releases : goal.returns-in_default-clause-releases
returns-in_default-clause-releases g c =
    let K = g.C.Client.terms in
    let o = g.C.Object.Object.opens in
    let s = g.C.Object.Object.step in
    let p = plan_of c.args.self.now in
    let m = me_of c.args.seat.now in
    let e = c.args.epoch in
    let l = c.args.locale in
    let f = c.args.freed in
    let old = chain_of c.args.homes.now.chains in
    let r = c.requires in
    let j = me_of c.loop.seat in
    let so = c.loop.invariant.releases in
    let now = chain_of c.loop.homes.chains in
    let most : p.shape.locales ≤ 16 = subst (λ h. h.locales ≤ 16) (sym c.args.self.now.words.planned) c.args.self.now.words.shaped.0.1 in
    let none = ⊎_elim (λ h. absurd (h (c.in_default.ensures.none.0 refl))) (λ x. x) (ends_chain p.shape c.loop.word most so.leads) in
    subst (λ w. ReleasesList K o s p e l f w c.loop.count now m j) none so

pub release_next-word-requires-clause-seat : goal.release_next-word-requires-clause-seat
release_next-word-requires-clause-seat g c =
    c.loop.invariant.seat

pub release_next-word-requires-clause-below : goal.release_next-word-requires-clause-below
release_next-word-requires-clause-below g c =
    let K = g.C.Client.terms in
    let o = g.C.Object.Object.opens in
    let s = g.C.Object.Object.step in
    let p = plan_of c.args.self.now in
    let m = me_of c.args.seat.now in
    let e = c.args.epoch in
    let l = c.args.locale in
    let f = c.args.freed in
    let old = chain_of c.args.homes.now.chains in
    let r = c.requires in
    let j = me_of c.loop.seat in
    let so = c.loop.invariant.releases in
    let now = chain_of c.loop.homes.chains in
    below_on K o s p m j e l f c.loop.word c.loop.count now so r.below

pub release_next-word-requires-clause-walking : goal.release_next-word-requires-clause-walking
release_next-word-requires-clause-walking g c =
    let K = g.C.Client.terms in
    let o = g.C.Object.Object.opens in
    let s = g.C.Object.Object.step in
    let p = plan_of c.args.self.now in
    let m = me_of c.args.seat.now in
    let e = c.args.epoch in
    let l = c.args.locale in
    let f = c.args.freed in
    let old = chain_of c.args.homes.now.chains in
    let r = c.requires in
    let j = me_of c.loop.seat in
    let so = c.loop.invariant.releases in
    let now = chain_of c.loop.homes.chains in
    walking_on K o s p m j e l f c.loop.word c.loop.count now so

pub release_next-word-requires-clause-place : goal.release_next-word-requires-clause-place
release_next-word-requires-clause-place g c =
    let K = g.C.Client.terms in
    let o = g.C.Object.Object.opens in
    let s = g.C.Object.Object.step in
    let p = plan_of c.args.self.now in
    let m = me_of c.args.seat.now in
    let e = c.args.epoch in
    let l = c.args.locale in
    let f = c.args.freed in
    let old = chain_of c.args.homes.now.chains in
    let r = c.requires in
    let j = me_of c.loop.seat in
    let so = c.loop.invariant.releases in
    let now = chain_of c.loop.homes.chains in
    let q = c.in-Some.ptr in
    let is = c.in-Some.ensures.pointer in
    let same = c.in-Some.ensures.some in
    inside_on K o s p m j e l f c.loop.word c.loop.count now so q is same

pub release_next-word-requires-clause-chain : goal.release_next-word-requires-clause-chain
release_next-word-requires-clause-chain g c =
    let K = g.C.Client.terms in
    let o = g.C.Object.Object.opens in
    let s = g.C.Object.Object.step in
    let p = plan_of c.args.self.now in
    let m = me_of c.args.seat.now in
    let e = c.args.epoch in
    let l = c.args.locale in
    let f = c.args.freed in
    let old = chain_of c.args.homes.now.chains in
    let r = c.requires in
    let j = me_of c.loop.seat in
    let so = c.loop.invariant.releases in
    let now = chain_of c.loop.homes.chains in
    let q = c.in-Some.ptr in
    let is = c.in-Some.ensures.pointer in
    let same = c.in-Some.ensures.some in
    chain_on K o s p m j e l f c.loop.word c.loop.count now so q is same

pub overflow_add-count : goal.overflow_add-count
overflow_add-count g c =
    let K = g.C.Client.terms in
    let o = g.C.Object.Object.opens in
    let s = g.C.Object.Object.step in
    let p = plan_of c.args.self.now in
    let m = me_of c.args.seat.now in
    let e = c.args.epoch in
    let l = c.args.locale in
    let f = c.args.freed in
    let old = chain_of c.args.homes.now.chains in
    let r = c.requires in
    let j = me_of c.loop.seat in
    let so = c.loop.invariant.releases in
    let now = chain_of c.loop.homes.chains in
    let q = c.in-Some.ptr in
    let is = c.in-Some.ensures.pointer in
    let same = c.in-Some.ensures.some in
    let n = me_of c.release_next-word.new.seat in
    let one = c.release_next-word.ensures.releases in
    let next = c.release_next-word.result in
    let low = low_now K o s p m j e l f c.loop.word c.loop.count now so q is same next n (chain_of c.release_next-word.new.homes.chains) one in
    let most = subst (λ h. h.locales * h.objects ≤ 16777216) (sym c.args.self.now.words.planned) (most_objects c.args.self.now.words.shape c.args.self.now.words.shaped) in
    let bound : c.loop.count + 1 < 4294967296 = omega arith in
    search rules

pub loop-preserved : goal.loop-preserved
loop-preserved g c =
    let K = g.C.Client.terms in
    let o = g.C.Object.Object.opens in
    let s = g.C.Object.Object.step in
    let p = plan_of c.args.self.now in
    let m = me_of c.args.seat.now in
    let e = c.args.epoch in
    let l = c.args.locale in
    let f = c.args.freed in
    let old = chain_of c.args.homes.now.chains in
    let r = c.requires in
    let j = me_of c.loop.seat in
    let so = c.loop.invariant.releases in
    let now = chain_of c.loop.homes.chains in
    let q = c.in-Some.ptr in
    let is = c.in-Some.ensures.pointer in
    let same = c.in-Some.ensures.some in
    let n = me_of c.release_next-word.new.seat in
    let one = c.release_next-word.ensures.releases in
    let next = c.release_next-word.result in
    record { seat = c.release_next-word.ensures.seat; steps = (let t = c.loop.invariant.steps in omega arith); releases = one_released K o s p m j e l f c.loop.word c.loop.count now so q is same next n (chain_of c.release_next-word.new.homes.chains) one }

pub unreachable-requires : goal.unreachable-requires
unreachable-requires g c =
    let K = g.C.Client.terms in
    let o = g.C.Object.Object.opens in
    let s = g.C.Object.Object.step in
    let p = plan_of c.args.self.now in
    let m = me_of c.args.seat.now in
    let e = c.args.epoch in
    let l = c.args.locale in
    let f = c.args.freed in
    let old = chain_of c.args.homes.now.chains in
    let r = c.requires in
    let j = me_of c.loop.seat in
    let so = c.loop.invariant.releases in
    let now = chain_of c.loop.homes.chains in
    let low = so.has.low in
    let steps = c.loop.invariant.steps in
    let all = c.many_objects-end.ensures in
    let over = c.loop-test.false in
    let end = c.loop.auto.counter-end in
    omega arith
