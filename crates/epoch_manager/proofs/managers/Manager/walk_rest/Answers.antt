use Rattle.std.proofs.Common.{◌≤◌, ◌∙◌, ap, refl, sym, subst, ⊎_elim, arith}
use Rattle.epoch_laws.specs.Seats.{is_reclaiming}
use Rattle.pass_table.specs.Passes.{me_of}
use Rattle.epoch_manager.specs.Managers.{plan_of}
use Rattle.epoch_manager.proofs.HomeWalks.{on_first, on_more, on_end, next_at, ends_chain, chain_named}
use Rattle.epoch_manager.proofs.Takes.{number_still}
use Rattle.epoch_manager.proofs.managers.Manager.walk_rest.Goals as goal

pub loop-init : goal.loop-init
loop-init g c =
    let K = g.C.Client.terms in
    let o = g.C.Object.Object.opens in
    let s = g.C.Object.Object.step in
    let p = plan_of c.args.self.now in
    let m = me_of c.args.seat.now in
    record { seat = c.walk-word.ensures.seat; on = on_first K o s p m (me_of c.walk-word.new.seat) c.args.first c.args.top c.walk-word.result c.requires.pointer c.requires.place c.requires.local c.requires.chained c.walk-word.ensures.walks }

pub linked-requires : goal.linked-requires
linked-requires g c =
    let p = plan_of c.args.self.now in
    let most : p.shape.locales ≤ 16 = subst (λ h. h.locales ≤ 16) (sym c.args.self.now.words.planned) c.args.self.now.words.shaped.0.1 in
    record { link = chain_named p.shape c.loop.word most c.loop.invariant.on.leads }

pub returns-in_default-clause-seat : goal.returns-in_default-clause-seat
returns-in_default-clause-seat g c =
    let K = g.C.Client.terms in
    let o = g.C.Object.Object.opens in
    let s = g.C.Object.Object.step in
    let p = plan_of c.args.self.now in
    let m = me_of c.args.seat.now in
    c.loop.invariant.seat

pub returns-in_default-clause-walks : goal.returns-in_default-clause-walks
returns-in_default-clause-walks g c =
    let K = g.C.Client.terms in
    let o = g.C.Object.Object.opens in
    let s = g.C.Object.Object.step in
    let p = plan_of c.args.self.now in
    let m = me_of c.args.seat.now in
    let first = c.args.first in
    let top = c.args.top in
    let k = me_of c.loop.seat in
    let was = c.loop.invariant.on in
    let most : p.shape.locales ≤ 16 = subst (λ h. h.locales ≤ 16) (sym c.args.self.now.words.planned) c.args.self.now.words.shaped.0.1 in
    let none = ⊎_elim (λ h. absurd (h (c.in_default.ensures.none.0 refl))) (λ e. e) (ends_chain p.shape c.loop.word most was.leads) in
    on_end K o s p m k first top c.loop.tail c.loop.word was none

pub walk-word-requires-in-loop-clause-seat : goal.walk-word-requires-in-loop-clause-seat
walk-word-requires-in-loop-clause-seat g c =
    let K = g.C.Client.terms in
    let o = g.C.Object.Object.opens in
    let s = g.C.Object.Object.step in
    let p = plan_of c.args.self.now in
    let m = me_of c.args.seat.now in
    c.loop.invariant.seat

pub walk-word-requires-in-loop-clause-below : goal.walk-word-requires-in-loop-clause-below
walk-word-requires-in-loop-clause-below g c =
    let K = g.C.Client.terms in
    let o = g.C.Object.Object.opens in
    let s = g.C.Object.Object.step in
    let p = plan_of c.args.self.now in
    let m = me_of c.args.seat.now in
    let first = c.args.first in
    let top = c.args.top in
    let k = me_of c.loop.seat in
    let was = c.loop.invariant.on in
    let reads = was.reads in
    let low = c.requires.below in
    let number = number_still K o s p m k reads.looks reads.under in
    omega (arith, low, number)

pub walk-word-requires-in-loop-clause-phase : goal.walk-word-requires-in-loop-clause-phase
walk-word-requires-in-loop-clause-phase g c =
    let K = g.C.Client.terms in
    let o = g.C.Object.Object.opens in
    let s = g.C.Object.Object.step in
    let p = plan_of c.args.self.now in
    let m = me_of c.args.seat.now in
    let first = c.args.first in
    let top = c.args.top in
    let k = me_of c.loop.seat in
    let was = c.loop.invariant.on in
    let reads = was.reads in
    ap is_reclaiming reads.under.same.phase ∙ c.requires.phase

pub walk-word-requires-in-loop-clause-place : goal.walk-word-requires-in-loop-clause-place
walk-word-requires-in-loop-clause-place g c =
    let K = g.C.Client.terms in
    let o = g.C.Object.Object.opens in
    let s = g.C.Object.Object.step in
    let p = plan_of c.args.self.now in
    let m = me_of c.args.seat.now in
    let first = c.args.first in
    let top = c.args.top in
    let k = me_of c.loop.seat in
    let was = c.loop.invariant.on in
    let q = c.in-Some-linked.next in
    let same = c.in-Some-linked.ensures.some in
    let at = next_at K o s p first top c.loop.tail q m k c.loop.word was c.in-Some-linked.ensures.pointer same in
    at.0

pub walk-word-requires-in-loop-clause-chain : goal.walk-word-requires-in-loop-clause-chain
walk-word-requires-in-loop-clause-chain g c =
    let K = g.C.Client.terms in
    let o = g.C.Object.Object.opens in
    let s = g.C.Object.Object.step in
    let p = plan_of c.args.self.now in
    let m = me_of c.args.seat.now in
    let first = c.args.first in
    let top = c.args.top in
    let k = me_of c.loop.seat in
    let was = c.loop.invariant.on in
    let q = c.in-Some-linked.next in
    let same = c.in-Some-linked.ensures.some in
    let at = next_at K o s p first top c.loop.tail q m k c.loop.word was c.in-Some-linked.ensures.pointer same in
    was.chain ∙ sym same

pub loop-preserved : goal.loop-preserved
loop-preserved g c =
    let K = g.C.Client.terms in
    let o = g.C.Object.Object.opens in
    let s = g.C.Object.Object.step in
    let p = plan_of c.args.self.now in
    let m = me_of c.args.seat.now in
    let first = c.args.first in
    let top = c.args.top in
    let k = me_of c.loop.seat in
    let was = c.loop.invariant.on in
    let q = c.in-Some-linked.next in
    let same = c.in-Some-linked.ensures.some in
    let at = next_at K o s p first top c.loop.tail q m k c.loop.word was c.in-Some-linked.ensures.pointer same in
    record { seat = c.walk-word-in-loop.ensures.seat; on = on_more K o s p m k (me_of c.walk-word-in-loop.new.seat) first top c.loop.tail q c.loop.word c.walk-word-in-loop.result was c.in-Some-linked.ensures.pointer at.0 at.1 same c.walk-word-in-loop.ensures.walks }
