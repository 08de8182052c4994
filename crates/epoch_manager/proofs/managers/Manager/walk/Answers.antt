use Rattle.std.proofs.Common.{◌∙◌, ap, sym, arith}
use Rattle.epoch_laws.specs.Seats.{is_reclaiming}
use Rattle.pass_table.specs.Passes.{me_of}
use Rattle.epoch_manager.specs.Managers.{plan_of}
use Rattle.epoch_manager.proofs.HomeWalks.{waits_first, may_walk, chain_still, current_is, waits_more, walked}
use Rattle.epoch_manager.proofs.Takes.{number_still}
use Rattle.epoch_manager.proofs.managers.Manager.walk.Goals as goal

pub loop-init : goal.loop-init
loop-init g c =
    let K = g.C.Client.terms in
    let o = g.C.Object.Object.opens in
    let s = g.C.Object.Object.step in
    let p = plan_of c.args.self.now in
    let m = me_of c.args.seat.now in
    record { seat = c.requires.seat; waits = waits_first K o s p m c.args.ptr }

pub home_walk-next-requires-clause-seat : goal.home_walk-next-requires-clause-seat
home_walk-next-requires-clause-seat g c =
    let K = g.C.Client.terms in
    let o = g.C.Object.Object.opens in
    let s = g.C.Object.Object.step in
    let p = plan_of c.args.self.now in
    let m = me_of c.args.seat.now in
    c.loop.invariant.seat

pub home_walk-next-requires-clause-current : goal.home_walk-next-requires-clause-current
home_walk-next-requires-clause-current g c =
    let K = g.C.Client.terms in
    let o = g.C.Object.Object.opens in
    let s = g.C.Object.Object.step in
    let p = plan_of c.args.self.now in
    let m = me_of c.args.seat.now in
    let q = c.args.ptr in
    let k = me_of c.loop.seat in
    let was = c.loop.invariant.waits in
    let l = c.locale.ensures.value in
    let i = c.index.ensures.value in
    current_is K o s p m k q c.requires.pointer c.requires.chain was ∙ (λ t. record { locale = sym l t; index = sym i t })

pub home_walk-next-requires-clause-may : goal.home_walk-next-requires-clause-may
home_walk-next-requires-clause-may g c =
    let K = g.C.Client.terms in
    let o = g.C.Object.Object.opens in
    let s = g.C.Object.Object.step in
    let p = plan_of c.args.self.now in
    let m = me_of c.args.seat.now in
    let q = c.args.ptr in
    let k = me_of c.loop.seat in
    let was = c.loop.invariant.waits in
    let reads = was.reads in
    let low = c.requires.below in
    let number = number_still K o s p m k reads.looks reads.under in
    may_walk K o s p k q (omega (arith, low, number)) (ap is_reclaiming reads.under.same.phase ∙ c.requires.phase) c.requires.pointer (chain_still K o s p m k q c.requires.chain was)

pub returns-then-next-clause-walks : goal.returns-then-next-clause-walks
returns-then-next-clause-walks g c =
    let K = g.C.Client.terms in
    let o = g.C.Object.Object.opens in
    let s = g.C.Object.Object.step in
    let p = plan_of c.args.self.now in
    let m = me_of c.args.seat.now in
    let q = c.args.ptr in
    let k = me_of c.loop.seat in
    let was = c.loop.invariant.waits in
    let n = me_of c.home_walk-next.new.seat in
    let found = c.home_walk-next.result in
    walked K o s p m k n q found c.requires.pointer c.requires.chain was c.home_walk-next.ensures.makes c.if-next.true

pub loop-preserved : goal.loop-preserved
loop-preserved g c =
    let K = g.C.Client.terms in
    let o = g.C.Object.Object.opens in
    let s = g.C.Object.Object.step in
    let p = plan_of c.args.self.now in
    let m = me_of c.args.seat.now in
    let q = c.args.ptr in
    let k = me_of c.loop.seat in
    let was = c.loop.invariant.waits in
    let n = me_of c.home_walk-next.new.seat in
    let found = c.home_walk-next.result in
    record { seat = c.home_walk-next.ensures.seat; waits = waits_more K o s p m k n q found c.requires.pointer c.requires.chain was c.home_walk-next.ensures.makes c.if-next.false }
