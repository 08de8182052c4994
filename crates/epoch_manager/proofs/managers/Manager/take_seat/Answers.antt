use Rattle.pass_table.specs.Passes.{me_of}
use Rattle.epoch_manager.specs.Managers.{plan_of}
use Rattle.epoch_manager.proofs.Rounds.{gone_none, gone_on, gone_takes, may_still, spent_refuses, no_room_refuses}
use Rattle.epoch_manager.proofs.managers.Manager.take_seat.Goals as goal

pub loop-init : goal.loop-init
loop-init g c =
    let K = g.C.Client.terms in
    let o = g.C.Object.Object.opens in
    let s = g.C.Object.Object.step in
    let p = plan_of c.args.self.now in
    let m = me_of c.args.seat.now in
    record { seat = c.requires.seat; gone = gone_none K o s p c.args.locale m c.requires.may.empty }

pub try_round-requires-clause-may : goal.try_round-requires-clause-may
try_round-requires-clause-may g c =
    let K = g.C.Client.terms in
    let o = g.C.Object.Object.opens in
    let s = g.C.Object.Object.step in
    let p = plan_of c.args.self.now in
    let m = me_of c.args.seat.now in
    let was = c.loop.invariant.gone in
    may_still K o s p m (me_of c.loop.seat) was.looks was.under was.rests c.requires.may

pub returns-in-Taken-clause-takes : goal.returns-in-Taken-clause-takes
returns-in-Taken-clause-takes g c =
    let K = g.C.Client.terms in
    let o = g.C.Object.Object.opens in
    let s = g.C.Object.Object.step in
    let p = plan_of c.args.self.now in
    let m = me_of c.args.seat.now in
    let k = me_of c.loop.seat in
    let n = me_of c.try_round.new.seat in
    let was = c.loop.invariant.gone in
    let tries = c.in-Taken.ensures.tries in
    gone_takes K o s p c.args.locale m k n c.in-Taken.ptr was tries

pub returns-then-spent-clause-takes : goal.returns-then-spent-clause-takes
returns-then-spent-clause-takes g c =
    let K = g.C.Client.terms in
    let o = g.C.Object.Object.opens in
    let s = g.C.Object.Object.step in
    let p = plan_of c.args.self.now in
    let m = me_of c.args.seat.now in
    let k = me_of c.loop.seat in
    let n = me_of c.try_round.new.seat in
    let was = c.loop.invariant.gone in
    spent_refuses K o s p c.args.locale c.requires.locale m k n was c.in-Missed.spent c.in-Missed.free c.in-Missed.ensures.tries c.if-spent.true

pub returns-then-not-free-clause-takes : goal.returns-then-not-free-clause-takes
returns-then-not-free-clause-takes g c =
    let K = g.C.Client.terms in
    let o = g.C.Object.Object.opens in
    let s = g.C.Object.Object.step in
    let p = plan_of c.args.self.now in
    let m = me_of c.args.seat.now in
    let k = me_of c.loop.seat in
    let n = me_of c.try_round.new.seat in
    let was = c.loop.invariant.gone in
    no_room_refuses K o s p c.args.locale c.requires.locale m k n was c.in-Missed.spent c.in-Missed.free c.in-Missed.ensures.tries c.if-spent.false c.if-not-free.true

pub loop-preserved : goal.loop-preserved
loop-preserved g c =
    let K = g.C.Client.terms in
    let o = g.C.Object.Object.opens in
    let s = g.C.Object.Object.step in
    let p = plan_of c.args.self.now in
    let m = me_of c.args.seat.now in
    let k = me_of c.loop.seat in
    let n = me_of c.try_round.new.seat in
    let was = c.loop.invariant.gone in
    record { seat = c.try_round.ensures.seat; gone = gone_on K o s p c.args.locale c.requires.locale m k n was c.in-Missed.spent c.in-Missed.free c.in-Missed.ensures.tries c.if-spent.false c.if-not-free.false }
