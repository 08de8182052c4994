use Rattle.std.proofs.Common.{sym, arith}
use Rattle.pass_table.specs.Passes.{me_of}
use Rattle.epoch_manager.specs.Gathering.{no_chains}
use Rattle.epoch_manager.specs.HomeChains.{chain_of}
use Rattle.epoch_manager.specs.Managers.{plan_of}
use Rattle.epoch_manager.proofs.GatherSteps.{gathers_begin, gathers_same, gathers_then, below_gathered}
use Rattle.epoch_manager.proofs.HomeChains.{gone_more, all_gone}
use Rattle.epoch_manager.proofs.managers.Manager.hand_over_all.Goals as goal

pub loop-locale-init : goal.loop-locale-init
loop-locale-init g c =
    let K = g.C.Client.terms in
    let o = g.C.Object.Object.opens in
    let s = g.C.Object.Object.step in
    let p = plan_of c.args.self.now in
    let m = me_of c.args.seat.now in
    record { seat = c.requires.seat; gathers = gathers_begin K o s p m (chain_of c.args.homes.chains) c.requires.gathers c.requires.tail; gone = λ k low. absurd (omega arith) }

pub hand_over-requires-clause-seat : goal.hand_over-requires-clause-seat
hand_over-requires-clause-seat g c = c.loop-locale.invariant.seat

pub hand_over-requires-clause-below : goal.hand_over-requires-clause-below
hand_over-requires-clause-below g c =
    let K = g.C.Client.terms in
    let o = g.C.Object.Object.opens in
    let s = g.C.Object.Object.step in
    let p = plan_of c.args.self.now in
    let m = me_of c.args.seat.now in
    let j = me_of c.loop-locale.seat in
    let now = chain_of c.loop-locale.homes.chains in
    let so = c.loop-locale.invariant.gathers in
    below_gathered K o s p m j now so c.requires.below

pub hand_over-requires-clause-gathers : goal.hand_over-requires-clause-gathers
hand_over-requires-clause-gathers g c = c.loop-locale.invariant.gathers.gathers

pub hand_over-requires-clause-tail : goal.hand_over-requires-clause-tail
hand_over-requires-clause-tail g c = c.loop-locale.invariant.gathers.none

pub loop-locale-preserved : goal.loop-locale-preserved
loop-locale-preserved g c =
    let K = g.C.Client.terms in
    let o = g.C.Object.Object.opens in
    let s = g.C.Object.Object.step in
    let p = plan_of c.args.self.now in
    let m = me_of c.args.seat.now in
    let j = me_of c.loop-locale.seat in
    let now = chain_of c.loop-locale.homes.chains in
    let so = c.loop-locale.invariant.gathers in
    let next = chain_of c.hand_over.new.homes.chains in
    record {
      seat = c.hand_over.ensures.seat;
      gathers = gathers_then K o s p m j (me_of c.hand_over.new.seat) now next so c.hand_over.ensures.gathers;
      gone = gone_more now next c.loop-locale.locale c.hand_over.ensures.rest c.loop-locale.invariant.gone;
    }

pub returns-clause-seat : goal.returns-clause-seat
returns-clause-seat g c = c.loop-locale.invariant.seat

pub returns-clause-gathers : goal.returns-clause-gathers
returns-clause-gathers g c =
    let K = g.C.Client.terms in
    let o = g.C.Object.Object.opens in
    let s = g.C.Object.Object.step in
    let p = plan_of c.args.self.now in
    let m = me_of c.args.seat.now in
    let j = me_of c.loop-locale.seat in
    let now = chain_of c.loop-locale.homes.chains in
    let so = c.loop-locale.invariant.gathers in
    let many = c.loop-locale.homes.many in
    let over = c.loop-locale-test.false in
    gathers_same K o s p m j now no_chains (λ l. sym (all_gone c.loop-locale.homes.chains (λ k low. c.loop-locale.invariant.gone k (omega arith)) l)) so
