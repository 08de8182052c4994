use Rattle.std.proofs.Common.{◌≡◌, ◌-◌, false, subst, arith}
use Rattle.std.specs.List.{range_with_len}
use Rattle.pass_table.specs.Passes.{me_of}
use Rattle.epoch_manager.specs.Managers.{plan_of}
use Rattle.epoch_manager.specs.TakeSeats.{Misses}
use Rattle.epoch_manager.proofs.Rounds.{misses_none, range_misses, range_got, may_still}
use Rattle.epoch_manager.proofs.managers.Manager.try_range.Goals as goal

pub loop-locale-init : goal.loop-locale-init
loop-locale-init g c =
    let K = g.C.Client.terms in
    let o = g.C.Object.Object.opens in
    let s = g.C.Object.Object.step in
    let p = plan_of c.args.self.now in
    let m = me_of c.args.seat.now in
    let from = c.args.from in
    let none : 0 ≡ from - from = omega arith in
    record { seat = c.requires.seat; misses = subst (λ n. Misses K o s p (range_with_len from n) m m false false) none (misses_none K o s p m c.requires.may.empty) }

pub try_locale-requires-clause-may : goal.try_locale-requires-clause-may
try_locale-requires-clause-may g c =
    let K = g.C.Client.terms in
    let o = g.C.Object.Object.opens in
    let s = g.C.Object.Object.step in
    let p = plan_of c.args.self.now in
    let m = me_of c.args.seat.now in
    let was = c.loop-locale.invariant.misses in
    may_still K o s p m (me_of c.loop-locale.seat) was.looks was.under was.rests c.requires.may

pub returns-in-Taken-clause-tries : goal.returns-in-Taken-clause-tries
returns-in-Taken-clause-tries g c =
    let K = g.C.Client.terms in
    let o = g.C.Object.Object.opens in
    let s = g.C.Object.Object.step in
    let p = plan_of c.args.self.now in
    let m = me_of c.args.seat.now in
    let was = c.loop-locale.invariant.misses in
    range_got K o s p c.args.from c.loop-locale.locale c.args.to m (me_of c.loop-locale.seat) (me_of c.try_locale.new.seat) _ _ c.in-Taken.ptr c.loop-locale.auto.locale c.loop-locale-test.true was c.in-Taken.ensures.tries

pub loop-locale-preserved : goal.loop-locale-preserved
loop-locale-preserved g c =
    let K = g.C.Client.terms in
    let o = g.C.Object.Object.opens in
    let s = g.C.Object.Object.step in
    let p = plan_of c.args.self.now in
    let m = me_of c.args.seat.now in
    record {
      seat = c.try_locale.ensures.seat;
      misses =
          range_misses K o s p c.args.from c.loop-locale.locale m (me_of c.loop-locale.seat) (me_of c.try_locale.new.seat) c.loop-locale.spent c.loop-locale.free c.in-Missed.one_spent c.in-Missed.one_free c.loop-locale.auto.locale
          c.loop-locale.invariant.misses c.in-Missed.ensures.tries;
    }
