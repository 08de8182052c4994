use Rattle.std.proofs.Common.{◌≡◌, ◌-◌, ap, sym, subst, arith}
use Rattle.std.specs.List.{range_with_len}
use Rattle.pass_table.specs.Passes.{me_of}
use Rattle.epoch_manager.specs.Managers.{plan_of}
use Rattle.epoch_manager.specs.declared.gets.Tried.TheVariants.{Taken}
use Rattle.epoch_manager.specs.TakeSeats.{Misses, Tries}
use Rattle.epoch_manager.proofs.Rounds.{round_misses, round_got, got_later}
use Rattle.epoch_manager.proofs.managers.Manager.try_round.Goals as goal

pub returns-in-Taken-clause-tries : goal.returns-in-Taken-clause-tries
returns-in-Taken-clause-tries g c =
    let K = g.C.Client.terms in
    let o = g.C.Object.Object.opens in
    let s = g.C.Object.Object.step in
    let self = c.args.self.now in
    let p = plan_of self in
    let m = me_of c.args.seat.now in
    let n = me_of c.try_range.new.seat in
    let first = c.args.first in
    let many = p.shape.locales in
    let same = sym (ap (λ h. h.locales) self.planned) in
    round_got K o s p first many m n c.in-Taken.ptr (subst (λ i. Tries K o s p (range_with_len first (i - first)) m n (Taken c.in-Taken.ptr)) same c.in-Taken.ensures.tries)

pub returns-in-Taken-try_range-clause-tries : goal.returns-in-Taken-try_range-clause-tries
returns-in-Taken-try_range-clause-tries g c =
    let K = g.C.Client.terms in
    let o = g.C.Object.Object.opens in
    let s = g.C.Object.Object.step in
    let self = c.args.self.now in
    let p = plan_of self in
    let m = me_of c.args.seat.now in
    let k = me_of c.try_range.new.seat in
    let n = me_of c.try_range-in-Missed.new.seat in
    let first = c.args.first in
    let many = p.shape.locales in
    let same = sym (ap (λ h. h.locales) self.planned) in
    let all : first - 0 ≡ first = omega arith in
    let was = subst (λ i. Misses K o s p (range_with_len first (i - first)) m k c.in-Missed.spent c.in-Missed.free) same c.in-Missed.ensures.tries in
    got_later K o s p (range_with_len first (many - first)) (range_with_len 0 first) m k n c.in-Missed.spent c.in-Missed.free c.in-Taken-try_range.ptr was (subst (λ i. Tries K o s p (range_with_len 0 i) k n (Taken c.in-Taken-try_range.ptr)) all c.in-Taken-try_range.ensures.tries)

pub returns-in-Missed-try_range-clause-tries : goal.returns-in-Missed-try_range-clause-tries
returns-in-Missed-try_range-clause-tries g c =
    let K = g.C.Client.terms in
    let o = g.C.Object.Object.opens in
    let s = g.C.Object.Object.step in
    let self = c.args.self.now in
    let p = plan_of self in
    let m = me_of c.args.seat.now in
    let k = me_of c.try_range.new.seat in
    let n = me_of c.try_range-in-Missed.new.seat in
    let first = c.args.first in
    let many = p.shape.locales in
    let same = sym (ap (λ h. h.locales) self.planned) in
    let all : first - 0 ≡ first = omega arith in
    let was = subst (λ i. Misses K o s p (range_with_len first (i - first)) m k c.in-Missed.spent c.in-Missed.free) same c.in-Missed.ensures.tries in
    round_misses K o s p first many m k n c.in-Missed.spent c.in-Missed.free c.in-Missed-try_range.later_spent c.in-Missed-try_range.later_free was (subst (λ i. Misses K o s p (range_with_len 0 i) k n c.in-Missed-try_range.later_spent c.in-Missed-try_range.later_free) all c.in-Missed-try_range.ensures.tries)
