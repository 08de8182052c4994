use Rattle.std.proofs.Common.{◌≡◌, ◌⊎◌, ◌+◌, ◌∙◌, ap, sym, subst, arith, true, false, inl, inr}
use Rattle.epoch_laws.specs.Seats.{is_reclaiming}
use Rattle.pass_table.specs.Passes.{me_of}
use Rattle.epoch_manager.specs.Managers.{plan_of}
use Rattle.epoch_manager.specs.Takes.{SaysFree}
use Rattle.epoch_manager.specs.TakeSeats.{Scans}
use Rattle.epoch_manager.proofs.HeaderTakes.{may_see, scan_none, scan_more}
use Rattle.epoch_manager.proofs.Takes.{number_still}
use Rattle.epoch_manager.proofs.managers.Manager.scan.Goals.{then-free, else-free}
use Rattle.epoch_manager.proofs.managers.Manager.scan.Goals as goal

pub loop-number-init : goal.loop-number-init
loop-number-init g c =
    let K = g.C.Client.terms in
    let o = g.C.Object.Object.opens in
    let s = g.C.Object.Object.step in
    let p = plan_of c.args.self.now in
    let l = c.args.locale in
    let m = me_of c.args.seat.now in
    record { seat = c.requires.seat; scans = scan_none K o s p l m c.requires.empty }

pub take_look-header-requires-clause-seat : goal.take_look-header-requires-clause-seat
take_look-header-requires-clause-seat g c =
    let K = g.C.Client.terms in
    let o = g.C.Object.Object.opens in
    let s = g.C.Object.Object.step in
    let p = plan_of c.args.self.now in
    let l = c.args.locale in
    let m = me_of c.args.seat.now in
    c.loop-number.invariant.seat

pub take_look-header-requires-clause-may : goal.take_look-header-requires-clause-may
take_look-header-requires-clause-may g c =
    let K = g.C.Client.terms in
    let o = g.C.Object.Object.opens in
    let s = g.C.Object.Object.step in
    let p = plan_of c.args.self.now in
    let l = c.args.locale in
    let m = me_of c.args.seat.now in
    let k = me_of c.loop-number.seat in
    let number = c.loop-number.number in
    let was = c.loop-number.invariant.scans in
    let same = number_still K o s p m k was.looks was.under in
    let low = c.requires.below in
    let test = c.loop-number-test.true in
    let many = ap (λ h. h.objects) c.args.self.now.planned in
    may_see K o s p k l (number + 1) (omega (arith, low, same)) (ap is_reclaiming was.under.same.phase ∙ c.requires.phase) (record { locale = c.requires.locale; some_object = omega arith; index = omega (arith, test, many) })

pub loop-number-preserved : goal.loop-number-preserved
loop-number-preserved g c =
    let K = g.C.Client.terms in
    let o = g.C.Object.Object.opens in
    let s = g.C.Object.Object.step in
    let p = plan_of c.args.self.now in
    let l = c.args.locale in
    let m = me_of c.args.seat.now in
    let k = me_of c.loop-number.seat in
    let number = c.loop-number.number in
    let was = c.loop-number.invariant.scans in
    let n = me_of c.take_look-header.new.seat in
    let word = c.take_look-header.result in
    let tells : c.if-free.free ≡ false → (c.loop-number.free ≡ false) × (¬ SaysFree word) =
    elim (c.if-free.branch) [
      | then-free w ↦ λ none. absurd (cc (none, w.free-is))
      | else-free w ↦ λ none. (w.if-free.false, w.says_free-free.ensures.other (sym w.free-is ∙ none))
    ] in
    let finds : c.if-free.free ≡ true → (c.loop-number.free ≡ true) ⊎ SaysFree word =
    elim (c.if-free.branch) [
      | then-free w ↦ λ some. inl w.if-free.true
      | else-free w ↦ λ some. inr (w.says_free-free.ensures.free (sym w.free-is ∙ some))
    ] in
    record { seat = c.take_look-header.ensures.seat; scans = scan_more K o s p l number m k n c.loop-number.free false c.if-free.free word was c.requires.known c.take_look-header.ensures.makes tells finds }

pub returns-clause-seat : goal.returns-clause-seat
returns-clause-seat g c =
    let K = g.C.Client.terms in
    let o = g.C.Object.Object.opens in
    let s = g.C.Object.Object.step in
    let p = plan_of c.args.self.now in
    let l = c.args.locale in
    let m = me_of c.args.seat.now in
    c.loop-number.invariant.seat

pub returns-clause-scans : goal.returns-clause-scans
returns-clause-scans g c =
    let K = g.C.Client.terms in
    let o = g.C.Object.Object.opens in
    let s = g.C.Object.Object.step in
    let p = plan_of c.args.self.now in
    let l = c.args.locale in
    let m = me_of c.args.seat.now in
    let k = me_of c.loop-number.seat in
    let number = c.loop-number.number in
    let was = c.loop-number.invariant.scans in
    let many = ap (λ h. h.objects) c.args.self.now.planned in
    subst (λ j. Scans K o s p l j m k c.loop-number.free) (omega (arith, many, c.loop-number-test.false)) was
