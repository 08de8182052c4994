use Rattle.std.proofs.Common.{◌∙◌, ◌<◌, ◌≤◌, ◌*◌, subst, sym, ap, arith, refl}
use Rattle.std.proofs.lemmas.Nat.{div_below, mul-le}
use Rattle.pass_table.specs.Passes.{me_of}
use Rattle.epoch_manager.specs.Managers.{plan_of}
use Rattle.epoch_manager.specs.Reclaiming.{nth_token}
use Rattle.epoch_manager.proofs.ScanSteps.{none_passed, may_scan, one_passed, stops_it, all_passed}
use Rattle.epoch_manager.proofs.managers.Manager.scan_tokens.Goals as goal

pub loop-number-init : goal.loop-number-init
loop-number-init g c =
    let K = g.C.Client.terms in
    let o = g.C.Object.Object.opens in
    let s = g.C.Object.Object.step in
    let p = plan_of c.args.self.now in
    let m = me_of c.args.seat.now in
    let e = c.args.epoch in
    let same = c.args.self.now.planned in
    let scans = c.requires.scanning in
    let shape = c.args.self.now.words.planned in
    let some : 1 ≤ p.shape.tokens = subst (λ h. 1 ≤ h.tokens) (sym shape) c.args.self.now.words.shaped.1.0 in
    let any : 1 ≤ p.shape.locales = subst (λ h. 1 ≤ h.locales) (sym shape) c.args.self.now.words.shaped.0.0 in
    record { seat = c.requires.seat; passed = none_passed K o s p e m scans }

pub scan_token-word-requires-clause-may : goal.scan_token-word-requires-clause-may
scan_token-word-requires-clause-may g c =
    let K = g.C.Client.terms in
    let o = g.C.Object.Object.opens in
    let s = g.C.Object.Object.step in
    let p = plan_of c.args.self.now in
    let m = me_of c.args.seat.now in
    let e = c.args.epoch in
    let same = c.args.self.now.planned in
    let scans = c.requires.scanning in
    let shape = c.args.self.now.words.planned in
    let some : 1 ≤ p.shape.tokens = subst (λ h. 1 ≤ h.tokens) (sym shape) c.args.self.now.words.shaped.1.0 in
    let any : 1 ≤ p.shape.locales = subst (λ h. 1 ≤ h.locales) (sym shape) c.args.self.now.words.shaped.0.0 in
    let k = c.loop-number.number in
    let j = me_of c.loop-number.seat in
    let has = c.loop-number.invariant.passed in
    let low : k < p.shape.locales * p.shape.tokens = subst (λ i. k < i) c.many_tokens-number-end.ensures c.loop-number-test.true in
    may_scan K o s p e m scans k j has c.requires.below (div_below k p.shape.tokens p.shape.locales some low)

pub returns-then-not-passes-clause-scans : goal.returns-then-not-passes-clause-scans
returns-then-not-passes-clause-scans g c =
    let K = g.C.Client.terms in
    let o = g.C.Object.Object.opens in
    let s = g.C.Object.Object.step in
    let p = plan_of c.args.self.now in
    let m = me_of c.args.seat.now in
    let e = c.args.epoch in
    let same = c.args.self.now.planned in
    let scans = c.requires.scanning in
    let shape = c.args.self.now.words.planned in
    let some : 1 ≤ p.shape.tokens = subst (λ h. 1 ≤ h.tokens) (sym shape) c.args.self.now.words.shaped.1.0 in
    let any : 1 ≤ p.shape.locales = subst (λ h. 1 ≤ h.locales) (sym shape) c.args.self.now.words.shaped.0.0 in
    let k = c.loop-number.number in
    let j = me_of c.loop-number.seat in
    let has = c.loop-number.invariant.passed in
    let low : k < p.shape.locales * p.shape.tokens = subst (λ i. k < i) c.many_tokens-number-end.ensures c.loop-number-test.true in
    let found = c.scan_token-word.result in
    let n = me_of c.scan_token-word.new.seat in
    let makes = c.scan_token-word.ensures.makes in
    stops_it K o s p e m scans k j has found n makes _ refl (ap (λ h. nth_token h.tokens k) (sym same)) low (sym c.lets_pass-passes.ensures ∙ c.if-not-passes.true)

pub loop-number-preserved : goal.loop-number-preserved
loop-number-preserved g c =
    let K = g.C.Client.terms in
    let o = g.C.Object.Object.opens in
    let s = g.C.Object.Object.step in
    let p = plan_of c.args.self.now in
    let m = me_of c.args.seat.now in
    let e = c.args.epoch in
    let same = c.args.self.now.planned in
    let scans = c.requires.scanning in
    let shape = c.args.self.now.words.planned in
    let some : 1 ≤ p.shape.tokens = subst (λ h. 1 ≤ h.tokens) (sym shape) c.args.self.now.words.shaped.1.0 in
    let any : 1 ≤ p.shape.locales = subst (λ h. 1 ≤ h.locales) (sym shape) c.args.self.now.words.shaped.0.0 in
    let k = c.loop-number.number in
    let j = me_of c.loop-number.seat in
    let has = c.loop-number.invariant.passed in
    let low : k < p.shape.locales * p.shape.tokens = subst (λ i. k < i) c.many_tokens-number-end.ensures c.loop-number-test.true in
    let found = c.scan_token-word.result in
    let n = me_of c.scan_token-word.new.seat in
    let makes = c.scan_token-word.ensures.makes in
    record { seat = c.scan_token-word.ensures.seat; passed = one_passed K o s p e m scans k j has found n makes some (sym c.lets_pass-passes.ensures ∙ c.if-not-passes.false) }

pub returns-clause-scans : goal.returns-clause-scans
returns-clause-scans g c =
    let K = g.C.Client.terms in
    let o = g.C.Object.Object.opens in
    let s = g.C.Object.Object.step in
    let p = plan_of c.args.self.now in
    let m = me_of c.args.seat.now in
    let e = c.args.epoch in
    let same = c.args.self.now.planned in
    let scans = c.requires.scanning in
    let shape = c.args.self.now.words.planned in
    let some : 1 ≤ p.shape.tokens = subst (λ h. 1 ≤ h.tokens) (sym shape) c.args.self.now.words.shaped.1.0 in
    let any : 1 ≤ p.shape.locales = subst (λ h. 1 ≤ h.locales) (sym shape) c.args.self.now.words.shaped.0.0 in
    let k = c.loop-number.number in
    let j = me_of c.loop-number.seat in
    let has = c.loop-number.invariant.passed in
    all_passed K o s p e m scans j k has (let last = c.loop-number.auto.number-end in let over = c.loop-number-test.false in let many = c.many_tokens-number-end.ensures in omega (arith, many)) (mul-le 1 1 p.shape.locales p.shape.tokens any some)
