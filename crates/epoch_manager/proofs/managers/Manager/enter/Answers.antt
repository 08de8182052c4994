use Rattle.std.proofs.Common.{◌≡◌, ◌<◌, ◌∙◌, sym, ap, subst, arith}
use Rattle.pass_table.specs.Passes.{me_of}
use Rattle.epoch_manager.specs.Managers.{plan_of}
use Rattle.epoch_manager.proofs.LocalSteps.{may_elect, busy_so, phase_won, hand_still, still_below, entered_so, has_none, token_still, may_leave, refused_so}
use Rattle.epoch_manager.proofs.managers.Manager.enter.Goals as goal

pub elect_local-found-requires-clause-locale : goal.elect_local-found-requires-clause-locale
elect_local-found-requires-clause-locale g c =
    let K = g.C.Client.terms in
    let o = g.C.Object.Object.opens in
    let s = g.C.Object.Object.step in
    let p = plan_of c.args.self.now in
    let m = me_of c.args.seat.now in
    (c.requires.locale.0, subst (λ h. c.args.locale < h.locales) c.args.self.now.words.planned c.requires.locale.1)

pub elect_local-found-requires-clause-may : goal.elect_local-found-requires-clause-may
elect_local-found-requires-clause-may g c =
    let K = g.C.Client.terms in
    let o = g.C.Object.Object.opens in
    let s = g.C.Object.Object.step in
    let p = plan_of c.args.self.now in
    let m = me_of c.args.seat.now in
    may_elect K o s p m c.requires.below c.requires.registered c.requires.allowed

pub returns-then-not-free-clause-enters : goal.returns-then-not-free-clause-enters
returns-then-not-free-clause-enters g c =
    let K = g.C.Client.terms in
    let o = g.C.Object.Object.opens in
    let s = g.C.Object.Object.step in
    let p = plan_of c.args.self.now in
    let m = me_of c.args.seat.now in
    let j = me_of c.elect_local-found.new.seat in
    let w = c.elect_local-found.result in
    let elects = c.elect_local-found.ensures.makes in
    busy_so K o s p m j w elects c.requires.registered (let other = c.if-not-free.true in omega arith)

pub enter_globally-entered-requires-clause-below : goal.enter_globally-entered-requires-clause-below
enter_globally-entered-requires-clause-below g c =
    let K = g.C.Client.terms in
    let o = g.C.Object.Object.opens in
    let s = g.C.Object.Object.step in
    let p = plan_of c.args.self.now in
    let m = me_of c.args.seat.now in
    let j = me_of c.elect_local-found.new.seat in
    let w = c.elect_local-found.result in
    let elects = c.elect_local-found.ensures.makes in
    let is : w ≡ 0 = (let zero = c.if-not-free.false in omega arith) in
    still_below K o s p m j w elects is c.requires.below

pub enter_globally-entered-requires-clause-won : goal.enter_globally-entered-requires-clause-won
enter_globally-entered-requires-clause-won g c =
    let K = g.C.Client.terms in
    let o = g.C.Object.Object.opens in
    let s = g.C.Object.Object.step in
    let p = plan_of c.args.self.now in
    let m = me_of c.args.seat.now in
    let j = me_of c.elect_local-found.new.seat in
    let w = c.elect_local-found.result in
    let elects = c.elect_local-found.ensures.makes in
    let is : w ≡ 0 = (let zero = c.if-not-free.false in omega arith) in
    phase_won K o s p m j w elects is

pub enter_globally-entered-requires-clause-hand : goal.enter_globally-entered-requires-clause-hand
enter_globally-entered-requires-clause-hand g c =
    let K = g.C.Client.terms in
    let o = g.C.Object.Object.opens in
    let s = g.C.Object.Object.step in
    let p = plan_of c.args.self.now in
    let m = me_of c.args.seat.now in
    let j = me_of c.elect_local-found.new.seat in
    let w = c.elect_local-found.result in
    let elects = c.elect_local-found.ensures.makes in
    let is : w ≡ 0 = (let zero = c.if-not-free.false in omega arith) in
    hand_still K o s p m j w elects is c.requires.hand

pub returns-in-Ok-clause-enters : goal.returns-in-Ok-clause-enters
returns-in-Ok-clause-enters g c =
    let K = g.C.Client.terms in
    let o = g.C.Object.Object.opens in
    let s = g.C.Object.Object.step in
    let p = plan_of c.args.self.now in
    let m = me_of c.args.seat.now in
    let j = me_of c.elect_local-found.new.seat in
    let w = c.elect_local-found.result in
    let elects = c.elect_local-found.ensures.makes in
    let is : w ≡ 0 = (let zero = c.if-not-free.false in omega arith) in
    let k = me_of c.enter_globally-entered.new.seat in
    entered_so K o s p m j w elects is k _ c.in-Ok.ensures.enters

pub leave_local-requires-clause-locale : goal.leave_local-requires-clause-locale
leave_local-requires-clause-locale g c =
    let K = g.C.Client.terms in
    let o = g.C.Object.Object.opens in
    let s = g.C.Object.Object.step in
    let p = plan_of c.args.self.now in
    let m = me_of c.args.seat.now in
    let j = me_of c.elect_local-found.new.seat in
    let w = c.elect_local-found.result in
    let elects = c.elect_local-found.ensures.makes in
    let is : w ≡ 0 = (let zero = c.if-not-free.false in omega arith) in
    let k = me_of c.enter_globally-entered.new.seat in
    (c.requires.locale.0 ∙ sym (ap (λ t. t.locale) (token_still K o s p m j w elects is k _ c.in-Err.ensures.enters)), subst (λ h. c.args.locale < h.locales) c.args.self.now.words.planned c.requires.locale.1)

pub leave_local-requires-clause-won : goal.leave_local-requires-clause-won
leave_local-requires-clause-won g c =
    let K = g.C.Client.terms in
    let o = g.C.Object.Object.opens in
    let s = g.C.Object.Object.step in
    let p = plan_of c.args.self.now in
    let m = me_of c.args.seat.now in
    let j = me_of c.elect_local-found.new.seat in
    let w = c.elect_local-found.result in
    let elects = c.elect_local-found.ensures.makes in
    let is : w ≡ 0 = (let zero = c.if-not-free.false in omega arith) in
    let k = me_of c.enter_globally-entered.new.seat in
    has_none K o s p m j w elects is k _ c.in-Err.ensures.enters

pub leave_local-requires-clause-may : goal.leave_local-requires-clause-may
leave_local-requires-clause-may g c =
    let K = g.C.Client.terms in
    let o = g.C.Object.Object.opens in
    let s = g.C.Object.Object.step in
    let p = plan_of c.args.self.now in
    let m = me_of c.args.seat.now in
    let j = me_of c.elect_local-found.new.seat in
    let w = c.elect_local-found.result in
    let elects = c.elect_local-found.ensures.makes in
    let is : w ≡ 0 = (let zero = c.if-not-free.false in omega arith) in
    let k = me_of c.enter_globally-entered.new.seat in
    may_leave K o s p m j w elects is k _ c.in-Err.ensures.enters c.requires.below c.requires.hand

pub returns-in-Err-clause-enters : goal.returns-in-Err-clause-enters
returns-in-Err-clause-enters g c =
    let K = g.C.Client.terms in
    let o = g.C.Object.Object.opens in
    let s = g.C.Object.Object.step in
    let p = plan_of c.args.self.now in
    let m = me_of c.args.seat.now in
    let j = me_of c.elect_local-found.new.seat in
    let w = c.elect_local-found.result in
    let elects = c.elect_local-found.ensures.makes in
    let is : w ≡ 0 = (let zero = c.if-not-free.false in omega arith) in
    let k = me_of c.enter_globally-entered.new.seat in
    refused_so K o s p m j w elects is k _ c.in-Err.ensures.enters (me_of c.leave_local.new.seat) c.leave_local.ensures.makes
