use Rattle.std.proofs.Common.{◌∙◌, sym, ap, arith, subst}
use Rattle.epoch_laws.specs.Timing.{IsToken}
use Rattle.pass_table.specs.Passes.{me_of}
use Rattle.epoch_table.specs.Layout.{token_place}
use Rattle.epoch_manager.specs.Managers.{plan_of}
use Rattle.epoch_manager.proofs.TokenSteps.{may_pin_look, may_pin_set, announced_so, token_still, pins_so}
use Rattle.epoch_manager.proofs.managers.Manager.pin_seat.Goals as goal

pub pin_look-epoch-requires-clause-locale : goal.pin_look-epoch-requires-clause-locale
pin_look-epoch-requires-clause-locale g c =
    let K = g.C.Client.terms in
    let o = g.C.Object.Object.opens in
    let s = g.C.Object.Object.step in
    let p = plan_of c.args.self.now in
    let m = me_of c.args.seat.now in
    let low = c.requires.token.1.locale in
    (ap (λ t. t.locale) c.requires.token.0, omega (arith, low, ap (λ h. h.locales) c.args.self.now.planned, ap (λ h. h.locales) c.args.self.now.words.planned))

pub pin_look-epoch-requires-clause-may : goal.pin_look-epoch-requires-clause-may
pin_look-epoch-requires-clause-may g c =
    let K = g.C.Client.terms in
    let o = g.C.Object.Object.opens in
    let s = g.C.Object.Object.step in
    let p = plan_of c.args.self.now in
    let m = me_of c.args.seat.now in
    may_pin_look K o s p m c.requires.below c.requires.registered

pub pin_set-requires-clause-token : goal.pin_set-requires-clause-token
pin_set-requires-clause-token g c =
    let K = g.C.Client.terms in
    let o = g.C.Object.Object.opens in
    let s = g.C.Object.Object.step in
    let p = plan_of c.args.self.now in
    let m = me_of c.args.seat.now in
    let k = me_of c.pin_look-epoch.new.seat in
    let e = c.pin_look-epoch.result in
    let looks = c.pin_look-epoch.ensures.makes in
    let shape = c.args.self.now.words.shape in
    subst (λ u. IsToken shape.locales shape.tokens u) (c.requires.token.0 ∙ sym (token_still K o s p m k k e looks)) (subst (λ h. IsToken h.locales h.tokens c.args.token) c.args.self.now.words.planned c.requires.token.1)

pub pin_set-requires-clause-at : goal.pin_set-requires-clause-at
pin_set-requires-clause-at g c =
    let K = g.C.Client.terms in
    let o = g.C.Object.Object.opens in
    let s = g.C.Object.Object.step in
    let p = plan_of c.args.self.now in
    let m = me_of c.args.seat.now in
    let k = me_of c.pin_look-epoch.new.seat in
    let e = c.pin_look-epoch.result in
    let looks = c.pin_look-epoch.ensures.makes in
    let shape = c.args.self.now.words.shape in
    c.requires.place ∙ (ap (λ h. token_place h c.args.token) c.args.self.now.words.planned ∙ ap (λ u. token_place shape u) (c.requires.token.0 ∙ sym (token_still K o s p m k k e looks)))

pub pin_set-requires-clause-epoch : goal.pin_set-requires-clause-epoch
pin_set-requires-clause-epoch g c =
    let K = g.C.Client.terms in
    let o = g.C.Object.Object.opens in
    let s = g.C.Object.Object.step in
    let p = plan_of c.args.self.now in
    let m = me_of c.args.seat.now in
    let k = me_of c.pin_look-epoch.new.seat in
    let e = c.pin_look-epoch.result in
    let looks = c.pin_look-epoch.ensures.makes in
    (announced_so K o s p m k k e looks, looks.0)

pub pin_set-requires-clause-may : goal.pin_set-requires-clause-may
pin_set-requires-clause-may g c =
    let K = g.C.Client.terms in
    let o = g.C.Object.Object.opens in
    let s = g.C.Object.Object.step in
    let p = plan_of c.args.self.now in
    let m = me_of c.args.seat.now in
    let k = me_of c.pin_look-epoch.new.seat in
    let e = c.pin_look-epoch.result in
    let looks = c.pin_look-epoch.ensures.makes in
    may_pin_set K o s p m k k e looks c.requires.below

pub returns-clause-pins : goal.returns-clause-pins
returns-clause-pins g c =
    let K = g.C.Client.terms in
    let o = g.C.Object.Object.opens in
    let s = g.C.Object.Object.step in
    let p = plan_of c.args.self.now in
    let m = me_of c.args.seat.now in
    let k = me_of c.pin_look-epoch.new.seat in
    let e = c.pin_look-epoch.result in
    let looks = c.pin_look-epoch.ensures.makes in
    pins_so K o s p m k (me_of c.pin_set.new.seat) e looks c.args.token c.requires.token.0 c.pin_set.ensures.makes
