use Rattle.std.proofs.Common.{◌<◌, ◌∙◌, sym, ap, subst}
use Rattle.epoch_laws.specs.Places.{place_of}
use Rattle.epoch_laws.specs.States.{IsPlace}
use Rattle.pass_table.specs.Passes.{me_of}
use Rattle.epoch_manager.specs.Managers.{plan_of}
use Rattle.epoch_manager.proofs.DeferralSteps.{may_look, looked_so, may_swap, swapped_so, may_link, defers_so}
use Rattle.epoch_manager.proofs.managers.Manager.defer_seat.Goals as goal

pub defer_look-tag-requires-clause-locale : goal.defer_look-tag-requires-clause-locale
defer_look-tag-requires-clause-locale g c =
    let K = g.C.Client.terms in
    let o = g.C.Object.Object.opens in
    let s = g.C.Object.Object.step in
    let p = plan_of c.args.self.now in
    let m = me_of c.args.seat.now in
    let q = c.args.ptr in
    (c.requires.locale.0, subst (λ h. c.args.locale < h.locales) c.args.self.now.words.planned c.requires.locale.1)

pub defer_look-tag-requires-clause-may : goal.defer_look-tag-requires-clause-may
defer_look-tag-requires-clause-may g c =
    let K = g.C.Client.terms in
    let o = g.C.Object.Object.opens in
    let s = g.C.Object.Object.step in
    let p = plan_of c.args.self.now in
    let m = me_of c.args.seat.now in
    let q = c.args.ptr in
    may_look K o s p m q c.requires.below c.requires.pinned c.requires.may

pub defer_swap-old-requires-clause-locale : goal.defer_swap-old-requires-clause-locale
defer_swap-old-requires-clause-locale g c =
    let K = g.C.Client.terms in
    let o = g.C.Object.Object.opens in
    let s = g.C.Object.Object.step in
    let p = plan_of c.args.self.now in
    let m = me_of c.args.seat.now in
    let q = c.args.ptr in
    let k = me_of c.defer_look-tag.new.seat in
    let tag = c.defer_look-tag.result in
    let looks = c.defer_look-tag.ensures.makes in
    (c.requires.locale.0 ∙ sym (ap (λ x. x.seat.token.locale) (looked_so K o s p q m k tag looks).1), subst (λ h. c.args.locale < h.locales) c.args.self.now.words.planned c.requires.locale.1)

pub defer_swap-old-requires-clause-tag : goal.defer_swap-old-requires-clause-tag
defer_swap-old-requires-clause-tag g c =
    let K = g.C.Client.terms in
    let o = g.C.Object.Object.opens in
    let s = g.C.Object.Object.step in
    let p = plan_of c.args.self.now in
    let m = me_of c.args.seat.now in
    let q = c.args.ptr in
    let k = me_of c.defer_look-tag.new.seat in
    let tag = c.defer_look-tag.result in
    let looks = c.defer_look-tag.ensures.makes in
    sym (ap (λ x. x.seat.deferral.tag) (looked_so K o s p q m k tag looks).1)

pub defer_swap-old-requires-clause-pointer : goal.defer_swap-old-requires-clause-pointer
defer_swap-old-requires-clause-pointer g c =
    let K = g.C.Client.terms in
    let o = g.C.Object.Object.opens in
    let s = g.C.Object.Object.step in
    let p = plan_of c.args.self.now in
    let m = me_of c.args.seat.now in
    let q = c.args.ptr in
    let k = me_of c.defer_look-tag.new.seat in
    let tag = c.defer_look-tag.result in
    let looks = c.defer_look-tag.ensures.makes in
    sym (ap (λ x. x.seat.deferral.pointer) (looked_so K o s p q m k tag looks).1)

pub defer_swap-old-requires-clause-may : goal.defer_swap-old-requires-clause-may
defer_swap-old-requires-clause-may g c =
    let K = g.C.Client.terms in
    let o = g.C.Object.Object.opens in
    let s = g.C.Object.Object.step in
    let p = plan_of c.args.self.now in
    let m = me_of c.args.seat.now in
    let q = c.args.ptr in
    let k = me_of c.defer_look-tag.new.seat in
    let tag = c.defer_look-tag.result in
    let looks = c.defer_look-tag.ensures.makes in
    may_swap K o s p q m k tag looks c.requires.below

pub defer_link-requires-clause-pointer : goal.defer_link-requires-clause-pointer
defer_link-requires-clause-pointer g c =
    let K = g.C.Client.terms in
    let o = g.C.Object.Object.opens in
    let s = g.C.Object.Object.step in
    let p = plan_of c.args.self.now in
    let m = me_of c.args.seat.now in
    let q = c.args.ptr in
    let k = me_of c.defer_look-tag.new.seat in
    let tag = c.defer_look-tag.result in
    let looks = c.defer_look-tag.ensures.makes in
    let j = me_of c.defer_swap-old.new.seat in
    let old = c.defer_swap-old.result in
    let swaps = c.defer_swap-old.ensures.makes in
    (sym (ap (λ x. x.seat.deferral.pointer) (swapped_so K o s p q m k tag looks j old swaps).1), subst (λ h. IsPlace h (place_of q)) c.args.self.now.words.planned looks.0.1)

pub defer_link-requires-clause-old : goal.defer_link-requires-clause-old
defer_link-requires-clause-old g c =
    let K = g.C.Client.terms in
    let o = g.C.Object.Object.opens in
    let s = g.C.Object.Object.step in
    let p = plan_of c.args.self.now in
    let m = me_of c.args.seat.now in
    let q = c.args.ptr in
    let k = me_of c.defer_look-tag.new.seat in
    let tag = c.defer_look-tag.result in
    let looks = c.defer_look-tag.ensures.makes in
    let j = me_of c.defer_swap-old.new.seat in
    let old = c.defer_swap-old.result in
    let swaps = c.defer_swap-old.ensures.makes in
    sym (ap (λ x. x.seat.deferral.old) (swapped_so K o s p q m k tag looks j old swaps).1)

pub defer_link-requires-clause-may : goal.defer_link-requires-clause-may
defer_link-requires-clause-may g c =
    let K = g.C.Client.terms in
    let o = g.C.Object.Object.opens in
    let s = g.C.Object.Object.step in
    let p = plan_of c.args.self.now in
    let m = me_of c.args.seat.now in
    let q = c.args.ptr in
    let k = me_of c.defer_look-tag.new.seat in
    let tag = c.defer_look-tag.result in
    let looks = c.defer_look-tag.ensures.makes in
    let j = me_of c.defer_swap-old.new.seat in
    let old = c.defer_swap-old.result in
    let swaps = c.defer_swap-old.ensures.makes in
    may_link K o s p q m k tag looks j old swaps c.requires.below

pub returns-clause-defers : goal.returns-clause-defers
returns-clause-defers g c =
    let K = g.C.Client.terms in
    let o = g.C.Object.Object.opens in
    let s = g.C.Object.Object.step in
    let p = plan_of c.args.self.now in
    let m = me_of c.args.seat.now in
    let q = c.args.ptr in
    let k = me_of c.defer_look-tag.new.seat in
    let tag = c.defer_look-tag.result in
    let looks = c.defer_look-tag.ensures.makes in
    let j = me_of c.defer_swap-old.new.seat in
    let old = c.defer_swap-old.result in
    let swaps = c.defer_swap-old.ensures.makes in
    defers_so K o s p q m k tag looks j old swaps (me_of c.defer_link.new.seat) c.defer_link.ensures.makes
