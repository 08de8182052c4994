use Rattle.std.proofs.Common.{◌∙◌, ap, sym, subst, Some}
use Rattle.epoch_laws.specs.Places.{Place, place_of}
use Rattle.epoch_laws.specs.States.{IsPlace}
use Rattle.pass_table.specs.Passes.{me_of}
use Rattle.epoch_manager.specs.Managers.{plan_of}
use Rattle.epoch_manager.proofs.ChainHomes.{tail_place, may_swap, waits_so, may_end, sent_so}
use Rattle.epoch_manager.proofs.managers.Manager.chain_home.Goals as goal

pub home_swap-old-requires-clause-locale : goal.home_swap-old-requires-clause-locale
home_swap-old-requires-clause-locale g c = (subst (λ h. IsPlace h (place_of c.args.top)) c.args.self.now.words.planned c.requires.chain.place).locale

pub home_swap-old-requires-clause-may : goal.home_swap-old-requires-clause-may
home_swap-old-requires-clause-may g c =
    let K = g.C.Client.terms in
    let o = g.C.Object.Object.opens in
    let s = g.C.Object.Object.step in
    let p = plan_of c.args.self.now in
    let m = me_of c.args.seat.now in
    may_swap K o s p c.args.top c.args.tail m c.requires.below c.requires.chain

pub home_link-requires-clause-place : goal.home_link-requires-clause-place
home_link-requires-clause-place g c =
    let K = g.C.Client.terms in
    let o = g.C.Object.Object.opens in
    let s = g.C.Object.Object.step in
    let p = plan_of c.args.self.now in
    let m = me_of c.args.seat.now in
    subst (IsPlace c.args.self.now.words.shape) (λ t. record { locale = sym c.locale.ensures.value t; index = sym c.index.ensures.value t })
    (subst (λ h. IsPlace h (place_of c.args.tail)) c.args.self.now.words.planned (tail_place K o s p c.args.top c.args.tail m c.requires.below c.requires.chain))

pub home_link-requires-clause-tail : goal.home_link-requires-clause-tail
home_link-requires-clause-tail g c =
    let K = g.C.Client.terms in
    let o = g.C.Object.Object.opens in
    let s = g.C.Object.Object.step in
    let p = plan_of c.args.self.now in
    let m = me_of c.args.seat.now in
    let b = me_of c.home_swap-old.new.seat in
    (waits_so K o s p c.args.top c.args.tail m c.requires.below c.requires.chain c.home_swap-old.result b c.home_swap-old.ensures.makes).0
    ∙ ap (λ (q : Place). Some q) (λ t. record { locale = sym c.locale.ensures.value t; index = sym c.index.ensures.value t })

pub home_link-requires-clause-old : goal.home_link-requires-clause-old
home_link-requires-clause-old g c =
    let K = g.C.Client.terms in
    let o = g.C.Object.Object.opens in
    let s = g.C.Object.Object.step in
    let p = plan_of c.args.self.now in
    let m = me_of c.args.seat.now in
    let b = me_of c.home_swap-old.new.seat in
    (waits_so K o s p c.args.top c.args.tail m c.requires.below c.requires.chain c.home_swap-old.result b c.home_swap-old.ensures.makes).1

pub home_link-requires-clause-may : goal.home_link-requires-clause-may
home_link-requires-clause-may g c =
    let K = g.C.Client.terms in
    let o = g.C.Object.Object.opens in
    let s = g.C.Object.Object.step in
    let p = plan_of c.args.self.now in
    let m = me_of c.args.seat.now in
    let b = me_of c.home_swap-old.new.seat in
    may_end K o s p c.args.top c.args.tail m c.requires.below c.requires.chain c.home_swap-old.result b c.home_swap-old.ensures.makes

pub returns-clause-sends : goal.returns-clause-sends
returns-clause-sends g c =
    let K = g.C.Client.terms in
    let o = g.C.Object.Object.opens in
    let s = g.C.Object.Object.step in
    let p = plan_of c.args.self.now in
    let m = me_of c.args.seat.now in
    let b = me_of c.home_swap-old.new.seat in
    let old = c.home_swap-old.result in
    λ chain. (old, sent_so K o s p c.args.top c.args.tail m c.requires.below chain old b c.home_swap-old.ensures.makes (me_of c.home_link.new.seat) c.home_link.ensures.makes)
