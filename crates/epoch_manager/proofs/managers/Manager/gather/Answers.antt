use Rattle.std.proofs.Common.{◌∙◌, ap, sym, subst}
use Rattle.epoch_laws.specs.declared.steps.Kind.TheVariants.{HandLink}
use Rattle.epoch_laws.specs.Places.{place_of}
use Rattle.epoch_laws.specs.States.{IsPlace}
use Rattle.epoch_table.specs.Kinds.{MayMake, Makes}
use Rattle.pass_table.specs.Passes.{me_of}
use Rattle.epoch_manager.specs.HomeChains.{chain_of, word_below}
use Rattle.epoch_manager.specs.Managers.{plan_of}
use Rattle.epoch_manager.proofs.GatherSteps.{may_join, below_joined, joins_on, full_chain, full_gone}
use Rattle.epoch_manager.proofs.managers.Manager.gather.Goals as goal

pub hand_link-requires-clause-place : goal.hand_link-requires-clause-place
hand_link-requires-clause-place g c = subst (λ h. IsPlace h (place_of c.args.ptr)) c.args.self.now.words.planned c.requires.free.free.inside

pub hand_link-requires-clause-may : goal.hand_link-requires-clause-may
hand_link-requires-clause-may g c =
    let K = g.C.Client.terms in
    let o = g.C.Object.Object.opens in
    let s = g.C.Object.Object.step in
    let p = plan_of c.args.self.now in
    let m = me_of c.args.seat.now in
    let q = c.args.ptr in
    let old = chain_of c.args.homes.now.chains in
    subst (λ w. MayMake K p m.0.number (HandLink q w) m.0.part) (sym (c.below-below.ensures ∙ ap (λ l. word_below (old l)) c.locale.ensures.value)) (may_join K o s p q m c.requires.below old c.requires.free)

pub chain_home-requires-clause-below : goal.chain_home-requires-clause-below
chain_home-requires-clause-below g c =
    let K = g.C.Client.terms in
    let o = g.C.Object.Object.opens in
    let s = g.C.Object.Object.step in
    let p = plan_of c.args.self.now in
    let m = me_of c.args.seat.now in
    let q = c.args.ptr in
    let old = chain_of c.args.homes.now.chains in
    let r = c.requires in
    let k = me_of c.hand_link.new.seat in
    let links = subst (λ w. Makes K o s p (HandLink q w) m w k) (c.below-below.ensures ∙ ap (λ l. word_below (old l)) c.locale.ensures.value) c.hand_link.ensures.makes in
    below_joined K o s p q m r.below old r.free k links

pub chain_home-requires-clause-chain : goal.chain_home-requires-clause-chain
chain_home-requires-clause-chain g c =
    let K = g.C.Client.terms in
    let o = g.C.Object.Object.opens in
    let s = g.C.Object.Object.step in
    let p = plan_of c.args.self.now in
    let m = me_of c.args.seat.now in
    let q = c.args.ptr in
    let old = chain_of c.args.homes.now.chains in
    let r = c.requires in
    let k = me_of c.hand_link.new.seat in
    let links = subst (λ w. Makes K o s p (HandLink q w) m w k) (c.below-below.ensures ∙ ap (λ l. word_below (old l)) c.locale.ensures.value) c.hand_link.ensures.makes in
    full_chain K o s p q m r.below old r.free k links (chain_of c.join-full.new.self.chains) c.in-Some.chain c.in-Some.ensures

pub returns-in-Some-clause-gathers : goal.returns-in-Some-clause-gathers
returns-in-Some-clause-gathers g c =
    let K = g.C.Client.terms in
    let o = g.C.Object.Object.opens in
    let s = g.C.Object.Object.step in
    let p = plan_of c.args.self.now in
    let m = me_of c.args.seat.now in
    let q = c.args.ptr in
    let old = chain_of c.args.homes.now.chains in
    let r = c.requires in
    let k = me_of c.hand_link.new.seat in
    let links = subst (λ w. Makes K o s p (HandLink q w) m w k) (c.below-below.ensures ∙ ap (λ l. word_below (old l)) c.locale.ensures.value) c.hand_link.ensures.makes in
    full_gone K o s p q m r.below old r.free k links (chain_of c.join-full.new.self.chains) c.in-Some.chain c.in-Some.ensures (me_of c.chain_home.new.seat) c.chain_home.ensures.sends

pub returns-in_default-clause-gathers : goal.returns-in_default-clause-gathers
returns-in_default-clause-gathers g c =
    let K = g.C.Client.terms in
    let o = g.C.Object.Object.opens in
    let s = g.C.Object.Object.step in
    let p = plan_of c.args.self.now in
    let m = me_of c.args.seat.now in
    let q = c.args.ptr in
    let old = chain_of c.args.homes.now.chains in
    let r = c.requires in
    let k = me_of c.hand_link.new.seat in
    let links = subst (λ w. Makes K o s p (HandLink q w) m w k) (c.below-below.ensures ∙ ap (λ l. word_below (old l)) c.locale.ensures.value) c.hand_link.ensures.makes in
    joins_on K o s p q m r.below old r.free k links (chain_of c.join-full.new.self.chains) c.in_default.ensures
