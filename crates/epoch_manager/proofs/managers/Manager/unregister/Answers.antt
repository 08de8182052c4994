use Rattle.std.proofs.Common.{◌≡◌, ◌∙◌, true, sym, ap, refl, subst, inl, []}
use Rattle.epoch_laws.specs.declared.events.EpochEvent.TheVariants.{Unregistered}
use Rattle.epoch_laws.specs.Needs.{event}
use Rattle.epoch_laws.specs.Timing.{IsToken}
use Rattle.pass_table.specs.Passes.{me_of}
use Rattle.epoch_manager.specs.Managers.{pointers, plan_of, ListsItems}
use Rattle.epoch_manager.proofs.PassClauses.{stands_registered, inside_so, may_unregister, unregister_done, done_listed, done_begins, done_fits, done_looked, same_registered, Changed}
use Rattle.epoch_manager.proofs.HoldClauses.{numbers_stay}
use Rattle.epoch_manager.proofs.PhaseFits.{fits_as, placed_on}
use Rattle.epoch_manager.specs.Fits.{is_placed}
use Rattle.epoch_manager.proofs.managers.Manager.unregister.Goals as goal

pub unregister-requires-clause-token : goal.unregister-requires-clause-token
unregister-requires-clause-token g c =
    let K = g.C.Client.terms in
    let o = g.C.Object.Object.opens in
    let s = g.C.Object.Object.step in
    let p = plan_of c.args.self.now in
    let m = me_of c.args.pass.now.pass.seat in
    let phase = c.args.pass.now.phase in
    let fits = c.args.pass.now.fits p (ap (λ x. x.plan) c.requires.opening) in
    let is = c.registered-token.ensures in
    let t = c.registered-token.result in
    (sym (stands_registered m.0.part.seat phase t is fits.stands).1, subst (λ h. IsToken h.locales h.tokens t) c.args.self.now.words.planned (inside_so K o s p phase t m.0 fits (inl is)))

pub unregister-requires-clause-may : goal.unregister-requires-clause-may
unregister-requires-clause-may g c =
    let K = g.C.Client.terms in
    let o = g.C.Object.Object.opens in
    let s = g.C.Object.Object.step in
    let p = plan_of c.args.self.now in
    let m = me_of c.args.pass.now.pass.seat in
    let phase = c.args.pass.now.phase in
    let fits = c.args.pass.now.fits p (ap (λ x. x.plan) c.requires.opening) in
    let is = c.registered-token.ensures in
    let t = c.registered-token.result in
    may_unregister K o s p m phase t fits is

pub invariant_of-pass : goal.invariant_of-pass
invariant_of-pass g c =
    let K = g.C.Client.terms in
    let o = g.C.Object.Object.opens in
    let s = g.C.Object.Object.step in
    let p = plan_of c.args.self.now in
    let m = me_of c.args.pass.now.pass.seat in
    let phase = c.args.pass.now.phase in
    let fits = c.args.pass.now.fits p (ap (λ x. x.plan) c.requires.opening) in
    let is = c.registered-token.ensures in
    let t = c.registered-token.result in
    let n = me_of c.unregister.new.seat in
    let d = unregister_done K o s p m n phase fits t is c.unregister.ensures.makes in
    (d.rests, (d.carried ∙ c.args.pass.now.pass.empty_handed, tt))

pub invariant_of-pass-2 : goal.invariant_of-pass-2
invariant_of-pass-2 g c =
    let K = g.C.Client.terms in
    let o = g.C.Object.Object.opens in
    let s = g.C.Object.Object.step in
    let p = plan_of c.args.self.now in
    let m = me_of c.args.pass.now.pass.seat in
    let phase = c.args.pass.now.phase in
    let fits = c.args.pass.now.fits p (ap (λ x. x.plan) c.requires.opening) in
    let is = c.registered-token.ensures in
    let t = c.registered-token.result in
    let n = me_of c.unregister.new.seat in
    let d = unregister_done K o s p m n phase fits t is c.unregister.ensures.makes in
    record { fits = fits_as n.0 _ _ c.now_idle.ensures (done_fits K o s p m n _ _ _ _ d (ap (λ x. x.plan) c.unregister.ensures.seat)); placed = placed_on p _ _ c.args.pass.now.place (ap (λ x. x.plan) c.unregister.ensures.seat) (subst (λ f. is_placed p.shape f c.args.pass.now.place ≡ true) (sym c.now_idle.ensures) refl); holds = numbers_stay _ m.0.part _ n.0.part c.args.pass.now.holds d.goes.1 refl }

pub returns-clause-same : goal.returns-clause-same
returns-clause-same g c =
    let K = g.C.Client.terms in
    let o = g.C.Object.Object.opens in
    let s = g.C.Object.Object.step in
    let p = plan_of c.args.self.now in
    let m = me_of c.args.pass.now.pass.seat in
    let phase = c.args.pass.now.phase in
    let fits = c.args.pass.now.fits p (ap (λ x. x.plan) c.requires.opening) in
    let is = c.registered-token.ensures in
    let t = c.registered-token.result in
    let n = me_of c.unregister.new.seat in
    let d = unregister_done K o s p m n phase fits t is c.unregister.ensures.makes in
    (ap (λ x. pointers x.facts x.seat.owned) d.goes.1, ap (λ x. pointers x.facts x.seat.held) d.goes.1, ap (λ x. x.client) d.goes.1)

pub returns-clause-grows : goal.returns-clause-grows
returns-clause-grows g c =
    let K = g.C.Client.terms in
    let o = g.C.Object.Object.opens in
    let s = g.C.Object.Object.step in
    let p = plan_of c.args.self.now in
    let m = me_of c.args.pass.now.pass.seat in
    let phase = c.args.pass.now.phase in
    let fits = c.args.pass.now.fits p (ap (λ x. x.plan) c.requires.opening) in
    let is = c.registered-token.ensures in
    let t = c.registered-token.result in
    let n = me_of c.unregister.new.seat in
    let d = unregister_done K o s p m n phase fits t is c.unregister.ensures.makes in
    done_begins K o s p m n _ _ _ _ d

pub returns-clause-looked : goal.returns-clause-looked
returns-clause-looked g c =
    let K = g.C.Client.terms in
    let o = g.C.Object.Object.opens in
    let s = g.C.Object.Object.step in
    let p = plan_of c.args.self.now in
    let m = me_of c.args.pass.now.pass.seat in
    let phase = c.args.pass.now.phase in
    let fits = c.args.pass.now.fits p (ap (λ x. x.plan) c.requires.opening) in
    let is = c.registered-token.ensures in
    let t = c.registered-token.result in
    let n = me_of c.unregister.new.seat in
    let d = unregister_done K o s p m n phase fits t is c.unregister.ensures.makes in
    done_looked K o s p m n _ _ _ _ d refl

pub returns-clause-history : goal.returns-clause-history
returns-clause-history g c =
    let K = g.C.Client.terms in
    let o = g.C.Object.Object.opens in
    let s = g.C.Object.Object.step in
    let p = plan_of c.args.self.now in
    let m = me_of c.args.pass.now.pass.seat in
    let phase = c.args.pass.now.phase in
    let fits = c.args.pass.now.fits p (ap (λ x. x.plan) c.requires.opening) in
    let is = c.registered-token.ensures in
    let t = c.registered-token.result in
    let n = me_of c.unregister.new.seat in
    let d = unregister_done K o s p m n phase fits t is c.unregister.ensures.makes in
    λ token so. subst (λ u. ListsItems K o s p (Changed K o s p m n []) (event m.0.number (Unregistered u))) (same_registered phase t token is so) (done_listed K o s p m n _ _ _ _ d)
