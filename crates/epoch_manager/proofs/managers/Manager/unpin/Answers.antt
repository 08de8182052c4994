use Rattle.std.proofs.Common.{◌∙◌, sym, ap, refl, subst, inl, inr, [], map}
use Rattle.epoch_laws.specs.declared.events.EpochEvent.TheVariants.{Unpinned}
use Rattle.epoch_laws.specs.Needs.{event}
use Rattle.epoch_laws.specs.Timing.{IsToken}
use Rattle.pass_table.specs.Passes.{me_of}
use Rattle.epoch_table.specs.Layout.{token_place}
use Rattle.epoch_manager.specs.Managers.{pointers, plan_of, ListsItems}
use Rattle.epoch_manager.proofs.PassClauses.{stands_pinned, inside_so, may_unpin, unpin_done, done_listed, done_begins, done_fits, done_looked, same_pinned, Changed}
use Rattle.epoch_manager.specs.HeldNumbers.{number_of}
use Rattle.epoch_manager.proofs.PhaseFits.{fits_as, place_known, placed_at, placed_on}
use Rattle.epoch_manager.proofs.managers.Manager.unpin.Goals as goal

pub unpin-requires-clause-token : goal.unpin-requires-clause-token
unpin-requires-clause-token g c =
    let K = g.C.Client.terms in
    let o = g.C.Object.Object.opens in
    let s = g.C.Object.Object.step in
    let p = plan_of c.args.self.now in
    let m = me_of c.args.pass.now.pass.seat in
    let phase = c.args.pass.now.phase in
    let fits = c.args.pass.now.fits p (ap (λ x. x.plan) c.requires.opening) in
    let is = c.requires.phase.1 in
    let t = c.requires.phase.0 in
    let shape = c.args.self.now.words.shape in
    subst (λ u. IsToken shape.locales shape.tokens u) (sym (stands_pinned m.0.part.seat phase t is fits.stands).1) (subst (λ h. IsToken h.locales h.tokens t) c.args.self.now.words.planned (inside_so K o s p phase t m.0 fits (inr is)))

pub unpin-requires-clause-at : goal.unpin-requires-clause-at
unpin-requires-clause-at g c =
    let p = plan_of c.args.self.now in
    let m = me_of c.args.pass.now.pass.seat in
    let phase = c.args.pass.now.phase in
    let fits = c.args.pass.now.fits p (ap (λ x. x.plan) c.requires.opening) in
    let is = c.requires.phase.1 in
    let t = c.requires.phase.0 in
    let shape = c.args.self.now.words.shape in
    place_known p.shape phase t c.args.pass.now.place (inr is) (c.args.pass.now.placed p (ap (λ x. x.plan) c.requires.opening)) ∙ (ap (λ h. token_place h t) c.args.self.now.words.planned ∙ ap (λ u. token_place shape u) (sym (stands_pinned m.0.part.seat phase t is fits.stands).1))

pub unpin-requires-clause-may : goal.unpin-requires-clause-may
unpin-requires-clause-may g c =
    let K = g.C.Client.terms in
    let o = g.C.Object.Object.opens in
    let s = g.C.Object.Object.step in
    let p = plan_of c.args.self.now in
    let m = me_of c.args.pass.now.pass.seat in
    let phase = c.args.pass.now.phase in
    let fits = c.args.pass.now.fits p (ap (λ x. x.plan) c.requires.opening) in
    let is = c.requires.phase.1 in
    let t = c.requires.phase.0 in
    may_unpin K o s p m phase t fits is

pub invariant_of-pass : goal.invariant_of-pass
invariant_of-pass g c =
    let K = g.C.Client.terms in
    let o = g.C.Object.Object.opens in
    let s = g.C.Object.Object.step in
    let p = plan_of c.args.self.now in
    let m = me_of c.args.pass.now.pass.seat in
    let phase = c.args.pass.now.phase in
    let fits = c.args.pass.now.fits p (ap (λ x. x.plan) c.requires.opening) in
    let is = c.requires.phase.1 in
    let t = c.requires.phase.0 in
    let n = me_of c.unpin.new.seat in
    let d = unpin_done K o s p m n phase fits t is c.unpin.ensures.makes in
    (d.rests, (d.carried ∙ c.args.pass.now.pass.empty_handed, tt))

pub invariant_of-pass-2 : goal.invariant_of-pass-2
invariant_of-pass-2 g c =
    let K = g.C.Client.terms in
    let o = g.C.Object.Object.opens in
    let s = g.C.Object.Object.step in
    let p = plan_of c.args.self.now in
    let m = me_of c.args.pass.now.pass.seat in
    let phase = c.args.pass.now.phase in
    let fits = c.args.pass.now.fits p (ap (λ x. x.plan) c.requires.opening) in
    let is = c.requires.phase.1 in
    let t = c.requires.phase.0 in
    let n = me_of c.unpin.new.seat in
    let d = unpin_done K o s p m n phase fits t is c.unpin.ensures.makes in
    record { fits = fits_as n.0 _ _ (c.now_unpinned.ensures t is) (done_fits K o s p m n _ _ _ _ d (ap (λ x. x.plan) c.unpin.ensures.seat)); placed = placed_on p _ _ c.args.pass.now.place (ap (λ x. x.plan) c.unpin.ensures.seat) (placed_at p.shape _ t c.args.pass.now.place (inl (c.now_unpinned.ensures t is)) (place_known p.shape phase t c.args.pass.now.place (inr is) (c.args.pass.now.placed p (ap (λ x. x.plan) c.requires.opening)))); holds = c.clear.ensures ∙ ap (λ x. map number_of x.seat.held) (sym d.goes.1) }

pub returns-clause-owned : goal.returns-clause-owned
returns-clause-owned g c =
    let K = g.C.Client.terms in
    let o = g.C.Object.Object.opens in
    let s = g.C.Object.Object.step in
    let p = plan_of c.args.self.now in
    let m = me_of c.args.pass.now.pass.seat in
    let phase = c.args.pass.now.phase in
    let fits = c.args.pass.now.fits p (ap (λ x. x.plan) c.requires.opening) in
    let is = c.requires.phase.1 in
    let t = c.requires.phase.0 in
    let n = me_of c.unpin.new.seat in
    let d = unpin_done K o s p m n phase fits t is c.unpin.ensures.makes in
    ap (λ x. pointers x.facts x.seat.owned) d.goes.1

pub returns-clause-held : goal.returns-clause-held
returns-clause-held g c =
    let K = g.C.Client.terms in
    let o = g.C.Object.Object.opens in
    let s = g.C.Object.Object.step in
    let p = plan_of c.args.self.now in
    let m = me_of c.args.pass.now.pass.seat in
    let phase = c.args.pass.now.phase in
    let fits = c.args.pass.now.fits p (ap (λ x. x.plan) c.requires.opening) in
    let is = c.requires.phase.1 in
    let t = c.requires.phase.0 in
    let n = me_of c.unpin.new.seat in
    let d = unpin_done K o s p m n phase fits t is c.unpin.ensures.makes in
    ap (λ x. pointers x.facts x.seat.held) d.goes.1

pub returns-clause-knows : goal.returns-clause-knows
returns-clause-knows g c =
    let K = g.C.Client.terms in
    let o = g.C.Object.Object.opens in
    let s = g.C.Object.Object.step in
    let p = plan_of c.args.self.now in
    let m = me_of c.args.pass.now.pass.seat in
    let phase = c.args.pass.now.phase in
    let fits = c.args.pass.now.fits p (ap (λ x. x.plan) c.requires.opening) in
    let is = c.requires.phase.1 in
    let t = c.requires.phase.0 in
    let n = me_of c.unpin.new.seat in
    let d = unpin_done K o s p m n phase fits t is c.unpin.ensures.makes in
    ap (λ x. x.client) d.goes.1

pub returns-clause-grows : goal.returns-clause-grows
returns-clause-grows g c =
    let K = g.C.Client.terms in
    let o = g.C.Object.Object.opens in
    let s = g.C.Object.Object.step in
    let p = plan_of c.args.self.now in
    let m = me_of c.args.pass.now.pass.seat in
    let phase = c.args.pass.now.phase in
    let fits = c.args.pass.now.fits p (ap (λ x. x.plan) c.requires.opening) in
    let is = c.requires.phase.1 in
    let t = c.requires.phase.0 in
    let n = me_of c.unpin.new.seat in
    let d = unpin_done K o s p m n phase fits t is c.unpin.ensures.makes in
    done_begins K o s p m n _ _ _ _ d

pub returns-clause-looked : goal.returns-clause-looked
returns-clause-looked g c =
    let K = g.C.Client.terms in
    let o = g.C.Object.Object.opens in
    let s = g.C.Object.Object.step in
    let p = plan_of c.args.self.now in
    let m = me_of c.args.pass.now.pass.seat in
    let phase = c.args.pass.now.phase in
    let fits = c.args.pass.now.fits p (ap (λ x. x.plan) c.requires.opening) in
    let is = c.requires.phase.1 in
    let t = c.requires.phase.0 in
    let n = me_of c.unpin.new.seat in
    let d = unpin_done K o s p m n phase fits t is c.unpin.ensures.makes in
    done_looked K o s p m n _ _ _ _ d refl

pub returns-clause-history : goal.returns-clause-history
returns-clause-history g c =
    let K = g.C.Client.terms in
    let o = g.C.Object.Object.opens in
    let s = g.C.Object.Object.step in
    let p = plan_of c.args.self.now in
    let m = me_of c.args.pass.now.pass.seat in
    let phase = c.args.pass.now.phase in
    let fits = c.args.pass.now.fits p (ap (λ x. x.plan) c.requires.opening) in
    let is = c.requires.phase.1 in
    let t = c.requires.phase.0 in
    let n = me_of c.unpin.new.seat in
    let d = unpin_done K o s p m n phase fits t is c.unpin.ensures.makes in
    λ token so. subst (λ u. ListsItems K o s p (Changed K o s p m n []) (event m.0.number (Unpinned u))) (same_pinned phase t token is so) (done_listed K o s p m n _ _ _ _ d)
