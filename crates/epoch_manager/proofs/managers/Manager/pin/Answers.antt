use Rattle.std.proofs.Common.{◌∙◌, sym, ap, refl, subst, inl, inr, [], ◌∷◌}
use Rattle.epoch_manager.specs.Tokens.{Pins}
use Rattle.epoch_laws.specs.Words.{local_epoch}
use Rattle.pass_table.specs.Passes.{me_of}
use Rattle.epoch_manager.specs.Managers.{pointers, plan_of}
use Rattle.epoch_manager.proofs.PassClauses.{stands_registered, inside_so, pin_done, done_listed, done_read, done_begins, done_fits, none_held, same_registered, Changed}
use Rattle.epoch_manager.proofs.HoldClauses.{numbers_stay}
use Rattle.epoch_manager.proofs.PhaseFits.{fits_as, place_known, placed_at, placed_on}
use Rattle.epoch_manager.proofs.managers.Manager.pin.Goals as goal

pub pin_seat-requires-clause-below : goal.pin_seat-requires-clause-below
pin_seat-requires-clause-below g c =
    let K = g.C.Client.terms in
    let o = g.C.Object.Object.opens in
    let s = g.C.Object.Object.step in
    let p = plan_of c.args.self.now in
    let m = me_of c.args.pass.now.pass.seat in
    let phase = c.args.pass.now.phase in
    let fits = c.args.pass.now.fits p (ap (λ x. x.plan) c.requires.opening) in
    fits.below

pub pin_seat-requires-clause-registered : goal.pin_seat-requires-clause-registered
pin_seat-requires-clause-registered g c =
    let K = g.C.Client.terms in
    let o = g.C.Object.Object.opens in
    let s = g.C.Object.Object.step in
    let p = plan_of c.args.self.now in
    let m = me_of c.args.pass.now.pass.seat in
    let phase = c.args.pass.now.phase in
    let fits = c.args.pass.now.fits p (ap (λ x. x.plan) c.requires.opening) in
    let is = c.registered-token.ensures in
    let t = c.registered-token.result in
    (stands_registered m.0.part.seat phase t is fits.stands).0

pub pin_seat-requires-clause-token : goal.pin_seat-requires-clause-token
pin_seat-requires-clause-token g c =
    let K = g.C.Client.terms in
    let o = g.C.Object.Object.opens in
    let s = g.C.Object.Object.step in
    let p = plan_of c.args.self.now in
    let m = me_of c.args.pass.now.pass.seat in
    let phase = c.args.pass.now.phase in
    let fits = c.args.pass.now.fits p (ap (λ x. x.plan) c.requires.opening) in
    let is = c.registered-token.ensures in
    let t = c.registered-token.result in
    (sym (stands_registered m.0.part.seat phase t is fits.stands).1, inside_so K o s p phase t m.0 fits (inl is))

pub pin_seat-requires-clause-place : goal.pin_seat-requires-clause-place
pin_seat-requires-clause-place g c =
    let p = plan_of c.args.self.now in
    let is = c.registered-token.ensures in
    let t = c.registered-token.result in
    place_known p.shape c.args.pass.now.phase t c.args.pass.now.place (inl is) (c.args.pass.now.placed p (ap (λ x. x.plan) c.requires.opening))

pub invariant_of-pass : goal.invariant_of-pass
invariant_of-pass g c =
    let K = g.C.Client.terms in
    let o = g.C.Object.Object.opens in
    let s = g.C.Object.Object.step in
    let p = plan_of c.args.self.now in
    let m = me_of c.args.pass.now.pass.seat in
    let phase = c.args.pass.now.phase in
    let fits = c.args.pass.now.fits p (ap (λ x. x.plan) c.requires.opening) in
    let is = c.registered-token.ensures in
    let t = c.registered-token.result in
    let n = me_of c.pin_seat.new.seat in
    let d = pin_done K o s p m n phase fits t c.pin_seat.result is c.pin_seat.ensures.pins in
    (d.rests, (d.carried ∙ c.args.pass.now.pass.empty_handed, tt))

pub invariant_of-pass-2 : goal.invariant_of-pass-2
invariant_of-pass-2 g c =
    let K = g.C.Client.terms in
    let o = g.C.Object.Object.opens in
    let s = g.C.Object.Object.step in
    let p = plan_of c.args.self.now in
    let m = me_of c.args.pass.now.pass.seat in
    let phase = c.args.pass.now.phase in
    let fits = c.args.pass.now.fits p (ap (λ x. x.plan) c.requires.opening) in
    let is = c.registered-token.ensures in
    let t = c.registered-token.result in
    let n = me_of c.pin_seat.new.seat in
    let d = pin_done K o s p m n phase fits t c.pin_seat.result is c.pin_seat.ensures.pins in
    record { fits = fits_as n.0 _ _ (c.now_pinned.ensures t is) (done_fits K o s p m n _ _ _ _ d (ap (λ x. x.plan) c.pin_seat.ensures.seat)); placed = placed_on p _ _ c.args.pass.now.place (ap (λ x. x.plan) c.pin_seat.ensures.seat) (placed_at p.shape _ t c.args.pass.now.place (inr (c.now_pinned.ensures t is)) (place_known p.shape phase t c.args.pass.now.place (inl is) (c.args.pass.now.placed p (ap (λ x. x.plan) c.requires.opening)))); holds = numbers_stay _ m.0.part _ n.0.part c.args.pass.now.holds d.goes.1 refl }

pub returns-clause-same : goal.returns-clause-same
returns-clause-same g c =
    let K = g.C.Client.terms in
    let o = g.C.Object.Object.opens in
    let s = g.C.Object.Object.step in
    let p = plan_of c.args.self.now in
    let m = me_of c.args.pass.now.pass.seat in
    let phase = c.args.pass.now.phase in
    let fits = c.args.pass.now.fits p (ap (λ x. x.plan) c.requires.opening) in
    let is = c.registered-token.ensures in
    let t = c.registered-token.result in
    let n = me_of c.pin_seat.new.seat in
    let d = pin_done K o s p m n phase fits t c.pin_seat.result is c.pin_seat.ensures.pins in
    (ap (λ x. pointers x.facts x.seat.owned) d.goes.1, ap (λ x. pointers x.facts x.seat.held) d.goes.1, ap (λ x. x.client) d.goes.1)

pub returns-clause-none_held : goal.returns-clause-none_held
returns-clause-none_held g c =
    let K = g.C.Client.terms in
    let o = g.C.Object.Object.opens in
    let s = g.C.Object.Object.step in
    let p = plan_of c.args.self.now in
    let m = me_of c.args.pass.now.pass.seat in
    let phase = c.args.pass.now.phase in
    let fits = c.args.pass.now.fits p (ap (λ x. x.plan) c.requires.opening) in
    let is = c.registered-token.ensures in
    let t = c.registered-token.result in
    let n = me_of c.pin_seat.new.seat in
    let d = pin_done K o s p m n phase fits t c.pin_seat.result is c.pin_seat.ensures.pins in
    let none = none_held phase t m.0.part.seat.held is fits.kept.pinned in
    ap (λ x. pointers x.facts x.seat.held) d.goes.1 ∙ ap (λ l. pointers m.0.part.facts l) none

pub returns-clause-grows : goal.returns-clause-grows
returns-clause-grows g c =
    let K = g.C.Client.terms in
    let o = g.C.Object.Object.opens in
    let s = g.C.Object.Object.step in
    let p = plan_of c.args.self.now in
    let m = me_of c.args.pass.now.pass.seat in
    let phase = c.args.pass.now.phase in
    let fits = c.args.pass.now.fits p (ap (λ x. x.plan) c.requires.opening) in
    let is = c.registered-token.ensures in
    let t = c.registered-token.result in
    let n = me_of c.pin_seat.new.seat in
    let d = pin_done K o s p m n phase fits t c.pin_seat.result is c.pin_seat.ensures.pins in
    done_begins K o s p m n _ _ _ _ d

pub returns-clause-history : goal.returns-clause-history
returns-clause-history g c =
    let K = g.C.Client.terms in
    let o = g.C.Object.Object.opens in
    let s = g.C.Object.Object.step in
    let p = plan_of c.args.self.now in
    let m = me_of c.args.pass.now.pass.seat in
    let phase = c.args.pass.now.phase in
    let fits = c.args.pass.now.fits p (ap (λ x. x.plan) c.requires.opening) in
    let is = c.registered-token.ensures in
    let t = c.registered-token.result in
    let n = me_of c.pin_seat.new.seat in
    let d = pin_done K o s p m n phase fits t c.pin_seat.result is c.pin_seat.ensures.pins in
    λ token so. subst (λ u. Pins K o s p (Changed K o s p m n (record { name = local_epoch t.locale; word = c.pin_seat.result } ∷ [])) u) (same_registered phase t token is so) (record { epoch = c.pin_seat.result; low = c.pin_seat.ensures.pins.0; listed = done_listed K o s p m n _ _ _ _ d; read = done_read K o s p m n _ _ _ _ d _ refl })
