use Rattle.std.proofs.Common.{◌∙◌, ap, sym, subst, inl, refl}
use Rattle.pass_table.specs.Passes.{me_of}
use Rattle.epoch_manager.specs.Managers.{plan_of}
use Rattle.epoch_manager.proofs.HoldClauses.{numbers_stay}
use Rattle.epoch_manager.proofs.PassClauses.{stands_registered, inside_so, done_begins, done_fits, done_read}
use Rattle.epoch_manager.proofs.Reclaimed.{places_of, finished, reclaim_owned, reclaim_held, reclaim_listed, reclaim_read}
use Rattle.epoch_manager.proofs.Returned.{settled_so}
use Rattle.epoch_manager.proofs.PhaseFits.{placed_on}
use Rattle.epoch_manager.proofs.managers.Manager.try_reclaim.Goals as goal

pub reclaim_seat-requires-clause-below : goal.reclaim_seat-requires-clause-below
reclaim_seat-requires-clause-below g c =
    let K = g.C.Client.terms in
    let o = g.C.Object.Object.opens in
    let s = g.C.Object.Object.step in
    let p = plan_of c.args.self.now in
    let m = me_of c.args.pass.now.pass.seat in
    let phase = c.args.pass.now.phase in
    let fits = c.args.pass.now.fits p (ap (λ x. x.plan) c.requires.opening) in
    let is = c.registered-token.ensures in
    let t = c.registered-token.result in
    fits.below

pub reclaim_seat-requires-clause-registered : goal.reclaim_seat-requires-clause-registered
reclaim_seat-requires-clause-registered g c =
    let K = g.C.Client.terms in
    let o = g.C.Object.Object.opens in
    let s = g.C.Object.Object.step in
    let p = plan_of c.args.self.now in
    let m = me_of c.args.pass.now.pass.seat in
    let phase = c.args.pass.now.phase in
    let fits = c.args.pass.now.fits p (ap (λ x. x.plan) c.requires.opening) in
    let is = c.registered-token.ensures in
    let t = c.registered-token.result in
    (stands_registered m.0.part.seat phase t is fits.stands).0

pub reclaim_seat-requires-clause-locale : goal.reclaim_seat-requires-clause-locale
reclaim_seat-requires-clause-locale g c =
    let K = g.C.Client.terms in
    let o = g.C.Object.Object.opens in
    let s = g.C.Object.Object.step in
    let p = plan_of c.args.self.now in
    let m = me_of c.args.pass.now.pass.seat in
    let phase = c.args.pass.now.phase in
    let fits = c.args.pass.now.fits p (ap (λ x. x.plan) c.requires.opening) in
    let is = c.registered-token.ensures in
    let t = c.registered-token.result in
    (sym (ap (λ u. u.locale) (stands_registered m.0.part.seat phase t is fits.stands).1), (inside_so K o s p phase t m.0 fits (inl is)).locale)

pub reclaim_seat-requires-clause-hand : goal.reclaim_seat-requires-clause-hand
reclaim_seat-requires-clause-hand g c =
    let K = g.C.Client.terms in
    let o = g.C.Object.Object.opens in
    let s = g.C.Object.Object.step in
    let p = plan_of c.args.self.now in
    let m = me_of c.args.pass.now.pass.seat in
    let phase = c.args.pass.now.phase in
    let fits = c.args.pass.now.fits p (ap (λ x. x.plan) c.requires.opening) in
    let is = c.registered-token.ensures in
    let t = c.registered-token.result in
    let done = (settled_so m.0.part.seat m.0.part.won fits.kept.done).0 in
    done.hand

pub reclaim_seat-requires-clause-tail : goal.reclaim_seat-requires-clause-tail
reclaim_seat-requires-clause-tail g c =
    let K = g.C.Client.terms in
    let o = g.C.Object.Object.opens in
    let s = g.C.Object.Object.step in
    let p = plan_of c.args.self.now in
    let m = me_of c.args.pass.now.pass.seat in
    let phase = c.args.pass.now.phase in
    let fits = c.args.pass.now.fits p (ap (λ x. x.plan) c.requires.opening) in
    let is = c.registered-token.ensures in
    let t = c.registered-token.result in
    let done = (settled_so m.0.part.seat m.0.part.won fits.kept.done).0 in
    done.tail

pub reclaim_seat-requires-clause-allowed : goal.reclaim_seat-requires-clause-allowed
reclaim_seat-requires-clause-allowed g c =
    let K = g.C.Client.terms in
    let o = g.C.Object.Object.opens in
    let s = g.C.Object.Object.step in
    let p = plan_of c.args.self.now in
    let m = me_of c.args.pass.now.pass.seat in
    let phase = c.args.pass.now.phase in
    let fits = c.args.pass.now.fits p (ap (λ x. x.plan) c.requires.opening) in
    let is = c.registered-token.ensures in
    let t = c.registered-token.result in
    subst (λ l. K.may_reclaim m.0.part.client l) (places_of m.0.part.facts m.0.part.seat.owned) c.requires.allowed

pub invariant_of-pass : goal.invariant_of-pass
invariant_of-pass g c =
    let K = g.C.Client.terms in
    let o = g.C.Object.Object.opens in
    let s = g.C.Object.Object.step in
    let p = plan_of c.args.self.now in
    let m = me_of c.args.pass.now.pass.seat in
    let phase = c.args.pass.now.phase in
    let fits = c.args.pass.now.fits p (ap (λ x. x.plan) c.requires.opening) in
    let is = c.registered-token.ensures in
    let t = c.registered-token.result in
    let n = me_of c.reclaim_seat.new.seat in
    let result = c.reclaim_seat.result in
    let f = finished K o s p m n phase fits t is result c.reclaim_seat.ensures.reclaims in
    let d = f.done in
    ((d.rests, (d.carried ∙ c.args.pass.now.pass.empty_handed, tt)), (done_fits K o s p m n _ _ _ _ d (ap (λ x. x.plan) c.reclaim_seat.ensures.seat), (placed_on p _ phase c.args.pass.now.place (ap (λ x. x.plan) c.reclaim_seat.ensures.seat) (c.args.pass.now.placed p (ap (λ x. x.plan) c.requires.opening)), (numbers_stay _ m.0.part n.0.part n.0.part c.args.pass.now.holds refl f.kept.held, tt))))

pub returns-clause-owned : goal.returns-clause-owned
returns-clause-owned g c =
    let K = g.C.Client.terms in
    let o = g.C.Object.Object.opens in
    let s = g.C.Object.Object.step in
    let p = plan_of c.args.self.now in
    let m = me_of c.args.pass.now.pass.seat in
    let phase = c.args.pass.now.phase in
    let fits = c.args.pass.now.fits p (ap (λ x. x.plan) c.requires.opening) in
    let is = c.registered-token.ensures in
    let t = c.registered-token.result in
    let n = me_of c.reclaim_seat.new.seat in
    let result = c.reclaim_seat.result in
    let f = finished K o s p m n phase fits t is result c.reclaim_seat.ensures.reclaims in
    reclaim_owned K o s p m n phase fits t is result f

pub returns-clause-held : goal.returns-clause-held
returns-clause-held g c =
    let K = g.C.Client.terms in
    let o = g.C.Object.Object.opens in
    let s = g.C.Object.Object.step in
    let p = plan_of c.args.self.now in
    let m = me_of c.args.pass.now.pass.seat in
    let phase = c.args.pass.now.phase in
    let fits = c.args.pass.now.fits p (ap (λ x. x.plan) c.requires.opening) in
    let is = c.registered-token.ensures in
    let t = c.registered-token.result in
    let n = me_of c.reclaim_seat.new.seat in
    let result = c.reclaim_seat.result in
    let f = finished K o s p m n phase fits t is result c.reclaim_seat.ensures.reclaims in
    reclaim_held K o s p m n phase fits t is result f

pub returns-clause-history : goal.returns-clause-history
returns-clause-history g c =
    let K = g.C.Client.terms in
    let o = g.C.Object.Object.opens in
    let s = g.C.Object.Object.step in
    let p = plan_of c.args.self.now in
    let m = me_of c.args.pass.now.pass.seat in
    let phase = c.args.pass.now.phase in
    let fits = c.args.pass.now.fits p (ap (λ x. x.plan) c.requires.opening) in
    let is = c.registered-token.ensures in
    let t = c.registered-token.result in
    let n = me_of c.reclaim_seat.new.seat in
    let result = c.reclaim_seat.result in
    let f = finished K o s p m n phase fits t is result c.reclaim_seat.ensures.reclaims in
    reclaim_listed K o s p m n phase fits t is result f

pub returns-clause-grows : goal.returns-clause-grows
returns-clause-grows g c =
    let K = g.C.Client.terms in
    let o = g.C.Object.Object.opens in
    let s = g.C.Object.Object.step in
    let p = plan_of c.args.self.now in
    let m = me_of c.args.pass.now.pass.seat in
    let phase = c.args.pass.now.phase in
    let fits = c.args.pass.now.fits p (ap (λ x. x.plan) c.requires.opening) in
    let is = c.registered-token.ensures in
    let t = c.registered-token.result in
    let n = me_of c.reclaim_seat.new.seat in
    let result = c.reclaim_seat.result in
    let f = finished K o s p m n phase fits t is result c.reclaim_seat.ensures.reclaims in
    done_begins K o s p m n _ _ _ _ f.done

pub returns-clause-read : goal.returns-clause-read
returns-clause-read g c =
    let K = g.C.Client.terms in
    let o = g.C.Object.Object.opens in
    let s = g.C.Object.Object.step in
    let p = plan_of c.args.self.now in
    let m = me_of c.args.pass.now.pass.seat in
    let phase = c.args.pass.now.phase in
    let fits = c.args.pass.now.fits p (ap (λ x. x.plan) c.requires.opening) in
    let is = c.registered-token.ensures in
    let t = c.registered-token.result in
    let n = me_of c.reclaim_seat.new.seat in
    let result = c.reclaim_seat.result in
    let f = finished K o s p m n phase fits t is result c.reclaim_seat.ensures.reclaims in
    λ u so. done_read K o s p m n _ _ _ _ f.done _ (reclaim_read K o s p m n phase fits t is result f u so)
