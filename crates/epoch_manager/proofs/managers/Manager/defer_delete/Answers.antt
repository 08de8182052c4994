use Rattle.std.proofs.Common.{◌∙◌, sym, ap, subst, inr, refl}
use Rattle.pass_table.specs.Passes.{me_of}
use Rattle.epoch_manager.specs.Deferring.{DefersObject, deferral_words}
use Rattle.epoch_manager.specs.Managers.{plan_of, pointers}
use Rattle.epoch_manager.proofs.PassClauses.{stands_pinned, inside_so, defer_done, done_listed, done_read, done_begins, done_fits, same_pinned, Changed}
use Rattle.epoch_manager.proofs.HoldClauses.{numbers_stay}
use Rattle.epoch_manager.proofs.PhaseFits.{placed_on}
use Rattle.epoch_manager.proofs.managers.Manager.defer_delete.Goals as goal

pub defer_seat-requires-clause-below : goal.defer_seat-requires-clause-below
defer_seat-requires-clause-below g c =
    let K = g.C.Client.terms in
    let o = g.C.Object.Object.opens in
    let s = g.C.Object.Object.step in
    let p = plan_of c.args.self.now in
    let m = me_of c.args.pass.now.pass.seat in
    let phase = c.args.pass.now.phase in
    let fits = c.args.pass.now.fits p (ap (λ x. x.plan) c.requires.opening) in
    let is = c.pinned-token.ensures in
    let t = c.pinned-token.result in
    let stands = stands_pinned m.0.part.seat phase t is fits.stands in
    fits.below

pub defer_seat-requires-clause-pinned : goal.defer_seat-requires-clause-pinned
defer_seat-requires-clause-pinned g c =
    let K = g.C.Client.terms in
    let o = g.C.Object.Object.opens in
    let s = g.C.Object.Object.step in
    let p = plan_of c.args.self.now in
    let m = me_of c.args.pass.now.pass.seat in
    let phase = c.args.pass.now.phase in
    let fits = c.args.pass.now.fits p (ap (λ x. x.plan) c.requires.opening) in
    let is = c.pinned-token.ensures in
    let t = c.pinned-token.result in
    let stands = stands_pinned m.0.part.seat phase t is fits.stands in
    stands.0

pub defer_seat-requires-clause-locale : goal.defer_seat-requires-clause-locale
defer_seat-requires-clause-locale g c =
    let K = g.C.Client.terms in
    let o = g.C.Object.Object.opens in
    let s = g.C.Object.Object.step in
    let p = plan_of c.args.self.now in
    let m = me_of c.args.pass.now.pass.seat in
    let phase = c.args.pass.now.phase in
    let fits = c.args.pass.now.fits p (ap (λ x. x.plan) c.requires.opening) in
    let is = c.pinned-token.ensures in
    let t = c.pinned-token.result in
    let stands = stands_pinned m.0.part.seat phase t is fits.stands in
    (sym (ap (λ u. u.locale) stands.1), (inside_so K o s p phase t m.0 fits (inr is)).locale)

pub invariant_of-pass : goal.invariant_of-pass
invariant_of-pass g c =
    let K = g.C.Client.terms in
    let o = g.C.Object.Object.opens in
    let s = g.C.Object.Object.step in
    let p = plan_of c.args.self.now in
    let m = me_of c.args.pass.now.pass.seat in
    let phase = c.args.pass.now.phase in
    let fits = c.args.pass.now.fits p (ap (λ x. x.plan) c.requires.opening) in
    let is = c.pinned-token.ensures in
    let t = c.pinned-token.result in
    let stands = stands_pinned m.0.part.seat phase t is fits.stands in
    let n = me_of c.defer_seat.new.seat in
    let defers = c.defer_seat.ensures.defers in
    let d = defer_done K o s p m n phase fits t c.args.ptr c.defer_seat.result is defers in
    ((d.rests, (d.carried ∙ c.args.pass.now.pass.empty_handed, tt)), (done_fits K o s p m n _ _ _ _ d (ap (λ x. x.plan) c.defer_seat.ensures.seat), (placed_on p _ phase c.args.pass.now.place (ap (λ x. x.plan) c.defer_seat.ensures.seat) (c.args.pass.now.placed p (ap (λ x. x.plan) c.requires.opening)), (numbers_stay _ m.0.part _ n.0.part c.args.pass.now.holds d.goes.1 refl, tt))))

pub returns-clause-owned : goal.returns-clause-owned
returns-clause-owned g c =
    let K = g.C.Client.terms in
    let o = g.C.Object.Object.opens in
    let s = g.C.Object.Object.step in
    let p = plan_of c.args.self.now in
    let m = me_of c.args.pass.now.pass.seat in
    let phase = c.args.pass.now.phase in
    let fits = c.args.pass.now.fits p (ap (λ x. x.plan) c.requires.opening) in
    let is = c.pinned-token.ensures in
    let t = c.pinned-token.result in
    let stands = stands_pinned m.0.part.seat phase t is fits.stands in
    let n = me_of c.defer_seat.new.seat in
    let defers = c.defer_seat.ensures.defers in
    let d = defer_done K o s p m n phase fits t c.args.ptr c.defer_seat.result is defers in
    ap (λ x. pointers x.facts x.seat.owned) d.goes.1

pub returns-clause-held : goal.returns-clause-held
returns-clause-held g c =
    let K = g.C.Client.terms in
    let o = g.C.Object.Object.opens in
    let s = g.C.Object.Object.step in
    let p = plan_of c.args.self.now in
    let m = me_of c.args.pass.now.pass.seat in
    let phase = c.args.pass.now.phase in
    let fits = c.args.pass.now.fits p (ap (λ x. x.plan) c.requires.opening) in
    let is = c.pinned-token.ensures in
    let t = c.pinned-token.result in
    let stands = stands_pinned m.0.part.seat phase t is fits.stands in
    let n = me_of c.defer_seat.new.seat in
    let defers = c.defer_seat.ensures.defers in
    let d = defer_done K o s p m n phase fits t c.args.ptr c.defer_seat.result is defers in
    ap (λ x. pointers x.facts x.seat.held) d.goes.1

pub returns-clause-knows : goal.returns-clause-knows
returns-clause-knows g c =
    let K = g.C.Client.terms in
    let o = g.C.Object.Object.opens in
    let s = g.C.Object.Object.step in
    let p = plan_of c.args.self.now in
    let m = me_of c.args.pass.now.pass.seat in
    let phase = c.args.pass.now.phase in
    let fits = c.args.pass.now.fits p (ap (λ x. x.plan) c.requires.opening) in
    let is = c.pinned-token.ensures in
    let t = c.pinned-token.result in
    let stands = stands_pinned m.0.part.seat phase t is fits.stands in
    let n = me_of c.defer_seat.new.seat in
    let defers = c.defer_seat.ensures.defers in
    let d = defer_done K o s p m n phase fits t c.args.ptr c.defer_seat.result is defers in
    ap (λ x. x.client) d.goes.1

pub returns-clause-grows : goal.returns-clause-grows
returns-clause-grows g c =
    let K = g.C.Client.terms in
    let o = g.C.Object.Object.opens in
    let s = g.C.Object.Object.step in
    let p = plan_of c.args.self.now in
    let m = me_of c.args.pass.now.pass.seat in
    let phase = c.args.pass.now.phase in
    let fits = c.args.pass.now.fits p (ap (λ x. x.plan) c.requires.opening) in
    let is = c.pinned-token.ensures in
    let t = c.pinned-token.result in
    let stands = stands_pinned m.0.part.seat phase t is fits.stands in
    let n = me_of c.defer_seat.new.seat in
    let defers = c.defer_seat.ensures.defers in
    let d = defer_done K o s p m n phase fits t c.args.ptr c.defer_seat.result is defers in
    done_begins K o s p m n _ _ _ _ d

pub returns-clause-history : goal.returns-clause-history
returns-clause-history g c =
    let K = g.C.Client.terms in
    let o = g.C.Object.Object.opens in
    let s = g.C.Object.Object.step in
    let p = plan_of c.args.self.now in
    let m = me_of c.args.pass.now.pass.seat in
    let phase = c.args.pass.now.phase in
    let fits = c.args.pass.now.fits p (ap (λ x. x.plan) c.requires.opening) in
    let is = c.pinned-token.ensures in
    let t = c.pinned-token.result in
    let stands = stands_pinned m.0.part.seat phase t is fits.stands in
    let n = me_of c.defer_seat.new.seat in
    let defers = c.defer_seat.ensures.defers in
    let d = defer_done K o s p m n phase fits t c.args.ptr c.defer_seat.result is defers in
    λ token so. subst (λ u. DefersObject K o s p (Changed K o s p m n (deferral_words t.locale c.defer_seat.result defers.1.0)) u c.args.ptr) (same_pinned phase t token is so) (record { tag = c.defer_seat.result; low = defers.0; listed = done_listed K o s p m n _ _ _ _ d; read = done_read K o s p m n _ _ _ _ d _ (defers.1.0, refl) })
