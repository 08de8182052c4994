use Rattle.std.proofs.Common.{◌∙◌, ap, sym, subst}
use Rattle.pgas_base.specs.Shapes.{IsShape}
use Rattle.pass_table.specs.Passes.{me_of}
use Rattle.epoch_manager.specs.Managers.{plan_of}
use Rattle.epoch_manager.proofs.PassClauses.{done_listed, done_read, done_begins, done_fits}
use Rattle.epoch_manager.proofs.HoldClauses.{numbers_stay}
use Rattle.epoch_manager.proofs.TakeCalls.{may_take, take_done, take_reads, take_owned, take_held, take_same, take_knows, take_inside, take_told, take_spent}
use Rattle.epoch_manager.proofs.PhaseFits.{placed_on}
use Rattle.epoch_manager.proofs.managers.Manager.take.Goals as goal

pub take_seat-requires-clause-may : goal.take_seat-requires-clause-may
take_seat-requires-clause-may g c =
    let K = g.C.Client.terms in
    let o = g.C.Object.Object.opens in
    let s = g.C.Object.Object.step in
    let self = c.args.self.now in
    let p = plan_of self in
    let m = me_of c.args.pass.now.pass.seat in
    let phase = c.args.pass.now.phase in
    let fits = c.args.pass.now.fits p (ap (λ x. x.plan) c.requires.opening) in
    may_take K o s p m phase fits c.requires.allowed

pub invariant_of-pass : goal.invariant_of-pass
invariant_of-pass g c =
    let K = g.C.Client.terms in
    let o = g.C.Object.Object.opens in
    let s = g.C.Object.Object.step in
    let self = c.args.self.now in
    let p = plan_of self in
    let m = me_of c.args.pass.now.pass.seat in
    let phase = c.args.pass.now.phase in
    let fits = c.args.pass.now.fits p (ap (λ x. x.plan) c.requires.opening) in
    let shaped = subst IsShape (sym self.words.planned) self.words.shaped in
    let n = me_of c.take_seat.new.seat in
    let takes = c.take_seat.ensures.takes in
    let d = take_done K o s p m phase fits n shaped c.args.locale c.take_seat.result takes in
    let same = take_same K o s p m phase fits n shaped c.args.locale c.take_seat.result takes in
    ((d.rests, (d.carried ∙ c.args.pass.now.pass.empty_handed, tt)), (done_fits K o s p m n _ _ _ _ d (ap (λ x. x.plan) c.take_seat.ensures.seat), (placed_on p _ phase c.args.pass.now.place (ap (λ x. x.plan) c.take_seat.ensures.seat) (c.args.pass.now.placed p (ap (λ x. x.plan) c.requires.opening)), (numbers_stay _ m.0.part _ n.0.part c.args.pass.now.holds d.goes.1 same, tt))))

pub returns-clause-owned : goal.returns-clause-owned
returns-clause-owned g c =
    let K = g.C.Client.terms in
    let o = g.C.Object.Object.opens in
    let s = g.C.Object.Object.step in
    let self = c.args.self.now in
    let p = plan_of self in
    let m = me_of c.args.pass.now.pass.seat in
    let phase = c.args.pass.now.phase in
    let fits = c.args.pass.now.fits p (ap (λ x. x.plan) c.requires.opening) in
    let shaped = subst IsShape (sym self.words.planned) self.words.shaped in
    let n = me_of c.take_seat.new.seat in
    let takes = c.take_seat.ensures.takes in
    take_owned K o s p m phase fits n shaped c.args.locale c.take_seat.result takes

pub returns-clause-inside : goal.returns-clause-inside
returns-clause-inside g c =
    let K = g.C.Client.terms in
    let o = g.C.Object.Object.opens in
    let s = g.C.Object.Object.step in
    let self = c.args.self.now in
    let p = plan_of self in
    let m = me_of c.args.pass.now.pass.seat in
    let phase = c.args.pass.now.phase in
    let fits = c.args.pass.now.fits p (ap (λ x. x.plan) c.requires.opening) in
    let shaped = subst IsShape (sym self.words.planned) self.words.shaped in
    let n = me_of c.take_seat.new.seat in
    let takes = c.take_seat.ensures.takes in
    take_inside K o s p m phase fits n shaped c.args.locale c.take_seat.result takes

pub returns-clause-held : goal.returns-clause-held
returns-clause-held g c =
    let K = g.C.Client.terms in
    let o = g.C.Object.Object.opens in
    let s = g.C.Object.Object.step in
    let self = c.args.self.now in
    let p = plan_of self in
    let m = me_of c.args.pass.now.pass.seat in
    let phase = c.args.pass.now.phase in
    let fits = c.args.pass.now.fits p (ap (λ x. x.plan) c.requires.opening) in
    let shaped = subst IsShape (sym self.words.planned) self.words.shaped in
    let n = me_of c.take_seat.new.seat in
    let takes = c.take_seat.ensures.takes in
    take_held K o s p m phase fits n shaped c.args.locale c.take_seat.result takes

pub returns-clause-knows : goal.returns-clause-knows
returns-clause-knows g c =
    let K = g.C.Client.terms in
    let o = g.C.Object.Object.opens in
    let s = g.C.Object.Object.step in
    let self = c.args.self.now in
    let p = plan_of self in
    let m = me_of c.args.pass.now.pass.seat in
    let phase = c.args.pass.now.phase in
    let fits = c.args.pass.now.fits p (ap (λ x. x.plan) c.requires.opening) in
    let shaped = subst IsShape (sym self.words.planned) self.words.shaped in
    let n = me_of c.take_seat.new.seat in
    let takes = c.take_seat.ensures.takes in
    take_knows K o s p m phase fits n shaped c.args.locale c.take_seat.result takes

pub returns-clause-history : goal.returns-clause-history
returns-clause-history g c =
    let K = g.C.Client.terms in
    let o = g.C.Object.Object.opens in
    let s = g.C.Object.Object.step in
    let self = c.args.self.now in
    let p = plan_of self in
    let m = me_of c.args.pass.now.pass.seat in
    let phase = c.args.pass.now.phase in
    let fits = c.args.pass.now.fits p (ap (λ x. x.plan) c.requires.opening) in
    let shaped = subst IsShape (sym self.words.planned) self.words.shaped in
    let n = me_of c.take_seat.new.seat in
    let takes = c.take_seat.ensures.takes in
    done_listed K o s p m n _ _ _ _ (take_done K o s p m phase fits n shaped c.args.locale c.take_seat.result takes)

pub returns-clause-grows : goal.returns-clause-grows
returns-clause-grows g c =
    let K = g.C.Client.terms in
    let o = g.C.Object.Object.opens in
    let s = g.C.Object.Object.step in
    let self = c.args.self.now in
    let p = plan_of self in
    let m = me_of c.args.pass.now.pass.seat in
    let phase = c.args.pass.now.phase in
    let fits = c.args.pass.now.fits p (ap (λ x. x.plan) c.requires.opening) in
    let shaped = subst IsShape (sym self.words.planned) self.words.shaped in
    let n = me_of c.take_seat.new.seat in
    let takes = c.take_seat.ensures.takes in
    done_begins K o s p m n _ _ _ _ (take_done K o s p m phase fits n shaped c.args.locale c.take_seat.result takes)

pub returns-clause-cause : goal.returns-clause-cause
returns-clause-cause g c =
    let K = g.C.Client.terms in
    let o = g.C.Object.Object.opens in
    let s = g.C.Object.Object.step in
    let self = c.args.self.now in
    let p = plan_of self in
    let m = me_of c.args.pass.now.pass.seat in
    let phase = c.args.pass.now.phase in
    let fits = c.args.pass.now.fits p (ap (λ x. x.plan) c.requires.opening) in
    let shaped = subst IsShape (sym self.words.planned) self.words.shaped in
    let n = me_of c.take_seat.new.seat in
    let takes = c.take_seat.ensures.takes in
    done_read K o s p m n _ _ _ _ (take_done K o s p m phase fits n shaped c.args.locale c.take_seat.result takes) _ (take_reads K o s p m phase fits n shaped c.args.locale c.take_seat.result takes)

pub returns-clause-tells : goal.returns-clause-tells
returns-clause-tells g c =
    let K = g.C.Client.terms in
    let o = g.C.Object.Object.opens in
    let s = g.C.Object.Object.step in
    let self = c.args.self.now in
    let p = plan_of self in
    let m = me_of c.args.pass.now.pass.seat in
    let phase = c.args.pass.now.phase in
    let fits = c.args.pass.now.fits p (ap (λ x. x.plan) c.requires.opening) in
    let shaped = subst IsShape (sym self.words.planned) self.words.shaped in
    let n = me_of c.take_seat.new.seat in
    let takes = c.take_seat.ensures.takes in
    take_told K o s p m phase fits n shaped c.args.locale c.take_seat.result takes

pub returns-clause-spent : goal.returns-clause-spent
returns-clause-spent g c =
    let K = g.C.Client.terms in
    let o = g.C.Object.Object.opens in
    let s = g.C.Object.Object.step in
    let self = c.args.self.now in
    let p = plan_of self in
    let m = me_of c.args.pass.now.pass.seat in
    let phase = c.args.pass.now.phase in
    let fits = c.args.pass.now.fits p (ap (λ x. x.plan) c.requires.opening) in
    let shaped = subst IsShape (sym self.words.planned) self.words.shaped in
    let n = me_of c.take_seat.new.seat in
    let takes = c.take_seat.ensures.takes in
    take_spent K o s p m phase fits n shaped c.args.locale c.take_seat.result takes
