use Rattle.std.proofs.Common.{◌∙◌, ap, subst, refl}
use Rattle.epoch_laws.specs.States.{IsPlace}
use Rattle.epoch_laws.specs.Places.{place_of}
use Rattle.pass_table.specs.Passes.{me_of}
use Rattle.epoch_manager.specs.Managers.{plan_of}
use Rattle.epoch_manager.proofs.ObjectSteps.{own, may_show, show_done, show_owned, show_held}
use Rattle.epoch_manager.proofs.PassClauses.{done_listed, done_fits}
use Rattle.epoch_manager.proofs.HoldClauses.{numbers_stay}
use Rattle.epoch_manager.proofs.PhaseFits.{placed_on}
use Rattle.epoch_manager.proofs.managers.Manager.show.Goals as goal

pub show-requires-clause-place : goal.show-requires-clause-place
show-requires-clause-place g c =
    let K = g.C.Client.terms in
    let o = g.C.Object.Object.opens in
    let s = g.C.Object.Object.step in
    let p = plan_of c.args.self.now in
    let m = me_of c.args.pass.now.pass.seat in
    let phase = c.args.pass.now.phase in
    let fits = c.args.pass.now.fits p (ap (λ x. x.plan) c.requires.opening) in
    let known = own K o s p m m phase fits c.args.ptr c.requires.owned in
    subst (λ h. IsPlace h (place_of c.args.ptr)) c.args.self.now.words.planned known.inside

pub show-requires-clause-may : goal.show-requires-clause-may
show-requires-clause-may g c =
    let K = g.C.Client.terms in
    let o = g.C.Object.Object.opens in
    let s = g.C.Object.Object.step in
    let p = plan_of c.args.self.now in
    let m = me_of c.args.pass.now.pass.seat in
    let phase = c.args.pass.now.phase in
    let fits = c.args.pass.now.fits p (ap (λ x. x.plan) c.requires.opening) in
    may_show K o s p m m phase fits c.args.ptr c.requires.owned c.requires.allowed

pub invariant_of-pass : goal.invariant_of-pass
invariant_of-pass g c =
    let K = g.C.Client.terms in
    let o = g.C.Object.Object.opens in
    let s = g.C.Object.Object.step in
    let p = plan_of c.args.self.now in
    let m = me_of c.args.pass.now.pass.seat in
    let phase = c.args.pass.now.phase in
    let fits = c.args.pass.now.fits p (ap (λ x. x.plan) c.requires.opening) in
    let n = me_of c.show.new.seat in
    let d = show_done K o s p m n phase fits c.args.ptr c.requires.owned c.show.ensures.makes in
    ((d.rests, (d.carried ∙ c.args.pass.now.pass.empty_handed, tt)), (done_fits K o s p m n _ _ _ _ d (ap (λ x. x.plan) c.show.ensures.seat), (placed_on p _ phase c.args.pass.now.place (ap (λ x. x.plan) c.show.ensures.seat) (c.args.pass.now.placed p (ap (λ x. x.plan) c.requires.opening)), (numbers_stay _ m.0.part _ n.0.part c.args.pass.now.holds d.goes.1 refl, tt))))

pub returns-clause-owned : goal.returns-clause-owned
returns-clause-owned g c =
    let K = g.C.Client.terms in
    let o = g.C.Object.Object.opens in
    let s = g.C.Object.Object.step in
    let p = plan_of c.args.self.now in
    let m = me_of c.args.pass.now.pass.seat in
    let phase = c.args.pass.now.phase in
    let fits = c.args.pass.now.fits p (ap (λ x. x.plan) c.requires.opening) in
    let n = me_of c.show.new.seat in
    show_owned K o s p m n phase fits c.args.ptr c.requires.owned c.show.ensures.makes

pub returns-clause-held : goal.returns-clause-held
returns-clause-held g c =
    let K = g.C.Client.terms in
    let o = g.C.Object.Object.opens in
    let s = g.C.Object.Object.step in
    let p = plan_of c.args.self.now in
    let m = me_of c.args.pass.now.pass.seat in
    let phase = c.args.pass.now.phase in
    let fits = c.args.pass.now.fits p (ap (λ x. x.plan) c.requires.opening) in
    let n = me_of c.show.new.seat in
    show_held K o s p m n phase fits c.args.ptr c.requires.owned c.show.ensures.makes

pub returns-clause-history : goal.returns-clause-history
returns-clause-history g c =
    let K = g.C.Client.terms in
    let o = g.C.Object.Object.opens in
    let s = g.C.Object.Object.step in
    let p = plan_of c.args.self.now in
    let m = me_of c.args.pass.now.pass.seat in
    let phase = c.args.pass.now.phase in
    let fits = c.args.pass.now.fits p (ap (λ x. x.plan) c.requires.opening) in
    let n = me_of c.show.new.seat in
    let d = show_done K o s p m n phase fits c.args.ptr c.requires.owned c.show.ensures.makes in
    done_listed K o s p m n _ _ _ _ d
