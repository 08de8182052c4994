use Rattle.std.proofs.Common.{◌∙◌, ap, refl}
use Rattle.pass_table.specs.Passes.{me_of}
use Rattle.epoch_manager.specs.Managers.{plan_of}
use Rattle.epoch_manager.proofs.PassClauses.{done_listed, done_read, done_begins, done_fits}
use Rattle.epoch_manager.proofs.Returned.{may_give, give_done, give_owned, give_held}
use Rattle.epoch_manager.proofs.HoldClauses.{numbers_stay}
use Rattle.epoch_manager.proofs.PhaseFits.{placed_on}
use Rattle.epoch_manager.proofs.managers.Manager.give_back.Goals as goal

pub return_seat-requires-clause-may : goal.return_seat-requires-clause-may
return_seat-requires-clause-may g c =
    let K = g.C.Client.terms in
    let o = g.C.Object.Object.opens in
    let s = g.C.Object.Object.step in
    let p = plan_of c.args.self.now in
    let m = me_of c.args.pass.now.pass.seat in
    let phase = c.args.pass.now.phase in
    let fits = c.args.pass.now.fits p (ap (λ x. x.plan) c.requires.opening) in
    may_give K o s p m phase fits c.args.ptr c.requires.owned c.requires.allowed

pub invariant_of-pass : goal.invariant_of-pass
invariant_of-pass g c =
    let K = g.C.Client.terms in
    let o = g.C.Object.Object.opens in
    let s = g.C.Object.Object.step in
    let p = plan_of c.args.self.now in
    let m = me_of c.args.pass.now.pass.seat in
    let phase = c.args.pass.now.phase in
    let fits = c.args.pass.now.fits p (ap (λ x. x.plan) c.requires.opening) in
    let n = me_of c.return_seat.new.seat in
    let returns = c.return_seat.ensures.returns in
    let d = give_done K o s p m phase fits c.args.ptr c.requires.owned n returns in
    ((d.rests, (d.carried ∙ c.args.pass.now.pass.empty_handed, tt)), (done_fits K o s p m n _ _ _ _ d (ap (λ x. x.plan) c.return_seat.ensures.seat), (placed_on p _ phase c.args.pass.now.place (ap (λ x. x.plan) c.return_seat.ensures.seat) (c.args.pass.now.placed p (ap (λ x. x.plan) c.requires.opening)), (numbers_stay _ m.0.part _ n.0.part c.args.pass.now.holds d.goes.1 refl, tt))))

pub returns-clause-owned : goal.returns-clause-owned
returns-clause-owned g c =
    let K = g.C.Client.terms in
    let o = g.C.Object.Object.opens in
    let s = g.C.Object.Object.step in
    let p = plan_of c.args.self.now in
    let m = me_of c.args.pass.now.pass.seat in
    let phase = c.args.pass.now.phase in
    let fits = c.args.pass.now.fits p (ap (λ x. x.plan) c.requires.opening) in
    let n = me_of c.return_seat.new.seat in
    let returns = c.return_seat.ensures.returns in
    give_owned K o s p m phase fits c.args.ptr c.requires.owned n returns

pub returns-clause-held : goal.returns-clause-held
returns-clause-held g c =
    let K = g.C.Client.terms in
    let o = g.C.Object.Object.opens in
    let s = g.C.Object.Object.step in
    let p = plan_of c.args.self.now in
    let m = me_of c.args.pass.now.pass.seat in
    let phase = c.args.pass.now.phase in
    let fits = c.args.pass.now.fits p (ap (λ x. x.plan) c.requires.opening) in
    let n = me_of c.return_seat.new.seat in
    let returns = c.return_seat.ensures.returns in
    give_held K o s p m phase fits c.args.ptr c.requires.owned n returns

pub returns-clause-knows : goal.returns-clause-knows
returns-clause-knows g c =
    let K = g.C.Client.terms in
    let o = g.C.Object.Object.opens in
    let s = g.C.Object.Object.step in
    let p = plan_of c.args.self.now in
    let m = me_of c.args.pass.now.pass.seat in
    let phase = c.args.pass.now.phase in
    let fits = c.args.pass.now.fits p (ap (λ x. x.plan) c.requires.opening) in
    let n = me_of c.return_seat.new.seat in
    let returns = c.return_seat.ensures.returns in
    let d = give_done K o s p m phase fits c.args.ptr c.requires.owned n returns in
    ap (λ x. x.client) d.goes.1

pub returns-clause-history : goal.returns-clause-history
returns-clause-history g c =
    let K = g.C.Client.terms in
    let o = g.C.Object.Object.opens in
    let s = g.C.Object.Object.step in
    let p = plan_of c.args.self.now in
    let m = me_of c.args.pass.now.pass.seat in
    let phase = c.args.pass.now.phase in
    let fits = c.args.pass.now.fits p (ap (λ x. x.plan) c.requires.opening) in
    let n = me_of c.return_seat.new.seat in
    let returns = c.return_seat.ensures.returns in
    let d = give_done K o s p m phase fits c.args.ptr c.requires.owned n returns in
    done_listed K o s p m n _ _ _ _ d

pub returns-clause-grows : goal.returns-clause-grows
returns-clause-grows g c =
    let K = g.C.Client.terms in
    let o = g.C.Object.Object.opens in
    let s = g.C.Object.Object.step in
    let p = plan_of c.args.self.now in
    let m = me_of c.args.pass.now.pass.seat in
    let phase = c.args.pass.now.phase in
    let fits = c.args.pass.now.fits p (ap (λ x. x.plan) c.requires.opening) in
    let n = me_of c.return_seat.new.seat in
    let returns = c.return_seat.ensures.returns in
    let d = give_done K o s p m phase fits c.args.ptr c.requires.owned n returns in
    done_begins K o s p m n _ _ _ _ d

pub returns-clause-read : goal.returns-clause-read
returns-clause-read g c =
    let K = g.C.Client.terms in
    let o = g.C.Object.Object.opens in
    let s = g.C.Object.Object.step in
    let p = plan_of c.args.self.now in
    let m = me_of c.args.pass.now.pass.seat in
    let phase = c.args.pass.now.phase in
    let fits = c.args.pass.now.fits p (ap (λ x. x.plan) c.requires.opening) in
    let n = me_of c.return_seat.new.seat in
    let returns = c.return_seat.ensures.returns in
    let d = give_done K o s p m phase fits c.args.ptr c.requires.owned n returns in
    done_read K o s p m n _ _ _ _ d _ (returns.0, refl)
