use Rattle.std.proofs.Common.{◌∙◌, ap, refl}
use Rattle.pass_table.specs.Passes.{me_of}
use Rattle.epoch_table.specs.Clients.{Trades}
use Rattle.epoch_manager.specs.Managers.{plan_of}
use Rattle.epoch_manager.proofs.PassClauses.{fits_plan}
use Rattle.epoch_manager.proofs.SpotClauses.{may_step, step_done, enters_what}
use Rattle.epoch_manager.proofs.HoldClauses.{numbers_stay}
use Rattle.epoch_manager.proofs.PhaseFits.{placed_on}
use Rattle.epoch_manager.proofs.managers.Manager.trade.Goals as goal

pub trade-requires-clause-may : goal.trade-requires-clause-may
trade-requires-clause-may g c =
    let K = g.C.Client.terms in
    let o = g.C.Object.Object.opens in
    let s = g.C.Object.Object.step in
    let p = plan_of c.args.self.now in
    let m = me_of c.args.pass.now.pass.seat in
    let phase = c.args.pass.now.phase in
    let fits = c.args.pass.now.fits p (ap (λ x. x.plan) c.requires.opening) in
    may_step K o s p m m phase fits c.args.spot (Trades c.args.old c.args.new) c.requires.reached c.requires.allowed

pub invariant_of-pass : goal.invariant_of-pass
invariant_of-pass g c =
    let K = g.C.Client.terms in
    let o = g.C.Object.Object.opens in
    let s = g.C.Object.Object.step in
    let p = plan_of c.args.self.now in
    let m = me_of c.args.pass.now.pass.seat in
    let phase = c.args.pass.now.phase in
    let fits = c.args.pass.now.fits p (ap (λ x. x.plan) c.requires.opening) in
    let n = me_of c.trade.new.seat in
    let d = step_done K o s p m n phase fits c.args.spot (Trades c.args.old c.args.new) c.trade.result c.trade.ensures.steps in
    ((d.rests, (d.carried ∙ c.args.pass.now.pass.empty_handed, tt)), (fits_plan K o s p n.0 phase (ap (λ x. x.plan) c.trade.ensures.seat) d.fits, (placed_on p _ phase c.args.pass.now.place (ap (λ x. x.plan) c.trade.ensures.seat) (c.args.pass.now.placed p (ap (λ x. x.plan) c.requires.opening)), (numbers_stay _ m.0.part _ n.0.part c.args.pass.now.holds d.goes.1 refl, tt))))

pub returns-clause-enters : goal.returns-clause-enters
returns-clause-enters g c =
    let K = g.C.Client.terms in
    let o = g.C.Object.Object.opens in
    let s = g.C.Object.Object.step in
    let p = plan_of c.args.self.now in
    let m = me_of c.args.pass.now.pass.seat in
    let phase = c.args.pass.now.phase in
    let fits = c.args.pass.now.fits p (ap (λ x. x.plan) c.requires.opening) in
    let n = me_of c.trade.new.seat in
    let d = step_done K o s p m n phase fits c.args.spot (Trades c.args.old c.args.new) c.trade.result c.trade.ensures.steps in
    enters_what K o s p m n _ _ d.goes
