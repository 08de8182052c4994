use Rattle.std.proofs.Common.{◌≡◌, ◌<◌, ℕ, sym, subst}
use Rattle.pgas_base.specs.declared.spots.Spot.{Spot}
use Rattle.pass_table.specs.Steps.{Steps}
use Rattle.epoch_table.specs.Layout.{IsSite, site_of, place}
use Rattle.epoch_table.specs.Events.{PastOpens, PastSteps}
use Rattle.epoch_table.specs.Rule.{manager_terms}
use Rattle.epoch_table.specs.Holds.{TellsHold, PermittedHold}
use Rattle.epoch_table.proofs.SpotSteps.{site_so, spot_place, spot_within}
use Rattle.epoch_table.proofs.HoldSteps.{permitted_hold, holds_at}
use Rattle.epoch_table.proofs.words.Words.hold_at.Goals as goal

pub spot_at-at-requires : goal.spot_at-at-requires
spot_at-at-requires g c =
    let self = c.args.self.now in
    subst (λ shape. IsSite shape (site_of c.args.spot)) self.planned (site_so g.C.Client.terms self.table.table.shared.key _ c.args.spot _ c.requires.may.reaches)

pub load-requires-clause-word : goal.load-requires-clause-word
load-requires-clause-word g c =
    let self = c.args.self.now in
    subst (λ n. c.spot_at-at.result < n) (sym self.wide) (spot_within g.C.Client.terms self.shape self.table.table.shared.key c.args.spot _ _ c.spot_at-at.result self.planned c.requires.may.reaches c.spot_at-at.ensures)

pub load-requires-clause-permits : goal.load-requires-clause-permits
load-requires-clause-permits g c =
    let self = c.args.self.now in
    let plan = self.table.table.shared.key in
    let me = c.args.seat.now.seat.me in
    let at : c.spot_at-at.result ≡ place plan.shape (site_of c.args.spot) = spot_place self.shape plan.shape c.args.spot c.spot_at-at.result self.planned c.spot_at-at.ensures in
    let P = λ (spot : Spot) (w : ℕ). PermittedHold g.C.Client.terms g.C.Object.Object.opens g.C.Object.Object.step plan self.table.table.shared.table_id.slots spot me w in
    subst (λ x. P x c.spot_at-at.result) (sym c.requires.choice)
    (subst (λ w. P c.args.spot w) (sym at)
    (permitted_hold g.C.Client.terms g.C.Object.Object.opens g.C.Object.Object.step plan _ c.args.spot me g.met.C.Client.links g.met.C.Client.kept_by_holds c.requires.may))

pub returns-clause-holds : goal.returns-clause-holds
returns-clause-holds g c =
    let plan = c.args.self.now.table.table.shared.key in
    let me = c.args.seat.now.seat.me in
    let n = c.load.new.seat.seat.me in
    let P = λ (spot : Spot). Steps (manager_terms g.C.Client.terms) (PastOpens g.C.Object.Object.opens) (PastSteps g.C.Object.Object.step) plan (λ found e. TellsHold g.C.Client.terms plan me.0.number spot me.0.part me.1 found e) me c.load.result n in
    holds_at g.C.Client.terms g.C.Object.Object.opens g.C.Object.Object.step plan c.args.spot me c.load.result n (subst P c.requires.choice c.load.ensures.steps)
