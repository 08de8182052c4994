use Rattle.std.proofs.Common.{◌≡◌, ◌==◌, ◌<◌, ℕ, refl, sym, subst}
use prog.Atomic.{either}
use Rattle.pgas_base.specs.declared.spots.Spot.{Spot}
use Rattle.pass_table.specs.Steps.{Steps}
use Rattle.epoch_table.specs.Layout.{IsSite, site_of, place}
use Rattle.epoch_table.specs.Clients.{Change, Trades}
use Rattle.epoch_table.specs.Events.{PastOpens, PastSteps}
use Rattle.epoch_table.specs.Rule.{manager_terms}
use Rattle.epoch_table.specs.Spots.{TellsAt, PermittedAt}
use Rattle.epoch_table.proofs.SpotSteps.{site_so, spot_place, spot_within, permitted_at, steps_at}
use Rattle.epoch_table.proofs.words.Words.compare_exchange_at.Goals as goal

pub spot_at-at-requires : goal.spot_at-at-requires
spot_at-at-requires g c =
    let self = c.args.self.now in
    subst (λ shape. IsSite shape (site_of c.args.spot)) self.planned (site_so g.C.Client.terms self.table.table.shared.key _ c.args.spot _ c.requires.may.reaches)

pub compare_exchange-requires-clause-word : goal.compare_exchange-requires-clause-word
compare_exchange-requires-clause-word g c =
    let self = c.args.self.now in
    subst (λ n. c.spot_at-at.result < n) (sym self.wide) (spot_within g.C.Client.terms self.shape self.table.table.shared.key c.args.spot _ _ c.spot_at-at.result self.planned c.requires.may.reaches c.spot_at-at.ensures)

pub compare_exchange-requires-clause-permits : goal.compare_exchange-requires-clause-permits
compare_exchange-requires-clause-permits g c =
    let self = c.args.self.now in
    let plan = self.table.table.shared.key in
    let me = c.args.seat.now.seat.me in
    let at : c.spot_at-at.result ≡ place plan.shape (site_of c.args.spot) = spot_place self.shape plan.shape c.args.spot c.spot_at-at.result self.planned c.spot_at-at.ensures in
    let P = λ (spot : Spot) (change : Change) (w : ℕ). PermittedAt g.C.Client.terms g.C.Object.Object.opens g.C.Object.Object.step plan self.table.table.shared.table_id.slots spot change me w (λ n. either (n == c.args.old) c.args.new n) (λ n. n) in
    subst (λ x. P x g.W.SpotChoice.change c.spot_at-at.result) (sym c.requires.choice.0)
    (subst (λ x. P c.args.spot x c.spot_at-at.result) (sym c.requires.choice.1)
    (subst (λ w. P c.args.spot (Trades c.args.old c.args.new) w) (sym at)
    (permitted_at g.C.Client.terms g.C.Object.Object.opens g.C.Object.Object.step g.met.C.Client.kept_by_steps plan _ c.args.spot (Trades c.args.old c.args.new) me c.requires.may (λ n. n) (λ n. refl))))

pub returns-clause-steps : goal.returns-clause-steps
returns-clause-steps g c =
    let plan = c.args.self.now.table.table.shared.key in
    let me = c.args.seat.now.seat.me in
    let n = c.compare_exchange.new.seat.seat.me in
    let P = λ (spot : Spot) (change : Change). Steps (manager_terms g.C.Client.terms) (PastOpens g.C.Object.Object.opens) (PastSteps g.C.Object.Object.step) plan (λ told e. TellsAt g.C.Client.terms plan me.0.number spot change me.0.part me.1 told e) me c.compare_exchange.result n in
    steps_at g.C.Client.terms g.C.Object.Object.opens g.C.Object.Object.step plan c.args.spot (Trades c.args.old c.args.new) me c.compare_exchange.result n
    (subst (λ x. P c.args.spot x) c.requires.choice.1 (subst (λ x. P x g.W.SpotChoice.change) c.requires.choice.0 c.compare_exchange.ensures.steps))
