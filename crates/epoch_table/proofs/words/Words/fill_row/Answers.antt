use Rattle.std.proofs.Common.{◌≡◌, ◌<◌, ℕ, sym, subst}
use Rattle.pgas_base.specs.Pointers.{Pointer}
use Rattle.pgas_base.specs.declared.spots.Spot.TheVariants.{Row as RowSpot}
use Rattle.epoch_laws.specs.Places.{place_of}
use Rattle.epoch_laws.specs.States.{IsPlace}
use Rattle.pass_table.specs.Steps.{Steps}
use Rattle.pass_table.specs.Terms.{Permits}
use Rattle.epoch_table.specs.Layout.{InRow, place}
use Rattle.epoch_table.specs.Events.{PastOpens, PastSteps}
use Rattle.epoch_table.specs.Rule.{manager_terms}
use Rattle.epoch_table.specs.RowSteps.{TellsFill}
use Rattle.epoch_table.proofs.SpotSteps.{spot_place}
use Rattle.epoch_table.proofs.RowSteps.{row_so, row_low, permitted_fill, fills_at}
use Rattle.epoch_table.proofs.words.Words.fill_row.Goals as goal

pub row_at-word-requires-clause-place : goal.row_at-word-requires-clause-place
row_at-word-requires-clause-place g c =
    let self = c.args.self.now in
    subst (λ shape. IsPlace shape (place_of c.args.ptr)) self.planned (row_so self.table.table.shared.key _ c.args.ptr c.args.at _ c.requires.may.read).0

pub row_at-word-requires-clause-at : goal.row_at-word-requires-clause-at
row_at-word-requires-clause-at g c =
    let self = c.args.self.now in
    subst (λ shape. c.args.at < shape.width) self.planned c.requires.may.read.low

pub store-requires-clause-word : goal.store-requires-clause-word
store-requires-clause-word g c =
    let self = c.args.self.now in
    subst (λ n. c.row_at-word.result < n) (sym self.wide) (row_low self.table.table.shared.key _ c.args.ptr c.args.at _ c.requires.may.read self.shape c.row_at-word.result self.planned c.row_at-word.ensures)

pub store-requires-clause-permits : goal.store-requires-clause-permits
store-requires-clause-permits g c =
    let self = c.args.self.now in
    let plan = self.table.table.shared.key in
    let me = c.args.seat.now.seat.me in
    let at : c.row_at-word.result ≡ place plan.shape (InRow (place_of c.args.ptr) c.args.at) = spot_place self.shape plan.shape (RowSpot c.args.ptr c.args.at) c.row_at-word.result self.planned c.row_at-word.ensures in
    let P = λ (q : Pointer) (n value w : ℕ). Permits (manager_terms g.C.Client.terms) (PastOpens g.C.Object.Object.opens) (PastSteps g.C.Object.Object.step) plan self.table.table.shared.table_id.slots me.0.number me.0.rests me.0.part me.1 w (λ _. c.args.value) (λ _ e. TellsFill g.C.Client.terms plan me.0.number q n value me.0.part me.1 e) in
    subst (λ q. P q g.W.RowChoice.at g.W.RowChoice.value c.row_at-word.result) (sym c.requires.choice.0)
    (subst (λ n. P c.args.ptr n g.W.RowChoice.value c.row_at-word.result) (sym c.requires.choice.1)
    (subst (λ v. P c.args.ptr c.args.at v c.row_at-word.result) (sym c.requires.choice.2)
    (subst (λ w. P c.args.ptr c.args.at c.args.value w) (sym at)
    (permitted_fill g.C.Client.terms g.C.Object.Object.opens g.C.Object.Object.step plan _ c.args.ptr c.args.at me g.met.C.Client.kept_by_fills c.args.value c.requires.may))))

pub returns-clause-fills : goal.returns-clause-fills
returns-clause-fills g c =
    let plan = c.args.self.now.table.table.shared.key in
    let me = c.args.seat.now.seat.me in
    let n = c.store.new.seat.seat.me in
    let P = λ (q : Pointer) (n' value : ℕ). Steps (manager_terms g.C.Client.terms) (PastOpens g.C.Object.Object.opens) (PastSteps g.C.Object.Object.step) plan (λ told e. TellsFill g.C.Client.terms plan me.0.number q n' value me.0.part me.1 e) me c.args.value n in
    fills_at g.C.Client.terms g.C.Object.Object.opens g.C.Object.Object.step plan c.args.ptr c.args.at me c.args.value c.args.value n
    (subst (λ x. P c.args.ptr c.args.at x) c.requires.choice.2 (subst (λ x. P c.args.ptr x g.W.RowChoice.value) c.requires.choice.1 (subst (λ x. P x g.W.RowChoice.at g.W.RowChoice.value) c.requires.choice.0 c.store.ensures.steps)))
