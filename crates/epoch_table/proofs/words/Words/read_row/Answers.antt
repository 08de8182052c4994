use Rattle.std.proofs.Common.{◌≡◌, ◌<◌, ℕ, sym, subst}
use Rattle.pgas_base.specs.Pointers.{Pointer}
use Rattle.pgas_base.specs.declared.spots.Spot.TheVariants.{Row as RowSpot}
use Rattle.epoch_laws.specs.Places.{place_of}
use Rattle.epoch_laws.specs.States.{IsPlace}
use Rattle.pass_table.specs.Steps.{Steps}
use Rattle.epoch_table.specs.Layout.{InRow, place}
use Rattle.epoch_table.specs.Events.{PastOpens, PastSteps}
use Rattle.epoch_table.specs.Rule.{manager_terms}
use Rattle.epoch_table.specs.RowSteps.{TellsRead, PermittedRead}
use Rattle.epoch_table.proofs.SpotSteps.{spot_place}
use Rattle.epoch_table.proofs.RowSteps.{row_so, row_low, permitted_read, reads_at}
use Rattle.epoch_table.proofs.words.Words.read_row.Goals as goal

pub row_at-word-requires-clause-place : goal.row_at-word-requires-clause-place
row_at-word-requires-clause-place g c =
    let self = c.args.self.now in
    subst (λ shape. IsPlace shape (place_of c.args.ptr)) self.planned (row_so self.table.table.shared.key _ c.args.ptr c.args.at _ c.requires.may).0

pub row_at-word-requires-clause-at : goal.row_at-word-requires-clause-at
row_at-word-requires-clause-at g c =
    let self = c.args.self.now in
    subst (λ shape. c.args.at < shape.width) self.planned c.requires.may.low

pub load-requires-clause-word : goal.load-requires-clause-word
load-requires-clause-word g c =
    let self = c.args.self.now in
    subst (λ n. c.row_at-word.result < n) (sym self.wide) (row_low self.table.table.shared.key _ c.args.ptr c.args.at _ c.requires.may self.shape c.row_at-word.result self.planned c.row_at-word.ensures)

pub load-requires-clause-permits : goal.load-requires-clause-permits
load-requires-clause-permits g c =
    let self = c.args.self.now in
    let plan = self.table.table.shared.key in
    let me = c.args.seat.now.seat.me in
    let at : c.row_at-word.result ≡ place plan.shape (InRow (place_of c.args.ptr) c.args.at) = spot_place self.shape plan.shape (RowSpot c.args.ptr c.args.at) c.row_at-word.result self.planned c.row_at-word.ensures in
    let P = λ (q : Pointer) (n w : ℕ). PermittedRead g.C.Client.terms g.C.Object.Object.opens g.C.Object.Object.step plan self.table.table.shared.table_id.slots q n me w in
    subst (λ q. P q g.W.RowChoice.at c.row_at-word.result) (sym c.requires.choice.0)
    (subst (λ n. P c.args.ptr n c.row_at-word.result) (sym c.requires.choice.1)
    (subst (λ w. P c.args.ptr c.args.at w) (sym at)
    (permitted_read g.C.Client.terms g.C.Object.Object.opens g.C.Object.Object.step plan _ c.args.ptr c.args.at me c.requires.may)))

pub returns-clause-reads : goal.returns-clause-reads
returns-clause-reads g c =
    let plan = c.args.self.now.table.table.shared.key in
    let me = c.args.seat.now.seat.me in
    let n = c.load.new.seat.seat.me in
    let P = λ (q : Pointer) (n' : ℕ). Steps (manager_terms g.C.Client.terms) (PastOpens g.C.Object.Object.opens) (PastSteps g.C.Object.Object.step) plan (λ found e. TellsRead g.C.Client.terms plan me.0.number q n' me.0.part me.1 found e) me c.load.result n in
    reads_at g.C.Client.terms g.C.Object.Object.opens g.C.Object.Object.step plan c.args.ptr c.args.at me c.load.result n
    (subst (λ x. P c.args.ptr x) c.requires.choice.1 (subst (λ x. P x g.W.RowChoice.at) c.requires.choice.0 c.load.ensures.steps))
