use Rattle.std.proofs.Common.{◌≡◌, ◌+◌, ◌∙◌, ap, sym, slice_index, arith}
use Rattle.std.specs.Slots.{slots_items}
use Rattle.pgas_base.specs.declared.shapes.Shape.{Shape}
use Rattle.epoch_laws.specs.Places.{Place}
use Rattle.epoch_table.specs.Layout.{InRow, place, object_place}
use Rattle.epoch_table.proofs.ClosedWords.{read_at}
use Rattle.epoch_table.proofs.Places.{object_within}
use Rattle.epoch_table.proofs.closed_words.row_word.Goals as goal

pub word-requires : goal.word-requires
word-requires c =
    let p : Place = record { locale = c.args.locale; index = c.args.index } in
    let begins = c.header_at.ensures.value ∙ ap (λ (s : Shape). object_place s p) c.of.ensures in
    let within = object_within c.args.shape.now p (2 + c.args.at) c.requires.place (omega (arith, c.requires.at)) in
    (omega (arith, within, begins, c.requires.words.1), c.requires.words.0)

pub returns : goal.returns
returns c =
    let p : Place = record { locale = c.args.locale; index = c.args.index } in
    let begins = c.header_at.ensures.value ∙ ap (λ (s : Shape). object_place s p) c.of.ensures in
    let at : c.header_at.result + 2 + c.args.at ≡ place c.args.shape.now (InRow p c.args.at) = omega (arith, begins) in
    sym (read_at (slots_items c.args.closed.now.words) _ _ c.word.ensures) ∙ ap (slice_index (slots_items c.args.closed.now.words)) at
