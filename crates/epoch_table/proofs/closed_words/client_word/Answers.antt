use Rattle.std.proofs.Common.{◌∙◌, ap, sym, slice_index}
use Rattle.std.specs.Slots.{slots_items}
use Rattle.pgas_base.specs.declared.shapes.Shape.{Shape}
use Rattle.epoch_table.specs.Layout.{OfClient, place}
use Rattle.epoch_table.proofs.ClosedWords.{read_at}
use Rattle.epoch_table.proofs.closed_words.client_word.Goals as goal

pub returns : goal.returns
returns c =
    let at = c.own_at.ensures ∙ ap (λ (s : Shape). place s (OfClient c.args.word)) c.of.ensures in
    sym (read_at (slots_items c.args.closed.now.words) _ _ c.word.ensures) ∙ ap (slice_index (slots_items c.args.closed.now.words)) at
