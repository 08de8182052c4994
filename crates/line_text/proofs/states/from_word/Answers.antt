use Rattle.std.proofs.Common.{inr, sym}
use Rattle.line_text.proofs.Steps.{word_stops}
use Rattle.line_text.proofs.states.from_word.Goals as goal

pub returns-in-None-longer_word : goal.returns-in-None-longer_word
returns-in-None-longer_word g c =
    inr (c.requires.within, word_stops g.F.Form.grammar g.F.Form.is_form c.args.form c.args.index c.args.at c.requires.state.1 c.args.byte (sym c.if-is_blank.ensures) c.in-None-longer_word.ensures.word)
