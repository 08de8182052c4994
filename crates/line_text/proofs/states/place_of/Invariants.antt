use Rattle.std.proofs.Common.{◌≡◌, drop}
use Rattle.line_text.specs.Lines.{place_from}
use Rattle.line_text.proofs.states.place_of.Given as goal

abbrev pub invariant-loop-index : goal.invariant-loop-index
invariant-loop-index g l =
    let words = g.F.Form.grammar.words l.form in
    place_from 0 words l.word ≡ place_from l.index (drop l.index words) l.word
