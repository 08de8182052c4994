use Rattle.std.proofs.Common.{◌≡◌, ◌-◌, length, take, drop, ap, ◌∙◌, inr, refl, arith, length-drop}
use Rattle.std.proofs.lemmas.Bool.Decides.{Decides-eqb}
use Rattle.std.proofs.lemmas.List.{take_all, take_at}
use Rattle.std.proofs.lemmas.Slice.Eq.{starts_is}
use Rattle.line_text.specs.Lines.{word_at}
use Rattle.line_text.proofs.scans.scan_letters.Goals as goal

pub returns-then-starts_with-clause-stands : goal.returns-then-starts_with-clause-stands
returns-then-starts_with-clause-stands g c =
    let word = c.word.result.now in
    let letters = take (length word - c.args.at) (drop c.args.at word) in
    let is : letters ≡ drop c.args.at (word_at g.F.Form.grammar c.args.form c.args.index) =
    take_all (length word - c.args.at) (drop c.args.at word) (omega (arith, length-drop c.args.at word)) ∙ ap (drop c.args.at) c.word.ensures in
    let starts = starts_is Decides-eqb c.args.bytes.now letters c.starts_with.result c.starts_with.ensures.value in
    inr (ap length is, ap (take (length letters)) (starts.0 c.if-starts_with.true) ∙ (take_at letters (drop (length letters) c.args.bytes.now) (length letters) refl ∙ is))
