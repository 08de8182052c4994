use Rattle.std.proofs.Common.{◌≡◌, ℕ, List, ◌∷◌, [], ◌++◌, ◌∙◌, ap, sym, arith, subst, length, take, get_or, MatchOption}
use Rattle.line_text.specs.Fronts.{BeginsNone, BeginsOne}
use Rattle.line_text.specs.Lines.{word_at}
use Rattle.line_text.proofs.Letters.{own_letter}
use Rattle.line_text.proofs.states.longer_word.Goals as goal

pub returns-then-word-at-clause-word : goal.returns-then-word-at-clause-word
returns-then-word-at-clause-word g c =
    own_letter (g.F.Form.grammar.words c.args.form) c.args.index c.args.at c.args.byte c.requires.within (omega (arith, c.if-at-word.true, ap length c.word-word.ensures))
    (ap (λ (t : List ℕ). get_or t c.args.at 0) (sym c.word-word.ensures) ∙ c.if-word-at.true)

pub returns-clause-word : goal.returns-clause-word
returns-clause-word g c =
    let words = g.F.Form.grammar.words c.args.form in
    let front : take c.args.at c.word-word.result.now ≡ take c.args.at (word_at g.F.Form.grammar c.args.form c.args.index) = ap (take c.args.at) c.word-word.ensures in
    subst (λ (f : List ℕ). MatchOption c.word_with.result (BeginsNone words (f ++ c.args.byte ∷ [])) (λ found. BeginsOne words (f ++ c.args.byte ∷ []) found)) front c.word_with.ensures.word
