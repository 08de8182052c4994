use Rattle.std.proofs.Common.{ℕ, List, [], ◌∷◌, ◌++◌, below_more, arith, subst, sym}
use Rattle.std.proofs.lemmas.Bool.{false≢true}
use Rattle.line_text.specs.Fronts.{Begins}
use Rattle.line_text.proofs.states.word_with.Goals as goal

pub loop-index-preserved : goal.loop-index-preserved
loop-index-preserved g c = below_more _ _ c.loop-index.invariant (λ begins. false≢true (c.if-begins.ensures.begins.1 (subst (λ (w : List ℕ). Begins w (c.args.front.now ++ c.args.byte ∷ [])) (sym c.word.ensures) begins)))

pub returns-clause-word : goal.returns-clause-word
returns-clause-word g c = λ index within. c.loop-index.invariant index (omega arith)
