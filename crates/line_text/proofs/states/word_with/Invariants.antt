use Rattle.std.proofs.Common.{ℕ, ◌<◌, ◌∷◌, ◌++◌, [], get_or}
use Rattle.line_text.specs.Fronts.{Begins}
use Rattle.line_text.proofs.states.word_with.Given as goal

abbrev pub invariant-loop-index : goal.invariant-loop-index
invariant-loop-index g l = (index : ℕ) → index < l.index → Begins (get_or (g.F.Form.grammar.words l.form) index []) (l.front ++ l.byte ∷ []) → ⊥
