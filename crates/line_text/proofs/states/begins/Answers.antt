use Rattle.std.proofs.Common.{◌∷◌, [], ◌∙◌, arith, append_assoc}
use Rattle.std.proofs.lemmas.Bool.Decides.{Decides-eqb}
use Rattle.std.proofs.lemmas.Slice.Eq.{starts_is}
use Rattle.line_text.proofs.Letters.{begins_front}
use Rattle.line_text.proofs.states.begins.Goals as goal

pub returns-clause-begins : goal.returns-clause-begins
returns-clause-begins c =
    let word = c.args.word.now in
    let front = c.args.front.now in
    let byte = c.args.byte in
    let starts = starts_is Decides-eqb word front c.starts_with.result c.starts_with.ensures.value in (
      λ true. begins_front word front byte (omega (arith, c.if-word-front.false)) c.if-word-front-2.false (starts.0 true),
      λ begins. starts.1 (byte ∷ begins.0) (begins.1 ∙ append_assoc front (byte ∷ []) begins.0),
    )
