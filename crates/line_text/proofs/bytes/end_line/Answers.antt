use Rattle.std.proofs.Common.{◌+◌, ◌++◌, [], ◌∷◌, sym, subst}
use Rattle.line_text.specs.declared.states.State.TheVariants.{Lead}
use Rattle.line_text.specs.Readings.{Stands}
use Rattle.line_text.specs.Texts.{text_of}
use Rattle.line_text.proofs.Standings.{stands_line}
use Rattle.line_text.proofs.bytes.end_line.Goals as goal

pub returns-in-Some-clause-led : goal.returns-in-Some-clause-led
returns-in-Some-clause-led g c = λ read short stands says.
    let T = text_of g.F.Form.grammar g.D.Draft.rules in
    let new = g.D.Draft.progress c.take_line.new.draft in
    let taken = rw c.in-Some.is at c.in_ok-counted.ensures.taken in
    subst (λ form. Stands T (read ++ 10 ∷ []) new (record { state = Lead form; lines = c.args.place.lines + 1; counted = c.in-Some.counted })) (sym c.start.ensures.start)
    (stands_line T read (g.D.Draft.progress c.args.draft.now) c.args.place stands new c.args.said c.in-Some.counted short says taken)
