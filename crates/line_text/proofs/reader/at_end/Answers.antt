use Rattle.std.proofs.Common.{[], ◌++◌, sym, ◌∙◌, inr}
use Rattle.std.proofs.lemmas.Result.{err_from_is_err_and}
use Rattle.line_text.specs.Texts.{text_of}
use Rattle.line_text.proofs.Inputs.{end_fault, end_bad, end_not_last}
use Rattle.line_text.proofs.reader.at_end.Goals as goal

pub returns-in_err-counted_with : goal.returns-in_err-counted_with
returns-in_err-counted_with g c =
    let p = err_from_is_err_and c.from_residual.result c.from_residual.ensures.1 in
    rw (p.1, p.2) (λ read stands. end_fault (text_of g.F.Form.grammar g.D.Draft.rules) read (g.D.Draft.progress c.args.draft.now) c.args.place stands c.in-Ok.said _ (sym c.in-Ok.ensures.value) (sym c.if-not-may_be_last.ensures) (inr c.in_err-counted_with.ensures))

pub take-requires : goal.take-requires
take-requires g c = record { said = c.in-Ok.ensures.said; line = (c.requires.placed.part ++ [], c.requires.placed.leads [] ∙ sym c.in-Ok.ensures.value) }

pub returns-in_default : goal.returns-in_default
returns-in_default g c = λ read stands. end_bad (text_of g.F.Form.grammar g.D.Draft.rules) read (g.D.Draft.progress c.args.draft.now) c.args.place stands c.in_default.field-0 (sym c.in_default.ensures.value)

pub returns-then-not-may_be_last : goal.returns-then-not-may_be_last
returns-then-not-may_be_last g c = λ read stands. end_not_last (text_of g.F.Form.grammar g.D.Draft.rules) read (g.D.Draft.progress c.args.draft.now) c.args.place stands c.in-Ok.said (sym c.in-Ok.ensures.value) (sym c.if-not-may_be_last.ensures)
