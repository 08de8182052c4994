use Rattle.std.proofs.Common.{ap, ◌∙◌}
use Rattle.std.proofs.lemmas.Result.{err_from_is_err_and}
use Rattle.pgas_top.proofs.MadeTexts.{replies_made, replies_refused}
use Rattle.pgas_top.proofs.made_texts.replies_made.Goals as goal

pub returns-in_err-script : goal.returns-in_err-script
returns-in_err-script g c =
    let p = err_from_is_err_and c.from_residual.result c.from_residual.ensures.1 in
    rw (p.1) (replies_refused _ c.in_err-script.field-0.0 p.0 c.in_err-script.ensures.reading c.in_err-script.ensures.accepted p.2)

pub returns : goal.returns
returns g c =
    replies_made _ c.in_ok-script.script c.in_ok-replies.replies c.into_bytes.result c.in_ok-script.ensures.reading c.in_ok-replies.ensures.answer (ap (λ v. v.items) c.into_bytes.ensures.value ∙ c.in_ok-text.ensures)
