use Rattle.std.proofs.Common.{◌≡◌, length, ap, ◌∙◌, arith}
use Rattle.std.proofs.lemmas.Result.{err_from_is_err_and}
use Rattle.run_text.specs.Listing.{checked_text}
use Rattle.pgas_top.proofs.MadeTexts.{check_made, check_refused}
use Rattle.pgas_top.proofs.made_texts.check_made.Goals as goal

pub returns-in_err-run : goal.returns-in_err-run
returns-in_err-run g c =
    let p = err_from_is_err_and c.from_residual.result c.from_residual.ensures.1 in
    rw (p.1) (check_refused _ c.in_err-run.field-0.0 p.0 c.in_err-run.ensures.reading c.in_err-run.ensures.accepted p.2)

pub returns : goal.returns
returns g c =
    let checked = c.in_ok-checked.checked in
    let answers = c.in_ok-checked.ensures in
    let count : c.len.result ≡ length c.in_ok-run.run'.steps.items = omega (arith, c.len.ensures, c.in_ok-run.run'.steps.ok.0) in
    check_made _ c.in_ok-run.run' c.into_bytes.result c.in_ok-run.ensures.reading (record {
      items = checked.items.items;
      end = checked.end;
      checked = answers.checked;
      verdict = answers.verdict;
      legal = answers.legal;
      exact = answers.exact;
      is = ap (λ v. v.items) c.into_bytes.ensures.value ∙ (c.in_ok-listed.ensures ∙ ap (λ n. checked_text checked.items.items checked.end n) count);
    })
