use Rattle.std.proofs.Common.{sym, ap, ◌∙◌}
use Rattle.std.proofs.lemmas.Result.{err_from_is_err_and}
use Rattle.run_text.specs.RunText.{plain_drawn}
use Rattle.run_text.proofs.Readings.{run_reading, fault_reading}
use Rattle.run_text.proofs.reader.read_run.Goals as goal

pub returns-clause-reading : goal.returns-clause-reading
returns-clause-reading g c = run_reading _ _ _ _ c.read_text.new.draft c.finish.result c.finish.ensures.run c.in_ok-read_text.ensures.reading

pub returns-clause-accepted : goal.returns-clause-accepted
returns-clause-accepted g c = λ input run told is. c.finish.ensures.run ∙ (ap plain_drawn (c.in_ok-read_text.ensures.accepted input is.0 told is.1) ∙ sym is.2)

pub returns-clause-refused : goal.returns-clause-refused
returns-clause-refused g c = λ input refusal told refused. c.in_ok-read_text.ensures.refused input refusal told refused

pub returns-in_err-read_text : goal.returns-in_err-read_text
returns-in_err-read_text g c =
    let p = err_from_is_err_and c.from_residual.result c.from_residual.ensures.1 in
    rw (p.1, p.2) (record {
      reading = fault_reading _ _ _ _ c.read_text.new.draft c.in_err-read_text.field-0.0 c.in_err-read_text.ensures.reading;
      opens = tt;
      accepted = λ input run told is. c.in_err-read_text.ensures.accepted input is.0 told is.1;
      refused = λ input refusal told refused. c.in_err-read_text.ensures.refused input refusal told refused;
    })
