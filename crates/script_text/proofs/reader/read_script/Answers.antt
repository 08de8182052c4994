use Rattle.std.specs.Io.KnownBytes.{IsAtEnd}
use Rattle.std.proofs.lemmas.Result.{err_from_is_err_and}
use Rattle.script_text.specs.Scripts.{plain_script}
use Rattle.script_text.proofs.Readings.{script_reading, fault_reading, same_script}
use Rattle.script_text.proofs.Validity.{in_round, script_valid}
use Rattle.script_text.proofs.reader.read_script.Goals as goal

pub finish-requires : goal.finish-requires
finish-requires g c = let reading = c.in_ok-read_text.ensures.reading in in_round reading.read (IsAtEnd (g.S.Source.left c.read_text.new.source)) c.read_text.new.draft reading.means

pub returns-in_err-read_text : goal.returns-in_err-read_text
returns-in_err-read_text g c =
    let p = err_from_is_err_and c.from_residual.result c.from_residual.ensures.1 in
    rw (p.1, p.2) (record {
      reading = fault_reading _ _ _ _ c.read_text.new.draft c.in_err-read_text.field-0.0 c.in_err-read_text.ensures.reading;
      valid = tt;
      accepted = λ input script told is. c.in_err-read_text.ensures.accepted input is.0 told is.1;
      refused = λ input refusal told refused. c.in_err-read_text.ensures.refused input refusal told refused;
    })

pub returns-clause-reading : goal.returns-clause-reading
returns-clause-reading g c = script_reading _ _ _ _ c.read_text.new.draft c.in_ok-finish.field-0 c.in_ok-finish.ensures c.in_ok-read_text.ensures.reading

pub returns-clause-valid : goal.returns-clause-valid
returns-clause-valid g c =
    let reading = c.in_ok-read_text.ensures.reading in
    script_valid reading.read (IsAtEnd (g.S.Source.left c.read_text.new.source)) (plain_script c.in_ok-finish.field-0) (c.read_text.new.draft, reading.means, c.in_ok-finish.ensures)

pub returns-clause-accepted : goal.returns-clause-accepted
returns-clause-accepted g c =
    λ input script told is. same_script c.read_text.new.draft is.0 (plain_script c.in_ok-finish.field-0) script (c.in_ok-read_text.ensures.accepted input is.0 told is.1) c.in_ok-finish.ensures is.2
