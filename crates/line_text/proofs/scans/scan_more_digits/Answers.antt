use Rattle.line_text.proofs.Runs.{goes_digits}
use Rattle.line_text.proofs.scans.scan_more_digits.Goals as goal

pub returns-clause-goes : goal.returns-clause-goes
returns-clause-goes g c =
    let scanned = c.scan_digits-value.ensures in
    goes_digits g.F.Form.grammar g.F.Form.is_form c.args.form c.args.bounds c.args.value c.scan_digits-value.result.0 c.scan_digits-value.result.1 c.args.bytes.now c.requires.1 scanned.count scanned.digits scanned.value
