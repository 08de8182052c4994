use Rattle.std.proofs.Common.{◌<◌, arith, sym, ◌∙◌}
use Rattle.line_text.proofs.Runs.{lead_goes, gap_goes}
use Rattle.line_text.proofs.scans.scan_number.Goals as goal

pub returns-clause-lead : goal.returns-clause-lead
returns-clause-lead g c =
    let scanned = c.scan_digits-value.ensures in
    let some : 0 < c.scan_digits-value.result.1 = omega arith in
    lead_goes g.F.Form.grammar g.F.Form.is_form c.args.form c.in_ok-bounds.bounds c.scan_digits-value.result.0 c.scan_digits-value.result.1 c.args.bytes.now (sym c.bounds.ensures ∙ c.in_ok-bounds.was) some scanned.count scanned.digits scanned.value

pub returns-clause-gap : goal.returns-clause-gap
returns-clause-gap g c =
    let scanned = c.scan_digits-value.ensures in
    let some : 0 < c.scan_digits-value.result.1 = omega arith in
    gap_goes g.F.Form.grammar g.F.Form.is_form c.args.form c.in_ok-bounds.bounds c.scan_digits-value.result.0 c.scan_digits-value.result.1 c.args.bytes.now (sym c.bounds.ensures ∙ c.in_ok-bounds.was) some scanned.count scanned.digits scanned.value
