use Rattle.line_text.proofs.Runs.{goes_letters}
use Rattle.line_text.proofs.scans.scan_more_letters.Goals as goal

pub returns-clause-state : goal.returns-clause-state
returns-clause-state g c =
    (c.requires.0, (goes_letters g.F.Form.grammar g.F.Form.is_form g.met.F.Form.sound c.args.form c.args.index c.args.at c.requires.0 c.requires.1 c.scan_letters-count.result c.args.bytes.now c.scan_letters-count.ensures.count c.scan_letters-count.ensures.stands).0)

pub returns-clause-goes : goal.returns-clause-goes
returns-clause-goes g c =
    (goes_letters g.F.Form.grammar g.F.Form.is_form g.met.F.Form.sound c.args.form c.args.index c.args.at c.requires.0 c.requires.1 c.scan_letters-count.result c.args.bytes.now c.scan_letters-count.ensures.count c.scan_letters-count.ensures.stands).1
