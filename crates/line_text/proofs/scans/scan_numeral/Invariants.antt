use Rattle.std.proofs.Common.{◌≡◌, ◌≤◌, ◌-◌, Some, length}
use Rattle.line_text.specs.Scans.{HasJoined}
use Rattle.line_text.proofs.scans.scan_numeral.Given as goal

abbrev pub invariant-loop-at : goal.invariant-loop-at
invariant-loop-at g l = record {
  within : l.at ≤ length l.bytes;
  is_form : g.F.Form.is_form l.form;
  own : g.F.Form.grammar.bounds l.form ≡ Some l.bounds;
  joined : HasJoined g.F.Form.grammar l.fn.form l.bytes l.at l.form;
}

abbrev pub decreases-loop-at : goal.decreases-loop-at
decreases-loop-at g l = length l.bytes - l.at
