use Rattle.std.proofs.Common.{◌≤◌, ◌-◌, length}
use Rattle.line_text.specs.Scans.{HasBegun}
use Rattle.line_text.proofs.scans.scan_line.Given as goal

abbrev pub invariant-loop-at : goal.invariant-loop-at
invariant-loop-at g l = record {
  within : l.at ≤ length l.bytes;
  is_form : g.F.Form.is_form l.form;
  begun : HasBegun g.F.Form.grammar l.initial.form l.bytes l.at l.form;
}

abbrev pub decreases-loop-at : goal.decreases-loop-at
decreases-loop-at g l = length l.bytes - l.at
