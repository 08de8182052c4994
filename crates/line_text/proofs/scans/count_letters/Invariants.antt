use Rattle.std.proofs.Common.{◌≡◌}
use Rattle.line_text.proofs.scans.count_letters.Given as goal

abbrev pub invariant-loop-byte : goal.invariant-loop-byte
invariant-loop-byte l = l.count ≡ l.byte-index
