use Rattle.std.proofs.Common.{◌≡◌, ◌≢◌, take}
use Rattle.std.specs.List.{AllByRecursion}
use Rattle.line_text.proofs.scans.scan_comment.Given as goal

abbrev pub invariant-loop-byte : goal.invariant-loop-byte
invariant-loop-byte l = record {
  count : l.count ≡ l.byte-index;
  line : AllByRecursion (λ byte. byte ≢ 10) (take l.count l.bytes);
}
