use Rattle.std.proofs.Common.{◌≡◌, Some, true, take}
use Rattle.std.specs.List.{AllByRecursion}
use Rattle.line_text.specs.States.{IsOpen}
use Rattle.line_text.specs.Words.{is_digit, number_behind}
use Rattle.line_text.proofs.scans.scan_digits.Given as goal

abbrev pub invariant-loop-byte : goal.invariant-loop-byte
invariant-loop-byte l = record {
  count : l.count ≡ l.byte-index;
  open_number : IsOpen l.bounds l.value;
  digits : AllByRecursion (λ byte. is_digit byte ≡ true) (take l.count l.bytes);
  value : number_behind l.initial.value (take l.count l.bytes) ≡ Some l.value;
}
