use Rattle.std.proofs.Common.{◌≡◌, ◌<◌, ◌+◌, ◌*◌, Some, true, length, get_or, ap, sym, ◌∙◌, arith, subst}
use Rattle.std.specs.Char.{digit_value}
use Rattle.std.specs.List.{AllByRecursion}
use Rattle.std.proofs.lemmas.List.{take_more}
use Rattle.line_text.specs.Words.{is_digit, number_behind}
use Rattle.line_text.proofs.Runs.{digits_push, number_push}
use Rattle.line_text.proofs.scans.scan_digits.Goals as goal

pub loop-byte-preserved : goal.loop-byte-preserved
loop-byte-preserved c =
    let bytes = c.args.bytes.now in
    let at = c.loop-byte.count in
    let same : c.loop-byte.count ≡ c.loop-byte.byte-index = c.loop-byte.invariant.count in
    let within : at < length bytes = omega (arith, c.loop-byte-test.true, same) in
    let more = take_more bytes at 0 within in
    let digit : is_digit (get_or bytes at 0) ≡ true = ap (λ i. is_digit (get_or bytes i 0)) same ∙ sym c.if-not-is_digit.ensures in
    let longer : c.loop-byte.value * 10 + digit_value (get_or bytes at 0) ≡ c.in-Ok.longer = ap (λ i. c.loop-byte.value * 10 + digit_value (get_or bytes i 0)) same ∙ sym c.in-Ok.ensures.0 in
    record {
      count = omega arith;
      open_number = c.in-Ok.ensures.1;
      digits = subst (AllByRecursion (λ byte. is_digit byte ≡ true)) (sym more) (digits_push _ _ c.loop-byte.invariant.digits digit);
      value = ap (number_behind c.args.value) more
          ∙ (number_push _ c.args.value c.loop-byte.value _ c.loop-byte.invariant.digits c.loop-byte.invariant.value digit ∙ ap (λ n. Some n) longer);
    }
