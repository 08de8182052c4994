-- How long a list grows.
use Rattle.std.proofs.Common.{◌≡◌, ◌+◌, ◌*◌, ◌%◌, ◌/◌, ℕ, ◌<◌, ◌≤◌, inl, inr, arith}
use Rattle.std.proofs.Math.Nat.{mul-le-mul_left}
use Rattle.std.proofs.lemmas.Bool.{cases_lt}

-- a multiple of the width that is less than a width past the square is in the square
pub multiple_in_square : (width length : ℕ) → 0 < width → length % width ≡ 0 → length < width * width + width → length ≤ width * width
multiple_in_square width length positive multiple below =
    let widths = length / width in
    let whole : width * widths ≡ length = omega arith in
    elim (cases_lt widths (width + 1)) [
      | inl few ↦ let fits : widths ≤ width = omega arith in omega (arith, mul-le-mul_left width fits)
      | inr many ↦ absurd (omega (arith, mul-le-mul_left width many))
    ]
