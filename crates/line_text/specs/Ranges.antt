-- Numbers from one to another.
use Rattle.std.proofs.Common.{ℕ, ◌<◌, ◌≤◌, ◌^◌, refl, inr}
use Rattle.line_text.specs.declared.forms.Bounds.{Bounds}
use Rattle.line_text.specs.declared.forms.Reject.TheVariants.{Bad}
use Rattle.line_text.specs.Lines.{IsBounds}

-- a number outside them makes the line bad
abbrev pub between : ℕ → ℕ → Bounds
between least most = record { least = least; most = most; above = Bad }

pub between_sound : (least most : ℕ) → least ≤ 9 → least ≤ most → most < 2 ^ 64 → IsBounds (between least most)
between_sound least most digit some fits = record { digit = digit; some = some; fits = fits; one_sided = inr refl }
