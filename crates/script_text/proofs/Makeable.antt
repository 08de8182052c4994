-- The numbers of a row fit the fields of its line.
use Rattle.std.proofs.Common.{◌≡◌, ℕ, ◌<◌, ◌≤◌, ◌^◌, refl, arith}
use Rattle.script_text.specs.declared.forms.Spot.TheVariants.{Row as ARow}
use Rattle.script_text.specs.declared.lines.Kind.{Kind}
use Rattle.script_text.specs.declared.lines.Kind.TheVariants.{List as KList, Bag as KBag}
use Rattle.script_text.specs.declared.lines.Stage.{Stage}
use Rattle.script_text.specs.declared.rows.Numbers.{Numbers}
use Rattle.script_text.specs.declared.rows.Numbers.TheVariants.{Zero, One, Two, Three}
use Rattle.script_text.specs.declared.rows.Row.{Row}
use Rattle.script_text.specs.declared.rows.Row.TheVariants.{Object, Callers, Caller, Call}
use Rattle.script_text.specs.Forms.{object_bounds, bounds_of, In, IsFront, RowAt, IsAt}
use Rattle.script_text.specs.Fronts.{few_numbers, number_keeps, some_callers}
use Rattle.script_text.specs.Rows.{nth, with_number, IsMakeableObject, IsMakeable}

object_most : (n : Numbers) (kind : Kind) → (object_bounds n kind).most ≤ 2 ^ 24
object_most Zero kind = omega arith
object_most (One locales) KList = omega arith
object_most (Two locales objects) KList = omega arith
object_most (One locales) KBag = omega arith
object_most n kind = omega arith

object_fits : (kind : Kind) (n : Numbers) → IsFront (Object kind) n → IsMakeableObject n
object_fits kind Zero front = (omega arith, omega arith, omega arith)
object_fits kind (One first) front = (omega (arith, front), omega arith, omega arith)
object_fits kind (Two first second) front = (omega (arith, front.0), omega (arith, front.1, object_most (One first) kind), omega arith)
object_fits kind (Three first second third) front =
    (omega (arith, front.0), omega (arith, front.1, object_most (One first) kind), omega (arith, front.2, object_most (Two first second) kind))

-- the first number alone
first_fits : (row : Row) (n : Numbers) (most : ℕ) → (bounds_of row Zero).most ≡ most → most < 2 ^ 32 → IsFront row n → nth n 0 < 2 ^ 32
first_fits row Zero most is fits front = omega arith
first_fits row (One first) most is fits front = omega (arith, is, fits, front)
first_fits row (Two first second) most is fits front = omega (arith, is, fits, front.0)
first_fits row (Three first second third) most is fits front = omega (arith, is, fits, front.0)

fits : (stage : Stage) (row : Row) (n : Numbers) → RowAt stage row → IsFront row n → IsMakeable row n
fits stage (Object kind) n at front = object_fits kind n front
fits stage (Callers object) n at front = first_fits (Callers object) n _ refl (some_callers object).1 front
fits stage (Caller callers) n at front = first_fits (Caller callers) n _ refl (omega arith) front
fits stage (Call kind word once) n at front = tt

pub number_fits : (stage : Stage) (row : Row) (n : Numbers) (number : ℕ) → IsAt stage (ARow row n) → In (bounds_of row n) number → IsMakeable row (with_number n number)
number_fits stage row n number is within = fits stage row (with_number n number) is.0 (number_keeps row n number is.1 (omega (arith, is.2, few_numbers row)) within)
