use Rattle.std.proofs.Common.{ap, sym, subst}
use Rattle.script_text.specs.declared.forms.Spot.{Spot}
use Rattle.script_text.specs.declared.rows.Numbers.{Numbers}
use Rattle.script_text.specs.Forms.{bounds_at, bounds_of, IsSpot}
use Rattle.script_text.specs.Rows.{IsMakeable}
use Rattle.script_text.proofs.Makeable.{number_fits}
use Rattle.script_text.proofs.forms.SpotFormLine.after_number.Goals as goal

pub row_spot-requires : goal.row_spot-requires
row_spot-requires c =
    let row = c.in-Row.row in
    let numbers = c.in-Row.numbers in
    let spot = subst (λ (s : Spot). IsSpot s) c.in-Row.is c.requires.form in
    let range = c.requires.bounds (bounds_of row numbers) (ap bounds_at c.in-Row.is) in
    subst (λ (n : Numbers). IsMakeable row n) (sym c.with.ensures) (number_fits spot.0 row numbers c.args.number spot.1 range)
