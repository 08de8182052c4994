use Rattle.std.proofs.Common.{ap, arith, ◌^◌, ◌-◌}
use Rattle.line_text.specs.Ranges.{between}
use Rattle.run_text.specs.Forms.{bounds_of, objects_most, width_most}
use Rattle.run_text.proofs.forms.SpotFormRunLine.after_number.Goals as goal

pub overflow_cast-result : goal.overflow_cast-result
overflow_cast-result c = let fits = c.requires.bounds (between 1 16) (ap bounds_of c.in-Locales.is) in omega (arith, fits.1)

pub overflow_cast-result-in-Tokens : goal.overflow_cast-result-in-Tokens
overflow_cast-result-in-Tokens c = let fits = c.requires.bounds (between 1 1024) (ap bounds_of c.in-Tokens.is) in omega (arith, fits.1)

pub overflow_cast-result-in-Objects : goal.overflow_cast-result-in-Objects
overflow_cast-result-in-Objects c = let fits = c.requires.bounds (between 1 (objects_most c.in-Objects.locales)) (ap bounds_of c.in-Objects.is) in omega (arith, fits.1)

pub overflow_cast-result-in-Width : goal.overflow_cast-result-in-Width
overflow_cast-result-in-Width c = let fits = c.requires.bounds (between 2 (width_most c.in-Width.locales c.in-Width.objects)) (ap bounds_of c.in-Width.is) in omega (arith, fits.1)

pub overflow_cast-result-in-Count : goal.overflow_cast-result-in-Count
overflow_cast-result-in-Count c = let fits = c.requires.bounds (between 0 (2 ^ 32 - 1)) (ap bounds_of c.in-Count.is) in omega (arith, fits.1)

pub overflow_cast-result-in-Seats : goal.overflow_cast-result-in-Seats
overflow_cast-result-in-Seats c = let fits = c.requires.bounds (between 1 1024) (ap bounds_of c.in-Seats.is) in omega (arith, fits.1)

pub overflow_cast-result-in-Seat : goal.overflow_cast-result-in-Seat
overflow_cast-result-in-Seat c = let fits = c.requires.bounds (between 0 (2 ^ 32 - 1)) (ap bounds_of c.in-Seat.is) in omega (arith, fits.1)

pub overflow_cast-number : goal.overflow_cast-number
overflow_cast-number c = let fits = c.requires.bounds (between 0 255) (ap bounds_of c.in-Locale.is) in omega (arith, fits.1)

pub overflow_cast-number-in-Number : goal.overflow_cast-number-in-Number
overflow_cast-number-in-Number c = let fits = c.requires.bounds (between 0 (2 ^ 32 - 1)) (ap bounds_of c.in-Number.is) in omega (arith, fits.1)

pub overflow_cast-result-in-Pointer : goal.overflow_cast-result-in-Pointer
overflow_cast-result-in-Pointer c = let fits = c.requires.bounds (between 0 15) (ap bounds_of c.in-Pointer.is) in omega (arith, fits.1)

pub overflow_cast-result-in-Index : goal.overflow_cast-result-in-Index
overflow_cast-result-in-Index c = let fits = c.requires.bounds (between 1 (2 ^ 24 - 1)) (ap bounds_of c.in-Index.is) in omega (arith, fits.1)

pub overflow_cast-number-in-Uses : goal.overflow_cast-number-in-Uses
overflow_cast-number-in-Uses c = let fits = c.requires.bounds (between 0 (2 ^ 32 - 1)) (ap bounds_of c.in-Uses.is) in omega (arith, fits.1)
