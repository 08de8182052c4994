use Rattle.std.proofs.Common.{◌≡◌, true, arith, ap, ◌∙◌}
use Rattle.edge_text.specs.declared.forms.Spot.TheVariants.{Ends}
use Rattle.edge_text.specs.Forms.{id_bounds, weight_bounds, bounds_of}
use Rattle.edge_text.proofs.forms.SpotFormEdgeLine.after_number.Goals as goal

pub overflow_cast-result : goal.overflow_cast-result
overflow_cast-result c = let fits = c.requires.bounds id_bounds (ap bounds_of c.in-First.is) in omega (arith, fits.1)

pub overflow_cast-result-in-From : goal.overflow_cast-result-in-From
overflow_cast-result-in-From c = let fits = c.requires.bounds id_bounds (ap bounds_of c.in-From.is) in omega (arith, fits.1)

pub overflow_cast-result-in-To : goal.overflow_cast-result-in-To
overflow_cast-result-in-To c = let fits = c.requires.bounds id_bounds (ap bounds_of c.in-To.is) in omega (arith, fits.1)

pub overflow_cast-result-in-Ends-true-default-default : goal.overflow_cast-result-in-Ends-true-default-default
overflow_cast-result-in-Ends-true-default-default c =
    let arm = c.in-Ends-true-default-default in
    let weighted : arm.weighted ≡ true = cc in
    let fits = c.requires.bounds weight_bounds (ap bounds_of (arm.is ∙ ap (λ w. Ends w arm.from arm.to) weighted)) in
    omega (arith, fits.1)
