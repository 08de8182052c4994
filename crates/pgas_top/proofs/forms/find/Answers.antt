use Rattle.std.proofs.Common.{◌≡◌, ◌&&◌, Bool, true, false, refl}
use Rattle.clap.specs.Words.{app_of, is_simple}
use Rattle.pgas_top.proofs.forms.find.Goals as goal

left : (a b : Bool) → (a && b) ≡ true → a ≡ true
left true b both = refl
left false b both = both

pub returns-in-Ok : goal.returns-in-Ok
returns-in-Ok c = (c.in-Ok.ensures.kinds c.requires, (c.in-Ok.ensures.matches (left (is_simple (app_of c.args.form)) _ c.requires)).0)
