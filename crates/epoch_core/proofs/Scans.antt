-- The token after one that was scanned.
use Rattle.std.proofs.Common.{◌<◌, ◌≤◌, ◌+◌, ℕ, ltb, sym, subst, arith, inl, inr}
use Rattle.std.proofs.lemmas.Bool.{cases_Bool, ltb-true}
use Rattle.pgas_base.specs.declared.shapes.Shape.{Shape}
use Rattle.epoch_laws.specs.declared.tokens.Token.{Token}
use Rattle.epoch_laws.specs.ReclaimSteps.{token_after}
use Rattle.epoch_laws.specs.States.{State}
use Rattle.epoch_core.specs.declared.machine.Machine.{Machine}
use Rattle.epoch_core.specs.Shown.{IsShowing}

pub token_some : {m : Machine} {s : State} → IsShowing m s → 1 ≤ s.shape.tokens
token_some {m} {s} sh = subst (λ (d : Shape). 1 ≤ d.tokens) (sym sh.shape) sh.shaped.1.0

-- it is one of the shape, or the first past the last locale
pub scan_after : (locales tokens : ℕ) (t : Token) → t.locale < locales → 1 ≤ tokens → ((token_after tokens t).locale ≤ locales) × ((token_after tokens t).number < tokens)
unfolding token_after
scan_after locales tokens t low some = elim (cases_Bool (ltb (t.number + 1) tokens)) [
  | inl on ↦ rw on (omega arith, ltb-true (t.number + 1) tokens on)
  | inr off ↦ rw off (omega arith, omega arith)
]
