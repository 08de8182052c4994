use Rattle.std.proofs.Common.{◌≡◌, ◌+◌, ltb, true, false, arith}
use Rattle.std.proofs.lemmas.Bool.{lt-ltb, le-ltb}
use Rattle.epoch_laws.specs.ReclaimSteps.{token_after}
use Rattle.epoch_core.proofs.reclaims.token_behind.Goals as goal

pub returns-then-number-tokens : goal.returns-then-number-tokens
unfolding token_after
returns-then-number-tokens c low_number low_locale =
    let more : c.saturating_add-number.result ≡ c.args.token.number + 1 = omega (arith, c.saturating_add-number.ensures, c.ranges.tokens.fits) in
    let on : ltb (c.args.token.number + 1) c.args.tokens ≡ true = lt-ltb _ _ (omega arith) in
    rw on (λ i. record { locale = c.args.token.locale; number = more i })

pub returns-else-number-tokens : goal.returns-else-number-tokens
unfolding token_after
returns-else-number-tokens c low_number low_locale =
    let more : c.saturating_add-number.result ≡ c.args.token.number + 1 = omega (arith, c.saturating_add-number.ensures, c.ranges.tokens.fits) in
    let next : c.saturating_add.result ≡ c.args.token.locale + 1 = omega (arith, c.saturating_add.ensures) in
    let off : ltb (c.args.token.number + 1) c.args.tokens ≡ false = le-ltb _ _ (omega arith) in
    rw off (λ i. record { locale = next i; number = 0 })
