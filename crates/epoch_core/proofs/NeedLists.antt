-- Needs after one another.
use Rattle.std.proofs.Common.{◌≡◌, ℕ, List, [], ◌∷◌, ◌++◌, ap, subst, inl, inr}
use Rattle.epoch_laws.specs.Chains.{Led, Breaks, IsLed, broken_at}
use Rattle.epoch_laws.specs.Needs.{Need, AllMet, FirstUnmet}
use Rattle.epoch_laws.specs.StackSteps.{is_led}

pub unmet_before : (a b : List Need) (number word : ℕ) → FirstUnmet a number word → FirstUnmet (a ++ b) number word
unmet_before [] b number word h = absurd h
unmet_before (need ∷ a) b number word (inl h) = inl h
unmet_before (need ∷ a) b number word (inr (met, h)) = inr (met, unmet_before a b number word h)

pub unmet_behind : (a b : List Need) (number word : ℕ) → AllMet a → FirstUnmet b number word → FirstUnmet (a ++ b) number word
unmet_behind [] b number word met h = h
unmet_behind (need ∷ a) b number word (here, met) h = inr (here, unmet_behind a b number word met h)

pub met_both : (a b : List Need) → AllMet a → AllMet b → AllMet (a ++ b)
met_both [] b met h = h
met_both (need ∷ a) b (here, met) h = (here, met_both a b met h)

-- the word that breaks a way is told
pub broken : (way : Led) (need word : ℕ) → way ≡ Breaks word → 7 ≡ need → FirstUnmet (is_led way ∷ []) need word
unfolding broken_at
broken way need word is number = inl ((λ led. subst IsLed is led), number, ap broken_at is)
