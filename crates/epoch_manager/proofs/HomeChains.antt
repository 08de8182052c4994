-- The chains that a reclaim keeps, where one of them changes.
use Rattle.std.proofs.Common.{◌≡◌, ◌<◌, ◌+◌, ℕ, List, length, Option, None, ap, sym, ◌∙◌, ⊎_elim, arith}
use Rattle.std.specs.Prelude.{slice_set, unwrap_or}
use Rattle.std.proofs.lemmas.Bool.{cases_lt}
use Rattle.std.proofs.lemmas.Bool.Decides.{eqb_tells}
use Rattle.std.proofs.lemmas.List.{get_or-set_same, get_or-set_other}
use Rattle.std.proofs.lemmas.Option.{unwrap_or-slice_get, slice_get_past}
use Rattle.epoch_laws.specs.Places.{with_number}
use Rattle.epoch_laws.proofs.Updates.{number_here, number_there}
use Rattle.epoch_manager.specs.declared.homes.HomeChain.{HomeChain}
use Rattle.epoch_manager.specs.HomeChains.{chain_of, IsShort, AreBut}

module _ (chains : List (Option HomeChain)) (at : ℕ) (chain : Option HomeChain) (low : at < length chains) where
  pub chain_set : (l : ℕ) → chain_of (slice_set chains at chain) l ≡ with_number (chain_of chains) at chain l
  chain_set l =
      ⊎_elim
      (λ e.
      let is : l ≡ at = e.1 in
      ap (chain_of (slice_set chains at chain)) is
      ∙ (unwrap_or-slice_get (slice_set chains at chain) at None ∙ (get_or-set_same chains at chain None low ∙ sym (ap (with_number (chain_of chains) at chain) is ∙ number_here (chain_of chains) at chain))))
      (λ e.
      let ne = e.1 in
      unwrap_or-slice_get (slice_set chains at chain) l None
      ∙ (get_or-set_other chains at l chain None ne ∙ (sym (unwrap_or-slice_get chains l None) ∙ sym (number_there (chain_of chains) at chain l ne))))
      (eqb_tells l at)

  pub short_set : ((l : ℕ) → IsShort (chain_of chains l)) → IsShort chain → (l : ℕ) → IsShort (chain_of (slice_set chains at chain) l)
  short_set short new l some is =
      ⊎_elim
      (λ e. new some (sym (ap (with_number (chain_of chains) at chain) e.1 ∙ number_here (chain_of chains) at chain) ∙ (sym (chain_set l) ∙ is)))
      (λ e. let ne = e.1 in short l some (sym (number_there (chain_of chains) at chain l ne) ∙ (sym (chain_set l) ∙ is)))
      (eqb_tells l at)

-- ---- all of them are taken out

pub gone_more : (before now : ℕ → Option HomeChain) (l : ℕ) → AreBut l None before now → ((k : ℕ) → k < l → before k ≡ None) → (k : ℕ) → k < l + 1 → now k ≡ None
gone_more before now l but gone k low =
    ⊎_elim
    (λ e. let is : k ≡ l = e.1 in ap now is ∙ (but l ∙ number_here before l None))
    (λ e. let ne = e.1 in but k ∙ (number_there before l None k ne ∙ gone k (omega arith)))
    (eqb_tells k l)

pub all_gone : (chains : List (Option HomeChain)) → ((k : ℕ) → k < length chains → chain_of chains k ≡ None) → (l : ℕ) → chain_of chains l ≡ None
all_gone chains gone l = ⊎_elim (λ low. gone l low) (λ past. ap (λ o. unwrap_or o None) (slice_get_past chains l past)) (cases_lt l (length chains))
