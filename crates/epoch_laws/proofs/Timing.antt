-- Tokens, pins, the scan and the epochs: what holds of them, and the moves that keep it.
use Rattle.std.proofs.Common.{◌≡◌, ◌≢◌, ℕ, true, false, Some, refl, ap, ◌∙◌, subst, arith}
use Rattle.epoch_laws.specs.declared.tokens.Token.{Token}
pub use Rattle.epoch_laws.specs.Timing.{Timing, NoToken, HasToken, Looks, IsPinned, HasGlobal, Scans, HasAdvanced, timing, Clock, IsToken, Precedes, AreApart, IsAlone, IsScanned, IsSpread, Own, IsTimed}
unfoldable pub use Rattle.epoch_laws.specs.Timing.{timing_at, token_at, pinned_at, global_at, scan_at, spread_at}

module _ (locales tokens : ℕ) where
  -- a seat's own facts depend on its own token's word alone
  pub own_same : (k j : Clock) (x : Timing) → j.epoch ≡ k.epoch → j.election ≡ k.election
      → ((t : Token) → token_at x ≡ Some t → (j.token_word t ≡ k.token_word t) × (j.born t ≡ k.born t)) → Own locales tokens k x → Own locales tokens j x
  unfolding token_at
  own_same k j NoToken eg el same h = tt
  own_same k j (HasToken t) eg el same h = let s = same t refl in (h.0, s.0 ∙ h.1)
  own_same k j (Looks t e) eg el same h = let s = same t refl in (h.0, s.0 ∙ h.1, omega arith)
  own_same k j (IsPinned t e) eg el same h = let s = same t refl in (h.0, s.0 ∙ h.1, omega arith, omega arith, omega arith)
  own_same k j (HasGlobal t) eg el same h = let s = same t refl in (h.0, s.0 ∙ h.1, el ∙ h.2)
  own_same k j (Scans t g n) eg el same h = let s = same t refl in (h.0, s.0 ∙ h.1, el ∙ h.2, omega arith)
  own_same k j (HasAdvanced t g n) eg el same h = let s = same t refl in (h.0, s.0 ∙ h.1, el ∙ h.2, omega arith, h.4)

  pub own_word : (k : Clock) (x : Timing) (t : Token) → token_at x ≡ Some t → Own locales tokens k x → k.token_word t ≢ 0
  unfolding token_at
  own_word k NoToken t e h = absurd (cc e)
  own_word k (HasToken u) t e h = let same : u ≡ t = cc e in λ z. let w = ap k.token_word same in omega arith
  own_word k (Looks u a) t e h = let same : u ≡ t = cc e in λ z. let w = ap k.token_word same in omega arith
  own_word k (IsPinned u a) t e h = let same : u ≡ t = cc e in λ z. let w = ap k.token_word same in omega arith
  own_word k (HasGlobal u) t e h = let same : u ≡ t = cc e in λ z. let w = ap k.token_word same in omega arith
  own_word k (Scans u g n) t e h = let same : u ≡ t = cc e in λ z. let w = ap k.token_word same in omega arith
  own_word k (HasAdvanced u g n) t e h = let same : u ≡ t = cc e in λ z. let w = ap k.token_word same in omega arith

  pub own_token : (k : Clock) (x : Timing) (t : Token) → token_at x ≡ Some t → Own locales tokens k x → IsToken locales tokens t
  unfolding token_at
  own_token k NoToken t e h = absurd (cc e)
  own_token k (HasToken u) t e h = let same : u ≡ t = cc e in subst (IsToken locales tokens) same h.0
  own_token k (Looks u a) t e h = let same : u ≡ t = cc e in subst (IsToken locales tokens) same h.0
  own_token k (IsPinned u a) t e h = let same : u ≡ t = cc e in subst (IsToken locales tokens) same h.0
  own_token k (HasGlobal u) t e h = let same : u ≡ t = cc e in subst (IsToken locales tokens) same h.0
  own_token k (Scans u g n) t e h = let same : u ≡ t = cc e in subst (IsToken locales tokens) same h.0
  own_token k (HasAdvanced u g n) t e h = let same : u ≡ t = cc e in subst (IsToken locales tokens) same h.0

  pub own_global : (k : Clock) (x : Timing) → global_at x ≡ true → Own locales tokens k x → k.election ≡ 1
  unfolding global_at
  own_global k (HasGlobal t) e h = h.2
  own_global k (Scans t g n) e h = h.2
  own_global k (HasAdvanced t g n) e h = h.2
  own_global k NoToken e h = absurd (cc e)
  own_global k (HasToken t) e h = absurd (cc e)
  own_global k (Looks t a) e h = absurd (cc e)
  own_global k (IsPinned t a) e h = absurd (cc e)

  -- where the seat doesn't have the global election, its own facts don't depend on it
  pub own_no_global : (k j : Clock) (x : Timing) → global_at x ≡ false → j.epoch ≡ k.epoch → ((t : Token) → j.token_word t ≡ k.token_word t)
      → ((t : Token) → j.born t ≡ k.born t) → Own locales tokens k x → Own locales tokens j x
  unfolding global_at
  own_no_global k j NoToken e eg w b h = tt
  own_no_global k j (HasToken t) e eg w b h = (h.0, w t ∙ h.1)
  own_no_global k j (Looks t a) e eg w b h = (h.0, w t ∙ h.1, omega arith)
  own_no_global k j (IsPinned t a) e eg w b h = let bt = b t in (h.0, w t ∙ h.1, omega arith, omega arith, omega arith)
  own_no_global k j (HasGlobal t) e eg w b h = absurd (cc e)
  own_no_global k j (Scans t g n) e eg w b h = absurd (cc e)
  own_no_global k j (HasAdvanced t g n) e eg w b h = absurd (cc e)
