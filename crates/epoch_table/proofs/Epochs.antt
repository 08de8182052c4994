-- A locale's epoch is the global one, or one less while the global election is won.
use Rattle.std.proofs.Common.{◌≡◌, ◌⊎◌, ◌+◌, ◌<◌, ℕ, Some, inl, inr, ⊎_elim, arith}
use Rattle.std.proofs.lemmas.Bool.Decides.{eqb_tells}
use Rattle.epoch_laws.specs.States.{State}
use Rattle.epoch_laws.specs.Sound.{Map, IsSound, clock}
use Rattle.epoch_laws.specs.Timing.{Timing, NoToken, HasToken, Looks, IsPinned, HasGlobal, Scans, HasAdvanced, Clock, Own, spread_at, timing}

elected : (locales tokens : ℕ) (k : Clock) (t : Timing) (n : ℕ) → Own locales tokens k t → spread_at t ≡ Some n → k.election ≡ 1
unfolding spread_at
elected locales tokens k (HasAdvanced t g m) n own is = own.2
elected locales tokens k NoToken n own is = absurd (cc is)
elected locales tokens k (HasToken t) n own is = absurd (cc is)
elected locales tokens k (Looks t e) n own is = absurd (cc is)
elected locales tokens k (IsPinned t e) n own is = absurd (cc is)
elected locales tokens k (HasGlobal t) n own is = absurd (cc is)
elected locales tokens k (Scans t g m) n own is = absurd (cc is)

pub local_or_less : (s : State) (m : Map) → IsSound s m → (l : ℕ) → l < s.shape.locales → (s.words.epoch_of l ≡ s.words.epoch) ⊎ ((s.words.epoch_of l + 1 ≡ s.words.epoch) × (s.words.election ≡ 1))
local_or_less s m sound l low =
    let spread = sound.timed.spread l low in
    ⊎_elim inl
    (λ h.
    let most = spread.most in
    let least = spread.least in
    ⊎_elim (λ e. inl e.1) (λ e. let ne = e.1 in inr (omega (arith, most, least, ne), elected s.shape.locales s.shape.tokens (clock s) (timing (s.seat h.0)) h.1 (sound.timed.own h.0) h.2)) (eqb_tells (s.words.epoch_of l) s.words.epoch))
    spread.same
