-- Small cases of headers, tails and phases.
use Rattle.std.proofs.Common.{◌≡◌, ◌&&◌, ◌==◌, ℕ, Bool, true, false, [], Option, Some, None, refl}
use Rattle.std.specs.Option.{option_map}
use Rattle.std.proofs.lemmas.Bool.{eqb-true}
use Rattle.pgas_base.specs.Pointers.{Pointer}
use Rattle.pool_core.specs.declared.headers.Header.{Header}
use Rattle.epoch_laws.specs.Places.{place_of}
use Rattle.epoch_laws.specs.HomeSteps.{Waits}
use Rattle.epoch_laws.specs.ReclaimSteps.{MayLeave}
use Rattle.epoch_laws.specs.Seats.{Phase, Reclaim, Idle, Registered, PinLooked, Pinned, DeferLooked, DeferSwapped, WonLocal, LostGlobal, WonGlobal, Scanning, Stopped, Advanced, LeftGlobal}
use Rattle.epoch_laws.specs.TakeSteps.{is_free, is_free_with}

right_of : (a b : Bool) → (a && b) ≡ true → b ≡ true
right_of true b h = h
right_of false b h = absurd (cc h)

-- a header that is free with a count has the count
pub free_count_is : (d : Header) (n : ℕ) → is_free_with d n ≡ true → d.count ≡ n
free_count_is d n h = eqb-true d.count n (right_of (is_free d.state) (d.count == n) h)

-- a tail that waits is a pointer's
pub tail_cases : (t : Option Pointer) → Waits (option_map place_of t) → (p : Pointer) × (t ≡ Some p)
tail_cases None (p, h) = absurd (cc h)
tail_cases (Some q) h = (q, refl)

-- a seat that may leave has walked over nothing
pub leaves_nothing : (locales : ℕ) (phase : Phase) (reclaim : Reclaim) → MayLeave locales phase reclaim → ((phase ≡ Advanced → ⊥) → reclaim.walked ≡ []) → reclaim.walked ≡ []
leaves_nothing locales Advanced reclaim h rests = h.between.walked
leaves_nothing locales LostGlobal reclaim h rests = rests (λ e. absurd (cc e))
leaves_nothing locales Stopped reclaim h rests = rests (λ e. absurd (cc e))
leaves_nothing locales LeftGlobal reclaim h rests = rests (λ e. absurd (cc e))
leaves_nothing locales Idle reclaim h rests = absurd h
leaves_nothing locales Registered reclaim h rests = absurd h
leaves_nothing locales PinLooked reclaim h rests = absurd h
leaves_nothing locales Pinned reclaim h rests = absurd h
leaves_nothing locales DeferLooked reclaim h rests = absurd h
leaves_nothing locales DeferSwapped reclaim h rests = absurd h
leaves_nothing locales WonLocal reclaim h rests = absurd h
leaves_nothing locales WonGlobal reclaim h rests = absurd h
leaves_nothing locales Scanning reclaim h rests = absurd h
