-- Each held object stays shown, and its holder's token pinned.
use Rattle.std.specs.Prelude.{◌≡◌, ◌≤◌, ◌+◌, ℕ, true, Some}
use Rattle.pool_core.specs.declared.headers.State.TheVariants.{Shown}
use Rattle.epoch_laws.specs.declared.tokens.Token.{Token}
use Rattle.epoch_laws.specs.Places.{Place, is_among}
use Rattle.epoch_laws.specs.States.{State}
use Rattle.epoch_laws.specs.Timing.{timing, pinned_at}

-- The object is shown, and the seat's token pinned. Where the object is deferred, the token was pinned at most one epoch after the deferral's tag
pub record IsHeld (s : State) (c : ℕ) (p : Place) : Type 0 where
  pub shown : (s.words.header p).state ≡ Shown
  pub token : Token
  pub pinned : pinned_at (timing (s.seat c)) ≡ Some token
  pub young : (tag : ℕ) → s.tag p ≡ Some tag → s.born token ≤ tag + 1

-- of every object that a seat holds
abbrev pub AreHeld : State → Type 0
AreHeld s = (c : ℕ) (p : Place) → is_among p ((s.seat c).held) ≡ true → IsHeld s c p
