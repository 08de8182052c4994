-- Tokens, pins, the scan and the epochs: what holds of them.
use Rattle.std.proofs.Common.{◌≡◌, ◌⊎◌, ℕ, ◌+◌, ◌<◌, ◌≤◌, Bool, true, false, Option, Some, None}
use Rattle.epoch_laws.specs.declared.tokens.Token.{Token}
use Rattle.epoch_laws.specs.Seats.{Phase, Idle, Registered, PinLooked, Pinned, DeferLooked, DeferSwapped, WonLocal, LostGlobal, WonGlobal, Scanning, Stopped, Advanced, LeftGlobal, Reclaim, Seat}

-- how a seat stands to tokens and epochs
pub data Timing : Type 0 where
  NoToken : Timing
  HasToken : Token → Timing
  -- the epoch that it read to announce
  Looks : Token → ℕ → Timing
  IsPinned : Token → ℕ → Timing
  HasGlobal : Token → Timing
  -- the epoch that it read, and the next token to scan
  Scans : Token → ℕ → Token → Timing
  -- the epoch that it read, and the next locale to spread to
  HasAdvanced : Token → ℕ → ℕ → Timing

unfoldable pub timing_at : Phase → Token → ℕ → Reclaim → Timing
timing_at Idle t e r = NoToken
timing_at Registered t e r = HasToken t
timing_at PinLooked t e r = Looks t e
timing_at Pinned t e r = IsPinned t e
timing_at DeferLooked t e r = IsPinned t e
timing_at DeferSwapped t e r = IsPinned t e
timing_at WonLocal t e r = HasToken t
timing_at LostGlobal t e r = HasToken t
timing_at WonGlobal t e r = HasGlobal t
timing_at Scanning t e r = Scans t r.epoch r.scan
timing_at Stopped t e r = HasGlobal t
timing_at Advanced t e r = HasAdvanced t r.epoch r.spread
timing_at LeftGlobal t e r = HasToken t

abbrev pub timing : Seat → Timing
timing seat = timing_at seat.phase seat.token seat.announced seat.reclaim

unfoldable pub token_at : Timing → Option Token
token_at NoToken = None
token_at (HasToken t) = Some t
token_at (Looks t e) = Some t
token_at (IsPinned t e) = Some t
token_at (HasGlobal t) = Some t
token_at (Scans t g n) = Some t
token_at (HasAdvanced t g n) = Some t

unfoldable pub pinned_at : Timing → Option Token
pinned_at (IsPinned t e) = Some t
pinned_at _ = None

unfoldable pub global_at : Timing → Bool
global_at (HasGlobal t) = true
global_at (Scans t g n) = true
global_at (HasAdvanced t g n) = true
global_at _ = false

unfoldable pub scan_at : Timing → Option Token
scan_at (Scans t g n) = Some n
scan_at _ = None

unfoldable pub spread_at : Timing → Option ℕ
spread_at (HasAdvanced t g n) = Some n
spread_at _ = None

-- the words and numbers that tell of tokens and epochs
pub record Clock : Type 0 where
  pub epoch : ℕ
  pub election : ℕ
  pub epoch_of : ℕ → ℕ
  pub token_word : Token → ℕ
  pub born : Token → ℕ

pub record IsToken (locales tokens : ℕ) (t : Token) : Type 0 where
  pub locale : t.locale < locales
  pub number : t.number < tokens

-- the token comes before the other in the order of the scan
abbrev pub Precedes : Token → Token → Type 0
Precedes t u = (t.locale < u.locale) ⊎ ((t.locale ≡ u.locale) × (t.number < u.number))

-- no two seats have the same token
abbrev pub AreApart : (ℕ → Option Token) → Type 0
AreApart f = (c d : ℕ) (t : Token) → f c ≡ Some t → f d ≡ Some t → c ≡ d

-- no two seats have the global election
abbrev pub IsAlone : (ℕ → Bool) → Type 0
IsAlone f = (c d : ℕ) → f c ≡ true → f d ≡ true → c ≡ d

-- each token that was scanned and is pinned was pinned at the epoch
abbrev pub IsScanned : ℕ → (Token → ℕ) → (ℕ → Option Token) → (ℕ → Option Token) → Type 0
IsScanned epoch born scan pinned = (c d : ℕ) (n t : Token) → scan c ≡ Some n → pinned d ≡ Some t → Precedes t n → born t ≡ epoch

-- each locale's epoch is the global one, or one less while a seat has yet to spread to it
pub record IsSpread (epoch : ℕ) (spread : ℕ → Option ℕ) (l : ℕ) (local : ℕ) : Type 0 where
  pub most : local ≤ epoch
  pub least : epoch ≤ local + 1
  pub same : (local ≡ epoch) ⊎ ((c : ℕ) × (n : ℕ) × (spread c ≡ Some n) × (n ≤ l))

module _ (locales tokens : ℕ) where
  -- what holds of a seat and its token's word
  abbrev pub Own : Clock → Timing → Type 0
  Own k NoToken = Unit {0}
  Own k (HasToken t) = IsToken locales tokens t × (k.token_word t ≡ 1)
  Own k (Looks t e) = IsToken locales tokens t × (k.token_word t ≡ 1) × (e ≤ k.epoch)
  Own k (IsPinned t e) = IsToken locales tokens t × (k.token_word t ≡ e + 2) × (e ≤ k.born t) × (k.born t ≤ k.epoch) × (k.epoch ≤ k.born t + 1)
  Own k (HasGlobal t) = IsToken locales tokens t × (k.token_word t ≡ 1) × (k.election ≡ 1)
  Own k (Scans t g n) = IsToken locales tokens t × (k.token_word t ≡ 1) × (k.election ≡ 1) × (g ≡ k.epoch)
  Own k (HasAdvanced t g n) = IsToken locales tokens t × (k.token_word t ≡ 1) × (k.election ≡ 1) × (g + 1 ≡ k.epoch) × (n ≤ locales)

  pub record IsTimed (k : Clock) (time : ℕ → Timing) : Type 0 where
    pub own : (c : ℕ) → Own k (time c)
    pub apart : AreApart (λ c. token_at (time c))
    pub alone : IsAlone (λ c. global_at (time c))
    pub scanned : IsScanned k.epoch k.born (λ c. scan_at (time c)) (λ c. pinned_at (time c))
    pub spread : (l : ℕ) → l < locales → IsSpread k.epoch (λ c. spread_at (time c)) l (k.epoch_of l)
