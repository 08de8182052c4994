-- Each local election is one seat's at most.
use Rattle.std.proofs.Common.{◌≡◌, ℕ, Option, Some, None}
use Rattle.epoch_laws.specs.declared.tokens.Token.{Token}
use Rattle.epoch_laws.specs.Seats.{Phase, WonLocal, LostGlobal, WonGlobal, Scanning, Stopped, Advanced, LeftGlobal, Seat}
use Rattle.epoch_laws.specs.States.{State}

-- the locale whose election the seat has won and not left
unfoldable pub local_at : Phase → Token → Option ℕ
local_at WonLocal t = Some t.locale
local_at LostGlobal t = Some t.locale
local_at WonGlobal t = Some t.locale
local_at Scanning t = Some t.locale
local_at Stopped t = Some t.locale
local_at Advanced t = Some t.locale
local_at LeftGlobal t = Some t.locale
local_at _ t = None

abbrev pub local : Seat → Option ℕ
local seat = local_at seat.phase seat.token

pub record AreElected (election_of : ℕ → ℕ) (locals : ℕ → Option ℕ) : Type 0 where
  pub won : (c l : ℕ) → locals c ≡ Some l → election_of l ≡ 1
  pub alone : (c d l : ℕ) → locals c ≡ Some l → locals d ≡ Some l → c ≡ d

abbrev pub IsElected : State → Type 0
IsElected s = AreElected s.words.election_of (λ d. local (s.seat d))
