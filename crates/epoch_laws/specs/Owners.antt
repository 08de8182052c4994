-- A token's word that isn't 0, and an election that was won, have a seat whose they are.
use Rattle.std.proofs.Common.{◌≡◌, ◌⊎◌, ℕ, Bool, true, Option, Some, None}
use Rattle.epoch_laws.specs.declared.tokens.Token.{Token}
use Rattle.epoch_laws.specs.Seats.{Phase, Idle, Seat}
use Rattle.epoch_laws.specs.States.{State}
use Rattle.epoch_laws.specs.ReclaimSteps.{has_global}
use Rattle.epoch_laws.specs.Elections.{local}

-- the token that the seat has
unfoldable pub token_of : Phase → Token → Option Token
token_of Idle t = None
token_of _ t = Some t

abbrev pub own_token : Seat → Option Token
own_token seat = token_of seat.phase seat.token

pub record HaveOwners (token_word : Token → ℕ) (election : ℕ) (election_of : ℕ → ℕ) (has : ℕ → Option Token) (wins : ℕ → Option ℕ) (globals : ℕ → Bool) : Type 0 where
  pub tokens : (t : Token) → (token_word t ≡ 0) ⊎ ((c : ℕ) × (has c ≡ Some t))
  pub locals : (l : ℕ) → (election_of l ≡ 0) ⊎ ((election_of l ≡ 1) × ((c : ℕ) × (wins c ≡ Some l)))
  pub global : (election ≡ 0) ⊎ ((election ≡ 1) × ((c : ℕ) × (globals c ≡ true)))

abbrev pub AreOwned : State → Type 0
AreOwned s =
    HaveOwners s.words.token_word s.words.election s.words.election_of (λ c. own_token (s.seat c)) (λ c. local (s.seat c)) (λ c. has_global (s.seat c).phase)
