-- Histories of events, and which are legal. They speak of no epoch, list or election.
use Rattle.std.specs.Prelude.{◌≡◌, ◌==◌, ℕ, ◌+◌, if◌then◌else◌, List, [], ◌∷◌, ◌++◌, ◌⊎◌, Option, Some, None, take, drop, fold}
use Rattle.epoch_laws.specs.declared.tokens.Token.{Token}
use Rattle.epoch_laws.specs.declared.events.EpochEvent.{EpochEvent}
use Rattle.epoch_laws.specs.declared.events.EpochEvent.TheVariants.{Registered, Unregistered, Pinned, Unpinned, Given, Shown, Held, Deferred, Freed, Returned}
use Rattle.epoch_laws.specs.Places.{Place, place_of, same_place, same_token}

-- an event and the caller whose it is
pub record Happening : Type 0 where
  pub caller : ℕ
  pub event : EpochEvent

-- how an object stands after a history. A deferred one was deferred at a position of it
pub data Condition : Type 0 where
  IsFree IsShown IsWorn : Condition
  IsOwnedBy IsDeferredAt : ℕ → Condition

-- the condition of an object, and its count
pub record Standing : Type 0 where
  pub condition : Condition
  pub count : ℕ

-- the caller that has registered the token once this has happened, where this one had before
unfoldable pub registrant_after : Token → Option ℕ → Happening → Option ℕ
registrant_after t by x =
    elim (x.event) [
      | Registered u ↦ if same_token t u then Some x.caller else by
      | Unregistered u ↦ if same_token t u then None else by
      | _ ↦ by
    ]

-- the same of the caller that has pinned it
unfoldable pub pinner_after : Token → Option ℕ → Happening → Option ℕ
pinner_after t by x =
    elim (x.event) [ Pinned u ↦ if same_token t u then Some x.caller else by | Unpinned u ↦ if same_token t u then None else by | _ ↦ by ]

-- who has registered the token: the caller of its last Registered, if no Unregistered of it follows
unfoldable pub registrant : Token → List Happening → Option ℕ
registrant t history = fold (registrant_after t) None history

-- who has pinned it: the caller of its last Pinned, if no Unpinned of it follows
unfoldable pub pinner : Token → List Happening → Option ℕ
pinner t history = fold (pinner_after t) None history

-- one count higher and free, and worn with the last count
unfoldable pub freed : ℕ → Standing
freed count = if count == 4294967295 then record { condition = IsWorn; count = count } else record { condition = IsFree; count = count + 1 }

-- an object's standing, and how many events there were so far
pub record Progress : Type 0 where
  pub position : ℕ
  pub standing : Standing

-- the standing of the object there once this has happened at this position
unfoldable pub standing_after : Place → ℕ → Standing → Happening → Standing
standing_after p position old x =
    elim (x.event) [
      | Given q ↦ if same_place p (place_of q) then record { condition = IsOwnedBy x.caller; count = old.count } else old
      | Shown q ↦ if same_place p (place_of q) then record { condition = IsShown; count = old.count } else old
      | Returned q ↦ if same_place p (place_of q) then record { condition = IsFree; count = old.count } else old
      | Deferred t q ↦ if same_place p (place_of q) then record { condition = IsDeferredAt position; count = old.count } else old
      | Freed q ↦ if same_place p (place_of q) then freed old.count else old
      | _ ↦ old
    ]

unfoldable pub progress_after : Place → Progress → Happening → Progress
progress_after p old x = record { position = old.position + 1; standing = standing_after p old.position old.standing x }

-- how far an object is after a history that began with each object free with this count
unfoldable pub progress : ℕ → Place → List Happening → Progress
progress count p history = fold (progress_after p) (record { position = 0; standing = record { condition = IsFree; count = count } }) history

unfoldable pub standing : ℕ → Place → List Happening → Standing
standing count p history = (progress count p history).standing

-- an Unpinned of the token is among these
abbrev pub HasUnpinned : Token → List Happening → Type 0
HasUnpinned t [] = ⊥
HasUnpinned t (x ∷ history) = (x.event ≡ Unpinned t) ⊎ HasUnpinned t history

-- each token that was pinned at this position of the history has an Unpinned after it
abbrev pub AllUnpinned : ℕ → List Happening → Type 0
AllUnpinned position history = (t : Token) (d : ℕ) → pinner t (take position history) ≡ Some d → HasUnpinned t (drop position history)

-- what an event needs of the history before it
abbrev pub IsNext : ℕ → List Happening → ℕ → EpochEvent → Type 0
IsNext count history c (Registered t) = registrant t history ≡ None
IsNext count history c (Unregistered t) = (registrant t history ≡ Some c) × (pinner t history ≡ None)
IsNext count history c (Pinned t) = (registrant t history ≡ Some c) × (pinner t history ≡ None)
IsNext count history c (Unpinned t) = pinner t history ≡ Some c
IsNext count history c (Given q) = standing count (place_of q) history ≡ record { condition = IsFree; count = q.count }
IsNext count history c (Shown q) = standing count (place_of q) history ≡ record { condition = IsOwnedBy c; count = q.count }
IsNext count history c (Returned q) = standing count (place_of q) history ≡ record { condition = IsOwnedBy c; count = q.count }
IsNext count history c (Held t q) = (standing count (place_of q) history ≡ record { condition = IsShown; count = q.count }) × (pinner t history ≡ Some c)
IsNext count history c (Deferred t q) = (standing count (place_of q) history ≡ record { condition = IsShown; count = q.count }) × (pinner t history ≡ Some c)
IsNext count history c (Freed q) =
    (i : ℕ) × (standing count (place_of q) history ≡ record { condition = IsDeferredAt i; count = q.count }) × AllUnpinned i history

-- after the first list each event of the second meets its need
abbrev pub Continues : ℕ → List Happening → List Happening → Type 0
Continues count before [] = Unit {0}
Continues count before (x ∷ rest) = IsNext count before x.caller x.event × Continues count (before ++ x ∷ []) rest

-- Each event meets its need after those before it, where each object opened free with this count and no token was registered
abbrev pub IsLegalHistory : ℕ → List Happening → Type 0
IsLegalHistory count history = Continues count [] history
