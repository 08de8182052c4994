-- What a step needs, which need is told where it isn't allowed, and what an allowed step does.
use Rattle.std.specs.Prelude.{◌≡◌, ◌<◌, ℕ, false, List, [], ◌∷◌, ◌⊎◌, IsTrue, None, unwrap_or}
use Rattle.pgas_base.specs.Pointers.{Pointer, word_of}
use Rattle.pool_core.specs.Headers.{header_word}
use Rattle.pool_core.specs.declared.headers.State.TheVariants.{Shown}
use Rattle.epoch_laws.specs.declared.steps.Seen.{Seen}
use Rattle.epoch_laws.specs.declared.events.EpochEvent.{EpochEvent}
use Rattle.epoch_laws.specs.declared.events.Item.{Item}
use Rattle.epoch_laws.specs.declared.events.Item.TheVariants.{Event}
use Rattle.epoch_laws.specs.Places.{Place, place_of, is_among}
use Rattle.epoch_laws.specs.Seats.{Phase, Idle, is_reclaiming}
use Rattle.epoch_laws.specs.States.{State, IsPlace}

-- a need: its number, what it asks, and the word that is told where it isn't met
pub record Need : Type 1 where
  pub number : ℕ
  pub met : Type 0
  pub word : ℕ

abbrev pub AllMet : List Need → Type 0
AllMet [] = Unit {0}
AllMet (need ∷ needs) = need.met × AllMet needs

-- the needs before it are met, it isn't, and it has this number and tells this word
abbrev pub FirstUnmet : List Need → ℕ → ℕ → Type 0
FirstUnmet [] number word = ⊥
FirstUnmet (need ∷ needs) number word =
    ((¬ need.met) × (need.number ≡ number) × (need.word ≡ word)) ⊎ (need.met × FirstUnmet needs number word)

-- what an allowed step leaves, tells and lists
pub record Outcome : Type 0 where
  pub next : State
  pub seen : Seen
  pub items : List Item

-- a step as its needs in the order in which they are tried, and its outcome where all are met
pub record Move : Type 1 where
  pub needs : List Need
  pub outcome : Outcome

-- an item of one event, whose tag is 0
abbrev pub event : ℕ → EpochEvent → List Item
event c e = Event c e 0 ∷ []

-- 0 where the seat is Idle
unfoldable pub token_word_of : State → ℕ → ℕ
token_word_of s c = elim ((s.seat c).phase) [ Idle ↦ 0 | _ ↦ s.words.token_word ((s.seat c).token) ]

unfoldable pub election_of_seat : State → ℕ → ℕ
election_of_seat s c = elim ((s.seat c).phase) [ Idle ↦ 0 | _ ↦ s.words.election_of ((s.seat c).token.locale) ]

abbrev pub header_word_of : State → Place → ℕ
header_word_of s p = header_word ((s.words.header p).count) ((s.words.header p).state)

-- need 1: the number lies inside the shape
abbrev pub inside : ℕ → ℕ → Need
inside number bound = record { number = 1; met = number < bound; word = number }

abbrev pub index_inside : State → ℕ → ℕ → Need
index_inside s locale index = record { number = 1; met = IsPlace s.shape (record { locale = locale; index = index }); word = index }

abbrev pub pointer_inside : State → Pointer → Need
pointer_inside s pointer = record { number = 1; met = IsPlace s.shape (place_of pointer); word = word_of pointer }

-- need 2: the seat stands in this phase, and its token's word is told
abbrev pub in_phase : State → ℕ → Phase → Need
in_phase s c phase = record { number = 2; met = (s.seat c).phase ≡ phase; word = token_word_of s c }

-- the seat isn't in a reclaim
abbrev pub not_reclaiming : State → ℕ → Need
not_reclaiming s c = record { number = 2; met = is_reclaiming ((s.seat c).phase) ≡ false; word = token_word_of s c }

-- the seat stands where its row says, and its token's word is told
abbrev pub stands : State → ℕ → Type 0 → Need
stands s c met = record { number = 2; met = met; word = token_word_of s c }

-- the same of a reclaim, and the word of its local election is told
abbrev pub reclaims : State → ℕ → Type 0 → Need
reclaims s c met = record { number = 2; met = met; word = election_of_seat s c }

-- need 3: the object's header has the pointer's count
abbrev pub has_count : State → Pointer → Need
has_count s pointer =
    record { number = 3; met = (s.words.header (place_of pointer)).count ≡ pointer.count; word = header_word_of s (place_of pointer) }

-- need 3: it also says that the object is shown
abbrev pub is_shown : State → Pointer → Need
is_shown s pointer =
    record { number = 3; met = s.words.header (place_of pointer) ≡ record { count = pointer.count; state = Shown }; word = header_word_of s (place_of pointer) }

-- need 4: the object is one of these
abbrev pub is_one_of : State → Place → List Place → Need
is_one_of s p places = record { number = 4; met = IsTrue (is_among p places); word = header_word_of s p }

-- need 5: the object isn't deferred
abbrev pub not_deferred : State → Pointer → Need
not_deferred s pointer = record { number = 5; met = s.tag (place_of pointer) ≡ None; word = unwrap_or (s.tag (place_of pointer)) 0 }
