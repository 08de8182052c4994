-- What a step does and tells, as far as its seat and the one word that it finds say it.
use Rattle.std.specs.Prelude.{◌≡◌, ◌<◌, ℕ, true, List, Some, None, unwrap_or}
use Rattle.pgas_base.specs.declared.shapes.Shape.{Shape}
use Rattle.pool_core.specs.declared.headers.Header.{Header}
use Rattle.pool_core.specs.declared.headers.State.TheVariants.{Free}
use Rattle.epoch_laws.specs.declared.events.Item.{Item}
use Rattle.epoch_laws.specs.declared.steps.Kind.{Kind}
use Rattle.epoch_laws.specs.declared.steps.Kind.TheVariants.{Show, Hold, Touch, Return, DeferLook, Release, StackPut, HandLink, HomeSwap}
use Rattle.epoch_laws.specs.Places.{Place, place_of, is_among}
use Rattle.epoch_laws.specs.Words.{Words, word_at}
use Rattle.epoch_laws.specs.Seats.{Seat, Pinned}
use Rattle.epoch_laws.specs.States.{State}
use Rattle.epoch_laws.specs.Needs.{AllMet, Outcome}
use Rattle.epoch_laws.specs.Steps.{move}
use Rattle.epoch_table.specs.Deeds.{Deed, Elsewhere, Loads, Stores, Swaps, Exchanges}
use Rattle.epoch_table.specs.Facts.{Facts, count_of, next_word_of}
use Rattle.epoch_table.specs.Numbers.{header_in, head_in}

-- each word says the number
abbrev pub all_saying : ℕ → Words
all_saying found = record {
  epoch = found;
  election = found;
  epoch_of = λ l. found;
  election_of = λ l. found;
  list_head = λ l m. found;
  free_head = λ l. head_in found;
  home_head = λ l. found;
  token_word = λ t. found;
  header = λ p. header_in found;
  next = λ p. found;
}

-- headers have the counts that are known, and next words are those that are known
abbrev pub known_header : Facts → Place → Header
known_header facts p = record { count = unwrap_or (count_of facts p) 0; state = Free }

abbrev pub known_next : Facts → Place → ℕ
known_next facts p = unwrap_or (next_word_of facts p) 0

abbrev pub known_words : Facts → ℕ → Words
known_words facts found = record (all_saying found) { header = λ p. known_header facts p; next = λ p. known_next facts p }

-- the words that a row is of. It is of headers and next words of objects that the seat has, or of the one word of the step
abbrev pub words_of : Kind → Facts → ℕ → Words
words_of (Show pointer) facts found = known_words facts found
words_of (Touch pointer) facts found = known_words facts found
words_of (Return pointer) facts found = known_words facts found
words_of (Release pointer) facts found = known_words facts found
words_of (StackPut top tail) facts found = known_words facts found
words_of (HandLink pointer word) facts found = known_words facts found
words_of (HomeSwap top tail) facts found = known_words facts found
words_of _ facts found = all_saying found

-- the machine as a seat knows it at a step of this kind that finds this number
abbrev pub known : Shape → ℕ → Seat → Facts → Kind → ℕ → State
known shape seats seat facts kind found =
    record { shape = shape; seats = seats; words = words_of kind facts found; seat = λ d. seat; born = λ t. 0; tag = λ p. None }

-- what a step leaves its seat, and what it lists
pub record Told : Type 0 where
  pub seat : Seat
  pub items : List Item

abbrev pub told : Outcome → ℕ → Told
told outcome c = record { seat = outcome.next.seat c; items = outcome.items }

-- the same of a step of this kind by the seat c, of so many, that finds this number
abbrev pub tells : Shape → ℕ → ℕ → Seat → Facts → Kind → ℕ → Told
tells shape seats c seat facts kind found = told (move (known shape seats seat facts kind found) c kind).outcome c

-- the number that a step finds is that of its word
abbrev pub Finds : Words → Deed → ℕ → Type 0
Finds words Elsewhere found = Unit {0}
Finds words (Loads name) found = word_at words name ≡ found
Finds words (Stores name number) found = Unit {0}
Finds words (Swaps name number) found = word_at words name ≡ found
Finds words (Exchanges name old new) found = word_at words name ≡ found

-- the row of the kind is one of what the seat knows of itself and of the objects that it has
abbrev pub IsOwnRow : Kind → Type 0
IsOwnRow (Hold pointer) = ⊥
IsOwnRow (DeferLook pointer) = ⊥
IsOwnRow _ = Unit {0}

-- the counts and the next words of these objects are known
abbrev pub AreAllKnown : Facts → List Place → Type 0
AreAllKnown facts places =
    (p : Place) → is_among p places ≡ true → ((n : ℕ) × (count_of facts p ≡ Some n)) × ((word : ℕ) × (next_word_of facts p ≡ Some word))

-- the count of the pointer is known, or those and the next words of the whole hand, where the row asks for it
abbrev pub IsKnown : Seat → Facts → Kind → Type 0
IsKnown seat facts (Show pointer) = count_of facts (place_of pointer) ≡ Some pointer.count
IsKnown seat facts (Touch pointer) = count_of facts (place_of pointer) ≡ Some pointer.count
IsKnown seat facts (Return pointer) = count_of facts (place_of pointer) ≡ Some pointer.count
IsKnown seat facts (Release pointer) = count_of facts (place_of pointer) ≡ Some pointer.count
IsKnown seat facts (HandLink pointer word) = count_of facts (place_of pointer) ≡ Some pointer.count
IsKnown seat facts (StackPut top tail) = AreAllKnown facts seat.hand
IsKnown seat facts (HomeSwap top tail) = AreAllKnown facts seat.hand
IsKnown seat facts _ = Unit {0}

-- Its row is met, where its seat is this and knows this. That an object that is to be deferred is one of the shape, shown and not deferred is the client's to know
abbrev pub Row : Shape → ℕ → ℕ → Seat → Facts → Kind → Type 0
Row shape seats c seat facts (DeferLook pointer) = (c < seats) × (seat.phase ≡ Pinned)
Row shape seats c seat facts kind = AllMet (move (known shape seats seat facts kind 0) c kind).needs × IsKnown seat facts kind
