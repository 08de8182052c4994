-- What a pass knows of the words of the objects that it has, and what a step leaves of that.
use Rattle.std.specs.Prelude.{◌≡◌, ◌⊎◌, ℕ, true, false, if◌then◌else◌, List, [], ◌∷◌, Option, Some, None}
use Rattle.epoch_laws.specs.declared.steps.Kind.{Kind}
use Rattle.epoch_laws.specs.declared.steps.Kind.TheVariants.{TakeTry, Hold, Return, Walk, Release, StackPop, HomeWalk}
use Rattle.epoch_laws.specs.Frames.{HasAlone}
use Rattle.epoch_laws.specs.Places.{Place, place_of, place_in, is_among, with_place}
use Rattle.epoch_laws.specs.Seats.{Seat}
use Rattle.epoch_laws.specs.StackSteps.{looked_top, same_head}
use Rattle.epoch_laws.specs.Words.{Words, WordName, header_of, next_of}
use Rattle.epoch_table.specs.Deeds.{Deed, Elsewhere, Loads, Stores, Swaps, Exchanges, deed, number_after}
use Rattle.epoch_table.specs.Numbers.{header_in, head_in, count_in}

-- a number that is known of an object, or was known and isn't any more
pub record Note : Type 0 where
  pub place : Place
  pub number : Option ℕ

-- of several notes of an object the first counts
abbrev pub noted : List Note → Place → Option ℕ
noted [] = λ p. None
noted (note ∷ notes) = with_place (noted notes) note.place note.number

-- the counts of headers, and next words, as far as they are known
pub record Facts : Type 0 where
  pub counts : List Note
  pub nexts : List Note

abbrev pub no_facts : Facts
no_facts = record { counts = []; nexts = [] }

abbrev pub count_of : Facts → Place → Option ℕ
count_of facts = noted facts.counts

abbrev pub next_word_of : Facts → Place → Option ℕ
next_word_of facts = noted facts.nexts

-- the seat owns the object, has it in its hand, has walked over it or holds it
abbrev pub Keeps : Seat → Place → Type 0
Keeps seat p = HasAlone seat p ⊎ (is_among p seat.held ≡ true)

abbrev pub InHand : Seat → Place → Type 0
InHand seat p = is_among p seat.hand ≡ true

-- the seat neither owns nor holds the object, nor has it in its hand
pub record IsNew (seat : Seat) (p : Place) : Type 0 where
  pub owned : is_among p seat.owned ≡ false
  pub held : is_among p seat.held ≡ false
  pub hand : is_among p seat.hand ≡ false

-- what is known of the headers of these objects, and of the next words of those, is so
pub record AreTrue (words : Words) (Has Hand : Place → Type 0) (facts : Facts) : Type 0 where
  pub count : (p : Place) (n : ℕ) → Has p → count_of facts p ≡ Some n → (words.header p).count ≡ n
  pub next : (p : Place) (word : ℕ) → Hand p → next_word_of facts p ≡ Some word → words.next p ≡ word

-- what a seat knows of the headers of the objects that it keeps, and of the next words of its hand, is so. Of others it may know what was so once
abbrev pub AreFacts : Words → Seat → Facts → Type 0
AreFacts words seat facts = AreTrue words (Keeps seat) (InHand seat) facts

-- the word with this name is this number
abbrev pub learned_at : WordName → ℕ → Facts → Facts
learned_at (header_of p) number facts = record facts { counts = record { place = p; number = Some (header_in number).count } ∷ facts.counts }
learned_at (next_of p) number facts = record facts { nexts = record { place = p; number = Some number } ∷ facts.nexts }
learned_at _ number facts = facts

-- what a step on a word tells of that word
abbrev pub learned : Deed → ℕ → Facts → Facts
learned Elsewhere found facts = facts
learned (Loads name) found facts = learned_at name found facts
learned (Stores name number) found facts = learned_at name number facts
learned (Swaps name number) found facts = learned_at name number facts
learned (Exchanges name old new) found facts = learned_at name (number_after (Exchanges name old new) found) facts

-- an object that a step brings its seat, and what the seat then knows of it
pub record Gain : Type 0 where
  pub place : Place
  pub count : Option ℕ
  pub next : Option ℕ

-- nothing is known of it but what the step's own word tells
abbrev pub unknown : Place → Gain
unknown p = record { place = p; count = None; next = None }

-- what a step of this kind may bring
abbrev pub gain : Seat → Kind → ℕ → Option Gain
gain seat (TakeTry locale index) found = Some (unknown (record { locale = locale; index = index }))
gain seat (Hold pointer) found = Some (record { place = place_of pointer; count = Some pointer.count; next = None })
gain seat (Return pointer) found = Some (unknown (place_of pointer))
gain seat Walk found = Some (record { place = place_in seat.reclaim.chain; count = Some (count_in seat.reclaim.chain); next = None })
gain seat (Release pointer) found = Some (unknown (place_of pointer))
gain seat StackPop found =
    Some (record { place = looked_top seat.stack; count = None; next = if same_head (head_in found) seat.stack.head then Some seat.stack.next else None })
gain seat HomeWalk found = Some (record { place = place_in seat.homing.chain; count = Some (count_in seat.homing.chain); next = None })
gain seat _ found = None

-- what was known of the object is of no account any more
abbrev pub gained : Option Gain → Facts → Facts
gained None facts = facts
gained (Some g) facts = record {
  counts = record { place = g.place; number = g.count } ∷ facts.counts;
  nexts = record { place = g.place; number = g.next } ∷ facts.nexts;
}

-- what is known after a step of this kind that finds this number
abbrev pub facts_after : Seat → Kind → Facts → ℕ → Facts
facts_after seat kind facts found = learned (deed seat kind) found (gained (gain seat kind found) facts)
