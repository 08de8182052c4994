-- The steps on a locale's stack of free objects.
use Rattle.std.specs.Prelude.{◌≡◌, ◌≢◌, ◌<◌, ◌==◌, ◌&&◌, ℕ, ◌+◌, Bool, false, if◌then◌else◌, [], ◌∷◌, IsTrue}
use Rattle.pgas_base.specs.Pointers.{Pointer}
use Rattle.pool_core.specs.declared.free_words.FreeWord.{FreeWord}
use Rattle.pool_core.specs.FreeWords.{free_head_word}
use Rattle.epoch_laws.specs.declared.steps.Seen.TheVariants.{Nothing, Word, Won, Lost}
use Rattle.epoch_laws.specs.Places.{Place, place_of, index_in, is_among, without_all, with_number, with_place}
use Rattle.epoch_laws.specs.Seats.{StackLook, NoLook, Looked, NextRead, is_reclaiming}
use Rattle.epoch_laws.specs.States.{State, with_seat, with_words}
use Rattle.epoch_laws.specs.Needs.{Need, Move, inside, pointer_inside, not_reclaiming, stands, has_count, is_one_of, header_word_of}
use Rattle.epoch_laws.specs.Chains.{Led, IsLed, led_in, led_over, broken_at}

-- a count from which no exchange of a free head is tried
abbrev pub last_stack_count : ℕ
last_stack_count = 1099511627775

abbrev pub same_head : FreeWord → FreeWord → Bool
same_head a b = (a.count == b.count) && (a.index == b.index)

-- the object that the look read on top
abbrev pub looked_top : StackLook → Place
looked_top look = record { locale = look.locale; index = look.head.index }

abbrev pub free_head_word_of : State → ℕ → ℕ
free_head_word_of s l = free_head_word ((s.words.free_head l).count) ((s.words.free_head l).index)

-- what a lost exchange leaves: the look allows nothing any more
abbrev pub with_no_look : State → ℕ → State
with_no_look s c = with_seat s c (record (s.seat c) { stack = record ((s.seat c).stack) { phase = NoLook } })

-- need 4 of a chain's end: it is in the hand, and of this locale
abbrev pub in_hand_of : State → ℕ → Pointer → ℕ → Need
in_hand_of s c pointer locale =
    record { number = 4; met = IsTrue (is_among (place_of pointer) ((s.seat c).hand)) × (pointer.locale ≡ locale); word = header_word_of s (place_of pointer) }

-- need 7: the next words lead from top to tail, and the tail's passes the test
abbrev pub is_led : Led → Need
is_led way = record { number = 7; met = IsLed way; word = broken_at way }

-- loads the free head
unfoldable pub stack_look : State → ℕ → ℕ → Move
stack_look s c l = record {
  needs = inside c s.seats ∷ inside l s.shape.locales ∷ not_reclaiming s c ∷ [];
  outcome = record {
    next = with_seat s c (record (s.seat c) { stack = record { phase = Looked; locale = l; head = s.words.free_head l; next = 0 } });
    seen = Word (free_head_word_of s l);
    items = [];
  };
}

-- loads the next word of the top that was read
unfoldable pub stack_next : State → ℕ → Move
stack_next s c = let seat = s.seat c in let look = seat.stack in let read = s.words.next (looked_top look) in record {
  needs = inside c s.seats ∷ stands s c ((is_reclaiming seat.phase ≡ false) × (look.phase ≢ NoLook) × (look.head.index ≢ 0)) ∷ [];
  outcome = record { next = with_seat s c (record seat { stack = record look { phase = NextRead; next = read } }); seen = Word read; items = [] };
}

-- compares and exchanges the free head from the word read to the object below
unfoldable pub stack_pop : State → ℕ → Move
stack_pop s c = let seat = s.seat c in let look = seat.stack in record {
  needs = inside c s.seats ∷ stands s c ((is_reclaiming seat.phase ≡ false) × (look.phase ≡ NextRead) × (look.head.count < last_stack_count)) ∷ [];
  outcome =
      if same_head (s.words.free_head look.locale) look.head
      then record {
        next =
            with_words s
            (record s.words {
              free_head = with_number s.words.free_head look.locale (record { count = look.head.count + 1; index = index_in look.next });
            })
            c (record seat { hand = looked_top look ∷ seat.hand });
        seen = Won;
        items = [];
      }
      else record { next = with_no_look s c; seen = Lost (free_head_word_of s look.locale); items = [] };
}

-- compares and exchanges the free head from the word read to the top of a chain of the hand
unfoldable pub stack_put : State → ℕ → Pointer → Pointer → Move
stack_put s c top tail =
    let seat = s.seat c in let look = seat.stack in
    let way = led_in s.words seat.hand (λ word. index_in word == look.head.index) (place_of top) (place_of tail) in record {
      needs = inside c s.seats ∷ pointer_inside s top ∷ pointer_inside s tail
          ∷ stands s c ((is_reclaiming seat.phase ≡ false) × (look.phase ≢ NoLook) × (look.head.count < last_stack_count))
          ∷ has_count s top ∷ has_count s tail ∷ in_hand_of s c top look.locale ∷ in_hand_of s c tail look.locale ∷ is_led way ∷ [];
      outcome =
          if same_head (s.words.free_head look.locale) look.head
          then record {
            next =
                with_words s
                (record s.words { free_head = with_number s.words.free_head look.locale (record { count = look.head.count + 1; index = top.index }) })
                c (record seat { hand = without_all (led_over way) seat.hand });
            seen = Won;
            items = [];
          }
          else record { next = with_no_look s c; seen = Lost (free_head_word_of s look.locale); items = [] };
    }

-- stores the next word of an object of the hand
unfoldable pub hand_link : State → ℕ → Pointer → ℕ → Move
hand_link s c pointer word = record {
  needs = inside c s.seats ∷ pointer_inside s pointer ∷ has_count s pointer ∷ is_one_of s (place_of pointer) ((s.seat c).hand) ∷ [];
  outcome = record { next = record s { words = record s.words { next = with_place s.words.next (place_of pointer) word } }; seen = Nothing; items = [] };
}
