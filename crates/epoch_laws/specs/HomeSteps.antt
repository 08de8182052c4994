-- The steps by which free objects go home, and are taken from there.
use Rattle.std.specs.Prelude.{◌≡◌, ◌≢◌, ◌==◌, ℕ, false, if◌then◌else◌, [], ◌∷◌, Option, Some, None}
use Rattle.pgas_base.specs.Pointers.{Pointer, word_of}
use Rattle.epoch_laws.specs.declared.steps.Seen.TheVariants.{Nothing, Word}
use Rattle.epoch_laws.specs.Places.{Place, place_of, place_in, pending, without_all, with_number, with_place}
use Rattle.epoch_laws.specs.Seats.{is_reclaiming}
use Rattle.epoch_laws.specs.States.{State, with_seat, with_words}
use Rattle.epoch_laws.specs.Needs.{Move, inside, pointer_inside, stands, has_count}
use Rattle.epoch_laws.specs.Chains.{led_in, led_over}
use Rattle.epoch_laws.specs.StackSteps.{in_hand_of, is_led}

-- exchanges top into its locale's home head
unfoldable pub home_swap : State → ℕ → Pointer → Pointer → Move
home_swap s c top tail =
    let seat = s.seat c in let read = s.words.home_head top.locale in
    let way = led_in s.words seat.hand (λ word. word == pending) (place_of top) (place_of tail) in record {
      needs = inside c s.seats ∷ pointer_inside s top ∷ pointer_inside s tail ∷ stands s c (seat.homing.tail ≡ None) ∷ has_count s top ∷ has_count s tail
          ∷ in_hand_of s c top top.locale ∷ in_hand_of s c tail top.locale ∷ is_led way ∷ [];
      outcome = record {
        next =
            with_words s (record s.words { home_head = with_number s.words.home_head top.locale (word_of top) }) c
            (record seat {
              hand = without_all (led_over way) seat.hand;
              homing = record seat.homing { tail = Some (place_of tail); old = read };
            });
        seen = Word read;
        items = [];
      };
    }

-- stores a word as the next word of the tail that waits for it, if one does
unfoldable pub with_link : (Place → ℕ) → Option Place → ℕ → Place → ℕ
with_link next None word = next
with_link next (Some p) word = with_place next p word

-- a HomeSwap of the seat waits for its HomeLink
abbrev pub Waits : Option Place → Type 0
Waits tail = (p : Place) × (tail ≡ Some p)

-- stores the old home head as tail's next word
unfoldable pub home_link : State → ℕ → Move
home_link s c = let seat = s.seat c in record {
  needs = inside c s.seats ∷ stands s c (Waits seat.homing.tail) ∷ [];
  outcome = record {
    next =
        with_words s (record s.words { next = with_link s.words.next seat.homing.tail seat.homing.old }) c
        (record seat { homing = record seat.homing { tail = None } });
    seen = Nothing;
    items = [];
  };
}

-- exchanges the locale's home head to 0
unfoldable pub home_take : State → ℕ → ℕ → Move
home_take s c l = let seat = s.seat c in let read = s.words.home_head l in record {
  needs = inside c s.seats ∷ inside l s.shape.locales ∷ stands s c ((is_reclaiming seat.phase ≡ false) × (seat.homing.chain ≡ 0)) ∷ [];
  outcome = record {
    next =
        with_words s (record s.words { home_head = with_number s.words.home_head l 0 }) c
        (record seat { homing = record seat.homing { chain = read } });
    seen = Word read;
    items = [];
  };
}

-- loads the next word of the current object of the taken chain
unfoldable pub home_walk : State → ℕ → Move
home_walk s c = let seat = s.seat c in let p = place_in seat.homing.chain in let read = s.words.next p in record {
  needs = inside c s.seats ∷ stands s c ((is_reclaiming seat.phase ≡ false) × (seat.homing.chain ≢ 0)) ∷ [];
  outcome = record {
    next =
        if read == pending then s else with_seat s c (record seat { hand = p ∷ seat.hand; homing = record seat.homing { chain = read } });
    seen = Word read;
    items = [];
  };
}
