-- The steps by which an object is taken, shown and given back.
use Rattle.std.specs.Prelude.{◌≡◌, ◌==◌, ◌&&◌, ℕ, Bool, true, false, if◌then◌else◌, [], ◌∷◌, Option, Some, None}
use Rattle.pgas_base.specs.Pointers.{Pointer}
use Rattle.pool_core.specs.declared.headers.Header.{Header}
use Rattle.pool_core.specs.declared.headers.State.{State as HeaderState}
use Rattle.pool_core.specs.declared.headers.State.TheVariants.{Free, Own, Shown}
use Rattle.epoch_laws.specs.declared.steps.Seen.TheVariants.{Nothing, Word, Won, Lost}
use Rattle.epoch_laws.specs.declared.events.EpochEvent.TheVariants.{Given, Shown as IsShown, Returned}
use Rattle.epoch_laws.specs.Places.{Place, place_of, pointer_at, without, with_place}
use Rattle.epoch_laws.specs.Seats.{is_reclaiming}
use Rattle.epoch_laws.specs.States.{State, with_seat, with_words}
use Rattle.epoch_laws.specs.Needs.{Move, event, inside, index_inside, pointer_inside, not_reclaiming, stands, has_count, is_one_of, header_word_of}

unfoldable pub is_free : HeaderState → Bool
is_free Free = true
is_free _ = false

-- the header says free with this count
abbrev pub is_free_with : Header → ℕ → Bool
is_free_with header count = is_free header.state && (header.count == count)

-- the count of the last look, where it was of an object that it read as free
unfoldable pub look_count : Option Pointer → ℕ
look_count None = 0
look_count (Some pointer) = pointer.count

-- the last look was of the object there, and read free
abbrev pub LookedAt : Option Pointer → Place → Type 0
LookedAt look p = (count : ℕ) × (look ≡ Some (pointer_at p count))

-- loads the header
unfoldable pub take_look : State → ℕ → Place → Move
take_look s c p = let read = s.words.header p in record {
  needs = inside c s.seats ∷ inside p.locale s.shape.locales ∷ index_inside s p.locale p.index ∷ not_reclaiming s c ∷ [];
  outcome = record {
    next = with_seat s c (record (s.seat c) { free_look = if is_free read.state then Some (pointer_at p read.count) else None });
    seen = Word (header_word_of s p);
    items = [];
  };
}

-- compares and exchanges the header that was read to owned
unfoldable pub take_try : State → ℕ → Place → Move
take_try s c p = let seat = s.seat c in let count = look_count seat.free_look in record {
  needs = inside c s.seats ∷ inside p.locale s.shape.locales ∷ index_inside s p.locale p.index
      ∷ stands s c ((is_reclaiming seat.phase ≡ false) × LookedAt seat.free_look p) ∷ is_one_of s p seat.hand ∷ [];
  outcome =
      if is_free_with (s.words.header p) count
      then record {
        next =
            with_words s (record s.words { header = with_place s.words.header p (record { count = count; state = Own }) }) c
            (record seat { hand = without p seat.hand; owned = p ∷ seat.owned });
        seen = Won;
        items = event c (Given (pointer_at p count));
      }
      else record { next = s; seen = Lost (header_word_of s p); items = [] };
}

-- stores the header, shown
unfoldable pub show : State → ℕ → Pointer → Move
show s c pointer = let seat = s.seat c in let p = place_of pointer in record {
  needs = inside c s.seats ∷ pointer_inside s pointer ∷ not_reclaiming s c ∷ has_count s pointer ∷ is_one_of s p seat.owned ∷ [];
  outcome = record {
    next =
        with_words s (record s.words { header = with_place s.words.header p (record { count = pointer.count; state = Shown }) }) c
        (record seat { owned = without p seat.owned });
    seen = Nothing;
    items = event c (IsShown pointer);
  };
}

-- stores the header, free with the same count
unfoldable pub give_back : State → ℕ → Pointer → Move
give_back s c pointer = let seat = s.seat c in let p = place_of pointer in record {
  needs = inside c s.seats ∷ pointer_inside s pointer ∷ not_reclaiming s c ∷ has_count s pointer ∷ is_one_of s p seat.owned ∷ [];
  outcome = record {
    next =
        with_words s (record s.words { header = with_place s.words.header p (record { count = pointer.count; state = Free }) }) c
        (record seat { owned = without p seat.owned; hand = p ∷ seat.hand });
    seen = Nothing;
    items = event c (Returned pointer);
  };
}
