-- The steps on objects that are held.
use Rattle.std.specs.Prelude.{◌<◌, ℕ, [], ◌∷◌, ◌++◌, length}
use Rattle.pgas_base.specs.Pointers.{Pointer, word_of}
use Rattle.epoch_laws.specs.declared.steps.Seen.TheVariants.{Nothing, Word}
use Rattle.epoch_laws.specs.declared.events.EpochEvent.TheVariants.{Held}
use Rattle.epoch_laws.specs.Places.{place_of, joined_by}
use Rattle.epoch_laws.specs.Seats.{Pinned}
use Rattle.epoch_laws.specs.States.{State, with_seat}
use Rattle.epoch_laws.specs.Needs.{Move, event, inside, pointer_inside, in_phase, not_reclaiming, has_count, is_shown, is_one_of, not_deferred}

-- loads a link that holds the pointer
unfoldable pub hold : State → ℕ → Pointer → Move
hold s c pointer = let seat = s.seat c in record {
  needs = inside c s.seats ∷ pointer_inside s pointer ∷ in_phase s c Pinned ∷ is_shown s pointer ∷ not_deferred s pointer
      ∷ record { number = 6; met = length seat.held < 4; word = 4 } ∷ [];
  outcome = record {
    next = with_seat s c (record seat { held = joined_by (place_of pointer) seat.held });
    seen = Word (word_of pointer);
    items = event c (Held seat.token pointer);
  };
}

-- any one step on a word of the row
unfoldable pub touch : State → ℕ → Pointer → Move
touch s c pointer = let seat = s.seat c in record {
  needs = inside c s.seats ∷ pointer_inside s pointer ∷ not_reclaiming s c ∷ has_count s pointer
      ∷ is_one_of s (place_of pointer) (seat.owned ++ seat.held) ∷ [];
  outcome = record { next = s; seen = Nothing; items = [] };
}
