-- The steps of a deferral.
use Rattle.std.specs.Prelude.{◌==◌, ◌&&◌, ℕ, ◌%◌, if◌then◌else◌, [], ◌∷◌, Some}
use Rattle.pgas_base.specs.Pointers.{Pointer, word_of}
use Rattle.epoch_laws.specs.declared.steps.Seen.TheVariants.{Nothing, Word}
use Rattle.epoch_laws.specs.declared.events.EpochEvent.TheVariants.{Deferred}
use Rattle.epoch_laws.specs.declared.events.Item.TheVariants.{Event}
use Rattle.epoch_laws.specs.Places.{place_of, with_number, with_place}
use Rattle.epoch_laws.specs.Seats.{Pinned, DeferLooked, DeferSwapped}
use Rattle.epoch_laws.specs.States.{State, with_words}
use Rattle.epoch_laws.specs.Needs.{Move, inside, pointer_inside, in_phase, is_shown, not_deferred}

-- the heads with another word at one list of one locale
unfoldable pub with_list : (ℕ → ℕ → ℕ) → ℕ → ℕ → ℕ → ℕ → ℕ → ℕ
with_list heads l m word k n = if (k == l) && (n == m) then word else heads k n

-- loads its locale's epoch, which is the tag
unfoldable pub defer_look : State → ℕ → Pointer → Move
defer_look s c pointer = let seat = s.seat c in let read = s.words.epoch_of seat.token.locale in record {
  needs = inside c s.seats ∷ pointer_inside s pointer ∷ in_phase s c Pinned ∷ is_shown s pointer ∷ not_deferred s pointer ∷ [];
  outcome = record {
    next = record s {
      seat = with_number s.seat c (record seat { phase = DeferLooked; deferral = record { pointer = pointer; tag = read; old = 0 } });
      tag = with_place s.tag (place_of pointer) (Some read);
    };
    seen = Word read;
    items = Event c (Deferred seat.token pointer) read ∷ [];
  };
}

-- exchanges the pointer into the list of its locale that the tag names
unfoldable pub defer_swap : State → ℕ → Move
defer_swap s c =
    let seat = s.seat c in let l = seat.token.locale in let m = seat.deferral.tag % 4 in let read = s.words.list_head l m in record {
      needs = inside c s.seats ∷ in_phase s c DeferLooked ∷ [];
      outcome = record {
        next =
            with_words s (record s.words { list_head = with_list s.words.list_head l m (word_of seat.deferral.pointer) }) c
            (record seat { phase = DeferSwapped; deferral = record seat.deferral { old = read } });
        seen = Word read;
        items = [];
      };
    }

-- stores the old head as the object's next word
unfoldable pub defer_link : State → ℕ → Move
defer_link s c = let seat = s.seat c in record {
  needs = inside c s.seats ∷ in_phase s c DeferSwapped ∷ [];
  outcome = record {
    next =
        with_words s (record s.words { next = with_place s.words.next (place_of seat.deferral.pointer) seat.deferral.old }) c
        (record seat { phase = Pinned });
    seen = Nothing;
    items = [];
  };
}
