-- The steps on tokens.
use Rattle.std.specs.Prelude.{◌==◌, ℕ, ◌+◌, if◌then◌else◌, [], ◌∷◌}
use Rattle.epoch_laws.specs.declared.tokens.Token.{Token}
use Rattle.epoch_laws.specs.declared.steps.Seen.TheVariants.{Nothing, Word, Won, Lost}
use Rattle.epoch_laws.specs.declared.events.EpochEvent.TheVariants.{Registered as IsRegistered, Unregistered, Pinned as IsPinned, Unpinned}
use Rattle.epoch_laws.specs.declared.events.Item.TheVariants.{Event}
use Rattle.epoch_laws.specs.Places.{with_number, with_token}
use Rattle.epoch_laws.specs.Seats.{Idle, Registered, PinLooked, Pinned}
use Rattle.epoch_laws.specs.States.{State, with_seat, with_words}
use Rattle.epoch_laws.specs.Needs.{Move, event, inside, in_phase}

-- compares and exchanges the token, 0 to 1
unfoldable pub register : State → ℕ → Token → Move
register s c t = record {
  needs = inside c s.seats ∷ inside t.locale s.shape.locales ∷ inside t.number s.shape.tokens ∷ in_phase s c Idle ∷ [];
  outcome =
      if s.words.token_word t == 0
      then record {
        next =
            with_words s (record s.words { token_word = with_token s.words.token_word t 1 }) c (record (s.seat c) { phase = Registered; token = t });
        seen = Won;
        items = event c (IsRegistered t);
      }
      else record { next = s; seen = Lost (s.words.token_word t); items = [] };
}

-- stores 0 in its token
unfoldable pub unregister : State → ℕ → Move
unregister s c = let seat = s.seat c in record {
  needs = inside c s.seats ∷ in_phase s c Registered ∷ [];
  outcome = record {
    next = with_words s (record s.words { token_word = with_token s.words.token_word seat.token 0 }) c (record seat { phase = Idle });
    seen = Nothing;
    items = event c (Unregistered seat.token);
  };
}

-- loads its locale's epoch
unfoldable pub pin_look : State → ℕ → Move
pin_look s c = let seat = s.seat c in let read = s.words.epoch_of seat.token.locale in record {
  needs = inside c s.seats ∷ in_phase s c Registered ∷ [];
  outcome = record { next = with_seat s c (record seat { phase = PinLooked; announced = read }); seen = Word read; items = [] };
}

-- stores two more than the epoch in its token
unfoldable pub pin_set : State → ℕ → Move
pin_set s c = let seat = s.seat c in record {
  needs = inside c s.seats ∷ in_phase s c PinLooked ∷ [];
  outcome = record {
    next = record s {
      words = record s.words { token_word = with_token s.words.token_word seat.token (seat.announced + 2) };
      seat = with_number s.seat c (record seat { phase = Pinned });
      born = with_token s.born seat.token s.words.epoch;
    };
    seen = Nothing;
    items = Event c (IsPinned seat.token) seat.announced ∷ [];
  };
}

-- stores 1 in its token, and all holds end
unfoldable pub unpin : State → ℕ → Move
unpin s c = let seat = s.seat c in record {
  needs = inside c s.seats ∷ in_phase s c Pinned ∷ [];
  outcome = record {
    next =
        with_words s (record s.words { token_word = with_token s.words.token_word seat.token 1 }) c (record seat { phase = Registered; held = [] });
    seen = Nothing;
    items = event c (Unpinned seat.token);
  };
}
