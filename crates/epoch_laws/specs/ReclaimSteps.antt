-- The steps of a reclaim: elections, the scan, the advance and the release.
use Rattle.std.specs.Prelude.{◌≡◌, ◌≢◌, ◌<◌, ◌==◌, ◌||◌, ℕ, ◌+◌, ◌%◌, Bool, true, false, ltb, if◌then◌else◌, [], ◌∷◌, None}
use Rattle.pgas_base.specs.Pointers.{Pointer}
use Rattle.pool_core.specs.declared.headers.State.TheVariants.{Free, Worn}
use Rattle.epoch_laws.specs.declared.tokens.Token.{Token}
use Rattle.epoch_laws.specs.declared.steps.Seen.TheVariants.{Nothing, Word, Won, Lost}
use Rattle.epoch_laws.specs.declared.events.EpochEvent.TheVariants.{Freed}
use Rattle.epoch_laws.specs.declared.events.Item.TheVariants.{Advance, Claim, Leave}
use Rattle.epoch_laws.specs.Places.{place_of, place_in, without, with_number, with_place}
use Rattle.epoch_laws.specs.Seats.{Phase, Registered, WonLocal, LostGlobal, WonGlobal, Scanning, Stopped, Advanced, LeftGlobal, Reclaim}
use Rattle.epoch_laws.specs.States.{State, with_seat, with_words}
use Rattle.epoch_laws.specs.Needs.{Move, event, inside, pointer_inside, reclaims, has_count, is_one_of}
use Rattle.epoch_laws.specs.DeferralSteps.{with_list}

-- the epoch from which no advance is made
abbrev pub last_epoch : ℕ
last_epoch = 4611686018427387904

-- compares and exchanges its locale's election, 0 to 1
unfoldable pub elect_local : State → ℕ → Move
elect_local s c = let seat = s.seat c in let l = seat.token.locale in record {
  needs = inside c s.seats ∷ reclaims s c (seat.phase ≡ Registered) ∷ [];
  outcome =
      if s.words.election_of l == 0
      then record {
        next = with_words s (record s.words { election_of = with_number s.words.election_of l 1 }) c (record seat { phase = WonLocal });
        seen = Won;
        items = Claim c false ∷ [];
      }
      else record { next = s; seen = Lost (s.words.election_of l); items = [] };
}

-- compares and exchanges the global election, 0 to 1
unfoldable pub elect_global : State → ℕ → Move
elect_global s c = let seat = s.seat c in record {
  needs = inside c s.seats ∷ reclaims s c (seat.phase ≡ WonLocal) ∷ [];
  outcome =
      if s.words.election == 0
      then record {
        next = with_words s (record s.words { election = 1 }) c (record seat { phase = WonGlobal });
        seen = Won;
        items = Claim c true ∷ [];
      }
      else record { next = with_seat s c (record seat { phase = LostGlobal }); seen = Lost s.words.election; items = [] };
}

-- loads the global epoch
unfoldable pub epoch_look : State → ℕ → Move
epoch_look s c = let seat = s.seat c in let read = s.words.epoch in record {
  needs = inside c s.seats ∷ reclaims s c (seat.phase ≡ WonGlobal) ∷ [];
  outcome = record {
    next =
        with_seat s c
        (record seat {
          phase = if ltb read last_epoch then Scanning else Stopped;
          reclaim = record seat.reclaim { epoch = read; scan = record { locale = 0; number = 0 } };
        });
    seen = Word read;
    items = [];
  };
}

-- the token after this one
unfoldable pub token_after : ℕ → Token → Token
token_after tokens t = if ltb (t.number + 1) tokens then record { locale = t.locale; number = t.number + 1 } else record { locale = t.locale + 1; number = 0 }

-- the word doesn't stop the scan of a reclaim that read this epoch
abbrev pub passes : ℕ → ℕ → Bool
passes epoch word = (word == 0) || ((word == 1) || (word == epoch + 2))

-- loads the next token's word
unfoldable pub scan_token : State → ℕ → Move
scan_token s c = let seat = s.seat c in let reclaim = seat.reclaim in let read = s.words.token_word reclaim.scan in record {
  needs = inside c s.seats ∷ reclaims s c ((seat.phase ≡ Scanning) × (reclaim.scan.locale < s.shape.locales)) ∷ [];
  outcome = record {
    next =
        with_seat s c
        (if passes reclaim.epoch read
        then record seat { reclaim = record reclaim { scan = token_after s.shape.tokens reclaim.scan } }
        else record seat { phase = Stopped });
    seen = Word read;
    items = [];
  };
}

-- stores one more than the epoch that was read
unfoldable pub advance : State → ℕ → Move
advance s c = let seat = s.seat c in let epoch = seat.reclaim.epoch + 1 in record {
  needs = inside c s.seats ∷ reclaims s c ((seat.phase ≡ Scanning) × (seat.reclaim.scan.locale ≡ s.shape.locales)) ∷ [];
  outcome = record {
    next =
        with_words s (record s.words { epoch = epoch }) c
        (record seat { phase = Advanced; reclaim = record seat.reclaim { spread = 0; collected = 0; chain = 0; walked = [] } });
    seen = Nothing;
    items = Advance c epoch ∷ [];
  };
}

-- stores the new epoch as that of the next locale
unfoldable pub spread : State → ℕ → Move
spread s c = let seat = s.seat c in let reclaim = seat.reclaim in record {
  needs = inside c s.seats ∷ reclaims s c ((seat.phase ≡ Advanced) × (reclaim.spread < s.shape.locales)) ∷ [];
  outcome = record {
    next =
        with_words s (record s.words { epoch_of = with_number s.words.epoch_of reclaim.spread (reclaim.epoch + 1) }) c
        (record seat { reclaim = record reclaim { spread = reclaim.spread + 1 } });
    seen = Nothing;
    items = [];
  };
}

-- all epochs are spread, and what was collected so far is walked over and released
pub record IsBetweenLists (locales : ℕ) (reclaim : Reclaim) : Type 0 where
  pub spread : reclaim.spread ≡ locales
  pub chain : reclaim.chain ≡ 0
  pub walked : reclaim.walked ≡ []

-- exchanges the next locale's list whose objects may be released to empty
unfoldable pub collect : State → ℕ → Move
collect s c =
    let seat = s.seat c in let reclaim = seat.reclaim in let m = (reclaim.epoch + 2) % 4 in let read = s.words.list_head reclaim.collected m in record {
      needs = inside c s.seats
          ∷ reclaims s c ((seat.phase ≡ Advanced) × IsBetweenLists s.shape.locales reclaim × (reclaim.collected < s.shape.locales)) ∷ [];
      outcome = record {
        next =
            with_words s (record s.words { list_head = with_list s.words.list_head reclaim.collected m 0 }) c
            (record seat { reclaim = record reclaim { collected = reclaim.collected + 1; chain = read } });
        seen = Word read;
        items = [];
      };
    }

-- loads the next word of the current object
unfoldable pub walk : State → ℕ → Move
walk s c = let seat = s.seat c in let reclaim = seat.reclaim in let p = place_in reclaim.chain in let read = s.words.next p in record {
  needs = inside c s.seats ∷ reclaims s c ((seat.phase ≡ Advanced) × (reclaim.chain ≢ 0)) ∷ [];
  outcome = record {
    next = with_seat s c (record seat { reclaim = record reclaim { chain = read; walked = p ∷ reclaim.walked } });
    seen = Word read;
    items = [];
  };
}

-- the last count of an object
abbrev pub last_count : ℕ
last_count = 4294967295

-- stores the header one count higher and free, or worn with the last count
unfoldable pub release : State → ℕ → Pointer → Move
release s c pointer =
    let seat = s.seat c in let p = place_of pointer in let left = record seat.reclaim { walked = without p seat.reclaim.walked } in record {
      needs = inside c s.seats ∷ pointer_inside s pointer ∷ reclaims s c (seat.phase ≡ Advanced) ∷ has_count s pointer
          ∷ is_one_of s p seat.reclaim.walked ∷ [];
      outcome = record {
        next =
            if pointer.count == last_count
            then record s {
              words = record s.words { header = with_place s.words.header p (record { count = pointer.count; state = Worn }) };
              seat = with_number s.seat c (record seat { reclaim = left });
              tag = with_place s.tag p None;
            }
            else record s {
              words = record s.words { header = with_place s.words.header p (record { count = pointer.count + 1; state = Free }) };
              seat = with_number s.seat c (record seat { reclaim = left; hand = p ∷ seat.hand });
              tag = with_place s.tag p None;
            };
        seen = Nothing;
        items = event c (Freed pointer);
      };
    }

-- every list is collected and every object released
pub record IsDone (locales : ℕ) (reclaim : Reclaim) : Type 0 where
  pub between : IsBetweenLists locales reclaim
  pub collected : reclaim.collected ≡ locales

-- the seat may leave the election that it won last
abbrev pub MayLeave : ℕ → Phase → Reclaim → Type 0
MayLeave locales LostGlobal reclaim = Unit {0}
MayLeave locales Stopped reclaim = Unit {0}
MayLeave locales Advanced reclaim = IsDone locales reclaim
MayLeave locales LeftGlobal reclaim = Unit {0}
MayLeave locales _ reclaim = ⊥

-- the seat has won the global election and not left it
unfoldable pub has_global : Phase → Bool
has_global WonGlobal = true
has_global Scanning = true
has_global Stopped = true
has_global Advanced = true
has_global _ = false

-- stores 0 in the global election if it holds that, else in its local one
unfoldable pub leave : State → ℕ → Move
leave s c = let seat = s.seat c in record {
  needs = inside c s.seats ∷ reclaims s c (MayLeave s.shape.locales seat.phase seat.reclaim × (seat.hand ≡ [])) ∷ [];
  outcome =
      if has_global seat.phase
      then record {
        next = with_words s (record s.words { election = 0 }) c (record seat { phase = LeftGlobal });
        seen = Nothing;
        items = Leave c true ∷ [];
      }
      else record {
        next =
            with_words s (record s.words { election_of = with_number s.words.election_of seat.token.locale 0 }) c (record seat { phase = Registered });
        seen = Nothing;
        items = Leave c false ∷ [];
      };
}
