-- The rule of a manager's table: there is a run of the machine whose last state the words show, word by word; each pass has a seat of it; its items are those of
-- the history; and the client's rule holds of the rest.
use Rattle.std.specs.Prelude.{◌≡◌, ◌⊎◌, ℕ, ◌+◌, ◌<◌, ◌≤◌, ◌&&◌, Bool, true, false, ltb, if◌then◌else◌, List, [], ◌∷◌, length, slice_index}
use Rattle.pass_book.specs.declared.entries.Entry.{Entry}
use Rattle.pgas_base.specs.declared.shapes.Shape.{Shape}
use Rattle.pgas_base.specs.Shapes.{IsShape}
use Rattle.pgas_base.specs.Starts.{IsStart}
use Rattle.epoch_laws.specs.declared.steps.Step.{Step}
use Rattle.epoch_laws.specs.Places.{Place}
use Rattle.epoch_laws.specs.Words.{Words, WordName, global_epoch, global_election, local_epoch, local_election, token, header_of, word_at}
use Rattle.epoch_laws.specs.Seats.{Phase, Idle, Registered, Pinned, Scanning, Advanced, is_reclaiming}
use Rattle.epoch_laws.specs.ReclaimSteps.{last_epoch}
use Rattle.epoch_laws.specs.States.{State, opening, opening_seat}
use Rattle.epoch_laws.specs.Runs.{IsRun, state_after, items_of}
use Rattle.epoch_laws.specs.Items.{epoch_of}
use Rattle.epoch_laws.specs.Accounts.{account}
use Rattle.pool_core.specs.Headers.{header_word}
use Rattle.pgas_base.specs.declared.starts.Start.{Start}
use Rattle.pass_table.specs.Terms.{Terms, Moment}
use Rattle.epoch_table.specs.declared.events.Happens.{Happens}
use Rattle.epoch_table.specs.declared.events.Happens.TheVariants.{Lists, Enters}
use Rattle.epoch_table.specs.declared.events.Past.{Past}
use Rattle.epoch_table.specs.declared.parts.Plan.{Plan}
use Rattle.epoch_table.specs.declared.parts.Part.{Part}
use Rattle.epoch_table.specs.Facts.{no_facts, AreFacts}
use Rattle.epoch_table.specs.Layout.{InRow, OfClient, place, named_place, table_words, IsNamed}
use Rattle.epoch_table.specs.Events.{HasNoReturn, seat_of, items_in, entries_in}
use Rattle.epoch_table.specs.Heads.{winners, givens}
use Rattle.epoch_table.specs.Clients.{ClientTerms, Scene, thing_of, deferrals_in}

-- the words of the table show those of the machine
abbrev pub AreShown : Shape → List ℕ → Words → Type 0
AreShown shape table words = (name : WordName) → IsNamed shape name → slice_index table (named_place shape name) ≡ word_at words name

-- the heads of the stacks, and those that the seats have read, have indexes that fit into their words
pub record AreSmall (s : State) : Type 0 where
  pub heads : (l : ℕ) → (s.words.free_head l).index < 16777216
  pub looks : (c : ℕ) → (s.seat c).stack.head.index < 16777216

-- a seat that scans or has advanced read an epoch below the last
abbrev pub IsLowAt : Phase → ℕ → Type 0
IsLowAt Scanning epoch = epoch < last_epoch
IsLowAt Advanced epoch = epoch < last_epoch
IsLowAt phase epoch = Unit {0}

-- no epoch is above the last
pub record AreLow (s : State) : Type 0 where
  pub epoch : s.words.epoch ≤ last_epoch
  pub epochs : (l : ℕ) → s.words.epoch_of l ≤ last_epoch
  pub announced : (c : ℕ) → (s.seat c).announced ≤ last_epoch
  pub scans : (c : ℕ) → IsLowAt (s.seat c).phase (s.seat c).reclaim.epoch

-- the row of an object has such a word
abbrev pub is_in_row : Shape → Place → ℕ → Bool
is_in_row shape p at = ltb p.locale shape.locales && (ltb 0 p.index && (ltb p.index (shape.objects + 1) && ltb at shape.width))

-- a word of a row, and 0 where there is none
abbrev pub row_word : Shape → List ℕ → Place → ℕ → ℕ
row_word shape table p at = if is_in_row shape p at then slice_index table (place shape (InRow p at)) else 0

-- a pass is between two calls
abbrev pub is_between : Phase → Bool
is_between Idle = true
is_between Registered = true
is_between Pinned = true
is_between phase = false

module _ {Call Reply : Type 0} where
  -- each item is of the seat of its caller
  abbrev pub AreOwn : List (Entry (Happens Call Reply) (Unit {0})) → Type 0
  AreOwn [] = Unit {0}
  AreOwn (e ∷ h) = elim (e.call) [ Lists item ↦ (seat_of item ≡ e.caller) × AreOwn h | Enters call reply ↦ AreOwn h ]

  -- What a word of the machine shows of the history at that moment: the global epoch is the history's, a locale's is that too, or one less while the global
  -- election is won, and the words of tokens and elections and the headers are what its items say
  abbrev pub Shows : Start → List (Entry (Happens Call Reply) (Unit {0})) → WordName → ℕ → Type 0
  Shows start h global_epoch word = word ≡ epoch_of start.epoch (items_in h)
  Shows start h (local_epoch l) word =
      let epoch = epoch_of start.epoch (items_in h) in (word ≡ epoch) ⊎ ((word + 1 ≡ epoch) × ((account start.count (items_in h)).election ≡ 1))
  Shows start h global_election word = word ≡ (account start.count (items_in h)).election
  Shows start h (local_election l) word = word ≡ (account start.count (items_in h)).election_of l
  Shows start h (token t) word = word ≡ (account start.count (items_in h)).token_word t
  Shows start h (header_of p) word = let header = (account start.count (items_in h)).header p in word ≡ header_word header.count header.state
  Shows start h name word = Unit {0}

module _ {View Call Reply : Type 0} where
  -- all that the client's rule may speak of, at one moment
  abbrev pub scene_of : Shape → List ℕ → State → List (Entry (Happens Call Reply) (Unit {0})) → (ℕ → View) → Scene View Call Reply
  scene_of shape table s h views = record {
    words = λ w. slice_index table (place shape (OfClient w));
    entries = entries_in h;
    views = views;
    deferrals = deferrals_in (items_in h);
    things = λ p. thing_of (s.words.header p) (s.tag p) (row_word shape table p);
    owned = λ c. (s.seat c).owned;
  }

module _ {Self View Call Reply State' : Type 0} (K : ClientTerms Self View Call Reply State') where
  pub record ManagerRule (plan : Plan Self) (m : Moment (Unit {0}) (Happens Call Reply) (Unit {0}) (Part View)) : Type 0 where
    pub is_shape : IsShape plan.shape
    pub is_start : IsStart plan.start
    pub count : plan.start.count < 4294967296
    pub steps : List Step
    pub run : IsRun plan.shape plan.start plan.callers steps
    pub listed : items_in m.history ≡ items_of (opening plan.shape plan.start plan.callers) steps
    pub own : AreOwn m.history
    pub owns : plan.own ≡ K.own plan.client
    pub wide : length m.words ≡ table_words plan.shape plan.own
    pub shown : AreShown plan.shape m.words (state_after (opening plan.shape plan.start plan.callers) steps).words
    pub seats : (c : ℕ) → (m.parts c).seat ≡ (state_after (opening plan.shape plan.start plan.callers) steps).seat c
    -- what each pass knows of the objects that it has is so
    pub facts : (c : ℕ) → AreFacts (state_after (opening plan.shape plan.start plan.callers) steps).words ((m.parts c).seat) ((m.parts c).facts)
    -- a stack's head has changed once for each object given, or is owed by a seat that has won since its last take
    pub heads : (l : ℕ) → ((state_after (opening plan.shape plan.start plan.callers) steps).words.free_head l).count
        ≤ plan.start.stack + givens (items_in m.history) + winners plan.callers (λ c. (m.parts c).won)
    pub small : AreSmall (state_after (opening plan.shape plan.start plan.callers) steps)
    pub low : AreLow (state_after (opening plan.shape plan.start plan.callers) steps)
    -- where the client allows no give-back there is none
    pub returns : (K.gives_back → ⊥) → HasNoReturn (items_in m.history)
    -- only a pass to which the client allows it reclaims
    pub reclaims : (c : ℕ) → is_reclaiming ((m.parts c).seat).phase ≡ true → K.may_reclaim (m.parts c).client ((m.parts c).seat).owned
    pub client : K.holds plan.client plan.shape (scene_of plan.shape m.words (state_after (opening plan.shape plan.start plan.callers) steps) m.history (λ c. (m.parts c).client))

  -- what a manager brings to its table
  abbrev pub manager_terms : Terms (Unit {0}) (Happens Call Reply) (Unit {0}) (Past State') (Plan Self) (Part View) WordName
  manager_terms = record {
    start = λ plan. record { epoch = plan.start.epoch; count = plan.start.count; items = []; object = K.start plan.client };
    callers = λ plan. plan.callers;
    first = record { seat = opening_seat; facts = no_facts; won = false; client = K.first };
    rests = λ part. is_between part.seat.phase;
    first_word = global_epoch;
    size = λ n. n;
    shows = λ plan h name word. Shows plan.start h name word;
    holds = ManagerRule;
  }
