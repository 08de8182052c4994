-- What a reclaim reads of the tokens.
use Rattle.std.specs.Prelude.{◌≡◌, ◌⊎◌, ◌<◌, ℕ, ◌*◌, ◌/◌, ◌%◌, true, false, List, [], ◌∷◌, ◌++◌, length, slice_get, Option, Some, None, Result, Ok, Err}
use Rattle.atomic_table.specs.Table.{Me}
use Rattle.pass_book.specs.declared.entries.Look.{Look}
use Rattle.pgas_base.specs.declared.shapes.Shape.{Shape}
use Rattle.epoch_laws.specs.declared.tokens.Token.{Token}
use Rattle.epoch_laws.specs.declared.events.Item.{Item}
use Rattle.epoch_laws.specs.declared.events.Item.TheVariants.{Claim, Leave, Advance as Advances}
use Rattle.epoch_laws.specs.ReclaimSteps.{last_epoch, passes}
use Rattle.epoch_laws.specs.Seats.{Phase, Registered, Advanced, Scanning, Stopped, LostGlobal, LeftGlobal}
use Rattle.epoch_laws.specs.Words.{WordName, global_epoch, global_election, local_election, token}
use Rattle.pass_table.specs.declared.views.View.{View}
use Rattle.pass_table.specs.Steps.{GoesTo, GoesAmongTo}
use Rattle.epoch_table.specs.declared.events.Happens.{Happens}
use Rattle.epoch_table.specs.declared.parts.Plan.{Plan}
use Rattle.epoch_table.specs.declared.parts.Part.{Part}
use Rattle.epoch_table.specs.Clients.{ClientTerms}
use Rattle.epoch_table.specs.Events.{PastOpens, PastSteps}
use Rattle.epoch_table.specs.Kinds.{entries_of_items}
use Rattle.epoch_table.specs.Rule.{manager_terms}
use Rattle.epoch_manager.specs.declared.faults.NotNow.{NotNow}
use Rattle.epoch_manager.specs.declared.faults.NotNow.TheVariants.{LocalBusy, GlobalBusy, EpochsSpent, Held}
use Rattle.epoch_manager.specs.declared.reclaims.Stop.{Stop}
use Rattle.epoch_manager.specs.Tokens.{token_read}

-- the token with this number among those of all locales, by rising locale and then rising number
abbrev pub nth_token : ℕ → ℕ → Token
nth_token tokens k = record { locale = k / tokens; number = k % tokens }

-- so many of them were each read as a word that doesn't stop a reclaim of this epoch
pub record ArePassed (tokens epoch many : ℕ) (words : List (Look WordName)) : Type 0 where
  pub count : length words ≡ many
  pub each : (k : ℕ) (look : Look WordName) → slice_get words k ≡ Some look → (look.name ≡ token (nth_token tokens k)) × (passes epoch look.word ≡ true)

-- the token with this number was read as a word that stops it, and all before it were passed
pub record IsStopped (tokens epoch k word : ℕ) (words : List (Look WordName)) : Type 0 where
  pub before : List (Look WordName)
  pub passed : ArePassed tokens epoch k before
  pub read : words ≡ before ++ token_read (nth_token tokens k) word ∷ []
  pub stops : passes epoch word ≡ false

-- it scans, with this epoch, and has scanned no token
pub record IsScanning {View' : Type 0} (tokens epoch : ℕ) (part : Part View') : Type 0 where
  pub phase : part.seat.phase ≡ Scanning
  pub read : part.seat.reclaim.epoch ≡ epoch
  pub first : part.seat.reclaim.scan ≡ nth_token tokens 0

-- so many tokens were scanned
abbrev pub scanned : {View' : Type 0} → ℕ → ℕ → Part View' → Part View'
scanned tokens k part = record part { seat = record part.seat { reclaim = record part.seat.reclaim { scan = nth_token tokens k } } }

-- the global epoch was read as this
abbrev pub epoch_read : ℕ → Look WordName
epoch_read epoch = record { name = global_epoch; word = epoch }

-- it was read, and no token was scanned yet
abbrev pub looking : {View' : Type 0} → ℕ → Part View' → Part View'
looking epoch part = record part { seat = record part.seat { phase = Scanning; reclaim = record part.seat.reclaim { epoch = epoch; scan = record { locale = 0; number = 0 } } } }

-- a reclaim that has come so far
abbrev pub reclaimed_to : {View' : Type 0} → Phase → ℕ → Token → Part View' → Part View'
reclaimed_to phase epoch scan part = record part { seat = record part.seat { phase = phase; reclaim = record part.seat.reclaim { epoch = epoch; scan = scan } } }

-- the global election was read as this
abbrev pub global_read : ℕ → Look WordName
global_read word = record { name = global_election; word = word }

-- these words refuse it by the epoch, or by a token
abbrev pub IsRefusedBy : Shape → NotNow → List (Look WordName) → Type 0
IsRefusedBy shape EpochsSpent words = words ≡ epoch_read last_epoch ∷ []
IsRefusedBy shape (Held locale number word) words =
    (epoch : ℕ) × (epoch < last_epoch) × ((k : ℕ) × (k < shape.locales * shape.tokens) × (record { locale = locale; number = number } ≡ nth_token shape.tokens k)
    × ((rest : List (Look WordName)) × (words ≡ epoch_read epoch ∷ rest) × IsStopped shape.tokens epoch k word rest))
IsRefusedBy shape LocalBusy words = ⊥
IsRefusedBy shape GlobalBusy words = ⊥

-- the same, or that of the global election, and what is listed
abbrev pub IsRefusedGlobally : Shape → ℕ → NotNow → List (Look WordName) → List Item → Type 0
IsRefusedGlobally shape c GlobalBusy words items = (words ≡ global_read 1 ∷ []) × (items ≡ [])
IsRefusedGlobally shape c fault words items = (rest : List (Look WordName)) × IsRefusedBy shape fault rest × (words ≡ global_read 0 ∷ rest) × (items ≡ Claim c true ∷ Leave c true ∷ [])

abbrev pub stopped : {View' : Type 0} → Part View' → Part View'
stopped part = record part { seat = record part.seat { phase = Stopped } }

-- it has scanned all tokens, with this epoch
pub record HasScanned {View' : Type 0} (locales epoch : ℕ) (part : Part View') : Type 0 where
  pub phase : part.seat.phase ≡ Scanning
  pub read : part.seat.reclaim.epoch ≡ epoch
  pub all : part.seat.reclaim.scan.locale ≡ locales

-- the epoch is advanced, and spread to so many locales
abbrev pub advanced : {View' : Type 0} → ℕ → Part View' → Part View'
advanced spread part = record part { seat = record part.seat { phase = Advanced; reclaim = record part.seat.reclaim { spread = spread; collected = 0; chain = 0; walked = [] } } }

-- the election of a locale was read as this
abbrev pub local_read : ℕ → ℕ → Look WordName
local_read locale word = record { name = local_election locale; word = word }

-- the words and items of a refused reclaim of this locale
abbrev pub IsRefused : Shape → ℕ → ℕ → NotNow → List (Look WordName) → List Item → Type 0
IsRefused shape c locale LocalBusy words items = (words ≡ local_read locale 1 ∷ []) × (items ≡ [])
IsRefused shape c locale fault words items =
    (rest : List (Look WordName)) × (between : List Item) × IsRefusedGlobally shape c fault rest between × (words ≡ local_read locale 0 ∷ rest) × (items ≡ Claim c false ∷ (between ++ Leave c false ∷ []))

module _ {C View' Call Reply State' : Type 0} (K : ClientTerms C View' Call Reply State') (opens : State' → Type 0) (step : State' → Call → Reply → State' → Type 0) (plan : Plan C) where
  -- what a scan does to its caller's seat
  abbrev pub Scans : ℕ → Me (Unit {0}) (View (Happens Call Reply) (Unit {0}) (Plan C) (Part View') WordName) → Me (Unit {0}) (View (Happens Call Reply) (Unit {0}) (Plan C) (Part View') WordName) → Option Stop → Type 0
  Scans epoch m n None =
      let tokens = plan.shape.tokens in let all = plan.shape.locales * tokens in
      (words : List (Look WordName)) × ArePassed tokens epoch all words × GoesTo (manager_terms K) (PastOpens opens) (PastSteps step) plan m n words [] (scanned tokens all m.0.part) m.1
  Scans epoch m n (Some stop) =
      let tokens = plan.shape.tokens in
      (k : ℕ) × (k < plan.shape.locales * tokens) × (stop.token ≡ nth_token tokens k) × ((words : List (Look WordName)) × IsStopped tokens epoch k stop.word words
      × GoesTo (manager_terms K) (PastOpens opens) (PastSteps step) plan m n words [] (stopped (scanned tokens k m.0.part)) m.1)

  -- what a look at the epoch and a scan of the tokens do to it
  abbrev pub LooksAndScans : Me (Unit {0}) (View (Happens Call Reply) (Unit {0}) (Plan C) (Part View') WordName) → Me (Unit {0}) (View (Happens Call Reply) (Unit {0}) (Plan C) (Part View') WordName) → Result ℕ NotNow → Type 0
  LooksAndScans m n (Ok epoch) =
      let tokens = plan.shape.tokens in
      let all = plan.shape.locales * tokens in
      (epoch < last_epoch) × ((words : List (Look WordName)) × ArePassed tokens epoch all words
      × GoesTo (manager_terms K) (PastOpens opens) (PastSteps step) plan m n (epoch_read epoch ∷ words) [] (scanned tokens all (looking epoch m.0.part)) m.1)
  LooksAndScans m n (Err fault) =
      (words : List (Look WordName)) × IsRefusedBy plan.shape fault words
      × ((epoch : ℕ) × (scan : Token) × GoesTo (manager_terms K) (PastOpens opens) (PastSteps step) plan m n words [] (reclaimed_to Stopped epoch scan m.0.part) m.1)

  -- what the global election, a look at the epoch and a scan of the tokens do to it
  abbrev pub EntersGlobally : Me (Unit {0}) (View (Happens Call Reply) (Unit {0}) (Plan C) (Part View') WordName) → Me (Unit {0}) (View (Happens Call Reply) (Unit {0}) (Plan C) (Part View') WordName) → Result ℕ NotNow → Type 0
  EntersGlobally m n (Ok epoch) =
      let tokens = plan.shape.tokens in
      let all = plan.shape.locales * tokens in
      (epoch < last_epoch) × ((words : List (Look WordName)) × ArePassed tokens epoch all words
      × GoesAmongTo (manager_terms K) (PastOpens opens) (PastSteps step) plan m n (global_read 0 ∷ epoch_read epoch ∷ words) (entries_of_items m.0.number (Claim m.0.number true ∷ [])) (scanned tokens all (looking epoch m.0.part)) m.1)
  EntersGlobally m n (Err fault) =
      (words : List (Look WordName)) × (items : List Item) × IsRefusedGlobally plan.shape m.0.number fault words items
      × ((phase : Phase) × (epoch : ℕ) × (scan : Token) × ((phase ≡ LostGlobal) ⊎ (phase ≡ LeftGlobal))
      × GoesAmongTo (manager_terms K) (PastOpens opens) (PastSteps step) plan m n words (entries_of_items m.0.number items) (reclaimed_to phase epoch scan m.0.part) m.1)

  -- what both elections, a look at the epoch and a scan of the tokens do to it
  abbrev pub EntersReclaim : Me (Unit {0}) (View (Happens Call Reply) (Unit {0}) (Plan C) (Part View') WordName) → Me (Unit {0}) (View (Happens Call Reply) (Unit {0}) (Plan C) (Part View') WordName) → Result ℕ NotNow → Type 0
  EntersReclaim m n (Ok epoch) =
      let tokens = plan.shape.tokens in
      let all = plan.shape.locales * tokens in
      (epoch < last_epoch) × ((words : List (Look WordName)) × ArePassed tokens epoch all words
      × GoesAmongTo (manager_terms K) (PastOpens opens) (PastSteps step) plan m n (local_read m.0.part.seat.token.locale 0 ∷ global_read 0 ∷ epoch_read epoch ∷ words)
      (entries_of_items m.0.number (Claim m.0.number false ∷ Claim m.0.number true ∷ [])) (scanned tokens all (looking epoch m.0.part)) m.1)
  EntersReclaim m n (Err fault) =
      (words : List (Look WordName)) × (items : List Item) × IsRefused plan.shape m.0.number m.0.part.seat.token.locale fault words items
      × ((epoch : ℕ) × (scan : Token) × GoesAmongTo (manager_terms K) (PastOpens opens) (PastSteps step) plan m n words (entries_of_items m.0.number items) (reclaimed_to Registered epoch scan m.0.part) m.1)

  -- what an advance to this epoch and its spread to so many locales do to it
  abbrev pub AdvancesTo : ℕ → ℕ → Me (Unit {0}) (View (Happens Call Reply) (Unit {0}) (Plan C) (Part View') WordName) → Me (Unit {0}) (View (Happens Call Reply) (Unit {0}) (Plan C) (Part View') WordName) → Type 0
  AdvancesTo epoch spread m n =
      GoesAmongTo (manager_terms K) (PastOpens opens) (PastSteps step) plan m n [] (entries_of_items m.0.number (Advances m.0.number epoch ∷ [])) (advanced spread m.0.part) m.1
