-- Callers of a script at work.
use Rattle.std.specs.Prelude.{◌≡◌, ◌⊎◌, ℕ, ◌+◌, ◌<◌, ◌≤◌, ◌^◌, List, [], ◌∷◌, ◌++◌, length, slice_index_or, All}
use Rattle.std.specs.Global.{Vec}
use mathlib.Core.List.{IsPrefix}
use Rattle.pass_book.specs.declared.entries.Entry.{Entry}
use Rattle.pass_book.specs.Pages.{Page, IsPage}
use Rattle.script_text.specs.declared.scripts.Call.{Call}
use Rattle.script_text.specs.declared.replies.Reply.{Reply}
use Rattle.script_engine.specs.declared.rounds.Worker.{Worker}
use Rattle.script_engine.specs.Replied.{Replied}
use Rattle.script_engine.specs.Rounds.{Makes}

-- The workers' passes are fit for calls such as theirs, and the numbers of their calls stay below 2^32.
abbrev pub AreReady : {Pass : Type 0} → (Pass → Type 0) → (Call → Type 0) → List (Worker Pass) → List (Vec Call) → Type 0
AreReady fits asks [] [] = Unit {0}
AreReady fits asks (worker ∷ workers) (calls ∷ rest) =
    fits worker.pass × All asks calls.items × (length worker.replies.items + length calls.items < 2 ^ 32) × AreReady fits asks workers rest
AreReady fits asks workers calls = ⊥

-- the workers' passes are fit
abbrev pub AreFit : {Pass : Type 0} → (Pass → Type 0) → List (Worker Pass) → Type 0
AreFit fits workers = All (λ worker. fits worker.pass) workers

-- their callers' lists are what they have seen of their own entries
abbrev pub AreOwn : {Pass Asked Told : Type 0} → (Pass → ℕ) → (Pass → Page Asked Told) → List (Worker Pass) → Type 0
AreOwn caller page workers = All (λ worker. IsPage (caller worker.pass) (page worker.pass)) workers

-- nobody has a call to make
abbrev pub AreIdle : List (Vec Call) → Type 0
AreIdle [] = Unit {0}
AreIdle (its ∷ calls) = (its.items ≡ []) × AreIdle calls

module _ {Pass Asked Told : Type 0} (fits : Pass → Type 0) (caller : Pass → ℕ) (page : Pass → Page Asked Told) (Says : ℕ → Call → Reply → List (Entry Asked Told) → List (Entry Asked Told) → Type 0) where
  -- the worker has made the calls, and added their replies to its own
  pub record Worked (old : Worker Pass) (calls : List Call) (new : Worker Pass) : Type 0 where
    pub fit : fits new.pass
    pub same : caller new.pass ≡ caller old.pass
    pub told : List Reply
    pub made : Replied (Makes Says (caller old.pass)) (page old.pass) calls told (page new.pass)
    pub replies : new.replies.items ≡ old.replies.items ++ told

  -- the same of each of them
  abbrev pub AllWorked : List (Worker Pass) → List (Vec Call) → List (Worker Pass) → Type 0
  AllWorked [] [] [] = Unit {0}
  AllWorked (old ∷ olds) (calls ∷ rest) (new ∷ news) = Worked old calls.items new × AllWorked olds rest news
  AllWorked olds calls news = ⊥

module _ {Pass Asked Told : Type 0} (fits : Pass → Type 0) (caller : Pass → ℕ) (page : Pass → Page Asked Told) where
  -- The worker's pass stands as it did, but for the words that it has read.
  pub record IsStill (old new : Worker Pass) : Type 0 where
    pub fit : fits new.pass
    pub same : caller new.pass ≡ caller old.pass
    pub unmoved : page new.pass ≡ page old.pass
    pub replies : new.replies ≡ old.replies

  -- the same of each of them
  abbrev pub AreStill : List (Worker Pass) → List (Worker Pass) → Type 0
  AreStill olds news = (length news ≡ length olds) × ((k : ℕ) (d : Worker Pass) → k < length olds → IsStill (slice_index_or olds k d) (slice_index_or news k d))

  -- A pass that took in what others have seen: its caller has seen that too, and its own entries are as they were.
  pub record HasLearnt (old new : Pass) : Type 0 where
    pub fit : fits new
    pub same : caller new ≡ caller old
    pub mine : (page new).mine ≡ (page old).mine
    pub begins : IsPrefix (page old).seen (page new).seen
    pub own : IsPage (caller old) (page new)

  -- the caller had no calls, or what it has seen is in this history
  abbrev pub HasTold : List Call → Pass → List (Entry Asked Told) → Type 0
  HasTold calls pass history = (calls ≡ []) ⊎ IsPrefix (page pass).seen history

  -- of the first callers each has told
  abbrev pub HaveTold : ℕ → List (Vec Call) → List (Worker Pass) → List (Entry Asked Told) → Type 0
  HaveTold count calls workers history =
      (k : ℕ) (its : Vec Call) (d : Worker Pass) → k < count → HasTold (slice_index_or calls k its).items (slice_index_or workers k d).pass history

  -- a worker that has been told of this history
  pub record IsTold (history : List (Entry Asked Told)) (old new : Worker Pass) : Type 0 where
    pub learnt : HasLearnt old.pass new.pass
    pub replies : new.replies ≡ old.replies
    pub begins : IsPrefix history (page new.pass).seen

  -- the first of these have been told, and the others stand as they did
  pub record AreTold (history : List (Entry Asked Told)) (count : ℕ) (olds news : List (Worker Pass)) : Type 0 where
    pub each : length news ≡ length olds
    pub told : (k : ℕ) (d : Worker Pass) → k < count → IsTold history (slice_index_or olds k d) (slice_index_or news k d)
    pub others : (k : ℕ) (d : Worker Pass) → count ≤ k → slice_index_or news k d ≡ slice_index_or olds k d

  -- the same of all of them
  abbrev pub AllTold : List (Entry Asked Told) → List (Worker Pass) → List (Worker Pass) → Type 0
  AllTold history olds news = (length news ≡ length olds) × ((k : ℕ) (d : Worker Pass) → k < length olds → IsTold history (slice_index_or olds k d) (slice_index_or news k d))

  -- The first caller has learnt of all that had calls, and then has told all others.
  pub record IsSpread (calls : List (Vec Call)) (first : Worker Pass) (others : List (Worker Pass)) (told : Worker Pass) (news : List (Worker Pass)) : Type 0 where
    pub learnt : HasLearnt first.pass told.pass
    pub replies : told.replies ≡ first.replies
    pub gathered : HaveTold (length others) calls others (page told.pass).seen
    pub spread : AllTold (page told.pass).seen others news

  abbrev pub AreSpread : List (Vec Call) → List (Worker Pass) → List (Worker Pass) → Type 0
  AreSpread (its ∷ calls) (first ∷ others) (told ∷ news) = IsSpread calls first others told news
  AreSpread calls olds news = ⊥

-- The crew has made the calls, and then its callers have told one another.
abbrev pub RunsOn : {Pass Asked Told : Type 0} → (Pass → Type 0) → (Pass → ℕ) → (Pass → Page Asked Told) → (ℕ → Call → Reply → List (Entry Asked Told) → List (Entry Asked Told) → Type 0)
    → List (Vec Call) → List (Worker Pass) → List (Worker Pass) → Type 0
RunsOn {Pass} fits caller page Says calls olds news = (mids : List (Worker Pass)) × AllWorked fits caller page Says olds calls mids × AreSpread fits caller page calls mids news
