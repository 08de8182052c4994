-- What the steps of a take do to its caller's seat.
use Rattle.std.specs.Prelude.{◌≡◌, ◌≢◌, ◌⊎◌, ◌<◌, ◌≤◌, ℕ, Bool, true, false, is_some, Contains, List, [], ◌∷◌, ◌++◌, length, map, Option, Some, None}
use Rattle.atomic_table.specs.Table.{Me}
use Rattle.pass_book.specs.declared.entries.Look.{Look}
use Rattle.pgas_base.specs.declared.shapes.Shape.{Shape}
use Rattle.pgas_base.specs.Pointers.{Pointer, IsPointer, word_of}
use Rattle.pool_core.specs.Headers.{header_word}
use Rattle.pool_core.specs.declared.headers.State.TheVariants.{Free}
use Rattle.epoch_laws.specs.declared.events.EpochEvent.TheVariants.{Given}
use Rattle.epoch_laws.specs.ChainWords.{IsChainWord}
use Rattle.epoch_laws.specs.Locations.{IsDistinct}
use Rattle.epoch_laws.specs.Needs.{event}
use Rattle.epoch_laws.specs.Places.{Place, place_of, place_in, pending, is_among}
use Rattle.epoch_laws.specs.Seats.{is_reclaiming}
use Rattle.epoch_laws.specs.States.{IsPlace}
use Rattle.epoch_laws.specs.Words.{WordName}
use Rattle.pass_table.specs.declared.views.View.{View}
use Rattle.pass_table.specs.Steps.{GoesTo}
use Rattle.epoch_table.specs.declared.events.Happens.{Happens}
use Rattle.epoch_table.specs.declared.parts.Plan.{Plan}
use Rattle.epoch_table.specs.declared.parts.Part.{Part}
use Rattle.epoch_table.specs.Clients.{ClientTerms, Takes}
use Rattle.epoch_table.specs.Events.{PastOpens, PastSteps}
use Rattle.epoch_table.specs.Facts.{Facts, count_of, next_word_of}
use Rattle.epoch_table.specs.Kinds.{entries_of_items}
use Rattle.epoch_table.specs.Rule.{manager_terms}
use Rattle.epoch_manager.specs.declared.gets.Get.{Get}
use Rattle.epoch_manager.specs.declared.gets.Get.TheVariants.{Got, Empty, Spent}
use Rattle.epoch_manager.specs.declared.gets.Tried.{Tried}
use Rattle.epoch_manager.specs.declared.gets.Tried.TheVariants.{Taken, Missed}
use Rattle.epoch_manager.specs.Takes.{last_header, last_head, is_spent, IsTakenHeader, IsFreeHeader, CanSpend}
use Rattle.epoch_manager.specs.Tours.{AreOf, IsTour, IsGot}

-- the pass owns or holds the object
abbrev pub Has : {View' : Type 0} → Part View' → Place → Type 0
Has part p = (is_among p part.seat.owned ≡ true) ⊎ (is_among p part.seat.held ≡ true)

-- it knows the count of each
abbrev pub IsKnowing : {View' : Type 0} → Part View' → Type 0
IsKnowing part = (p : Place) → Has part p → (n : ℕ) × (count_of part.facts p ≡ Some n)

-- what the pass owns, holds and knows of it and of the client is as it was
pub record IsSameFor {View' : Type 0} (old new : Part View') : Type 0 where
  pub phase : new.seat.phase ≡ old.seat.phase
  pub token : new.seat.token ≡ old.seat.token
  pub owned : new.seat.owned ≡ old.seat.owned
  pub held : new.seat.held ≡ old.seat.held
  pub reclaim : new.seat.reclaim ≡ old.seat.reclaim
  pub client : new.client ≡ old.client
  pub counts : (p : Place) → Has old p → count_of new.facts p ≡ count_of old.facts p

-- nothing is in the hand or on its way home, and no exchange of a stack's head was won
pub record IsEmptyHanded {View' : Type 0} (part : Part View') : Type 0 where
  pub hand : part.seat.hand ≡ []
  pub tail : part.seat.homing.tail ≡ None
  pub chain : part.seat.homing.chain ≡ 0
  pub won : part.won ≡ false

-- one object of the shape is in the hand, which the pass neither owns nor holds
pub record HasOne {View' : Type 0} (shape : Shape) (part : Part View') (p : Place) : Type 0 where
  pub hand : part.seat.hand ≡ p ∷ []
  pub tail : part.seat.homing.tail ≡ None
  pub chain : part.seat.homing.chain ≡ 0
  pub inside : IsPlace shape p
  pub others : Has part p → ⊥

-- ---- chains of the hand

abbrev pub places : List Pointer → List Place
places pointers = map place_of pointers

-- each next word is that of the pointer to the next object, and the last one's is this
abbrev pub AreLinked : Facts → Pointer → List Pointer → ℕ → Type 0
AreLinked facts q [] word = next_word_of facts (place_of q) ≡ Some word
AreLinked facts q (r ∷ rest) word = (next_word_of facts (place_of q) ≡ Some (word_of r)) × AreLinked facts r rest word

-- each is an object of the locale whose count is known
pub record IsOfChain (shape : Shape) (facts : Facts) (locale : ℕ) (q : Pointer) : Type 0 where
  pub local : q.locale ≡ locale
  pub pointer : IsPointer q
  pub inside : IsPlace shape (place_of q)
  pub count : count_of facts (place_of q) ≡ Some q.count

abbrev pub AreOfChain : Shape → Facts → ℕ → List Pointer → Type 0
AreOfChain shape facts locale [] = Unit {0}
AreOfChain shape facts locale (q ∷ rest) = IsOfChain shape facts locale q × AreOfChain shape facts locale rest

-- the last of these, or this one where there is none
abbrev pub last_of : Pointer → List Pointer → Pointer
last_of q [] = q
last_of q (r ∷ rest) = last_of r rest

-- The hand has just the first object and the rest of a chain of the locale, linked one to the next, which the pass neither owns nor holds
pub record IsChained {View' : Type 0} (shape : Shape) (part : Part View') (locale : ℕ) (first : Pointer) (rest : List Pointer) (word : ℕ) : Type 0 where
  pub back : List Place
  pub hand : part.seat.hand ≡ back ++ place_of first ∷ []
  pub count : length back ≡ length rest
  pub only : (p : Place) → is_among p back ≡ true → is_among p (places rest) ≡ true
  pub all : (p : Place) → is_among p (places rest) ≡ true → is_among p back ≡ true
  pub distinct : IsDistinct (places (first ∷ rest))
  pub linked : AreLinked part.facts first rest word
  pub each : AreOfChain shape part.facts locale (first ∷ rest)
  pub others : (p : Place) → is_among p (places (first ∷ rest)) ≡ true → Has part p → ⊥
  pub tail : part.seat.homing.tail ≡ None
  pub won : part.won ≡ false

-- The hand has just a chain from the one object to the other, and no chain is taken
pub record HoldsChain {View' : Type 0} (shape : Shape) (part : Part View') (first tail : Pointer) : Type 0 where
  pub rest : List Pointer
  pub word : ℕ
  pub chained : IsChained shape part first.locale first rest word
  pub chain : part.seat.homing.chain ≡ 0
  pub last : tail ≡ last_of first rest

-- The same of a chain of an object and a rest from the top to the tail
pub record HoldsRest {View' : Type 0} (shape : Shape) (part : Part View') (first top tail : Pointer) : Type 0 where
  pub rest : List Pointer
  pub word : ℕ
  pub chained : IsChained shape part first.locale first (top ∷ rest) word
  pub chain : part.seat.homing.chain ≡ 0
  pub last : tail ≡ last_of top rest

module _ {C View' Call Reply State' : Type 0} (K : ClientTerms C View' Call Reply State') (opens : State' → Type 0) (step : State' → Call → Reply → State' → Type 0) (plan : Plan C) where
  abbrev pub SeatOf : Type 0
  SeatOf = Me (Unit {0}) (View (Happens Call Reply) (Unit {0}) (Plan C) (Part View') WordName)

  -- no step yet, or steps that read these words and made no entry
  pub record Under (m n : SeatOf) (looks : List (Look WordName)) : Type 0 where
    pub so : ((n ≡ m) × (looks ≡ [])) ⊎ GoesTo (manager_terms K) (PastOpens opens) (PastSteps step) plan m n looks [] n.0.part m.1
    pub same : IsSameFor m.0.part n.0.part

  -- they read words of this locale alone, no header, and the head of its stack last as this
  pub record Reads (locale : ℕ) (m n : SeatOf) (head : Option ℕ) : Type 0 where
    pub looks : List (Look WordName)
    pub under : Under m n looks
    pub local : AreOf locale looks
    pub unheaded : (p : Place) → last_header looks p ≡ None
    pub head_so : last_head looks locale ≡ head

  -- what getting an object of a locale into the hand comes to, where the head of its stack was read last as this
  abbrev pub GetsBy : Option ℕ → ℕ → SeatOf → SeatOf → Get → Type 0
  GetsBy head locale m n (Got index) = Reads locale m n head × HasOne plan.shape n.0.part (record { locale = locale; index = index }) × (is_spent head ≡ false)
  GetsBy head locale m n Empty = Reads locale m n head × IsEmptyHanded n.0.part × (is_spent head ≡ false)
  GetsBy head locale m n Spent = Reads locale m n head × IsEmptyHanded n.0.part × (is_spent head ≡ true) × CanSpend plan n.0.seen

  abbrev pub Gets : ℕ → SeatOf → SeatOf → Get → Type 0
  Gets locale m n result = (head : Option ℕ) × GetsBy head locale m n result

  -- the same, where the head was read
  abbrev pub GetsHead : ℕ → SeatOf → SeatOf → Get → Type 0
  GetsHead locale m n result = (head : Option ℕ) × (is_some head ≡ true) × GetsBy head locale m n result

  -- the headers of the locale's first objects were read, and one said free, or none did
  pub record Scans (locale number : ℕ) (m n : SeatOf) (free : Bool) : Type 0 where
    pub looks : List (Look WordName)
    pub under : Under m n looks
    pub rests : IsEmptyHanded n.0.part
    pub local : AreOf locale looks
    pub heads : (l : ℕ) → last_head looks l ≡ None
    pub headers : (p : Place) → p.locale ≡ locale → 1 ≤ p.index → p.index ≤ number → is_some (last_header looks p) ≡ true
    pub taken : free ≡ false → (p : Place) → p.locale ≡ locale → 1 ≤ p.index → p.index ≤ number → IsTakenHeader (last_header looks p)
    pub found : free ≡ true → (i : ℕ) × (1 ≤ i) × (i ≤ number) × IsFreeHeader (last_header looks (record { locale = locale; index = i }))

  -- one object of a taken chain comes into the hand, and the word that leads on is found
  pub record Walks (m n : SeatOf) (q : Pointer) (word : ℕ) : Type 0 where
    pub reads : Reads q.locale m n None
    pub hand : n.0.part.seat.hand ≡ place_of q ∷ m.0.part.seat.hand
    pub chain : n.0.part.seat.homing.chain ≡ word
    pub tail : n.0.part.seat.homing.tail ≡ m.0.part.seat.homing.tail
    pub won : n.0.part.won ≡ m.0.part.won
    pub stored : word ≢ pending
    pub leads : IsChainWord plan.shape word
    pub local : word ≢ 0 → (place_in word).locale ≡ q.locale
    pub new_hand : is_among (place_of q) m.0.part.seat.hand ≡ false
    pub others : Has m.0.part (place_of q) → ⊥
    pub count : count_of n.0.part.facts (place_of q) ≡ Some q.count
    pub next : next_word_of n.0.part.facts (place_of q) ≡ Some word
    pub counts : (p : Place) → p ≢ place_of q → count_of n.0.part.facts p ≡ count_of m.0.part.facts p
    pub nexts : (p : Place) → p ≢ place_of q → next_word_of n.0.part.facts p ≡ next_word_of m.0.part.facts p

  -- The same of the rest of a taken chain. The hand then has the first object and those from the top to the tail
  pub record WalksRest (locale : ℕ) (first top tail : Pointer) (m n : SeatOf) : Type 0 where
    pub rest : List Pointer
    pub reads : Reads locale m n None
    pub chained : IsChained plan.shape n.0.part locale first (top ∷ rest) 0
    pub chain : n.0.part.seat.homing.chain ≡ 0
    pub last : tail ≡ last_of top rest

  -- and on the way there, where this word leads on
  pub record WalksOn (locale : ℕ) (first top tail : Pointer) (m n : SeatOf) (word : ℕ) : Type 0 where
    pub rest : List Pointer
    pub reads : Reads locale m n None
    pub chained : IsChained plan.shape n.0.part locale first (top ∷ rest) word
    pub chain : n.0.part.seat.homing.chain ≡ word
    pub last : tail ≡ last_of top rest
    pub stored : word ≢ pending
    pub leads : IsChainWord plan.shape word
    pub local : word ≢ 0 → (place_in word).locale ≡ locale

  -- the link of the current object of the chain wasn't stored yet
  pub record Waits (m n : SeatOf) (q : Pointer) : Type 0 where
    pub reads : Reads q.locale m n None
    pub seat : n.0.part.seat ≡ m.0.part.seat
    pub won : n.0.part.won ≡ m.0.part.won
    pub counts : (p : Place) → p ≢ place_of q → count_of n.0.part.facts p ≡ count_of m.0.part.facts p
    pub nexts : (p : Place) → p ≢ place_of q → next_word_of n.0.part.facts p ≡ next_word_of m.0.part.facts p

  -- the chain of the hand, of objects of this locale, went home
  pub record GoesHome (locale : ℕ) (m n : SeatOf) : Type 0 where
    pub reads : Reads locale m n None
    pub empty : IsEmptyHanded n.0.part

  -- a take of one object
  pub record TakesOne (m n : SeatOf) (q : Pointer) : Type 0 where
    pub looks : List (Look WordName)
    pub goes : GoesTo (manager_terms K) (PastOpens opens) (PastSteps step) plan m n looks (entries_of_items m.0.number (event m.0.number (Given q))) n.0.part m.1
    pub phase : n.0.part.seat.phase ≡ m.0.part.seat.phase
    pub token : n.0.part.seat.token ≡ m.0.part.seat.token
    pub owned : n.0.part.seat.owned ≡ place_of q ∷ m.0.part.seat.owned
    pub held : n.0.part.seat.held ≡ m.0.part.seat.held
    pub reclaim : n.0.part.seat.reclaim ≡ m.0.part.seat.reclaim
    pub client : n.0.part.client ≡ K.after m.0.part.client (Takes q) 0
    pub rests : IsEmptyHanded n.0.part
    pub inside : IsPlace plan.shape (place_of q)
    pub count : count_of n.0.part.facts (place_of q) ≡ Some q.count
    pub counts : (p : Place) → Has m.0.part p → count_of n.0.part.facts p ≡ count_of m.0.part.facts p

  -- the same of the one in the hand: it read words of its locale, no head, and its header last as free
  pub record OwnsOne (m n : SeatOf) (q : Pointer) : Type 0 where
    pub takes : TakesOne m n q
    pub local : AreOf q.locale takes.looks
    pub heads : (l : ℕ) → last_head takes.looks l ≡ None
    pub free : last_header takes.looks (place_of q) ≡ Some (header_word q.count Free)

  -- No object of these locales was got: a stack's head had the last count, or an object may be free, or else each was read last as one
  -- that isn't
  pub record Misses (order : List ℕ) (m n : SeatOf) (spent free : Bool) : Type 0 where
    pub looks : List (Look WordName)
    pub under : Under m n looks
    pub rests : IsEmptyHanded n.0.part
    pub tour : IsTour plan.shape order looks
    pub spends : spent ≡ true → (l : ℕ) × Contains order l × (is_spent (last_head looks l) ≡ true)
    pub can_spend : spent ≡ true → CanSpend plan n.0.seen
    pub unspent : spent ≡ false → (l : ℕ) → is_spent (last_head looks l) ≡ false
    pub found : free ≡ true → (p : Place) × Contains order p.locale × IsPlace plan.shape p × IsFreeHeader (last_header looks p)
    pub taken : spent ≡ false → free ≡ false → (p : Place) → Contains order p.locale → IsPlace plan.shape p → IsTakenHeader (last_header looks p)

  -- these locales were tried in this order, and an object of one was got, or none
  abbrev pub Tries : List ℕ → SeatOf → SeatOf → Tried → Type 0
  Tries order m n (Taken q) = (takes : TakesOne m n q) × IsGot plan.shape order q takes.looks
  Tries order m n (Missed spent free) = Misses order m n spent free

  -- What a seat is before it tries locales: it is in no reclaim, has nothing under way, knows what it has, and is allowed the take
  pub record MayTry (number : ℕ) (part : Part View') : Type 0 where
    pub below : number < plan.callers
    pub quiet : is_reclaiming part.seat.phase ≡ false
    pub empty : IsEmptyHanded part
    pub known : IsKnowing part
    pub allowed : K.may_take part.client part.seat.owned
