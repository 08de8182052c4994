-- What a client of a manager brings: its words, its rule, and the laws of the rule.
use Rattle.std.specs.Prelude.{◌≡◌, ◌⊎◌, ◌==◌, ◌<◌, ◌+◌, ◌%◌, ◌^◌, ℕ, Bool, true, IsTrue, if◌then◌else◌, List, [], ◌∷◌, ◌++◌, Option, Some, None}
use Rattle.pass_book.specs.declared.entries.Entry.{Entry}
use Rattle.pass_book.specs.Histories.{IsLegal}
use Rattle.pgas_base.specs.declared.shapes.Shape.{Shape}
use Rattle.pgas_base.specs.Pointers.{Pointer, word_of}
use Rattle.pool_core.specs.declared.headers.Header.{Header}
use Rattle.pool_core.specs.declared.headers.State.TheVariants.{Free, Own, Shown, Worn}
use Rattle.epoch_laws.specs.declared.events.EpochEvent.TheVariants.{Deferred}
use Rattle.epoch_laws.specs.declared.events.Item.{Item}
use Rattle.epoch_laws.specs.declared.events.Item.TheVariants.{Event}
use Rattle.pgas_base.specs.declared.spots.Spot.{Spot}
use Rattle.pgas_base.specs.declared.spots.Spot.TheVariants.{Own as OwnSpot, Row as RowSpot}
use Rattle.epoch_laws.specs.Places.{Place, place_of, is_among, with_number, with_place, without}
use Rattle.epoch_laws.specs.States.{IsPlace}

-- how an object stands that isn't free: one pass's own, shown, or shown and deferred
pub data Standing : Type 0 where
  Owned Live Retired : Standing

-- an object that is owned or shown, and the words of its row
pub record Thing : Type 0 where
  pub count : ℕ
  pub standing : Standing
  pub row : ℕ → ℕ

-- a deferral, by whom and of what
pub record Deferral : Type 0 where
  pub caller : ℕ
  pub pointer : Pointer

-- All that a client's rule may speak of: its words, the entries of its object, what each pass knows of it, the deferrals so far, the objects that are owned or
-- shown, and what each pass owns
pub record Scene (View Call Reply : Type 0) : Type 0 where
  pub words : ℕ → ℕ
  pub entries : List (Entry Call Reply)
  pub views : ℕ → View
  pub deferrals : List Deferral
  pub things : Place → Option Thing
  pub owned : ℕ → List Place

-- a step on one word, of the client or in a row: what it leaves there, and what it answers is the number that it found
pub data Change : Type 0 where
  Looks : Change
  Puts Switches Raises : ℕ → Change
  Trades : ℕ → ℕ → Change

-- what a pass does that the client's rule may speak of: an object becomes its own, is shown, given back, deferred or freed, a word of its row is filled, a link
-- is held, a word stepped on
pub data Action : Type 0 where
  Takes Shows Returns Defers Frees : Pointer → Action
  Fills : Pointer → ℕ → ℕ → Action
  Holds : Spot → Action
  Steps : Spot → Change → Action

-- A client's own terms, of the client itself: how many words it has, the state in which its object opens, what a pass knows at first and after an unpin,
-- which of its words and of the words of a row are links; which takes and reclaims it allows to a pass by what that knows and owns, whether it allows give-backs
-- at all, which other actions it allows to a pass that knows so much, what the pass knows after an action that finds a number, and which call with its
-- reply a hold or a step enters, one at most; and its rule
pub record ClientTerms (Self View Call Reply State : Type 0) : Type 1 where
  pub own : Self → ℕ
  pub start : Self → State
  pub first : View
  pub unpinned : View → View
  pub is_own_link : ℕ → Bool
  pub is_row_link : ℕ → Bool
  pub may_take : View → List Place → Type 0
  pub may_reclaim : View → List Place → Type 0
  pub gives_back : Type 0
  pub may : View → Action → Type 0
  pub after : View → Action → ℕ → View
  pub enters : View → Action → ℕ → Option (Call × Reply)
  pub holds : Self → Shape → Scene View Call Reply → Type 0

-- the object there, by its header, its deferral's tag and its row
abbrev pub thing_of : Header → Option ℕ → (ℕ → ℕ) → Option Thing
thing_of header tag row =
    elim (header.state) [
      | Free ↦ None
      | Own ↦ Some (record { count = header.count; standing = Owned; row = row })
      | Shown ↦ Some (record { count = header.count; standing = (elim tag [ None ↦ Live | Some d ↦ Retired ]); row = row })
      | Worn ↦ None
    ]

-- each object that is owned or shown is one of the shape
abbrev pub AreInside : Shape → (Place → Option Thing) → Type 0
AreInside shape things = (p : Place) (x : Thing) → things p ≡ Some x → IsPlace shape p

-- the number that a step leaves where it finds this one
abbrev pub changed : Change → ℕ → ℕ
changed Looks found = found
changed (Puts value) found = value
changed (Switches value) found = value
changed (Trades old new) found = if found == old then new else found
changed (Raises by) found = (found + by) % 2 ^ 64

-- and the number by which its pass knows it: a store doesn't tell what it found
abbrev pub answered : Change → ℕ → ℕ
answered (Puts value) found = value
answered change found = found

-- the same object with another number in its row
abbrev pub with_row : Option Thing → ℕ → ℕ → Option Thing
with_row None at number = None
with_row (Some thing) at number = Some (record thing { row = with_number thing.row at number })

-- the deferrals among the items
unfoldable pub deferrals_in : List Item → List Deferral
deferrals_in [] = []
deferrals_in (Event seat (Deferred token pointer) tag ∷ items) = record { caller = seat; pointer = pointer } ∷ deferrals_in items
deferrals_in (_ ∷ items) = deferrals_in items

module _ {Call Reply : Type 0} where
  -- the entries after what an action of the caller c enters
  abbrev pub entered : List (Entry Call Reply) → ℕ → Option (Call × Reply) → List (Entry Call Reply)
  entered entries c None = entries
  entered entries c (Some happened) = entries ++ record { caller = c; call = happened.0; reply = happened.1 } ∷ []

-- the object that a pointer names
abbrev pub thing : Pointer → Standing → (ℕ → ℕ) → Option Thing
thing q standing row = Some (record { count = q.count; standing = standing; row = row })

module _ {View Call Reply : Type 0} where
  -- this stands there, and the pass c owns these
  abbrev pub standing_so : Scene View Call Reply → Place → Option Thing → ℕ → List Place → Scene View Call Reply
  standing_so x p thing c owned = record x { things = with_place x.things p thing; owned = with_number x.owned c owned }

  -- the scene with another number at a spot
  abbrev pub with_spot : Scene View Call Reply → Spot → ℕ → Scene View Call Reply
  with_spot x (OwnSpot word) number = record x { words = with_number x.words word number }
  with_spot x (RowSpot q at) number = record x { things = with_place x.things (place_of q) (with_row (x.things (place_of q)) at number) }

module _ {Self View Call Reply State : Type 0} (K : ClientTerms Self View Call Reply State) where
  -- nothing has happened yet
  abbrev pub opening_scene : Scene View Call Reply
  opening_scene = record { words = λ w. 0; entries = []; views = λ c. K.first; deferrals = []; things = λ p. None; owned = λ c. [] }

  -- the state with which its object begins is one in which that opens
  abbrev pub ObjectOpens : (State → Type 0) → Type 0
  ObjectOpens opens = (client : Self) → opens (K.start client)

  -- the rule holds at the opening
  abbrev pub Opens : Type 0
  Opens = (client : Self) (shape : Shape) → K.holds client shape opening_scene

  -- the word is 0, or that of a pointer to an object that is shown and not deferred
  abbrev pub IsLink : Scene View Call Reply → ℕ → Type 0
  IsLink x word = (word ≡ 0) ⊎ ((q : Pointer) × (row : ℕ → ℕ) × (word ≡ word_of q) × (x.things (place_of q) ≡ Some (record { count = q.count; standing = Live; row = row })))

  -- each link of the client's words, and of the row of a shown object also once that is deferred, is so
  abbrev pub Links : Type 0
  Links = (client : Self) (shape : Shape) (x : Scene View Call Reply) → K.holds client shape x
      → ((w : ℕ) → w < K.own client → K.is_own_link w ≡ true → IsLink x (x.words w))
      × ((p : Place) (n at : ℕ) (row : ℕ → ℕ) (standing : Standing) → (standing ≡ Live) ⊎ (standing ≡ Retired)
      → x.things p ≡ Some (record { count = n; standing = standing; row = row }) → at < shape.width → K.is_row_link at ≡ true → IsLink x (row at))

  -- ---- the scene after an action

  -- the pass c then knows what the action leaves it
  abbrev pub knows_after : Scene View Call Reply → ℕ → Action → ℕ → Scene View Call Reply
  knows_after x c action found = record x { views = with_number x.views c (K.after (x.views c) action found) }

  -- and what that enters stands at the end
  abbrev pub known_after : Scene View Call Reply → ℕ → Action → ℕ → Scene View Call Reply
  known_after x c action found = record x {
    entries = entered x.entries c (K.enters (x.views c) action found);
    views = with_number x.views c (K.after (x.views c) action found);
  }

  -- the word of a spot, where there is one: of its own, or in the row of an object that is shown with the pointer's count
  abbrev pub IsAt : Self → Shape → Scene View Call Reply → Spot → ℕ → Type 0
  IsAt client shape x (OwnSpot word) number = (word < K.own client) × (x.words word ≡ number)
  IsAt client shape x (RowSpot q at) number = (at < shape.width)
      × ((standing : Standing) × (row : ℕ → ℕ) × ((standing ≡ Live) ⊎ (standing ≡ Retired)) × (x.things (place_of q) ≡ thing q standing row) × (row at ≡ number))

  abbrev pub is_link : Spot → Bool
  is_link (OwnSpot word) = K.is_own_link word
  is_link (RowSpot q at) = K.is_row_link at

  -- the rule is kept where a pass unpins, and drops what it holds
  abbrev pub KeptByUnpins : Type 0
  KeptByUnpins = (client : Self) (shape : Shape) (x : Scene View Call Reply) (c : ℕ) → K.holds client shape x
      → K.holds client shape (record x { views = with_number x.views c (K.unpinned (x.views c)) })

  -- the rule is kept where an object becomes a pass's own that the client allows it to take
  abbrev pub KeptByTakes : Type 0
  KeptByTakes = (client : Self) (shape : Shape) (x : Scene View Call Reply) (c : ℕ) (q : Pointer) (row : ℕ → ℕ) → K.holds client shape x
      → K.may_take (x.views c) (x.owned c) → x.things (place_of q) ≡ None
      → K.holds client shape (knows_after (standing_so x (place_of q) (thing q Owned row) c (place_of q ∷ x.owned c)) c (Takes q) 0)

  -- where its owner shows one, where the client allows it
  abbrev pub KeptByShows : Type 0
  KeptByShows = (client : Self) (shape : Shape) (x : Scene View Call Reply) (c : ℕ) (q : Pointer) (row : ℕ → ℕ) → K.holds client shape x
      → K.may (x.views c) (Shows q) → IsTrue (is_among (place_of q) (x.owned c)) → x.things (place_of q) ≡ thing q Owned row
      → K.holds client shape (knows_after (standing_so x (place_of q) (thing q Live row) c (without (place_of q) (x.owned c))) c (Shows q) 0)

  -- where its owner gives one back unshown, if the client allows give-backs
  abbrev pub KeptByReturns : Type 0
  KeptByReturns = (client : Self) (shape : Shape) (x : Scene View Call Reply) (c : ℕ) (q : Pointer) (row : ℕ → ℕ) → K.holds client shape x
      → K.gives_back → IsTrue (is_among (place_of q) (x.owned c)) → x.things (place_of q) ≡ thing q Owned row
      → K.holds client shape (knows_after (standing_so x (place_of q) None c (without (place_of q) (x.owned c))) c (Returns q) 0)

  -- A pass may defer what it has cut out of the last link and not deferred: that is shown and not deferred, and the rule is kept
  abbrev pub KeptByDeferrals : Type 0
  KeptByDeferrals = (client : Self) (shape : Shape) (x : Scene View Call Reply) (c : ℕ) (q : Pointer) → K.holds client shape x → K.may (x.views c) (Defers q)
      → (row : ℕ → ℕ) × (x.things (place_of q) ≡ thing q Live row)
      × K.holds client shape (knows_after (record x {
        deferrals = x.deferrals ++ record { caller = c; pointer = q } ∷ [];
        things = with_place x.things (place_of q) (thing q Retired row);
      }) c (Defers q) 0)

  -- where an object is released after its deferral, by a pass that is allowed to reclaim, and that is allowed to go on
  abbrev pub KeptByFrees : Type 0
  KeptByFrees = (client : Self) (shape : Shape) (x : Scene View Call Reply) (c : ℕ) (q : Pointer) (row : ℕ → ℕ) → K.holds client shape x
      → K.may_reclaim (x.views c) (x.owned c) → x.things (place_of q) ≡ thing q Retired row
      → K.may_reclaim (K.after (x.views c) (Frees q) 0) (x.owned c) × K.holds client shape (knows_after (record x { things = with_place x.things (place_of q) None }) c (Frees q) 0)

  -- where its owner fills a word of its row, where the client allows it
  abbrev pub KeptByFills : Type 0
  KeptByFills = (client : Self) (shape : Shape) (x : Scene View Call Reply) (c : ℕ) (q : Pointer) (at value : ℕ) (row : ℕ → ℕ) → K.holds client shape x
      → K.may (x.views c) (Fills q at value) → at < shape.width → IsTrue (is_among (place_of q) (x.owned c)) → x.things (place_of q) ≡ thing q Owned row
      → K.holds client shape (knows_after (record x { things = with_place x.things (place_of q) (thing q Owned (with_number row at value)) }) c (Fills q at value) 0)

  -- what a client owes where an object changes hands, or a pass unpins
  pub record AreLawful : Type 0 where
    pub takes : KeptByTakes
    pub shows : KeptByShows
    pub returns : KeptByReturns
    pub deferrals : KeptByDeferrals
    pub frees : KeptByFrees
    pub unpins : KeptByUnpins

-- ---- the laws of what may enter

module _ {Self View Call Reply State : Type 0} (K : ClientTerms Self View Call Reply State) (opens : State → Type 0) (step : State → Call → Reply → State → Type 0) where
  -- the rule holds of the scene afterwards, and its entries are legal if those before were
  abbrev pub Keeps : Self → Shape → Scene View Call Reply → Scene View Call Reply → Type 0
  Keeps client shape x after = K.holds client shape after × (IsLegal opens step (K.start client) x.entries → IsLegal opens step (K.start client) after.entries)

  -- where a pass holds what a link names
  abbrev pub KeptByHolds : Type 0
  KeptByHolds = (client : Self) (shape : Shape) (x : Scene View Call Reply) (c : ℕ) (spot : Spot) (found : ℕ) → K.holds client shape x
      → is_link K spot ≡ true → IsAt K client shape x spot found
      → Keeps client shape x (known_after K x c (Holds spot) found)

  -- and where it makes a step that the client allows
  abbrev pub KeptBySteps : Type 0
  KeptBySteps = (client : Self) (shape : Shape) (x : Scene View Call Reply) (c : ℕ) (spot : Spot) (change : Change) (found : ℕ) → K.holds client shape x
      → K.may (x.views c) (Steps spot change) → IsAt K client shape x spot found
      → Keeps client shape x (known_after K (with_spot x spot (changed change found)) c (Steps spot change) (answered change found))
