-- What a call does at one segment, whose turn it claims: to its caller's view, and in the words that it reads.
use Rattle.std.specs.Prelude.{◌≡◌, ◌≢◌, ◌⊎◌, ℕ, ◌<◌, ◌≤◌, false, List, [], ◌∷◌, ◌++◌, length, Option, Some, None, Contains}
use Rattle.segment_store.specs.Contents.{Contents}
use Rattle.seq_objects.specs.declared.bags.BagCall.TheVariants.{Add, Remove}
use Rattle.seq_objects.specs.declared.bags.BagReply.TheVariants.{Added, Took}
use Rattle.seq_objects.specs.BagSteps.{BagStep}
use Rattle.seq_objects.specs.Meanings.{BagOpens}
use Rattle.pass_table.specs.Steps.{Goes, Stays}
use Rattle.shared_bag.specs.declared.shapes.Shape.{Shape}
use Rattle.shared_bag.specs.declared.clients.Plan.{Plan}
use Rattle.shared_bag.specs.declared.clients.Holding.{Holding}
use Rattle.shared_bag.specs.declared.visits.Kept.{Kept}
use Rattle.shared_bag.specs.declared.visits.AddVisit.{AddVisit}
use Rattle.shared_bag.specs.declared.visits.AddVisit.TheVariants.{Done, Held, Full, NoMemory}
use Rattle.shared_bag.specs.declared.visits.TakeVisit.{TakeVisit}
use Rattle.shared_bag.specs.declared.visits.TakeVisit.TheVariants.{Found as FoundItem, Held as HeldTake, Empty}
use Rattle.shared_bag.specs.Layout.{slot_place}
use Rattle.shared_bag.specs.Shapes.{tried, all_segments, locale_room, IsOwn}
use Rattle.shared_bag.specs.Counted.{BagEntry, Counts}
use Rattle.shared_bag.specs.Rule.{bag_terms, holds_none}
use Rattle.shared_bag.specs.Kinds.{Looks, Slots, BagView, BagMe, entry, turn_read, count_read, length_read, holding, found_with, FoundAllFull}
use Rattle.shared_bag.specs.Visits.{IsHeld, HasLeft, FindsNothing, Visits}

-- a caller has these segments in hand, and these slots
abbrev pub IsHolding : {K : Type 0} → BagMe K → List Holding → Slots → Type 0
IsHolding m held slots = (m.0.rests ≡ holds_none held) × (m.1 ≡ slots) × (m.0.rests ≡ false → m.0.part.held ≡ held)

-- the segments and slots of a caller that keeps this one, or none
abbrev pub held_of : Option Kept → List Holding
held_of None = []
held_of (Some own) = holding own.segment own.moved.items ∷ []

abbrev pub slots_of : Option Kept → Slots
slots_of None = []
slots_of (Some own) = (slot_place own.segment, None) ∷ []

abbrev pub kept_segment : Option Kept → Option ℕ
kept_segment None = None
kept_segment (Some own) = Some own.segment

-- what is kept is a segment of the bag
abbrev pub IsWithin : Shape → Option Kept → Type 0
IsWithin shape None = Unit {0}
IsWithin shape (Some own) = own.segment < all_segments shape

-- it is one of the caller's locale, and has no item
abbrev pub IsEmptyOwn : Shape → ℕ → Option Kept → Type 0
IsEmptyOwn shape caller None = Unit {0}
IsEmptyOwn shape caller (Some own) = (own.moved.items ≡ []) × IsOwn shape caller own.segment

module _ {K : Type 0} (shape : Shape) (kept : Option Kept) (m : BagMe K) where
  -- the caller has in hand what it keeps, and nothing else
  abbrev pub HoldsKept : Type 0
  HoldsKept = IsHolding m (held_of kept) (slots_of kept) × IsWithin shape kept

  -- and that is an empty segment of its locale, or nothing
  abbrev pub IsKeeping : Type 0
  IsKeeping = HoldsKept × IsEmptyOwn shape m.0.number kept

  -- what the caller has in hand after a visit of a removal
  abbrev pub KeepsAfter : TakeVisit → Type 0
  KeepsAfter (FoundItem item) = HoldsKept
  KeepsAfter HeldTake = IsKeeping
  KeepsAfter Empty = IsKeeping

  -- and after it went through the segments
  abbrev pub KeepsSwept : Option ℕ → Type 0
  KeepsSwept (Some item) = HoldsKept
  KeepsSwept None = IsKeeping

module _ {K : Type 0} (keeps : K → ℕ → Type 0) (plan : Plan K) where
  abbrev pub BagGoes : BagView K → BagView K → Looks → List BagEntry → Type 0
  BagGoes v w looks entries = Goes (bag_terms keeps) BagOpens BagStep plan v w looks entries

  -- The caller got the turn of a segment, and has it in hand with these contents. Where it is alone and the bag had as many items as its locale has room for, a segment of its locale is full
  pub record Gets (segment : ℕ) (contents : Contents) (m n : BagMe K) : Type 0 where
    pub goes : BagGoes m.0 n.0 (turn_read segment 0 ∷ []) []
    pub found : n.0.part.found ≡ m.0.part.found
    pub short : length contents.items ≤ plan.shape.room
    pub full : plan.shape.callers ≡ 1 → IsOwn plan.shape m.0.number segment → Counts m.0.seen (locale_room plan.shape) → length contents.items ≡ plan.shape.room
    pub holds : (held : List Holding) (slots : Slots) → IsHolding m held slots → IsHolding n (holding segment contents.items ∷ held) ((slot_place segment, None) ∷ slots)

  -- the turn was another's
  pub record Misses (segment : ℕ) (m n : BagMe K) : Type 0 where
    pub words : Looks
    pub goes : BagGoes m.0 n.0 words []
    pub held : IsHeld plan.shape.callers m.0.number segment words
    pub others : plan.shape.callers ≢ 1
    pub holds : (held : List Holding) (slots : Slots) → IsHolding m held slots → IsHolding n held slots

  -- A segment with these items was left as it was found. Where the caller is alone and has found every segment of its locale full, the bag has as many items as the locale has room for
  pub record LeavesFound (segment : ℕ) (items : List ℕ) (m n : BagMe K) : Type 0 where
    pub goes : BagGoes m.0 n.0 (length_read segment (length items) ∷ []) []
    pub found : n.0.part.found ≡ found_with segment (length items) ∷ m.0.part.found
    pub counts : plan.shape.callers ≡ 1 → FoundAllFull plan.shape m.0.number n.0.part → Counts n.0.seen (locale_room plan.shape)
    pub holds : (held : List Holding) (slots : Slots) → IsHolding m (holding segment items ∷ held) ((slot_place segment, None) ∷ slots) → IsHolding n held slots

  -- it was left after a step on the count
  pub record LeavesChanged (segment : ℕ) (items : List ℕ) (m n : BagMe K) : Type 0 where
    pub stays : Stays (bag_terms keeps) BagOpens BagStep plan m.0 n.0
    pub holds : (held : List Holding) (slots : Slots) → IsHolding m (holding segment items ∷ held) ((slot_place segment, None) ∷ slots) → IsHolding n held slots

  -- an item was taken of the segment that was claimed last, which had these items and now has those, and the others in hand are now these
  pub record TakesHere (item : ℕ) (had left : List ℕ) (held held' : List Holding) (m n : BagMe K) : Type 0 where
    pub count : ℕ
    pub goes : BagGoes m.0 n.0 (count_read count ∷ []) (entry m.0.number Remove (Took item) ∷ [])
    pub is_kept : keeps plan.keeper item
    pub holds : (segment : ℕ) (slots : Slots) → IsHolding m (holding segment had ∷ held) slots → IsHolding n (holding segment left ∷ held') slots

  -- where the caller is alone, what it had seen leaves another number of items than a locale has room for
  abbrev pub HadRoom : BagView K → Type 0
  HadRoom v = plan.shape.callers ≡ 1 → ¬ Counts v.seen (locale_room plan.shape)

  -- one visit of an add
  abbrev pub AddsAt : ℕ → ℕ → BagView K → BagView K → AddVisit → Type 0
  AddsAt item segment v w Done = (count : ℕ) × BagGoes v w (turn_read segment 0 ∷ count_read count ∷ []) (entry v.number (Add item) Added ∷ []) × HadRoom v
  AddsAt item segment v w Held = (words : Looks) × BagGoes v w words [] × IsHeld plan.shape.callers v.number segment words × (plan.shape.callers ≢ 1)
  AddsAt item segment v w Full =
      (words : Looks) × BagGoes v w words [] × HasLeft plan.shape.room segment words × (w.part.found ≡ found_with segment plan.shape.room ∷ v.part.found)
      × (plan.shape.callers ≡ 1 → FoundAllFull plan.shape v.number w.part → Counts w.seen (locale_room plan.shape))
  AddsAt item segment v w NoMemory = (words : Looks) × BagGoes v w words [] × ((count : ℕ) × (count < plan.shape.room) × HasLeft count segment words) × HadRoom v

  -- An empty segment was left, and what is kept stays so. Or it is the first that is kept
  abbrev pub LeavesOrKeeps : ℕ → Option Kept → Option Kept → BagView K → BagView K → Looks → Type 0
  LeavesOrKeeps segment kept kept' v w words =
      (HasLeft 0 segment words × (kept' ≡ kept) × (w.part.found ≡ found_with segment 0 ∷ v.part.found))
      ⊎ ((words ≡ turn_read segment 0 ∷ []) × (kept ≡ None) × (kept_segment kept' ≡ Some segment) × (w.part.found ≡ v.part.found))

  -- one visit of a removal
  abbrev pub TakesAt : ℕ → Option Kept → Option Kept → BagView K → BagView K → TakeVisit → Type 0
  TakesAt segment kept kept' v w (FoundItem item) =
      (count : ℕ) × BagGoes v w (turn_read segment 0 ∷ count_read count ∷ []) (entry v.number Remove (Took item) ∷ []) × keeps plan.keeper item
  TakesAt segment kept kept' v w HeldTake = (words : Looks) × BagGoes v w words [] × IsHeld plan.shape.callers v.number segment words × (plan.shape.callers ≢ 1) × (kept' ≡ kept)
  TakesAt segment kept kept' v w Empty = (words : Looks) × BagGoes v w words [] × LeavesOrKeeps segment kept kept' v w words

  -- each segment was found empty, or is kept
  abbrev pub FindsAllEmpty : ℕ → BagView K → Option Kept → Type 0
  FindsAllEmpty n w kept =
      plan.shape.callers ≡ 1 → (j : ℕ) → j < n → Contains w.part.found (found_with (tried plan.shape w.number j) 0) ⊎ (kept_segment kept ≡ Some (tried plan.shape w.number j))

  -- a removal that goes through the segments: the item of one, or nothing in any
  abbrev pub Sweeps : Option Kept → BagView K → BagView K → Option ℕ → Type 0
  Sweeps kept v w (Some item) =
      (own : Option ℕ) × (place count : ℕ) × (words : Looks) × (place < all_segments plan.shape) × Visits (FindsNothing plan.shape v.number own) (tried plan.shape v.number) place words
      × BagGoes v w (words ++ turn_read (tried plan.shape v.number place) 0 ∷ count_read count ∷ []) (entry v.number Remove (Took item) ∷ []) × keeps plan.keeper item
  Sweeps kept v w None =
      (words : Looks) × Visits (FindsNothing plan.shape v.number (kept_segment kept)) (tried plan.shape v.number) (all_segments plan.shape) words × BagGoes v w words []
      × FindsAllEmpty (all_segments plan.shape) w kept

  -- what was kept was left as it was found, or after a step on the count, where anything was kept
  abbrev pub LeavesKeptFound : Option Kept → BagMe K → BagMe K → Type 0
  LeavesKeptFound None m n = n ≡ m
  LeavesKeptFound (Some own) m n = LeavesFound own.segment own.moved.items m n

  abbrev pub LeavesKeptChanged : Option Kept → BagMe K → BagMe K → Type 0
  LeavesKeptChanged None m n = n ≡ m
  LeavesKeptChanged (Some own) m n = LeavesChanged own.segment own.moved.items m n
