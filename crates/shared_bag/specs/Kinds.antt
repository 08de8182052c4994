-- What each kind of step does: to its caller's hand, and what it tells.
use Rattle.std.specs.Prelude.{◌≡◌, ◌≢◌, ◌==◌, ℕ, ◌+◌, ◌-◌, ◌<◌, ◌≤◌, List, [], ◌∷◌, ◌++◌, length, take, drop, slice_index, if◌then◌else◌, MatchBool, Option, Some, Contains}
use Rattle.std.specs.Str.{bytes_eq as lists_equal}
use Rattle.atomic_table.specs.Table.{Me, rest}
use Rattle.segment_store.specs.Contents.{Contents}
use Rattle.pass_book.specs.declared.entries.Look.{Look}
use Rattle.seq_objects.specs.declared.bags.BagCall.{BagCall}
use Rattle.seq_objects.specs.declared.bags.BagCall.TheVariants.{Add, Remove}
use Rattle.seq_objects.specs.declared.bags.BagReply.{BagReply}
use Rattle.seq_objects.specs.declared.bags.BagReply.TheVariants.{Added, Took, Empty}
use Rattle.seq_objects.specs.BagSteps.{BagStep}
use Rattle.seq_objects.specs.Meanings.{BagOpens}
use Rattle.pass_table.specs.declared.views.View.{View}
use Rattle.pass_table.specs.Terms.{Effect, seeing, moving, Permits}
use Rattle.pass_table.specs.Steps.{GoesTo, StaysTo}
use Rattle.shared_bag.specs.declared.shapes.Shape.{Shape}
use Rattle.shared_bag.specs.declared.layout.Word.{Word}
use Rattle.shared_bag.specs.declared.layout.Word.TheVariants.{Count, Turn, Length}
use Rattle.shared_bag.specs.declared.clients.Plan.{Plan}
use Rattle.shared_bag.specs.declared.clients.Holding.{Holding}
use Rattle.shared_bag.specs.declared.clients.Found.{Found}
use Rattle.shared_bag.specs.declared.clients.Hand.{Hand}
use Rattle.shared_bag.specs.declared.clients.Kind.{Kind}
use Rattle.shared_bag.specs.declared.clients.Kind.TheVariants.{CountLook, Claim, Put, Take, Steal, LeaveFound, LeaveChanged}
use Rattle.shared_bag.specs.Layout.{slot_place}
use Rattle.shared_bag.specs.Shapes.{all_segments, locale_room, IsOwn}
use Rattle.shared_bag.specs.Counted.{BagEntry, Counts}
use Rattle.shared_bag.specs.Rule.{bag_terms}

abbrev pub Looks : Type 0
Looks = List (Look Word)

abbrev pub Slots : Type 0
Slots = List (ℕ × Option Contents)

-- what a caller of a bag knows, and with the slots that it has in hand
abbrev pub BagView : Type 0 → Type 0
BagView K = View BagCall BagReply (Plan K) Hand Word

abbrev pub BagMe : Type 0 → Type 0
BagMe K = Me (Option Contents) (BagView K)

-- the count was read
abbrev pub count_read : ℕ → Look Word
count_read word = record { name = Count; word = word }

-- the turn of a segment was read
abbrev pub turn_read : ℕ → ℕ → Look Word
turn_read segment word = record { name = Turn segment; word = word }

-- a segment was left as it was found, with so many items
abbrev pub length_read : ℕ → ℕ → Look Word
length_read segment word = record { name = Length segment; word = word }

abbrev pub entry : ℕ → BagCall → BagReply → BagEntry
entry caller call reply = record { caller = caller; call = call; reply = reply }

-- a turn word names a caller other than this one
abbrev pub NamesAnother : ℕ → ℕ → ℕ → Type 0
NamesAnother callers caller word = (other : ℕ) × (other < callers) × (other ≢ caller) × (word ≡ other + 1)

abbrev pub found_with : ℕ → ℕ → Found
found_with segment count = record { segment = segment; length = count }

abbrev pub holding : ℕ → List ℕ → Holding
holding segment items = record { segment = segment; items = items }

-- every segment was found empty
abbrev pub FoundAllEmpty : Shape → Hand → Type 0
FoundAllEmpty shape hand = (segment : ℕ) → segment < all_segments shape → Contains hand.found (found_with segment 0)

-- every segment of the caller's locale was found full
abbrev pub FoundAllFull : Shape → ℕ → Hand → Type 0
FoundAllFull shape caller hand = (segment : ℕ) → segment < all_segments shape → IsOwn shape caller segment → Contains hand.found (found_with segment shape.room)

-- the segment that was claimed last, its items, and the others in hand
abbrev pub last_segment : List Holding → ℕ
last_segment [] = 0
last_segment (h ∷ held) = h.segment

abbrev pub last_items : List Holding → List ℕ
last_items [] = []
last_items (h ∷ held) = h.items

abbrev pub others_held : List Holding → List Holding
others_held [] = []
others_held (h ∷ held) = held

-- these are the items of the segment that was claimed last
abbrev pub with_items : List Holding → List ℕ → List Holding
with_items [] items = []
with_items (h ∷ held) items = holding h.segment items ∷ held

-- half of the items of the segment that was claimed last go to the one before it
abbrev pub with_halves : List Holding → List ℕ → List ℕ → List Holding
with_halves [] left moved = []
with_halves (h ∷ held) left moved = holding h.segment left ∷ with_items held moved

module _ {K : Type 0} (keeps : K → ℕ → Type 0) (plan : Plan K) (caller : ℕ)
    (sees : Looks → List BagEntry → Hand → Slots → (List BagEntry → Type 0) → Type 0) (moves : Hand → Slots → Type 0) (hand : Hand) (carried : Slots) where
  -- the item was taken, which leaves these segments in hand
  abbrev pub TellsTaken : ℕ → ℕ → List Holding → Type 0
  TellsTaken found item held = sees (count_read found ∷ []) (entry caller Remove (Took item) ∷ []) record { held = held; found = [] } carried (λ h. Unit {0}) × keeps plan.keeper item

  -- What a step tells of the word that was found, in terms of the words that it reads, the entries that it makes and the hand that it leaves
  abbrev pub Tells : Kind → ℕ → Type 0
  -- The count is 0, which is a removal's entry. Or it is not, and where the caller is alone it has not found every segment empty
  Tells CountLook found =
      MatchBool (found == 0)
      (sees (count_read found ∷ []) (entry caller Remove Empty ∷ []) hand carried (λ h. Unit {0}))
      (sees (count_read found ∷ []) [] hand carried (λ h. Unit {0}) × (plan.shape.callers ≡ 1 → ¬ FoundAllEmpty plan.shape hand))
  -- The turn was nobody's and is now the caller's, who has the segment. Where the caller is alone and the bag had as many items as a locale has room for,
  -- each segment of its locale is full. Or the turn is another's, who can't be where there is one caller
  Tells (Claim segment) found =
      MatchBool (found == 0)
      ((contents : Contents)
      × sees (turn_read segment found ∷ []) [] record { held = holding segment contents.items ∷ hand.held; found = hand.found } ((slot_place segment, Some contents) ∷ carried)
      (λ h. plan.shape.callers ≡ 1 → IsOwn plan.shape caller segment → Counts h (locale_room plan.shape) → length contents.items ≡ plan.shape.room)
      × (length contents.items ≤ plan.shape.room))
      (sees (turn_read segment found ∷ []) [] hand carried (λ h. Unit {0}) × NamesAnother plan.shape.callers caller found × (plan.shape.callers ≢ 1))
  -- the count rose, and the segment that was claimed last has the item
  Tells (Put item) found =
      sees (count_read found ∷ []) (entry caller (Add item) Added ∷ []) record { held = with_items hand.held (last_items hand.held ++ item ∷ []); found = [] } carried (λ h. Unit {0})
  -- the count fell, and the segment that was claimed last has lost its last item
  Tells Take found =
      let items = last_items hand.held in TellsTaken found (slice_index items (length items - 1)) (with_items hand.held (take (length items - 1) items))
  -- the count fell: of the segment that was claimed last so many items went to the one before it, and the next one was taken
  Tells (Steal moved) found =
      let items = last_items hand.held in TellsTaken found (slice_index items moved) (with_halves hand.held (drop (moved + 1) items) (take moved items))
  -- The segment that was claimed last was left as it was found. Where the caller is alone and has found every segment of its locale full, the bag has as many
  -- items as a locale has room for
  Tells LeaveFound found =
      let after : Hand = record { held = others_held hand.held; found = found_with (last_segment hand.held) (length (last_items hand.held)) ∷ hand.found } in
      sees (length_read (last_segment hand.held) (length (last_items hand.held)) ∷ []) [] after (rest carried)
      (λ h. plan.shape.callers ≡ 1 → FoundAllFull plan.shape caller after → Counts h (locale_room plan.shape))
  Tells LeaveChanged found = moves record { held = others_held hand.held; found = hand.found } (rest carried)

module _ {K : Type 0} (keeps : K → ℕ → Type 0) (plan : Plan K) where
  -- the same of a step's effect
  abbrev pub TellsChosen : ℕ → Hand → Slots → Kind → ℕ → Effect (Option Contents) BagCall BagReply Hand Word → Type 0
  TellsChosen caller hand carried kind found e =
      Tells keeps plan caller
      (λ looks entries after slots Fact. (h : List BagEntry) × (e ≡ seeing h looks entries after slots) × Fact h)
      (λ after slots. (h : List BagEntry) × (e ≡ moving h after slots))
      hand carried kind found

  -- the same of a seat before and after
  abbrev pub Does : Kind → BagMe K → ℕ → BagMe K → Type 0
  Does kind m found n =
      Tells keeps plan m.0.number
      (λ looks entries after slots Fact. (h : List BagEntry) × GoesTo (bag_terms keeps) BagOpens BagStep plan m n looks entries after slots × (n.0.seen ≡ h ++ entries) × Fact h)
      (λ after slots. StaysTo (bag_terms keeps) BagOpens BagStep plan m n after slots)
      m.0.part m.1 kind found

  -- the step is permitted to its caller
  abbrev pub MayDo : ℕ → Kind → BagMe K → ℕ → (ℕ → ℕ) → (ℕ → ℕ) → Type 0
  MayDo slots kind m place f said =
      Permits (bag_terms keeps) BagOpens BagStep plan slots m.0.number m.0.rests m.0.part m.1 place f (λ found e. TellsChosen m.0.number m.0.part m.1 kind (said found) e)

-- the segment that was claimed last is back in its slot, with the items that it has to have
abbrev pub IsBack : {K : Type 0} → BagMe K → ℕ → Type 0
IsBack m segment =
    (contents : Contents) × (h : Holding) × (others : List Holding) × (m.0.part.held ≡ h ∷ others) × (h.segment ≡ segment) × (contents.items ≡ h.items)
    × (m.1 ≡ (slot_place segment, Some contents) ∷ rest m.1)

-- The kind of step by which an item is taken that leaves the segment with one list and gives the segment before it another: the first half went, or the
-- last item alone
abbrev pub steal_kind : List ℕ → List ℕ → List ℕ → ℕ → Kind
steal_kind had own left item = if lists_equal had (own ++ item ∷ left) then Steal (length own) else Take

-- so an item was taken and counted, and others went to the segment before
abbrev pub DoesSteal : {K : Type 0} → (K → ℕ → Type 0) → Plan K → List ℕ → List ℕ → ℕ → BagMe K → BagMe K → Type 0
DoesSteal keeps plan own left item m n =
    (h o : Holding) × (others : List Holding) × (found : ℕ) × (m.0.part.held ≡ h ∷ o ∷ others)
    × GoesTo (bag_terms keeps) BagOpens BagStep plan m n (count_read found ∷ []) (entry m.0.number Remove (Took item) ∷ [])
    record { held = holding h.segment left ∷ holding o.segment own ∷ others; found = [] } m.1
    × keeps plan.keeper item
