-- One visit of an add or a removal, from what it does with the segment.
use Rattle.std.proofs.Common.{◌≡◌, ℕ, ◌<◌, true, false, List, [], ◌∷◌, ◌++◌, length, refl, ap, ap₂, sym, ◌∙◌, subst, arith, inl, Option, Some, None}
use Rattle.std.specs.Option.{is_some}
use Rattle.segment_store.specs.Contents.{Contents}
use Rattle.seq_objects.specs.declared.bags.BagCall.TheVariants.{Add, Remove}
use Rattle.seq_objects.specs.declared.bags.BagReply.TheVariants.{Added, Took}
use Rattle.seq_objects.specs.BagSteps.{BagStep}
use Rattle.seq_objects.specs.Meanings.{BagOpens}
use Rattle.pass_table.proofs.Going.{goes_then, goes_still}
use Rattle.shared_bag.specs.Layout.{slot_place}
use Rattle.shared_bag.specs.declared.clients.Plan.{Plan}
use Rattle.shared_bag.specs.declared.clients.Holding.{Holding}
use Rattle.shared_bag.specs.declared.clients.Kind.TheVariants.{Put}
use Rattle.shared_bag.specs.declared.visits.Kept.{Kept}
use Rattle.shared_bag.specs.declared.visits.AddVisit.TheVariants.{Done, Full, NoMemory}
use Rattle.shared_bag.specs.declared.visits.TakeVisit.TheVariants.{Found as FoundItem, Empty}
use Rattle.shared_bag.specs.declared.shapes.Shape.{Shape}
use Rattle.shared_bag.specs.Shapes.{IsOwn, all_segments}
use Rattle.shared_bag.specs.Rule.{bag_terms, holds_none}
use Rattle.shared_bag.specs.Kinds.{Slots, BagMe, Does, entry, holding, found_with, turn_read, count_read, length_read, last_items, with_items, FoundAllFull}
use Rattle.shared_bag.specs.Turns.{IsHolding, IsWithin, IsEmptyOwn, IsKeeping, BagGoes, Gets, LeavesFound, LeavesChanged, TakesHere, HadRoom, AddsAt, TakesAt, held_of, slots_of, kept_segment}
use Rattle.shared_bag.proofs.TurnSteps.{held_some}

-- a caller between two calls has nothing in hand
pub rest_holds : {K : Type 0} (m : BagMe K) → (m.0.rests ≡ true) × (m.1 ≡ []) → IsHolding m [] []
rest_holds m rests = (rests.0, rests.1, (λ busy. absurd (let is = rests.0 in cc (is, busy))))

pub none_is : (kept : Option Kept) → is_some kept ≡ false → kept ≡ None
none_is None is = refl
none_is (Some own) is = absurd cc

-- what hangs on the number of the segment that is kept alone
pub same_slots : (kept kept' : Option Kept) → kept_segment kept' ≡ kept_segment kept → slots_of kept' ≡ slots_of kept
same_slots None None same = refl
same_slots None (Some own) same = absurd cc
same_slots (Some own) None same = absurd cc
same_slots (Some own) (Some own') same = let named : own'.segment ≡ own.segment = cc same in ap (λ s. (slot_place s, None) ∷ []) named

pub same_within : (shape : Shape) (kept kept' : Option Kept) → kept_segment kept' ≡ kept_segment kept → IsWithin shape kept → IsWithin shape kept'
same_within shape None None same within = tt
same_within shape None (Some own) same within = absurd cc
same_within shape (Some own) None same within = tt
same_within shape (Some own) (Some own') same within = let named : own'.segment ≡ own.segment = cc same in subst (λ s. s < all_segments shape) (sym named) within

module _ {K : Type 0} (keeps : K → ℕ → Type 0) (plan : Plan K) where
  -- an item was put into the segment that was claimed last
  pub put_holds : (item found segment : ℕ) (items : List ℕ) (held : List Holding) (slots : Slots) (k l : BagMe K) → Does keeps plan (Put item) k found l → IsHolding k (holding segment items ∷ held) slots
      → IsHolding l (holding segment (items ++ item ∷ []) ∷ held) slots
  put_holds item found segment items held slots k l does is =
      let goes = does.1 in
      let same = held_some k (holding segment items) held slots is in (
        goes.3 ∙ ap (λ h. holds_none (with_items h (last_items h ++ item ∷ []))) same,
        goes.2 ∙ is.1,
        (λ busy. ap (λ x. x.held) goes.1 ∙ ap (λ h. with_items h (last_items h ++ item ∷ [])) same),
      )

  module _ (segment : ℕ) (a : Contents) (m k : BagMe K) (got : Gets keeps plan segment a m k) where
    same_number : k.0.number ≡ m.0.number
    same_number = got.goes.same.number

    -- what is in hand, by a list that is the same as the contents'
    pub got_holds : (items : List ℕ) (held : List Holding) (slots : Slots) → items ≡ a.items → IsHolding m held slots → IsHolding k (holding segment items ∷ held) ((slot_place segment, None) ∷ slots)
    got_holds items held slots same is = subst (λ l. IsHolding k (holding segment l ∷ held) ((slot_place segment, None) ∷ slots)) (sym same) (got.holds held slots is)

    had_room : IsOwn plan.shape m.0.number segment → length a.items < plan.shape.room → HadRoom keeps plan m.0
    had_room own less one counts = let full = got.full one own counts in omega arith

    module _ (items : List ℕ) (n : BagMe K) (left : LeavesFound keeps plan segment items k n) where
      left_goes : (count : ℕ) → length items ≡ count → BagGoes keeps plan m.0 n.0 (turn_read segment 0 ∷ length_read segment count ∷ []) []
      left_goes count long =
          subst (λ c. BagGoes keeps plan m.0 n.0 (turn_read segment 0 ∷ length_read segment c ∷ []) []) long
          (goes_then (bag_terms keeps) BagOpens BagStep plan m.0 k.0 n.0 (turn_read segment 0 ∷ []) (length_read segment (length items) ∷ []) [] got.goes left.goes)

      pub adds_full : (item : ℕ) → length items ≡ plan.shape.room → AddsAt keeps plan item segment m.0 n.0 Full
      adds_full item long = (
        turn_read segment 0 ∷ length_read segment plan.shape.room ∷ [],
        left_goes plan.shape.room long,
        refl,
        left.found ∙ ap₂ (λ c l. found_with segment c ∷ l) long got.found,
        (λ one all. left.counts one (subst (λ c. FoundAllFull plan.shape c n.0.part) (sym same_number) all)),
      )

      pub adds_no_memory : (item : ℕ) → items ≡ a.items → length items < plan.shape.room → IsOwn plan.shape m.0.number segment → AddsAt keeps plan item segment m.0 n.0 NoMemory
      adds_no_memory item same less own = (
        turn_read segment 0 ∷ length_read segment (length items) ∷ [],
        left_goes (length items) refl,
        (length items, less, refl),
        had_room own (subst (λ l. length l < plan.shape.room) same less),
      )

      pub takes_nothing : (kept : Option Kept) → items ≡ [] → TakesAt keeps plan segment kept kept m.0 n.0 Empty
      takes_nothing kept none = (
        turn_read segment 0 ∷ length_read segment 0 ∷ [],
        left_goes 0 (ap length none),
        inl (refl, refl, left.found ∙ ap₂ (λ c l. found_with segment c ∷ l) (ap length none) got.found),
      )

    pub adds_done : (item found : ℕ) (items : List ℕ) (l n : BagMe K) → IsOwn plan.shape m.0.number segment → length a.items < plan.shape.room → Does keeps plan (Put item) k found l → LeavesChanged keeps plan segment items l n
        → AddsAt keeps plan item segment m.0 n.0 Done
    adds_done item found items l n own less put left = (
      found,
      goes_still (bag_terms keeps) BagOpens BagStep plan m.0 l.0 n.0 _ _
          (goes_then (bag_terms keeps) BagOpens BagStep plan m.0 k.0 l.0 (turn_read segment 0 ∷ []) (count_read found ∷ []) (entry m.0.number (Add item) Added ∷ []) got.goes
          (subst (λ c. BagGoes keeps plan k.0 l.0 (count_read found ∷ []) (entry c (Add item) Added ∷ [])) same_number put.1.0)) left.stays,
      had_room own less,
    )

    -- an item was taken
    pub takes_item : (item : ℕ) (left : List ℕ) (held held' : List Holding) (kept kept' : Option Kept) (l n : BagMe K) → TakesHere keeps plan item a.items left held held' k l → LeavesChanged keeps plan segment left l n
        → TakesAt keeps plan segment kept kept' m.0 n.0 (FoundItem item)
    takes_item item left held held' kept kept' l n takes leaves = (
      takes.count,
      goes_still (bag_terms keeps) BagOpens BagStep plan m.0 l.0 n.0 _ _
          (goes_then (bag_terms keeps) BagOpens BagStep plan m.0 k.0 l.0 (turn_read segment 0 ∷ []) (count_read takes.count ∷ []) (entry m.0.number Remove (Took item) ∷ []) got.goes
          (subst (λ c. BagGoes keeps plan k.0 l.0 (count_read takes.count ∷ []) (entry c Remove (Took item) ∷ [])) same_number takes.goes)) leaves.stays,
      takes.is_kept,
    )

    -- what was kept still is, where the segment was left
    pub still_keeping : (kept : Option Kept) (items : List ℕ) (n : BagMe K) → items ≡ a.items → LeavesFound keeps plan segment items k n → IsKeeping plan.shape kept m → IsKeeping plan.shape kept n
    still_keeping kept items n same left keeping =
        let number : n.0.number ≡ m.0.number = left.goes.same.number ∙ same_number in (
          (left.holds (held_of kept) (slots_of kept) (got_holds items (held_of kept) (slots_of kept) same keeping.0.0), keeping.0.1),
          subst (λ c. IsEmptyOwn plan.shape c kept) (sym number) keeping.1,
        )

    -- the segment itself is kept
    pub now_keeping : (items : List ℕ) (own : Kept) → items ≡ a.items → own.segment ≡ segment → own.moved.items ≡ items → items ≡ [] → segment < all_segments plan.shape → IsOwn plan.shape m.0.number segment → IsHolding m [] []
        → IsKeeping plan.shape (Some own) k
    now_keeping items own same named moved none within is_own rests = (
      (subst (λ s. IsHolding k (holding s own.moved.items ∷ []) ((slot_place s, None) ∷ [])) (sym named) (got_holds own.moved.items [] [] (moved ∙ same) rests), subst (λ s. s < all_segments plan.shape) (sym named) within),
      (moved ∙ none, subst (λ s. IsOwn plan.shape k.0.number s) (sym named) (subst (λ c. IsOwn plan.shape c segment) (sym same_number) is_own)),
    )
