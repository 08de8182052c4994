-- The same kinds of step where the caller's hand is known by the segments that it has.
use Rattle.std.proofs.Common.{◌≡◌, ℕ, ◌+◌, ◌-◌, ◌<◌, ◌%◌, ◌^◌, Bool, true, false, List, [], ◌∷◌, ◌++◌, length, take, drop, refl, ap, ap₂, sym, ◌∙◌, subst, arith, ◌⊎◌, inl, inr, ⊎_elim, slice_index, length-append, Some}
use Rattle.std.specs.Prelude.{if◌then◌else◌}
use Rattle.std.specs.Str.{bytes_eq as lists_equal}
use Rattle.std.proofs.lemmas.Slice.Eq.{bytes_eq-Decides as decides_equal}
use Rattle.std.proofs.Math.Seq.{take-append_seam, drop-append-add, get_or-append_seam}
use Rattle.atomic_table.specs.Table.{rest}
use Rattle.segment_store.specs.Contents.{Contents}
use Rattle.segment_store.specs.Steals.{Steals}
use Rattle.seq_objects.specs.declared.bags.BagCall.TheVariants.{Remove}
use Rattle.seq_objects.specs.declared.bags.BagReply.TheVariants.{Took}
use Rattle.seq_objects.specs.BagSteps.{BagStep}
use Rattle.seq_objects.specs.Meanings.{BagOpens}
use Rattle.pass_table.specs.Steps.{GoesTo}
use Rattle.shared_bag.specs.declared.clients.Plan.{Plan}
use Rattle.shared_bag.specs.declared.clients.Holding.{Holding}
use Rattle.shared_bag.specs.declared.clients.Hand.{Hand}
use Rattle.shared_bag.specs.declared.clients.Kind.{Kind}
use Rattle.shared_bag.specs.declared.clients.Kind.TheVariants.{Put, Take, Steal, LeaveFound, LeaveChanged}
use Rattle.shared_bag.specs.Layout.{turn_place, slot_place}
use Rattle.shared_bag.specs.Shapes.{IsOwn}
use Rattle.shared_bag.specs.Rule.{bag_terms}
use Rattle.shared_bag.specs.Kinds.{Slots, BagMe, Does, DoesSteal, count_read, entry, holding, last_items, with_items, with_halves, steal_kind}
use Rattle.shared_bag.proofs.KindSteps.{MaySo, may_put, may_take, may_steal, may_leave_found, may_leave_changed}

-- by which step items are stolen
steal_is : (had own left : List ℕ) (item : ℕ) → Steals had own left item
    → ((steal_kind had own left item ≡ Steal (length own)) × (had ≡ own ++ item ∷ left)) ⊎ ((steal_kind had own left item ≡ Take) × (had ≡ left ++ item ∷ []) × (own ≡ []))
steal_is had own left item steals = by (lists_equal had (own ++ item ∷ left)) refl
  where
    by : (b : Bool) → lists_equal had (own ++ item ∷ left) ≡ b → ((steal_kind had own left item ≡ Steal (length own)) × (had ≡ own ++ item ∷ left)) ⊎ ((steal_kind had own left item ≡ Take) × (had ≡ left ++ item ∷ []) × (own ≡ []))
    by true is = inl (ap (λ b. if b then Steal (length own) else Take) is, (decides_equal had (own ++ item ∷ left)).0 is)
    by false is =
        ⊎_elim
        (λ half. absurd (let same = (decides_equal had (own ++ item ∷ left)).1 half.parts in cc (is, same)))
        (λ last. inr (ap (λ b. if b then Steal (length own) else Take) is, last.parts, last.nothing))
        steals

module _ {K : Type 0} (keeps : K → ℕ → Type 0) (plan : Plan K) (slots c : ℕ) (rests : Bool) where
  -- with this hand
  with_hand : (kind : Kind) (hand : Hand) (held : List Holding) (carried : Slots) (place : ℕ) (f said : ℕ → ℕ) → hand.held ≡ held
      → MaySo keeps plan slots c rests kind record { held = held; found = hand.found } carried place f said → MaySo keeps plan slots c rests kind hand carried place f said
  with_hand kind hand held carried place f said is may = subst (λ x. MaySo keeps plan slots c rests kind x carried place f said) (ap (λ l. record { held = l; found = hand.found }) (sym is)) may

  pub may_put_in : (item : ℕ) (hand : Hand) (carried : Slots) (h : Holding) (others : List Holding) → hand.held ≡ h ∷ others → length h.items < plan.shape.room → IsOwn plan.shape c h.segment → keeps plan.keeper item
      → MaySo keeps plan slots c rests (Put item) hand carried 0 (λ n. (n + 1) % 2 ^ 64) (λ n. n)
  may_put_in item hand carried h others is room own wants = with_hand (Put item) hand (h ∷ others) carried 0 (λ n. (n + 1) % 2 ^ 64) (λ n. n) is (may_put keeps plan slots c rests item h others hand.found carried room own wants)

  pub may_take_in : (hand : Hand) (carried : Slots) (h : Holding) (others : List Holding) → hand.held ≡ h ∷ others → 0 < length h.items
      → MaySo keeps plan slots c rests Take hand carried 0 (λ n. (n + (2 ^ 64 - 1)) % 2 ^ 64) (λ n. n)
  may_take_in hand carried h others is some_item = with_hand Take hand (h ∷ others) carried 0 (λ n. (n + (2 ^ 64 - 1)) % 2 ^ 64) (λ n. n) is (may_take keeps plan slots c rests h others hand.found carried some_item)

  pub may_steal_in : (kind : Kind) (own left : List ℕ) (item : ℕ) (hand : Hand) (carried : Slots) (h o : Holding) (others : List Holding) → kind ≡ steal_kind (last_items hand.held) own left item → hand.held ≡ h ∷ o ∷ others
      → Steals h.items own left item → o.items ≡ [] → IsOwn plan.shape c o.segment → MaySo keeps plan slots c rests kind hand carried 0 (λ n. (n + (2 ^ 64 - 1)) % 2 ^ 64) (λ n. n)
  may_steal_in kind own left item hand carried h o others is_kind is steals empty is_own =
      let kind_is : kind ≡ steal_kind h.items own left item = is_kind ∙ ap (λ l. steal_kind (last_items l) own left item) is in
      let so : (k : Kind) → kind ≡ k → MaySo keeps plan slots c rests k record { held = h ∷ o ∷ others; found = hand.found } carried 0 (λ n. (n + (2 ^ 64 - 1)) % 2 ^ 64) (λ n. n)
      → MaySo keeps plan slots c rests kind hand carried 0 (λ n. (n + (2 ^ 64 - 1)) % 2 ^ 64) (λ n. n)
      = λ k same may. with_hand kind hand (h ∷ o ∷ others) carried 0 (λ n. (n + (2 ^ 64 - 1)) % 2 ^ 64) (λ n. n) is (subst (λ x. MaySo keeps plan slots c rests x record { held = h ∷ o ∷ others; found = hand.found } carried 0 (λ n. (n + (2 ^ 64 - 1)) % 2 ^ 64) (λ n. n)) (sym same) may) in
      ⊎_elim
      (λ half. so (Steal (length own)) (kind_is ∙ half.0) (may_steal keeps plan slots c rests (length own) h o others hand.found carried (omega (arith, ap length half.1, length-append own (item ∷ left))) empty is_own))
      (λ last. so Take (kind_is ∙ last.0) (may_take keeps plan slots c rests h (o ∷ others) hand.found carried (omega (arith, ap length last.1, length-append left (item ∷ [])))))
      (steal_is h.items own left item steals)

  -- a segment that goes home, at the place where its turn stands
  at_home : (kind : Kind) (segment place : ℕ) (hand : Hand) (carried : Slots) (contents : Contents) (h : Holding) (others : List Holding) → hand.held ≡ h ∷ others → h.segment ≡ segment → carried ≡ (slot_place segment, Some contents) ∷ rest carried → place ≡ turn_place segment
      → MaySo keeps plan slots c rests kind record { held = h ∷ others; found = hand.found } ((slot_place h.segment, Some contents) ∷ rest carried) (turn_place h.segment) (λ _. 0) (λ _. 0)
      → MaySo keeps plan slots c rests kind hand carried place (λ _. 0) (λ _. 0)
  at_home kind segment place hand carried contents h others is named out at may =
      let here = subst (λ s. MaySo keeps plan slots c rests kind record { held = h ∷ others; found = hand.found } ((slot_place s, Some contents) ∷ rest carried) (turn_place s) (λ _. 0) (λ _. 0)) named may in
      with_hand kind hand (h ∷ others) carried place (λ _. 0) (λ _. 0) is
      (subst (λ p. MaySo keeps plan slots c rests kind record { held = h ∷ others; found = hand.found } carried p (λ _. 0) (λ _. 0)) (sym at)
      (subst (λ l. MaySo keeps plan slots c rests kind record { held = h ∷ others; found = hand.found } l (turn_place segment) (λ _. 0) (λ _. 0)) (sym out) here))

  pub may_leave_found_in : (segment place : ℕ) (hand : Hand) (carried : Slots) (contents : Contents) (h : Holding) (others : List Holding) → hand.held ≡ h ∷ others → h.segment ≡ segment → contents.items ≡ h.items
      → carried ≡ (slot_place segment, Some contents) ∷ rest carried → place ≡ turn_place segment → MaySo keeps plan slots c rests LeaveFound hand carried place (λ _. 0) (λ _. 0)
  may_leave_found_in segment place hand carried contents h others is named back out at =
      at_home LeaveFound segment place hand carried contents h others is named out at (may_leave_found keeps plan slots c rests h others hand.found contents (rest carried) back)

  pub may_leave_changed_in : (segment place : ℕ) (hand : Hand) (carried : Slots) (contents : Contents) (h : Holding) (others : List Holding) → hand.held ≡ h ∷ others → h.segment ≡ segment → contents.items ≡ h.items
      → carried ≡ (slot_place segment, Some contents) ∷ rest carried → place ≡ turn_place segment → MaySo keeps plan slots c rests LeaveChanged hand carried place (λ _. 0) (λ _. 0)
  may_leave_changed_in segment place hand carried contents h others is named back out at =
      at_home LeaveChanged segment place hand carried contents h others is named out at (may_leave_changed keeps plan slots c rests h others hand.found contents (rest carried) back)

module _ {K : Type 0} (keeps : K → ℕ → Type 0) (plan : Plan K) where
  -- what a step tells by which the last item is taken
  pub does_take : (had left : List ℕ) (item found : ℕ) (m n : BagMe K) (h : Holding) (others : List Holding) → m.0.part.held ≡ h ∷ others → h.items ≡ had → had ≡ left ++ item ∷ [] → Does keeps plan Take m found n
      → GoesTo (bag_terms keeps) BagOpens BagStep plan m n (count_read found ∷ []) (entry m.0.number Remove (Took item) ∷ []) record { held = holding h.segment left ∷ others; found = [] } m.1 × keeps plan.keeper item
  does_take had left item found m n h others is has parts told =
      let items : List ℕ = last_items m.0.part.held in
      let all : items ≡ left ++ item ∷ [] = ap last_items is ∙ (has ∙ parts) in
      let long : length items - 1 ≡ length left = omega (arith, ap length all, length-append left (item ∷ [])) in
      let same : slice_index items (length items - 1) ≡ item = ap (slice_index items) long ∙ (ap (λ l. slice_index l (length left)) all ∙ get_or-append_seam left item [] 0) in
      let held : with_items m.0.part.held (take (length items - 1) items) ≡ holding h.segment left ∷ others =
      ap (λ l. with_items l (take (length items - 1) items)) is ∙ ap (λ a. holding h.segment a ∷ others) (ap (λ i. take i items) long ∙ (ap (take (length left)) all ∙ take-append_seam left (item ∷ []))) in (
        subst (λ x. GoesTo (bag_terms keeps) BagOpens BagStep plan m n (count_read found ∷ []) (entry m.0.number Remove (Took x) ∷ []) record { held = holding h.segment left ∷ others; found = [] } m.1) same
            (subst (λ l. GoesTo (bag_terms keeps) BagOpens BagStep plan m n (count_read found ∷ []) (entry m.0.number Remove (Took (slice_index items (length items - 1))) ∷ []) record { held = l; found = [] } m.1) held told.0.1),
        subst (keeps plan.keeper) same told.1,
      )

  -- what a step tells by which items are stolen
  pub does_steal : (kind : Kind) (own left : List ℕ) (item found : ℕ) (m n : BagMe K) (h o : Holding) (others : List Holding) → kind ≡ steal_kind (last_items m.0.part.held) own left item → m.0.part.held ≡ h ∷ o ∷ others
      → Steals h.items own left item → o.items ≡ [] → Does keeps plan kind m found n → DoesSteal keeps plan own left item m n
  does_steal kind own left item found m n h o others is_kind is steals empty does =
      let kind_is : kind ≡ steal_kind h.items own left item = is_kind ∙ ap (λ l. steal_kind (last_items l) own left item) is in
      let items : List ℕ = last_items m.0.part.held in
      let items_are : items ≡ h.items = ap last_items is in
      let so : (taken : ℕ) (held : List Holding) → taken ≡ item → held ≡ holding h.segment left ∷ holding o.segment own ∷ others
      → GoesTo (bag_terms keeps) BagOpens BagStep plan m n (count_read found ∷ []) (entry m.0.number Remove (Took taken) ∷ []) record { held = held; found = [] } m.1 → keeps plan.keeper taken → DoesSteal keeps plan own left item m n
      = λ taken held same held_are goes kept. (
        h,
        o,
        others,
        found,
        is,
        subst (λ x. GoesTo (bag_terms keeps) BagOpens BagStep plan m n (count_read found ∷ []) (entry m.0.number Remove (Took x) ∷ []) record { held = holding h.segment left ∷ holding o.segment own ∷ others; found = [] } m.1) same
            (subst (λ l. GoesTo (bag_terms keeps) BagOpens BagStep plan m n (count_read found ∷ []) (entry m.0.number Remove (Took taken) ∷ []) record { held = l; found = [] } m.1) held_are goes),
        subst (keeps plan.keeper) same kept,
      ) in
      ⊎_elim
      (λ half.
      let told = subst (λ k. Does keeps plan k m found n) (kind_is ∙ half.0) does in
      let all : items ≡ own ++ item ∷ left = items_are ∙ half.1 in
      so (slice_index items (length own)) (with_halves m.0.part.held (drop (length own + 1) items) (take (length own) items))
      (ap (λ l. slice_index l (length own)) all ∙ get_or-append_seam own item left 0)
      (ap (λ l. with_halves l (drop (length own + 1) items) (take (length own) items)) is
      ∙ ap₂ (λ a b. holding h.segment a ∷ holding o.segment b ∷ others) (ap (drop (length own + 1)) all ∙ drop-append-add own (item ∷ left) 1) (ap (take (length own)) all ∙ take-append_seam own (item ∷ left)))
      told.0.1 told.1)
      (λ last.
      let told = does_take h.items left item found m n h (o ∷ others) is refl last.1 (subst (λ k. Does keeps plan k m found n) (kind_is ∙ last.0) does) in
      so item (holding h.segment left ∷ o ∷ others) refl (ap (λ l. holding h.segment left ∷ holding o.segment l ∷ others) (empty ∙ sym last.2)) told.0 told.1)
      (steal_is h.items own left item steals)
