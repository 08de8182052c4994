-- What a call does at one segment, from what its steps do.
use Rattle.std.proofs.Common.{◌≡◌, ◌≢◌, ◌==◌, ℕ, ◌≤◌, Bool, true, false, List, [], ◌∷◌, length, refl, ap, ap₂, sym, ◌∙◌, subst, eq-eqb, ne_eqb, Some, None}
use Rattle.std.specs.Prelude.{MatchBool}
use Rattle.std.proofs.lemmas.List.{append-nil}
use Rattle.atomic_table.specs.Table.{rest}
use Rattle.segment_store.specs.Contents.{Contents}
use Rattle.seq_objects.specs.BagSteps.{BagStep}
use Rattle.seq_objects.specs.Meanings.{BagOpens}
use Rattle.pass_table.specs.Steps.{Stays}
use Rattle.pass_table.proofs.Going.{alone}
use Rattle.shared_bag.specs.Layout.{slot_place}
use Rattle.shared_bag.specs.declared.clients.Plan.{Plan}
use Rattle.shared_bag.specs.declared.clients.Holding.{Holding}
use Rattle.shared_bag.specs.declared.clients.Hand.{Hand}
use Rattle.shared_bag.specs.declared.clients.Kind.TheVariants.{Claim, LeaveFound, LeaveChanged}
use Rattle.shared_bag.specs.Shapes.{locale_room}
use Rattle.shared_bag.specs.Counted.{Counts}
use Rattle.shared_bag.specs.Rule.{bag_terms, holds_none}
use Rattle.shared_bag.specs.Kinds.{Looks, Slots, BagView, BagMe, Does, IsBack, holding, found_with, length_read, turn_read, last_segment, last_items, others_held, FoundAllFull}
use Rattle.shared_bag.specs.Turns.{IsHolding, BagGoes, Gets, Misses, LeavesFound, LeavesChanged}

pub true_way : (b : Bool) (P Q : Type 0) → b ≡ true → MatchBool b P Q → P
true_way b P Q is way = subst (λ v. MatchBool v P Q) is way

pub false_way : (b : Bool) (P Q : Type 0) → b ≡ false → MatchBool b P Q → Q
false_way b P Q is way = subst (λ v. MatchBool v P Q) is way

abbrev first_items : Slots → List ℕ
first_items [] = []
first_items ((slot, None) ∷ slots) = []
first_items ((slot, Some contents) ∷ slots) = contents.items

none_held : (rests : Bool) (held : List Holding) → rests ≡ holds_none held → rests ≡ true → held ≡ []
none_held rests [] is rested = refl
none_held rests (h ∷ held) is rested = absurd cc

-- what a caller has in hand, where its rest is that of its part
pub held_is : {K : Type 0} (m : BagMe K) (held : List Holding) (slots : Slots) → m.0.rests ≡ holds_none m.0.part.held → IsHolding m held slots → m.0.part.held ≡ held
held_is m [] slots rested is = none_held m.0.rests m.0.part.held rested is.0
held_is m (h ∷ held) slots rested is = is.2 is.0

-- what it has in hand is some
pub held_some : {K : Type 0} (m : BagMe K) (h : Holding) (held : List Holding) (slots : Slots) → IsHolding m (h ∷ held) slots → m.0.part.held ≡ h ∷ held
held_some m h held slots is = is.2 is.0

module _ {K : Type 0} (keeps : K → ℕ → Type 0) (plan : Plan K) where
  -- what a caller that is alone has seen stays the same where it enters nothing
  pub still_alone : (v w : BagView K) (words : Looks) → BagGoes keeps plan v w words [] → plan.shape.callers ≡ 1 → w.seen ≡ v.seen
  still_alone v w words goes one =
      alone (bag_terms keeps) BagOpens BagStep plan w goes.sound one ∙ (goes.mine ∙ (append-nil v.mine ∙ sym (alone (bag_terms keeps) BagOpens BagStep plan v goes.before one)))

  module _ (segment : ℕ) (m k : BagMe K) (found : ℕ) (rested : m.0.rests ≡ holds_none m.0.part.held) (does : Does keeps plan (Claim segment) m found k) where
    -- the turn was nobody's
    pub gets : (n : BagMe K) (a : Contents) → found ≡ 0 → k.1 ≡ (slot_place segment, Some a) ∷ rest k.1 → n ≡ (k.0, (slot_place segment, None) ∷ rest k.1) → Gets keeps plan segment a m n
    gets n a free out is =
        let all = true_way (found == 0) _ _ (eq-eqb found 0 free) does in
        let contents : Contents = all.0 in
        let goes = all.1.1 in
        let slots_are : k.1 ≡ (slot_place segment, Some contents) ∷ m.1 = goes.2 in
        let left : rest k.1 ≡ m.1 = ap rest slots_are in
        let view : n.0 ≡ k.0 = ap (λ x. x.0) is in
        let items : contents.items ≡ a.items = ap first_items (sym slots_are ∙ out) in
        let went : BagGoes keeps plan m.0 n.0 (turn_read segment 0 ∷ []) [] = subst (λ x. BagGoes keeps plan m.0 n.0 (turn_read segment x ∷ []) []) free (subst (λ x. BagGoes keeps plan m.0 x (turn_read segment found ∷ []) []) (sym view) goes.0) in
        record {
          goes = went;
          found = ap (λ x. x.part.found) view ∙ ap (λ x. x.found) goes.1;
          short = subst (λ l. length l ≤ plan.shape.room) items all.2;
          full = λ one own counts.
              let h_is : all.1.0 ≡ m.0.seen = sym (append-nil all.1.0) ∙ (sym all.1.2 ∙ still_alone m.0 k.0 _ goes.0 one) in
              ap length (sym items) ∙ all.1.3 one own (subst (λ l. Counts l (locale_room plan.shape)) (sym h_is) counts);
          holds = λ held slots holds. (
            ap (λ x. x.rests) view ∙ goes.3,
            ap (λ x. x.1) is ∙ ap (λ l. (slot_place segment, None) ∷ l) (left ∙ holds.1),
            (λ busy. ap (λ x. x.part.held) view ∙ (ap (λ x. x.held) goes.1 ∙ ap₂ (λ l r. holding segment l ∷ r) items (held_is m held slots rested holds))),
          );
        }

    -- it was another's
    pub misses : found ≢ 0 → Misses keeps plan segment m k
    misses taken =
        let all = false_way (found == 0) _ _ (ne_eqb found 0 taken) does in
        let goes = all.0.1 in
        record {
          words = _;
          goes = goes.0;
          held = (found, all.1, refl);
          others = all.2;
          holds = λ held slots holds.
              let same : m.0.part.held ≡ held = held_is m held slots rested holds in
              (goes.3 ∙ ap holds_none same, goes.2 ∙ holds.1, (λ busy. ap (λ x. x.held) goes.1 ∙ same));
        }

  module _ (segment : ℕ) (moved : Contents) (m k : BagMe K) (is : k ≡ (m.0, (slot_place segment, Some moved) ∷ rest m.1))
      (had : (held : List Holding) × (slots : Slots) × IsHolding m (holding segment moved.items ∷ held) ((slot_place segment, None) ∷ slots)) where
    abbrev held_before : m.0.part.held ≡ holding segment moved.items ∷ had.0
    held_before = held_some m (holding segment moved.items) had.0 ((slot_place segment, None) ∷ had.1) had.2

    pub is_back : IsBack k segment
    is_back = (
      moved,
      holding segment moved.items,
      had.0,
      ap (λ x. x.0.part.held) is ∙ held_before,
      refl,
      refl,
      ap (λ x. x.1) is ∙ ap (λ l. (slot_place segment, Some moved) ∷ l) (sym (ap (λ x. rest x.1) is)),
    )

    -- what is left in hand
    left_holds : (n : BagMe K) → n.1 ≡ rest k.1 → n.0.rests ≡ holds_none (others_held k.0.part.held) → n.0.part.held ≡ others_held k.0.part.held
        → (held : List Holding) (slots : Slots) → IsHolding m (holding segment moved.items ∷ held) ((slot_place segment, None) ∷ slots) → IsHolding n held slots
    left_holds n out rests left held slots holds =
        let same : k.0.part.held ≡ holding segment moved.items ∷ held = ap (λ x. x.0.part.held) is ∙ held_some m (holding segment moved.items) held ((slot_place segment, None) ∷ slots) holds in (
          rests ∙ ap (λ l. holds_none (others_held l)) same,
          out ∙ (ap (λ x. rest x.1) is ∙ ap rest holds.1),
          (λ busy. left ∙ ap others_held same),
        )

    pub leaves_found : (n : BagMe K) → Does keeps plan LeaveFound k 0 n → LeavesFound keeps plan segment moved.items m n
    leaves_found n does =
        let goes = does.1 in
        let view : k.0 ≡ m.0 = ap (λ x. x.0) is in
        let same : k.0.part.held ≡ holding segment moved.items ∷ had.0 = ap (λ x. x.part.held) view ∙ held_before in
        let seg : last_segment k.0.part.held ≡ segment = ap last_segment same in
        let items : last_items k.0.part.held ≡ moved.items = ap last_items same in
        record {
          goes = subst (λ x. BagGoes keeps plan x n.0 (length_read segment (length moved.items) ∷ []) []) view
              (subst (λ l. BagGoes keeps plan k.0 n.0 l []) (ap₂ (λ a b. length_read a (length b) ∷ []) seg items) goes.0);
          found = ap (λ x. x.found) goes.1
              ∙ (ap (λ x. found_with x (length (last_items k.0.part.held)) ∷ k.0.part.found) seg ∙ ap₂ (λ l r. found_with segment (length l) ∷ r) items (ap (λ x. x.part.found) view));
          counts = λ one all.
              let after : Hand = record { held = others_held k.0.part.held; found = found_with (last_segment k.0.part.held) (length (last_items k.0.part.held)) ∷ k.0.part.found } in
              let full : FoundAllFull plan.shape k.0.number after = subst (λ x. FoundAllFull plan.shape k.0.number x) goes.1 (subst (λ c. FoundAllFull plan.shape c n.0.part) (sym (ap (λ x. x.number) view)) all) in
              subst (λ h. Counts h (locale_room plan.shape)) (sym (append-nil does.0) ∙ sym does.2) (does.3 one full);
          holds = left_holds n goes.2 goes.3 (ap (λ x. x.held) goes.1);
        }

    pub leaves_changed : (n : BagMe K) → Does keeps plan LeaveChanged k 0 n → LeavesChanged keeps plan segment moved.items m n
    leaves_changed n does = record {
      stays = subst (λ x. Stays (bag_terms keeps) BagOpens BagStep plan x n.0) (ap (λ x. x.0) is) does.0;
      holds = left_holds n does.2 does.3 (ap (λ x. x.held) does.1);
    }
