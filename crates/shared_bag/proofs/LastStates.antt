-- A bag opens with an empty history and empty segments, and closes with the items of all segments.
use Rattle.std.proofs.Common.{◌≡◌, ℕ, zero, suc, ◌-◌, ◌<◌, ◌≤◌, true, List, [], ◌∷◌, length, map, get_or, refl, ap, sym, ◌∙◌, subst, arith, ⊎_elim, Option, Some}
use Rattle.std.specs.Prelude.{replicate, IsPermutation}
use Rattle.std.specs.List.{All}
use Rattle.std.proofs.lemmas.List.{length-replicate, length-map}
use Rattle.std.proofs.lemmas.List.Elements.{All-nil}
use Rattle.std.proofs.lemmas.List.Sorted.{All-permutation}
use mathlib.Core.Option.{some}
use mathlib.Core.Logic.{dite}
use native.Mathlib.Decide.{ℕ_discrete}
use lib.ListN.{get_elem?}
use Rattle.segment_store.specs.Contents.{Contents}
use Rattle.pass_book.specs.Histories.{IsOfCallers}
use Rattle.pass_book.specs.Pages.{IsPageOf}
use Rattle.seq_objects.specs.declared.bags.BagCall.{BagCall}
use Rattle.seq_objects.specs.declared.bags.BagReply.{BagReply}
use Rattle.seq_objects.specs.Meanings.{BagOpens}
use Rattle.seq_objects.specs.BagSteps.{BagStep}
use Rattle.pass_table.specs.declared.passes.Pass.{Pass}
use Rattle.pass_table.specs.declared.tables.PassTable.{PassTable}
use Rattle.pass_table.specs.Terms.{Moment}
use Rattle.pass_table.specs.Steps.{FirstShows}
use Rattle.pass_table.specs.Passes.{plan_of, caller_of, page}
use Rattle.pass_table.specs.Closings.{ClosesWith as TableCloses}
use Rattle.pass_table.specs.Looks.{HaveLooked}
use Rattle.pass_table.proofs.LooksBack.{last_look, pages_before}
use Rattle.shared_bag.specs.declared.layout.Word.{Word}
use Rattle.shared_bag.specs.declared.clients.Plan.{Plan}
use Rattle.shared_bag.specs.declared.clients.Holding.{Holding}
use Rattle.shared_bag.specs.declared.clients.Hand.{Hand}
use Rattle.shared_bag.specs.declared.bags.Bag.{Bag}
use Rattle.shared_bag.specs.Layout.{turn_in, turn_place, words_of, slot_place, slots_in}
use Rattle.shared_bag.specs.Shapes.{IsShape, all_segments}
use Rattle.shared_bag.specs.Counted.{BagEntry, LeavesItems, items_of}
use Rattle.shared_bag.specs.Rule.{IsAmong, BagRule, bag_terms, empty_hand, holds_none}
use Rattle.shared_bag.specs.Closed.{ClosesWith, stored}
use Rattle.shared_bag.proofs.Items.{items_same, items_all, items_none, no_items, one_count}
use Rattle.shared_bag.proofs.Pours.{stored_there, leaves_in_any_order}

all_zero : (n i : ℕ) → let none : ℕ = 0 in get_or (replicate n none) i none ≡ none
all_zero zero i = refl
all_zero (suc n) zero = refl
all_zero (suc n) (suc i) = all_zero n i

-- an empty segment, as it opens
abbrev pub blank : Option Contents
blank = Some (record { items = []; spare = 0 })

all_home : (n k : ℕ) → k < n → get_elem? (map some (replicate n blank)) k ≡ some (some blank)
all_home zero k within = absurd (omega arith)
all_home (suc n) zero within = refl
all_home (suc n) (suc k) within = all_home n k (omega arith)

-- a caller that rests has no segment
rests_empty : (held : List Holding) → holds_none held ≡ true → held ≡ []
rests_empty [] rests = refl
rests_empty (h ∷ held) rests = absurd (cc rests)

module _ {K : Type 0} (keeps : K → ℕ → Type 0) (plan : Plan K) where
  -- the rule holds of a new table
  opens : IsShape plan.shape
      → BagRule keeps plan record { words = replicate (words_of (all_segments plan.shape)) 0; homes = map some (replicate (slots_in (all_segments plan.shape)) blank); history = []; parts = λ _. empty_hand }
  opens shaped =
      let n : ℕ = all_segments plan.shape in
      let words : List ℕ = replicate (words_of n) 0 in
      let has : ℕ → List ℕ = λ _. [] in
      let empty : items_of has n ≡ [] = no_items (items_of has n) (items_none n has (λ j less. refl)) in record {
        has = has;
        shaped = shaped;
        wide = length-replicate (words_of n) 0;
        shelf = length-map (replicate (slots_in n) blank) some ∙ length-replicate (slots_in n) blank;
        calls_kept = All-nil _;
        leaves = (refl, sym empty);
        count = all_zero (words_of n) 0 ∙ sym (ap length empty);
        segments = λ k within. record {
          named = (let z = all_zero (words_of n) (turn_place k) in omega arith);
          home = λ free. (0, all_home (slots_in n) (slot_place k) (omega arith));
          short = omega arith;
          unused = λ past. refl;
          kept = All-nil (keeps plan.keeper);
        };
        hands = λ c below. record {
          holds = tt;
          only = λ k within named. let z = all_zero (words_of n) (turn_place k) in absurd (omega arith);
          still = λ one. All-nil _;
        };
      }

  -- the same, of words that are all 0 and of empty segments
  pub opens_with : (words : List ℕ) (slots : List (Option Contents)) → IsShape plan.shape → words ≡ replicate (words_of (all_segments plan.shape)) 0 → slots ≡ replicate (slots_in (all_segments plan.shape)) blank
      → BagRule keeps plan record { words = words; homes = map some slots; history = []; parts = λ _. empty_hand }
  opens_with words slots shaped zeros blanks =
      subst (λ ws. BagRule keeps plan record { words = ws; homes = map some slots; history = []; parts = λ _. empty_hand }) (sym zeros)
      (subst (λ xs. BagRule keeps plan record { words = replicate (words_of (all_segments plan.shape)) 0; homes = map some xs; history = []; parts = λ _. empty_hand }) (sym blanks) (opens shaped))

  -- the count says how many items there are
  pub first_shows : FirstShows (bag_terms keeps) plan
  first_shows m rule = (items_of rule.has (all_segments plan.shape), rule.leaves, sym rule.count)

  module _ (m : Moment (Option Contents) BagCall BagReply Hand) (rule : BagRule keeps plan m) (rest : (c : ℕ) → c < plan.shape.callers → (m.parts c).held ≡ []) where
    -- where all callers rest, no segment's turn is anybody's
    all_free : (k : ℕ) → k < all_segments plan.shape → turn_in m.words k ≡ 0
    all_free k within =
        let named = (rule.segments k within).named in
        dite (ℕ_discrete (turn_in m.words k) 0) (λ free. free)
        (λ taken.
        let c : ℕ = turn_in m.words k - 1 in
        let below : c < plan.shape.callers = omega arith in
        absurd (subst (IsAmong k) (rest c below) ((rule.hands c below).only k within (omega arith))))

    -- so each slot has the items of its segment
    are_stored : (slots : List (Option Contents)) → ((k : ℕ) (y : Option Contents) → get_elem? m.homes k ≡ some (some y) → get_elem? slots k ≡ some y) → (k : ℕ) → k < all_segments plan.shape → stored slots k ≡ rule.has k
    are_stored slots home k within =
        let there = (rule.segments k within).home (all_free k within) in
        stored_there slots k _ (home (slot_place k) (Some (record { items = rule.has k; spare = there.0 })) there.1)

module _ {K C O : Type 0} (keeps : K → ℕ → Type 0) (t : PassTable C O (Option Contents) (Plan K) Hand Word BagCall BagReply (List ℕ)) (old new : List (Pass (Option Contents) BagCall BagReply (Plan K) Hand Word)) (most : ℕ)
    (looked : HaveLooked (bag_terms keeps) (plan_of t) most old new) (words : List ℕ) (slots : List (Option Contents)) (closes : TableCloses (bag_terms keeps) BagOpens BagStep t new words slots) (n : ℕ) (is : n ≡ all_segments (plan_of t).shape) where
  -- the slots have the items that the history leaves
  slots_have : items_of (stored slots) n ≡ items_of closes.rule.has (all_segments (plan_of t).shape)
  slots_have =
      let m : Moment (Option Contents) BagCall BagReply Hand = record { words = words; homes = closes.homes; history = closes.book.history; parts = closes.parts } in
      ap (items_of (stored slots)) is
      ∙ items_same (all_segments (plan_of t).shape) closes.rule.has (stored slots) (are_stored keeps (plan_of t) m closes.rule (λ c below. rests_empty (closes.parts c).held (closes.rest c below)) slots closes.home)

  pages_fit : All (λ q. IsPageOf (caller_of q) closes.book.history (page q)) new
  pages_fit = λ k d within. closes.legal.pages _ _ (closes.each k d within)

  -- they are no more than were read of
  pub closed_size : length (items_of (stored slots) n) ≤ most
  closed_size =
      let rule = closes.rule in
      let h : List BagEntry = closes.book.history in
      let items : List ℕ = items_of rule.has (all_segments (plan_of t).shape) in
      let callers : IsOfCallers (plan_of t).shape.callers h = subst (λ k. IsOfCallers k h) closes.callers closes.legal.callers in
      let same = ap length slots_have in
      ⊎_elim
      (λ none. let left : LeavesItems [] items = subst (λ l. LeavesItems l items) none rule.leaves in let empty = ap length left.1 in omega arith)
      (λ word. let count = word.1 in let long = one_count h items count.0 rule.leaves count.1 in let many = count.2 in let least = word.2 in omega arith)
      (last_look (bag_terms keeps) BagOpens BagStep (plan_of t) t most old new looked h callers pages_fit closes.all)

  -- the items are kept
  pub closed_kept : (items : List ℕ) → IsPermutation (items_of (stored slots) n) items → All (keeps (plan_of t).keeper) items
  closed_kept items read =
      let keep : ℕ → Type 0 = keeps (plan_of t).keeper in
      let all : All keep (items_of closes.rule.has (all_segments (plan_of t).shape)) = items_all keep (all_segments (plan_of t).shape) closes.rule.has (λ k within. (closes.rule.segments k within).kept) in
      All-permutation keep _ items read (subst (All keep) (sym slots_have) all)

  -- the last state shows the one book
  pub closes_bag : (b : Bag K) (items : List ℕ) → plan_of b.table ≡ plan_of t → IsPermutation (items_of (stored slots) n) items → ClosesWith b old (keeps (plan_of t).keeper) items
  closes_bag b items same read =
      let h : List BagEntry = closes.book.history in
      record {
        book = closes.book;
        legal = closes.legal;
        opened = closes.start;
        callers = closes.callers ∙ ap (λ p. p.shape.callers) (sym same);
        leaves = leaves_in_any_order h (items_of closes.rule.has (all_segments (plan_of t).shape)) items closes.rule.leaves (subst (λ l. IsPermutation l items) slots_have read);
        kept = closes.rule.calls_kept;
        pages = pages_before (bag_terms keeps) BagOpens BagStep (plan_of t) most old new looked h pages_fit;
      }
