-- A whole try of a removal, from its looks at the count and the visits between them.
use Rattle.std.proofs.Common.{◌≡◌, ◌≢◌, ◌==◌, ℕ, ◌<◌, List, [], ◌∷◌, ◌++◌, length, refl, ap, sym, ◌∙◌, subst, arith, eq-eqb, ne_eqb, inl, inr, ⊎_elim, append_assoc, Option, Some, None, Ok, Err}
use Rattle.std.specs.Prelude.{Contains}
use Rattle.std.proofs.lemmas.List.{append-nil}
use Rattle.seq_objects.specs.declared.bags.BagCall.TheVariants.{Remove}
use Rattle.seq_objects.specs.declared.bags.BagReply.TheVariants.{Took, Empty}
use Rattle.seq_objects.specs.BagSteps.{BagStep}
use Rattle.seq_objects.specs.Meanings.{BagOpens}
use Rattle.pass_table.proofs.Going.{goes_then, goes_still}
use Rattle.shared_bag.specs.declared.clients.Plan.{Plan}
use Rattle.shared_bag.specs.declared.clients.Kind.TheVariants.{CountLook}
use Rattle.shared_bag.specs.declared.faults.Busy.{Busy}
use Rattle.shared_bag.specs.declared.visits.Kept.{Kept}
use Rattle.shared_bag.specs.Shapes.{IsShape, all_segments, tried}
use Rattle.shared_bag.specs.Counted.{BagEntry}
use Rattle.shared_bag.specs.Rule.{bag_terms}
use Rattle.shared_bag.specs.Kinds.{Looks, BagView, BagMe, Does, entry, count_read, turn_read, length_read, found_with, FoundAllEmpty}
use Rattle.shared_bag.specs.Visits.{FindsNothing, Visits, left_last}
use Rattle.shared_bag.specs.Tries.{TriesRemove}
use Rattle.shared_bag.specs.Turns.{IsEmptyOwn, BagGoes, Sweeps, FindsAllEmpty, LeavesKeptFound, LeavesKeptChanged, kept_segment}
use Rattle.shared_bag.proofs.Orders.{tried_all}
use Rattle.shared_bag.proofs.TurnSteps.{true_way, false_way}
use Rattle.shared_bag.proofs.SoFar.{contains_cons}

module _ {K : Type 0} (keeps : K → ℕ → Type 0) (plan : Plan K) where
  -- a look at the count that finds some
  looks_on : (found : ℕ) (m n : BagMe K) → found ≢ 0 → Does keeps plan CountLook m found n → BagGoes keeps plan m.0 n.0 (count_read found ∷ []) []
  looks_on found m n some does = (false_way (found == 0) _ _ (ne_eqb found 0 some) does).0.1.0

  -- a look at the count that finds none, which is the removal's entry
  looks_empty : (found : ℕ) (m n : BagMe K) → found ≡ 0 → Does keeps plan CountLook m found n → BagGoes keeps plan m.0 n.0 (count_read 0 ∷ []) (entry m.0.number Remove Empty ∷ [])
  looks_empty found m n none does =
      subst (λ x. BagGoes keeps plan m.0 n.0 (count_read x ∷ []) (entry m.0.number Remove Empty ∷ [])) none (true_way (found == 0) _ _ (eq-eqb found 0 none) does).1.0

  pub removes_at_once : (found : ℕ) (m n : BagMe K) → found ≡ 0 → Does keeps plan CountLook m found n → TriesRemove keeps plan m.0 n.0 (Ok None)
  removes_at_once found m n none does = record { words = count_read 0 ∷ []; goes = looks_empty found m n none does; cause = inl refl; not_alone = λ busy. absurd busy; kept = tt }

  -- what is kept is left
  left_goes : (kept : Option Kept) (v : BagView K) (m n : BagMe K) (looks : Looks) → IsEmptyOwn plan.shape m.0.number kept → BagGoes keeps plan v m.0 looks [] → LeavesKeptFound keeps plan kept m n
      → BagGoes keeps plan v n.0 (looks ++ left_last (kept_segment kept)) []
  left_goes None v m n looks empty goes leaves = subst (λ l. BagGoes keeps plan v n.0 l []) (sym (append-nil looks)) (subst (λ x. BagGoes keeps plan v x.0 looks []) (sym leaves) goes)
  left_goes (Some own) v m n looks empty goes leaves =
      subst (λ k. BagGoes keeps plan v n.0 (looks ++ length_read own.segment k ∷ []) []) (ap length empty.0)
      (goes_then (bag_terms keeps) BagOpens BagStep plan v m.0 n.0 looks (length_read own.segment (length own.moved.items) ∷ []) [] goes leaves.goes)

  changed_goes : (kept : Option Kept) (v : BagView K) (m n : BagMe K) (looks : Looks) (entries : List BagEntry) → BagGoes keeps plan v m.0 looks entries → LeavesKeptChanged keeps plan kept m n → BagGoes keeps plan v n.0 looks entries
  changed_goes None v m n looks entries goes leaves = subst (λ x. BagGoes keeps plan v x.0 looks entries) (sym leaves) goes
  changed_goes (Some own) v m n looks entries goes leaves = goes_still (bag_terms keeps) BagOpens BagStep plan v m.0 n.0 looks entries goes leaves.stays

  -- where the caller is alone, each segment was then found empty
  found_all : (kept : Option Kept) (m n : BagMe K) → IsShape plan.shape → plan.shape.callers ≡ 1 → FindsAllEmpty keeps plan (all_segments plan.shape) m.0 kept → IsEmptyOwn plan.shape m.0.number kept
      → LeavesKeptFound keeps plan kept m n → FoundAllEmpty plan.shape n.0.part
  found_all None m n is one all empty leaves segment within =
      let at = tried_all plan.shape m.0.number segment is within in
      subst (λ x. Contains x.0.part.found (found_with segment 0)) (sym leaves)
      (subst (λ k. Contains m.0.part.found (found_with k 0)) at.2 (⊎_elim (λ has. has) (λ kept'. absurd (cc kept')) (all one at.0 at.1)))
  found_all (Some own) m n is one all empty leaves segment within =
      let at = tried_all plan.shape m.0.number segment is within in
      let none : length own.moved.items ≡ 0 = ap length empty.0 in
      let found : n.0.part.found ≡ found_with own.segment 0 ∷ m.0.part.found = leaves.found ∙ ap (λ k. found_with own.segment k ∷ m.0.part.found) none in
      subst (λ l. Contains l (found_with segment 0)) (sym found)
      (⊎_elim
      (λ has. contains_cons _ _ _ (subst (λ k. Contains m.0.part.found (found_with k 0)) at.2 has))
      (λ kept'. let here : own.segment ≡ segment = (let named : own.segment ≡ tried plan.shape m.0.number at.0 = cc kept' in named ∙ at.2) in (0, omega arith, ap (λ k. found_with k 0) here))
      (all one at.0 at.1))

  module _ (count : ℕ) (m0 m1 m2 : BagMe K) (kept : Option Kept) (some : count ≢ 0) (look : Does keeps plan CountLook m0 count m1) where
    number : m1.0.number ≡ m0.0.number
    number = (looks_on count m0 m1 some look).same.number

    -- a segment had an item
    pub removes_some : (item : ℕ) (m3 : BagMe K) → Sweeps keeps plan kept m1.0 m2.0 (Some item) → LeavesKeptChanged keeps plan kept m2 m3 → TriesRemove keeps plan m0.0 m3.0 (Ok (Some item))
    removes_some item m3 sweeps leaves =
        let (own, place, found, before, less, visits, goes, is_kept) = subst (λ c. (own : Option ℕ) × (place found : ℕ) × (words : Looks) × (place < all_segments plan.shape) × Visits (FindsNothing plan.shape c own) (tried plan.shape c) place words
        × BagGoes keeps plan m1.0 m2.0 (words ++ turn_read (tried plan.shape c place) 0 ∷ count_read found ∷ []) (entry c Remove (Took item) ∷ []) × keeps plan.keeper item) number sweeps in
        record {
          words = count_read count ∷ (before ++ turn_read (tried plan.shape m0.0.number place) 0 ∷ count_read found ∷ []);
          goes = changed_goes kept m0.0 m2 m3 _ _ (goes_then (bag_terms keeps) BagOpens BagStep plan m0.0 m1.0 m2.0 (count_read count ∷ []) _ _ (looks_on count m0 m1 some look) goes) leaves;
          cause = (own, count, place, found, before, some, less, visits, refl);
          not_alone = λ busy. absurd busy;
          kept = is_kept;
        }

    module _ (m3 m4 : BagMe K) (again : ℕ) (sweeps : Sweeps keeps plan kept m1.0 m2.0 None) (empty : IsEmptyOwn plan.shape m2.0.number kept) (leaves : LeavesKeptFound keeps plan kept m2 m3) (last : Does keeps plan CountLook m3 again m4) where
      abbrev words : Looks
      words = sweeps.0

      went : BagGoes keeps plan m0.0 m3.0 (count_read count ∷ (words ++ left_last (kept_segment kept))) []
      went = left_goes kept m0.0 m2 m3 (count_read count ∷ words) empty (goes_then (bag_terms keeps) BagOpens BagStep plan m0.0 m1.0 m2.0 (count_read count ∷ []) words [] (looks_on count m0 m1 some look) sweeps.2) leaves

      visited : Visits (FindsNothing plan.shape m0.0.number (kept_segment kept)) (tried plan.shape m0.0.number) (all_segments plan.shape) words
      visited = subst (λ c. Visits (FindsNothing plan.shape c (kept_segment kept)) (tried plan.shape c) (all_segments plan.shape) words) number sweeps.1

      in_order : (x : ℕ) → count_read count ∷ ((words ++ left_last (kept_segment kept)) ++ count_read x ∷ []) ≡ count_read count ∷ (words ++ (left_last (kept_segment kept) ++ count_read x ∷ []))
      in_order x = ap (λ l. count_read count ∷ l) (append_assoc words (left_last (kept_segment kept)) (count_read x ∷ []))

      -- the count is 0 at the second look
      pub removes_late : again ≡ 0 → TriesRemove keeps plan m0.0 m4.0 (Ok None)
      removes_late none = record {
        words = count_read count ∷ (words ++ (left_last (kept_segment kept) ++ count_read 0 ∷ []));
        goes = subst (λ l. BagGoes keeps plan m0.0 m4.0 l (entry m0.0.number Remove Empty ∷ [])) (in_order 0)
            (goes_then (bag_terms keeps) BagOpens BagStep plan m0.0 m3.0 m4.0 _ (count_read 0 ∷ []) (entry m0.0.number Remove Empty ∷ []) went
            (subst (λ c. BagGoes keeps plan m3.0 m4.0 (count_read 0 ∷ []) (entry c Remove Empty ∷ [])) went.same.number (looks_empty again m3 m4 none last)));
        cause = inr (kept_segment kept, count, words, some, visited, refl);
        not_alone = λ busy. absurd busy;
        kept = tt;
      }

      -- it is not, at either
      pub removes_busy : (busy : Busy) → IsShape plan.shape → again ≢ 0 → TriesRemove keeps plan m0.0 m4.0 (Err busy)
      removes_busy busy is some' = record {
        words = count_read count ∷ (words ++ (left_last (kept_segment kept) ++ count_read again ∷ []));
        goes = subst (λ l. BagGoes keeps plan m0.0 m4.0 l []) (in_order again) (goes_then (bag_terms keeps) BagOpens BagStep plan m0.0 m3.0 m4.0 _ (count_read again ∷ []) [] went (looks_on again m3 m4 some' last));
        cause = (kept_segment kept, count, again, words, some, some', visited, refl);
        not_alone = λ busy' one. (false_way (again == 0) _ _ (ne_eqb again 0 some') last).1 one (found_all kept m2 m3 is one sweeps.3 empty leaves);
        kept = tt;
      }
