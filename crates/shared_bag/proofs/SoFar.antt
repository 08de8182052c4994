-- The visits of an add or a removal, one after another.
use Rattle.std.proofs.Common.{◌≡◌, ◌≢◌, ℕ, zero, suc, ◌<◌, Bool, true, false, List, [], ◌∷◌, ◌++◌, refl, ap, ap₂, sym, ◌∙◌, subst, arith, inl, inr, ◌⊎◌, ⊎_elim, append_assoc, Option, Some, None, Ok, Err}
use Rattle.std.specs.Prelude.{Contains}
use mathlib.Core.Logic.{dite}
use native.Mathlib.Decide.{ℕ_discrete}
use Rattle.seq_objects.specs.declared.bags.BagCall.TheVariants.{Add, Remove}
use Rattle.seq_objects.specs.declared.bags.BagReply.TheVariants.{Added, Took}
use Rattle.seq_objects.specs.BagSteps.{BagStep}
use Rattle.seq_objects.specs.Meanings.{BagOpens}
use Rattle.pass_table.proofs.Going.{goes_then}
use Rattle.shared_bag.specs.declared.shapes.Shape.{Shape}
use Rattle.shared_bag.specs.declared.clients.Plan.{Plan}
use Rattle.shared_bag.specs.declared.clients.Found.{Found}
use Rattle.shared_bag.specs.declared.faults.AddFault.TheVariants.{Full, OutOfMemory}
use Rattle.shared_bag.specs.declared.visits.Kept.{Kept}
use Rattle.shared_bag.specs.declared.visits.AddVisit.TheVariants.{Done, Held, Full as FullVisit, NoMemory}
use Rattle.shared_bag.specs.declared.visits.TakeVisit.TheVariants.{Found as FoundItem, Held as HeldTake, Empty as EmptyVisit}
use Rattle.shared_bag.specs.Shapes.{all_segments, tried, locale_room, IsShape, IsOwn}
use Rattle.shared_bag.specs.Counted.{BagEntry, Counts}
use Rattle.shared_bag.specs.Rule.{bag_terms}
use Rattle.shared_bag.specs.Kinds.{Looks, BagView, entry, count_read, turn_read, found_with, FoundAllFull}
use Rattle.shared_bag.specs.Visits.{IsHeld, HasLeft, FindsNoRoom, FindsNothing, Visits, SomeHeld}
use Rattle.shared_bag.specs.Turns.{BagGoes, HadRoom, AddsAt, TakesAt, FindsAllEmpty, Sweeps, kept_segment}
use Rattle.shared_bag.specs.Tries.{TriesAdd}
use Rattle.shared_bag.proofs.Orders.{own_tried, tried_own, tried_once}
use Rattle.shared_bag.proofs.TurnSteps.{still_alone}

some_later : (callers caller : ℕ) (words here : Looks) → SomeHeld callers caller words → SomeHeld callers caller (words ++ here)
some_later callers caller words here (before, after, segment, turn, names, is) =
    (before, after ++ here, segment, turn, names, ap (λ l. l ++ here) is ∙ append_assoc before (turn_read segment turn ∷ after) here)

pub contains_cons : {A : Type 0} (a x : A) (l : List A) → Contains l x → Contains (a ∷ l) x
contains_cons a x l has = (suc has.0, omega (arith, has.1), has.2)

-- what was found at each of n places is also found once more was found at the next
found_more : (shape : Shape) (caller n count : ℕ) (found found' : List Found) (j : ℕ) → found' ≡ found_with (tried shape caller n) count ∷ found → (j ≢ n → Contains found (found_with (tried shape caller j) count))
    → Contains found' (found_with (tried shape caller j) count)
found_more shape caller n count found found' j is before =
    let f : Found = found_with (tried shape caller n) count in
    let at : (i : ℕ) → Found = λ i. found_with (tried shape caller i) count in
    subst (λ l. Contains l (at j)) (sym is)
    (dite (ℕ_discrete j n)
    (λ last. subst (λ i. Contains (f ∷ found) (at i)) (sym last) (zero, omega arith, refl))
    (λ away. contains_cons f (at j) found (before away)))

module _ {K : Type 0} (keeps : K → ℕ → Type 0) (plan : Plan K) where
  -- Steps from v to w that read these words and made no entry, or no step at all
  abbrev pub Went : ℕ → BagView K → BagView K → Looks → Type 0
  Went n v w words = ((n ≡ 0) × (w ≡ v) × (words ≡ [])) ⊎ BagGoes keeps plan v w words []

  went_then : (n : ℕ) (v m w : BagView K) (words more : Looks) (entries : List BagEntry) → Went n v m words → BagGoes keeps plan m w more entries → BagGoes keeps plan v w (words ++ more) entries
  went_then n v m w words more entries went goes =
      ⊎_elim
      (λ none. subst (λ l. BagGoes keeps plan v w (l ++ more) entries) (sym none.2) (subst (λ u. BagGoes keeps plan u w more entries) none.1 goes))
      (λ some. goes_then (bag_terms keeps) BagOpens BagStep plan v m w words more entries some goes)
      went

  went_some : (n : ℕ) (v w : BagView K) (words : Looks) → n ≢ 0 → Went n v w words → BagGoes keeps plan v w words []
  went_some n v w words some went = ⊎_elim (λ none. absurd (some none.0)) (λ goes. goes) went

  went_number : (n : ℕ) (v w : BagView K) (words : Looks) → Went n v w words → w.number ≡ v.number
  went_number n v w words went = ⊎_elim (λ none. ap (λ x. x.number) none.1) (λ goes. goes.same.number) went

  went_still : (n : ℕ) (v w : BagView K) (words : Looks) → Went n v w words → plan.shape.callers ≡ 1 → w.seen ≡ v.seen
  went_still n v w words went one = ⊎_elim (λ none. ap (λ x. x.seen) none.1) (λ goes. still_alone keeps plan v w words goes one) went

  -- The visits of an add so far. Where all were full, they were found so
  pub record AddsSoFar (v w : BagView K) (n : ℕ) (some_held : Bool) : Type 0 where
    pub words : Looks
    pub went : Went n v w words
    pub visits : Visits (FindsNoRoom plan.shape v.number) (tried plan.shape v.number) n words
    pub held : some_held ≡ true → SomeHeld plan.shape.callers v.number words × (plan.shape.callers ≢ 1)
    pub full : some_held ≡ false → Visits (HasLeft plan.shape.room) (tried plan.shape v.number) n words
    pub found : some_held ≡ false → (j : ℕ) → j < n → Contains w.part.found (found_with (tried plan.shape v.number j) plan.shape.room)
    pub counts : some_held ≡ false → n ≢ 0 → plan.shape.callers ≡ 1 → FoundAllFull plan.shape v.number w.part → Counts w.seen (locale_room plan.shape)

  module _ (item n : ℕ) (some_held : Bool) (v m w : BagView K) (so_far : AddsSoFar v m n some_held) where
    abbrev here_is : m.number ≡ v.number
    here_is = went_number n v m so_far.words so_far.went

    -- the next segment is one of the caller's locale
    pub adds_own : (k : ℕ) → IsShape plan.shape → n < plan.shape.segments → k ≡ tried plan.shape v.number n → IsOwn plan.shape m.number k
    adds_own k is less at = subst (λ s. IsOwn plan.shape m.number s) (sym at) (subst (λ c. IsOwn plan.shape c (tried plan.shape v.number n)) (sym here_is) (tried_own plan.shape v.number n is less))

    pub adds_held : AddsAt keeps plan item (tried plan.shape v.number n) m w Held → AddsSoFar v w (suc n) true
    adds_held (here, goes, held, others) =
        let held' : IsHeld plan.shape.callers v.number (tried plan.shape v.number n) here = subst (λ c. IsHeld plan.shape.callers c (tried plan.shape v.number n) here) here_is held in record {
          words = so_far.words ++ here;
          went = inr (went_then n v m w so_far.words here [] so_far.went goes);
          visits = (so_far.words, here, refl, so_far.visits, inl held');
          held = λ is. ((so_far.words, [], tried plan.shape v.number n, held'.0, held'.1, ap (λ l. so_far.words ++ l) held'.2), others);
          full = λ is. absurd cc;
          found = λ is. absurd cc;
          counts = λ is. absurd cc;
        }

    pub adds_full : AddsAt keeps plan item (tried plan.shape v.number n) m w FullVisit → AddsSoFar v w (suc n) some_held
    adds_full (here, goes, left, found, counts) = record {
      words = so_far.words ++ here;
      went = inr (went_then n v m w so_far.words here [] so_far.went goes);
      visits = (so_far.words, here, refl, so_far.visits, inr left);
      held = λ is. (some_later plan.shape.callers v.number so_far.words here (so_far.held is).0, (so_far.held is).1);
      full = λ is. (so_far.words, here, refl, so_far.full is, left);
      found = λ is j less. found_more plan.shape v.number n plan.shape.room m.part.found w.part.found j found (λ away. so_far.found is j (omega arith));
      counts = λ is some one all. counts one (subst (λ c. FoundAllFull plan.shape c w.part) (sym here_is) all);
    }

    had_room_first : HadRoom keeps plan m → HadRoom keeps plan v
    had_room_first had one counts = had one (subst (λ h. Counts h (locale_room plan.shape)) (sym (went_still n v m so_far.words so_far.went one)) counts)

    pub adds_done : n < plan.shape.segments → AddsAt keeps plan item (tried plan.shape v.number n) m w Done → TriesAdd keeps plan item v w (Ok tt)
    adds_done less (count, goes, had) = record {
      words = so_far.words ++ turn_read (tried plan.shape v.number n) 0 ∷ count_read count ∷ [];
      goes = went_then n v m w so_far.words _ _ so_far.went
          (subst (λ c. BagGoes keeps plan m w (turn_read (tried plan.shape v.number n) 0 ∷ count_read count ∷ []) (entry c (Add item) Added ∷ [])) here_is goes);
      cause = (n, count, so_far.words, less, so_far.visits, refl);
      not_alone = λ busy. absurd busy;
      full_alone = λ one. ((λ is. absurd cc), λ counts. absurd (had_room_first had one counts));
    }

    pub adds_no_memory : n < plan.shape.segments → AddsAt keeps plan item (tried plan.shape v.number n) m w NoMemory → TriesAdd keeps plan item v w (Err OutOfMemory)
    adds_no_memory less (here, goes, (count, room, left), had) = record {
      words = so_far.words ++ here;
      goes = went_then n v m w so_far.words here [] so_far.went goes;
      cause = (n, count, so_far.words, less, so_far.visits, room, ap (λ l. so_far.words ++ l) left);
      not_alone = λ busy. absurd busy;
      full_alone = λ one. ((λ is. absurd cc), λ counts. absurd (had_room_first had one counts));
    }

  module _ (item n : ℕ) (some_held : Bool) (v w : BagView K) (all : n ≡ plan.shape.segments) (some : n ≢ 0) (so_far : AddsSoFar v w n some_held) where
    pub adds_nowhere : IsShape plan.shape → some_held ≡ false → TriesAdd keeps plan item v w (Err Full)
    adds_nowhere shaped is = record {
      words = so_far.words;
      goes = went_some n v w so_far.words some so_far.went;
      cause = subst (λ k. Visits (HasLeft plan.shape.room) (tried plan.shape v.number) k so_far.words) all (so_far.full is);
      not_alone = λ busy. absurd busy;
      full_alone = λ one. (
        (λ full. so_far.counts is some one (λ k within own.
            let place = own_tried plan.shape v.number k shaped own in
            subst (λ s. Contains w.part.found (found_with s plan.shape.room)) place.2 (so_far.found is place.0 (let less = place.1 in omega arith)))),
        λ counts. refl,
      );
    }

  -- The visits of a removal so far: what is kept was found at one of these places
  pub record SweepsSoFar (v w : BagView K) (n : ℕ) (kept : Option Kept) : Type 0 where
    pub words : Looks
    pub went : Went n v w words
    pub visits : Visits (FindsNothing plan.shape v.number (kept_segment kept)) (tried plan.shape v.number) n words
    pub empty : FindsAllEmpty keeps plan n w kept
    pub place : (kept ≡ None) ⊎ ((j : ℕ) × (j < n) × (kept_segment kept ≡ Some (tried plan.shape v.number j)))

  -- where nothing was kept yet, nothing that was found hangs on it
  keeps_now : (shape : Shape) (caller segment : ℕ) (order : ℕ → ℕ) (n : ℕ) (words : Looks) → Visits (FindsNothing shape caller None) order n words → Visits (FindsNothing shape caller (Some segment)) order n words
  keeps_now shape caller segment order zero words visits = visits
  keeps_now shape caller segment order (suc n) words (before, here, is, visits, finds) =
      (before, here, is, keeps_now shape caller segment order n before visits, ⊎_elim (λ held. inl held) (λ rest. ⊎_elim (λ left. inr (inl left)) (λ kept. absurd kept) rest) finds)

  module _ (n : ℕ) (v m w : BagView K) (kept kept' : Option Kept) (so_far : SweepsSoFar v m n kept) where
    abbrev there_is : m.number ≡ v.number
    there_is = went_number n v m so_far.words so_far.went

    -- the next segment is not the one that is kept
    pub sweeps_away : (k : ℕ) → IsShape plan.shape → n < all_segments plan.shape → k ≡ tried plan.shape v.number n → kept_segment kept ≢ Some k
    sweeps_away k is less at same =
        ⊎_elim
        (λ none. absurd (let no : kept_segment kept ≡ None = ap kept_segment none in cc (no, same)))
        (λ there.
        let again : tried plan.shape v.number there.0 ≡ tried plan.shape v.number n = cc (there.2, same, at) in
        absurd (let it = tried_once plan.shape v.number there.0 n is (let below = there.1 in omega arith) less again in let below = there.1 in omega arith))
        so_far.place

    -- among the first it is one of the caller's locale
    pub sweeps_own : (k : ℕ) → IsShape plan.shape → k ≡ tried plan.shape v.number n → n < plan.shape.segments → IsOwn plan.shape m.number k
    sweeps_own k is at less = subst (λ s. IsOwn plan.shape m.number s) (sym at) (subst (λ c. IsOwn plan.shape c (tried plan.shape v.number n)) (sym there_is) (tried_own plan.shape v.number n is less))

    pub sweeps_held : TakesAt keeps plan (tried plan.shape v.number n) kept kept' m w HeldTake → SweepsSoFar v w (suc n) kept'
    sweeps_held (here, goes, held, others, same) =
        let held' : IsHeld plan.shape.callers v.number (tried plan.shape v.number n) here = subst (λ c. IsHeld plan.shape.callers c (tried plan.shape v.number n) here) there_is held in
        subst (SweepsSoFar v w (suc n)) (sym same) record {
          words = so_far.words ++ here;
          went = inr (went_then n v m w so_far.words here [] so_far.went goes);
          visits = (so_far.words, here, refl, so_far.visits, inl held');
          empty = λ one. absurd (others one);
          place = ⊎_elim (λ none. inl none) (λ at. inr (at.0, omega (arith, at.1), at.2)) so_far.place;
        }

    -- an empty segment was left
    sweeps_left : (here : Looks) → BagGoes keeps plan m w here [] → HasLeft 0 (tried plan.shape v.number n) here → w.part.found ≡ found_with (tried plan.shape v.number n) 0 ∷ m.part.found → SweepsSoFar v w (suc n) kept
    sweeps_left here goes left found =
        let number : w.number ≡ m.number = goes.same.number in
        let at : w.number ≡ v.number = number ∙ there_is in record {
          words = so_far.words ++ here;
          went = inr (went_then n v m w so_far.words here [] so_far.went goes);
          visits = (so_far.words, here, refl, so_far.visits, inr (inl left));
          empty = λ one j less.
              dite (ℕ_discrete j n)
              (λ last. inl (found_more plan.shape w.number n 0 m.part.found w.part.found j (found ∙ ap (λ c. found_with (tried plan.shape c n) 0 ∷ m.part.found) (sym at)) (λ away. absurd (away last))))
              (λ away. ⊎_elim
              (λ there. inl (subst (λ l. Contains l (found_with (tried plan.shape w.number j) 0)) (sym found) (contains_cons _ _ _ (subst (λ c. Contains m.part.found (found_with (tried plan.shape c j) 0)) (sym number) there))))
              (λ it. inr (subst (λ c. kept_segment kept ≡ Some (tried plan.shape c j)) (sym number) it))
              (so_far.empty one j (omega arith)));
          place = ⊎_elim (λ none. inl none) (λ at. inr (at.0, omega (arith, at.1), at.2)) so_far.place;
        }

    -- it is kept
    sweeps_kept : (here : Looks) → BagGoes keeps plan m w here [] → here ≡ turn_read (tried plan.shape v.number n) 0 ∷ [] → kept ≡ None → kept_segment kept' ≡ Some (tried plan.shape v.number n) → w.part.found ≡ m.part.found
        → SweepsSoFar v w (suc n) kept'
    sweeps_kept here goes is none now found =
        let number : w.number ≡ m.number = goes.same.number in
        let at : w.number ≡ v.number = number ∙ there_is in
        let visits : Visits (FindsNothing plan.shape v.number None) (tried plan.shape v.number) n so_far.words =
        subst (λ k. Visits (FindsNothing plan.shape v.number (kept_segment k)) (tried plan.shape v.number) n so_far.words) none so_far.visits in record {
          words = so_far.words ++ here;
          went = inr (went_then n v m w so_far.words here [] so_far.went goes);
          visits = subst (λ s. Visits (FindsNothing plan.shape v.number s) (tried plan.shape v.number) (suc n) (so_far.words ++ here)) (sym now)
              (so_far.words, here, refl, keeps_now plan.shape v.number (tried plan.shape v.number n) (tried plan.shape v.number) n so_far.words visits, inr (inr (refl, is)));
          empty = λ one j less.
              dite (ℕ_discrete j n)
              (λ last. inr (now ∙ ap₂ (λ c i. Some (tried plan.shape c i)) (sym at) (sym last)))
              (λ away. ⊎_elim
              (λ there. inl (subst (λ l. Contains l (found_with (tried plan.shape w.number j) 0)) (sym found) (subst (λ c. Contains m.part.found (found_with (tried plan.shape c j) 0)) (sym number) there)))
              (λ it. absurd (let no : kept_segment kept ≡ None = ap kept_segment none in cc (no, it)))
              (so_far.empty one j (omega arith)));
          place = inr (n, omega arith, now);
        }

    pub sweeps_empty : TakesAt keeps plan (tried plan.shape v.number n) kept kept' m w EmptyVisit → SweepsSoFar v w (suc n) kept'
    sweeps_empty (here, goes, either) =
        ⊎_elim
        (λ left. subst (SweepsSoFar v w (suc n)) (sym left.1) (sweeps_left here goes left.0 left.2))
        (λ kept'. sweeps_kept here goes kept'.0 kept'.1 kept'.2 kept'.3)
        either

    pub sweeps_found : (item : ℕ) → n < all_segments plan.shape → TakesAt keeps plan (tried plan.shape v.number n) kept kept' m w (FoundItem item) → Sweeps keeps plan kept' v w (Some item)
    sweeps_found item less (count, goes, is_kept) = (
      kept_segment kept,
      n,
      count,
      so_far.words,
      less,
      so_far.visits,
      went_then n v m w so_far.words _ _ so_far.went
          (subst (λ c. BagGoes keeps plan m w (turn_read (tried plan.shape v.number n) 0 ∷ count_read count ∷ []) (entry c Remove (Took item) ∷ [])) there_is goes),
      is_kept,
    )

  -- a removal has visited all segments
  pub sweeps_all : (n : ℕ) (v w : BagView K) (kept : Option Kept) → n ≡ all_segments plan.shape → n ≢ 0 → SweepsSoFar v w n kept → Sweeps keeps plan kept v w None
  sweeps_all n v w kept all some so_far = (
    so_far.words,
    subst (λ k. Visits (FindsNothing plan.shape v.number (kept_segment kept)) (tried plan.shape v.number) k so_far.words) all so_far.visits,
    went_some n v w so_far.words some so_far.went,
    subst (λ k. FindsAllEmpty keeps plan k w kept) all so_far.empty,
  )
