-- The items of segments, moved into one list, one after another.
use Rattle.std.proofs.Common.{◌≡◌, ⊎_elim, inl, inr, eq-eqb, ne_eqb, None, ℕ, zero, suc, ◌+◌, ◌/◌, ◌%◌, ◌<◌, ◌≤◌, List, [], ◌∷◌, ◌++◌, length, refl, ap, sym, ◌∙◌, subst, arith, append_assoc, length-append, Option, Bool, false, get_or, set}
use Rattle.std.specs.Prelude.{IsPermutation, ◌⊎◌, if◌then◌else◌}
use Rattle.std.proofs.lemmas.List.{append-nil}
use Rattle.std.proofs.lemmas.List.Sorted.{IsPermutation-refl, IsPermutation-trans, IsPermutation-append, IsPermutation-to_front, IsPermutation-cons, length_permutation}
use mathlib.Core.Option.{some}
use mathlib.Core.Logic.{dite}
use native.Mathlib.Decide.{ℕ_discrete}
use lib.ListN.{get_elem?}
use Rattle.pass_book.specs.Histories.{Leads}
use Rattle.seq_objects.specs.declared.bags.BagCall.{BagCall}
use Rattle.seq_objects.specs.declared.bags.BagCall.TheVariants.{Add, Remove}
use Rattle.seq_objects.specs.declared.bags.BagReply.{BagReply}
use Rattle.seq_objects.specs.declared.bags.BagReply.TheVariants.{Added, Took, Empty}
use Rattle.seq_objects.specs.BagSteps.{BagStep}
use Rattle.seq_objects.specs.Meanings.{BagOpens}
use Rattle.segment_store.specs.Contents.{Contents}
use Rattle.shared_bag.specs.Counted.{BagEntry, LeavesItems, items_of}
use Rattle.shared_bag.specs.Layout.{slot_place, slots_in}
use Rattle.shared_bag.specs.Closed.{items_in, items_there, stored, of_slot}
use Rattle.shared_bag.proofs.Items.{no_items}

-- one item goes from the end of the one list to the end of the other
pub poured_one : (whole items new left left' : List ℕ) (item : ℕ) → IsPermutation whole (items ++ left) → left ≡ left' ++ item ∷ [] → new ≡ items ++ item ∷ [] → IsPermutation whole (new ++ left')
poured_one whole items new left left' item so_far one push =
    let moved : IsPermutation (left' ++ item ∷ []) (item ∷ left') = IsPermutation-to_front left' item in
    let next : IsPermutation (items ++ (left' ++ item ∷ [])) (items ++ (item ∷ left')) = IsPermutation-append items items (left' ++ item ∷ []) (item ∷ left') (IsPermutation-refl items) moved in
    let same : items ++ (item ∷ left') ≡ new ++ left' = sym (append_assoc items (item ∷ []) left') ∙ ap (λ l. l ++ left') (sym push) in
    IsPermutation-trans _ _ _ (subst (λ l. IsPermutation whole (items ++ l)) one so_far) (subst (IsPermutation (items ++ (left' ++ item ∷ []))) same next)

-- all of them went
pub poured_all : (whole items left : List ℕ) → IsPermutation whole (items ++ left) → left ≡ [] → IsPermutation whole items
poured_all whole items left so_far none = subst (IsPermutation whole) (ap (λ l. items ++ l) none ∙ append-nil items) so_far

-- one more segment was moved
pub read_one : (has : ℕ → List ℕ) (n : ℕ) (items new more : List ℕ) → IsPermutation (items_of has n) items → has n ≡ more → IsPermutation (items ++ more) new → IsPermutation (items_of has (suc n)) new
read_one has n items new more so_far is poured =
    IsPermutation-trans _ _ _ (IsPermutation-append (items_of has n) items (has n) more so_far (subst (IsPermutation (has n)) is (IsPermutation-refl (has n)))) poured

-- a slot had none
pub read_none : (has : ℕ → List ℕ) (n : ℕ) (items : List ℕ) → IsPermutation (items_of has n) items → has n ≡ [] → IsPermutation (items_of has (suc n)) items
read_none has n items so_far none = subst (λ l. IsPermutation l items) (sym (ap (λ l. items_of has n ++ l) none ∙ append-nil (items_of has n))) so_far

pub stored_there : (slots : List (Option Contents)) (k : ℕ) (slot : Option Contents) → get_elem? slots (slot_place k) ≡ some slot → stored slots k ≡ items_in slot
stored_there slots k slot at = ap items_there at

-- the first segments have no more items than all
pub fewer_items : (has : ℕ → List ℕ) (n m : ℕ) → n ≤ m → length (items_of has n) ≤ length (items_of has m)
fewer_items has n zero least = let none : n ≡ 0 = omega arith in subst (λ k. length (items_of has k) ≤ 0) (sym none) (omega arith)
fewer_items has n (suc m) least =
    dite (ℕ_discrete n (suc m))
    (λ same. subst (λ k. length (items_of has k) ≤ length (items_of has (suc m))) (sym same) (omega arith))
    (λ away. let front = fewer_items has n m (omega arith) in let long = length-append (items_of has m) (has m) in omega arith)

step_on : (old new new' : List ℕ) (call : BagCall) (reply : BagReply) → BagStep old call reply new → IsPermutation new new' → BagStep old call reply new'
step_on old new new' (Add item) Added step same = IsPermutation-trans _ _ _ step same
step_on old new new' (Add item) (Took other) step same = absurd step
step_on old new new' (Add item) Empty step same = absurd step
step_on old new new' Remove Added step same = absurd step
step_on old new new' Remove (Took item) step same = IsPermutation-trans _ _ _ step (IsPermutation-cons item new new' same)
step_on old new new' Remove Empty step same = (step.0, no_items new' (length_permutation new new' same ∙ ap length step.1))

leads_on : (from l l' : List ℕ) (e : BagEntry) (h : List BagEntry) → Leads BagOpens BagStep from (e ∷ h) l → IsPermutation l l' → Leads BagOpens BagStep from (e ∷ h) l'
leads_on from l l' e [] leads same = (l', step_on from l l' e.call e.reply (subst (BagStep from e.call e.reply) leads.2 leads.1) same, refl)
leads_on from l l' e (x ∷ h) leads same = (leads.0, leads.1, leads_on leads.0 l l' x h leads.2 same)

-- a bag's items have no order
pub leaves_in_any_order : (h : List BagEntry) (l l' : List ℕ) → LeavesItems h l → IsPermutation l l' → LeavesItems h l'
leaves_in_any_order [] l l' leaves same =
    let none : l' ≡ [] = no_items l' (length_permutation l l' same ∙ ap length (sym leaves.1)) in
    (leaves.0, sym none)
leaves_in_any_order (e ∷ h) l l' leaves same = (leaves.0, leads_on [] l l' e h leaves.1 same)

-- how many segments have their slots before this one
abbrev pub segments_before : ℕ → ℕ
segments_before slot = (slot + 3) / 4

-- a slot is a segment's, or a spare one
slot_is : (slot : ℕ) (taken : Option Contents) → ((k : ℕ) × (slot ≡ slot_place k) × (segments_before slot ≡ k) × (segments_before (slot + 1) ≡ suc k) × (of_slot slot taken ≡ taken))
    ⊎ ((segments_before (slot + 1) ≡ segments_before slot) × (of_slot slot taken ≡ None))
slot_is slot taken =
    let so : (b : Bool) → Option Contents = λ b. if b then taken else None in
    dite (ℕ_discrete (slot % 4) 0)
    (λ is. inl (slot / 4, omega arith, omega arith, omega arith, ap so (eq-eqb (slot % 4) 0 is)))
    (λ isnt. inr (omega arith, ap so (ne_eqb (slot % 4) 0 isnt)))

-- one more slot was read, and its items moved
pub more_read : (slots : List (Option Contents)) (slot : ℕ) (taken moved : Option Contents) (items new : List ℕ) (len len' : ℕ) → get_elem? slots slot ≡ some taken → moved ≡ of_slot slot taken
    → IsPermutation (items_of (stored slots) (segments_before slot)) items → len ≡ length (items_of (stored slots) (segments_before slot)) → IsPermutation (items ++ items_in moved) new → len' ≡ len + length (items_in moved)
    → IsPermutation (items_of (stored slots) (segments_before (slot + 1))) new × (len' ≡ length (items_of (stored slots) (segments_before (slot + 1))))
more_read slots slot taken moved items new len len' at is so_far count poured long =
    ⊎_elim
    (λ own.
    let k : ℕ = own.0 in
    let there : stored slots k ≡ items_in moved = stored_there slots k taken (subst (λ i. get_elem? slots i ≡ some taken) own.1 at) ∙ ap items_in (sym (is ∙ own.4)) in
    subst (λ n. IsPermutation (items_of (stored slots) n) new × (len' ≡ length (items_of (stored slots) n))) (sym own.3) (
      read_one (stored slots) k items new (items_in moved) (subst (λ n. IsPermutation (items_of (stored slots) n) items) own.2 so_far) there poured,
      omega (arith, subst (λ n. len ≡ length (items_of (stored slots) n)) own.2 count, long, ap length there, length-append (items_of (stored slots) k) (stored slots k)),
    ))
    (λ spare.
    let none : items_in moved ≡ [] = ap items_in (is ∙ spare.1) in
    let same : items ++ items_in moved ≡ items = ap (λ l. items ++ l) none ∙ append-nil items in
    subst (λ n. IsPermutation (items_of (stored slots) n) new × (len' ≡ length (items_of (stored slots) n))) (sym spare.0)
    (IsPermutation-trans _ _ _ so_far (subst (λ l. IsPermutation l new) same poured), omega (arith, count, long, ap length none)))
    (slot_is slot taken)

-- there is room for the items of one more slot
pub next_fits : (slots : List (Option Contents)) (slot n : ℕ) (taken moved : Option Contents) → get_elem? slots slot ≡ some taken → moved ≡ of_slot slot taken → slot < slots_in n
    → length (items_of (stored slots) (segments_before slot)) + length (items_in moved) ≤ length (items_of (stored slots) n)
next_fits slots slot n taken moved at is less =
    let all = fewer_items (stored slots) (segments_before (slot + 1)) n (omega arith) in
    ⊎_elim
    (λ own.
    let k : ℕ = own.0 in
    let there : stored slots k ≡ items_in moved = stored_there slots k taken (subst (λ i. get_elem? slots i ≡ some taken) own.1 at) ∙ ap items_in (sym (is ∙ own.4)) in
    let next : length (items_of (stored slots) (suc k)) ≤ length (items_of (stored slots) n) = subst (λ m. length (items_of (stored slots) m) ≤ length (items_of (stored slots) n)) own.3 all in
    subst (λ m. length (items_of (stored slots) m) + length (items_in moved) ≤ length (items_of (stored slots) n)) (sym own.2)
    (omega (arith, next, ap length there, length-append (items_of (stored slots) k) (stored slots k))))
    (λ spare. omega (arith, subst (λ m. length (items_of (stored slots) m) ≤ length (items_of (stored slots) n)) spare.0 all, ap (λ m. length (items_in m)) (is ∙ spare.1)))
    (slot_is slot taken)

-- what was taken is gone
pub gone_here : (filled : List Bool) (i : ℕ) → get_or (set filled i false) i false ≡ false
gone_here [] i = refl
gone_here (x ∷ xs) zero = refl
gone_here (x ∷ xs) (suc i) = gone_here xs i

pub nothing_more : (items : List ℕ) → IsPermutation (items ++ []) items
nothing_more items = subst (λ l. IsPermutation l items) (sym (append-nil items)) (IsPermutation-refl items)
