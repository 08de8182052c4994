-- The items of all segments, as one of them changes, and what a bag's history leaves then.
use Rattle.std.proofs.Common.{◌≡◌, ◌≢◌, ℕ, zero, suc, ◌*◌, ◌<◌, ◌≤◌, List, [], ◌∷◌, ◌++◌, length, refl, ap, ap₂, sym, ◌∙◌, subst, arith, length-append, append_assoc}
use Rattle.std.specs.Prelude.{IsPermutation}
use Rattle.std.specs.List.{All}
use Rattle.std.proofs.lemmas.List.{append-nil}
use Rattle.std.proofs.lemmas.List.Elements.{All-nil, All-append}
use Rattle.std.proofs.lemmas.List.Sorted.{IsPermutation-sym, IsPermutation-trans, IsPermutation-cons, IsPermutation-to_front, IsPermutation-append, IsPermutation-append_comm, IsPermutation-middle, IsPermutation-refl, length_permutation}
use mathlib.Core.Logic.{dite}
use native.Mathlib.Decide.{ℕ_discrete}
use Rattle.pass_book.specs.Histories.{Leads}
use Rattle.pass_book.proofs.Legal.{leaves-snoc}
use Rattle.seq_objects.specs.declared.bags.BagCall.{BagCall}
use Rattle.seq_objects.specs.declared.bags.BagReply.{BagReply}
use Rattle.seq_objects.specs.declared.bags.BagCall.TheVariants.{Add, Remove}
use Rattle.seq_objects.specs.declared.bags.BagReply.TheVariants.{Added, Took, Empty}
use Rattle.seq_objects.specs.BagSteps.{BagStep}
use Rattle.seq_objects.specs.Meanings.{BagOpens}
use Rattle.shared_bag.specs.Counted.{BagEntry, LeavesItems, items_of}
use Rattle.shared_bag.specs.Kinds.{entry}

pub items_same : (n : ℕ) (has has' : ℕ → List ℕ) → ((j : ℕ) → j < n → has' j ≡ has j) → items_of has' n ≡ items_of has n
items_same zero has has' same = refl
items_same (suc n) has has' same = ap₂ (λ a b. a ++ b) (items_same n has has' (λ j less. same j (omega arith))) (same n (omega arith))

-- a list goes behind another's front
moved_front : (x f a : List ℕ) → IsPermutation (x ++ (f ++ a)) (f ++ (x ++ a))
moved_front x f a =
    subst (λ l. IsPermutation l (f ++ (x ++ a))) (append_assoc x f a)
    (subst (IsPermutation ((x ++ f) ++ a)) (append_assoc f x a) (IsPermutation-append (x ++ f) (f ++ x) a a (IsPermutation-append_comm x f) (IsPermutation-refl a)))

-- where the items of one segment change, with some on either side, so do those of all
pub one_changes : (n : ℕ) (has has' : ℕ → List ℕ) (k : ℕ) (x y : List ℕ) → k < n → IsPermutation (x ++ has k) (y ++ has' k) → ((j : ℕ) → j ≢ k → has' j ≡ has j)
    → IsPermutation (x ++ items_of has n) (y ++ items_of has' n)
one_changes zero has has' k x y within change same = absurd (omega arith)
one_changes (suc n) has has' k x y within change same =
    dite (ℕ_discrete n k)
    (λ here.
    let change' : IsPermutation (x ++ has n) (y ++ has' n) = subst (λ j. IsPermutation (x ++ has j) (y ++ has' j)) (sym here) change in
    let front : items_of has' n ≡ items_of has n = items_same n has has' (λ j less. same j (λ is. omega arith)) in
    let f : List ℕ = items_of has n in
    subst (λ g. IsPermutation (x ++ (f ++ has n)) (y ++ (g ++ has' n))) (sym front)
    (IsPermutation-trans _ _ _ (moved_front x f (has n))
    (IsPermutation-trans _ _ _ (IsPermutation-append f f (x ++ has n) (y ++ has' n) (IsPermutation-refl f) change') (IsPermutation-sym _ _ (moved_front y f (has' n))))))
    (λ away.
    let less : k < n = (let other : n ≢ k = away in omega arith) in
    let here : has' n ≡ has n = same n away in
    subst (λ l. IsPermutation (x ++ (items_of has n ++ has n)) (y ++ (items_of has' n ++ l))) (sym here)
    (subst (λ l. IsPermutation l (y ++ (items_of has' n ++ has n))) (append_assoc x (items_of has n) (has n))
    (subst (IsPermutation ((x ++ items_of has n) ++ has n)) (append_assoc y (items_of has' n) (has n))
    (IsPermutation-append (x ++ items_of has n) (y ++ items_of has' n) (has n) (has n) (one_changes n has has' k x y less change same) (IsPermutation-refl (has n))))))

-- one more item in one of the segments
pub one_more : (n : ℕ) (has has' : ℕ → List ℕ) (k item : ℕ) → k < n → has' k ≡ has k ++ item ∷ [] → ((j : ℕ) → j ≢ k → has' j ≡ has j) → IsPermutation (item ∷ items_of has n) (items_of has' n)
one_more n has has' k item within more same =
    one_changes n has has' k (item ∷ []) [] within (subst (IsPermutation (item ∷ has k)) (sym more) (IsPermutation-sym _ _ (IsPermutation-to_front (has k) item))) same

-- one item less
pub one_fewer : (n : ℕ) (has has' : ℕ → List ℕ) (k item : ℕ) → k < n → has k ≡ has' k ++ item ∷ [] → ((j : ℕ) → j ≢ k → has' j ≡ has j) → IsPermutation (items_of has n) (item ∷ items_of has' n)
one_fewer n has has' k item within fewer same = IsPermutation-sym _ _ (one_more n has' has k item within fewer (λ j away. sym (same j away)))

-- one item less, and those before it in another segment, which was empty
pub half_fewer : (n : ℕ) (has mid has' : ℕ → List ℕ) (k o item : ℕ) (moved : List ℕ) → k < n → o < n → has k ≡ moved ++ item ∷ mid k → ((j : ℕ) → j ≢ k → mid j ≡ has j)
    → mid o ≡ [] → has' o ≡ moved → ((j : ℕ) → j ≢ o → has' j ≡ mid j) → IsPermutation (items_of has n) (item ∷ items_of has' n)
half_fewer n has mid has' k o item moved within within' parts same none all same' =
    let first : IsPermutation (has k) ((moved ++ item ∷ []) ++ mid k) = subst (λ l. IsPermutation l ((moved ++ item ∷ []) ++ mid k)) (append_assoc moved (item ∷ []) (mid k) ∙ sym parts) (IsPermutation-refl _) in
    let one : IsPermutation (items_of has n) ((moved ++ item ∷ []) ++ items_of mid n) = one_changes n has mid k [] (moved ++ item ∷ []) within first same in
    let second : IsPermutation (moved ++ mid o) (has' o) =
    subst (λ l. IsPermutation (moved ++ l) (has' o)) (sym none) (subst (IsPermutation (moved ++ [])) (sym all) (subst (λ l. IsPermutation l moved) (sym (append-nil moved)) (IsPermutation-refl moved))) in
    let two : IsPermutation (moved ++ items_of mid n) (items_of has' n) = one_changes n mid has' o moved [] within' second same' in
    let front : IsPermutation ((moved ++ item ∷ []) ++ items_of mid n) (item ∷ (moved ++ items_of mid n)) =
    subst (λ l. IsPermutation l (item ∷ (moved ++ items_of mid n))) (sym (append_assoc moved (item ∷ []) (items_of mid n))) (IsPermutation-middle moved item (items_of mid n)) in
    IsPermutation-trans _ _ _ one (IsPermutation-trans _ _ _ front (IsPermutation-cons item _ _ two))

-- segments of at most 2^24 items
pub items_short : (n : ℕ) (has : ℕ → List ℕ) → ((j : ℕ) → j < n → length (has j) ≤ 16777216) → length (items_of has n) ≤ n * 16777216
items_short zero has short = omega arith
items_short (suc n) has short =
    let front = items_short n has (λ j less. short j (omega arith)) in
    let last = short n (omega arith) in
    omega (arith, length-append (items_of has n) (has n))

-- no segment has more items than all
pub segment_short : (n : ℕ) (has : ℕ → List ℕ) (k : ℕ) → k < n → length (has k) ≤ length (items_of has n)
segment_short zero has k within = absurd (omega arith)
segment_short (suc n) has k within =
    let long = length-append (items_of has n) (has n) in
    dite (ℕ_discrete n k)
    (λ here. let same : length (has n) ≡ length (has k) = ap (λ j. length (has j)) here in omega arith)
    (λ away. let front = segment_short n has k (omega arith) in omega arith)

-- where the items of each segment are such, so are all
pub items_all : (P : ℕ → Type 0) (n : ℕ) (has : ℕ → List ℕ) → ((j : ℕ) → j < n → All P (has j)) → All P (items_of has n)
items_all P zero has each = All-nil P
items_all P (suc n) has each = All-append P (items_of has n) (has n) (items_all P n has (λ j less. each j (omega arith))) (each n (omega arith))

-- no segment has an item
pub items_none : (n : ℕ) (has : ℕ → List ℕ) → ((j : ℕ) → j < n → length (has j) ≡ 0) → length (items_of has n) ≡ 0
items_none zero has none = refl
items_none (suc n) has none =
    let front = items_none n has (λ j less. none j (omega arith)) in
    let last = none n (omega arith) in
    omega (arith, length-append (items_of has n) (has n))

pub no_items : (items : List ℕ) → length items ≡ 0 → items ≡ []
no_items [] none = refl
no_items (x ∷ xs) none = absurd (omega arith)

pub leaves_added : (h : List BagEntry) (items new : List ℕ) (caller item : ℕ) → LeavesItems h items → IsPermutation (item ∷ items) new → LeavesItems (h ++ entry caller (Add item) Added ∷ []) new
leaves_added h items new caller item leaves more = leaves-snoc BagOpens BagStep [] h items new (entry caller (Add item) Added) leaves more

pub leaves_taken : (h : List BagEntry) (items new : List ℕ) (caller item : ℕ) → LeavesItems h items → IsPermutation items (item ∷ new) → LeavesItems (h ++ entry caller Remove (Took item) ∷ []) new
leaves_taken h items new caller item leaves fewer = leaves-snoc BagOpens BagStep [] h items new (entry caller Remove (Took item)) leaves fewer

pub leaves_empty : (h : List BagEntry) (items : List ℕ) (caller : ℕ) → LeavesItems h items → items ≡ [] → LeavesItems (h ++ entry caller Remove Empty ∷ []) items
leaves_empty h items caller leaves none = leaves-snoc BagOpens BagStep [] h items items (entry caller Remove Empty) leaves (none, none)

step_count : (old old' new new' : List ℕ) (call : BagCall) (reply : BagReply) → length old ≡ length old' → BagStep old call reply new → BagStep old' call reply new' → length new ≡ length new'
step_count old old' new new' (Add item) Added same a b = let long = length_permutation (item ∷ old) new a in let long' = length_permutation (item ∷ old') new' b in omega arith
step_count old old' new new' (Add item) (Took other) same a b = absurd a
step_count old old' new new' (Add item) Empty same a b = absurd a
step_count old old' new new' Remove Added same a b = absurd a
step_count old old' new new' Remove (Took item) same a b = let long = length_permutation old (item ∷ new) a in let long' = length_permutation old' (item ∷ new') b in omega arith
step_count old old' new new' Remove Empty same a b = ap length (a.1 ∙ sym b.1)

leads_count : (from from' to to' : List ℕ) (h : List BagEntry) → length from ≡ length from' → Leads BagOpens BagStep from h to → Leads BagOpens BagStep from' h to' → length to ≡ length to'
leads_count from from' to to' [] same a b = sym (ap length a) ∙ (same ∙ ap length b)
leads_count from from' to to' (e ∷ h) same a b = leads_count a.0 b.0 to to' h (step_count from from' a.0 b.0 e.call e.reply same a.1 b.1) a.2 b.2

-- how many items a history leaves
pub one_count : (h : List BagEntry) (items items' : List ℕ) → LeavesItems h items → LeavesItems h items' → length items ≡ length items'
one_count h items items' a b = leads_count [] [] items items' h refl a.1 b.1
