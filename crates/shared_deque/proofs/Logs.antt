-- What a deque's history becomes at a call that is turned away, and at one that goes through.
use Rattle.std.proofs.Common.{◌≡◌, ◌≢◌, ℕ, ◌+◌, ◌-◌, ◌%◌, ◌<◌, ◌≤◌, ◌==◌, true, false, cond, List, [], ◌∷◌, ◌++◌, length, take, drop, refl, ap, sym, ◌∙◌, subst, arith, length-append, length-drop, nat_lt, Some, slice_get, mod-lt}
use Rattle.std.specs.List.{All}
use Rattle.std.proofs.lemmas.Bool.Decides.{nat_tests}
use Rattle.std.proofs.lemmas.Nat.{div-mul-add, mod-mul-add}
use Rattle.std.proofs.lemmas.List.{length-take, get_or-take}
use Rattle.std.proofs.lemmas.List.Elements.{All-append}
use Rattle.std.proofs.lemmas.Grind.{get_or_after_one}
use Rattle.pass_book.proofs.Legal.{leaves-snoc}
use Rattle.seq_objects.specs.declared.deques.DequeCall.TheVariants.{PushBack, PushFront, PopBack, PopFront}
use Rattle.seq_objects.specs.declared.deques.DequeReply.TheVariants.{Pushed, Took, Empty, Full}
use Rattle.seq_objects.specs.DequeSteps.{pop_reply, deque_reply, deque_after}
use Rattle.seq_objects.specs.Meanings.{DequeOpens, DequeSteps}
use Rattle.pass_table.specs.Terms.{put}
use Rattle.pass_table.proofs.Lists.{all_one, all_cons, all_at}
use Rattle.shared_deque.specs.declared.sides.Side.TheVariants.{Front, Back}
use Rattle.shared_deque.specs.declared.sides.Aim.{Aim}
use Rattle.shared_deque.specs.declared.sides.Aim.TheVariants.{Push, Pop}
use Rattle.shared_deque.specs.Layout.{ends_word, head_in, size_in, cell_before, cell_behind}
use Rattle.shared_deque.specs.Aims.{call_of, cell_of, ends_after, is_turned_away, MayGo, refusal, success, Asks, HandsOut}
use Rattle.shared_deque.specs.Counted.{DequeEntry, deque_with, items_after, left_of, head_after, head_from, ends_of, PushesKept}
use Rattle.shared_deque.specs.Rule.{IsLaid, IsLog}
use Rattle.shared_deque.specs.Kinds.{entry}
use Rattle.shared_deque.proofs.Rings.{laid_push_back, laid_push_front, laid_pop_back, laid_pop_front, last_laid, first_laid}

-- the two halves of an ends word
pub head_in-ends_word : (head size : ℕ) → size < 4294967296 → head_in (ends_word head size) ≡ head
head_in-ends_word head size small = div-mul-add head 4294967296 size small

pub size_in-ends_word : (head size : ℕ) → size < 4294967296 → size_in (ends_word head size) ≡ size
size_in-ends_word head size small = mod-mul-add head 4294967296 size small

pub items_after-snoc : (n : ℕ) (items : List ℕ) (h : List DequeEntry) (e : DequeEntry) → items_after n items (h ++ e ∷ []) ≡ deque_after n (items_after n items h) e.call
items_after-snoc n items [] e = refl
items_after-snoc n items (x ∷ h) e = items_after-snoc n (deque_after n items x.call) h e

pub head_from-snoc : (n head : ℕ) (h : List DequeEntry) (e : DequeEntry) → head_from n head (h ++ e ∷ []) ≡ head_after n (head_from n head h) e.call e.reply
head_from-snoc n head [] e = refl
head_from-snoc n head (x ∷ h) e = head_from-snoc n (head_after n head x.call x.reply) h e

all_take : {A : Type 0} (P : A → Type 0) (k : ℕ) (l : List A) → All P l → All P (take k l)
all_take P k l all j d below =
    let short = length-take k l in
    let in_take : j < k = omega (arith, short) in
    let in_list : j < length l = omega (arith, short) in
    subst P (sym (get_or-take k l j d in_take)) (all j d in_list)

all_drop : {A : Type 0} (P : A → Type 0) (l : List A) → All P l → All P (drop 1 l)
all_drop P l all j d below = subst P (sym (get_or_after_one l j d)) (all (1 + j) d (omega (arith, length-drop 1 l)))

module _ (keeps : ℕ → Type 0) (n : ℕ) where
  -- the history after one more step of the deque of one thread
  log_steps : (h : List DequeEntry) (e : DequeEntry) (items : List ℕ) (head : ℕ) → IsLog keeps n h → PushesKept keeps e.call
      → e.reply ≡ deque_reply n (left_of n h) e.call → deque_after n (left_of n h) e.call ≡ items → head_after n (head_from n 0 h) e.call e.reply ≡ head
      → All keeps items → length items ≤ n → head < n
      → IsLog keeps n (h ++ e ∷ []) × (left_of n (h ++ e ∷ []) ≡ items) × (head_from n 0 (h ++ e ∷ []) ≡ head)
  log_steps h e items head log kept reply after moves all short within =
      let left : left_of n (h ++ e ∷ []) ≡ items = items_after-snoc n [] h e ∙ after in
      let first : head_from n 0 (h ++ e ∷ []) ≡ head = head_from-snoc n 0 h e ∙ moves in (
        record {
          legal =
              leaves-snoc DequeOpens DequeSteps (deque_with n []) h (deque_with n (left_of n h)) (deque_with n (left_of n (h ++ e ∷ []))) e log.legal
              (reply, ap (deque_with n) (items_after-snoc n [] h e));
          calls_kept = All-append (λ (x : DequeEntry). PushesKept keeps x.call) h (e ∷ []) log.calls_kept (all_one (λ (x : DequeEntry). PushesKept keeps x.call) e kept);
          items_kept = subst (All keeps) (sym left) all;
          short = subst (λ l. length l ≤ n) (sym left) short;
          head_within = subst (λ k. k < n) (sym first) within;
        },
        left,
        first,
      )

-- a push with room, and one without
push_room : (n : ℕ) (items : List ℕ) {A : Type 0} (x y : A) → length items < n → cond (nat_lt (length items) n) x y ≡ x
push_room n items x y room = let test : nat_lt (length items) n ≡ true = grind (arith, nat_tests) in ap (λ b. cond b x y) test

push_full : (n : ℕ) (items : List ℕ) {A : Type 0} (x y : A) → length items ≡ n → cond (nat_lt (length items) n) x y ≡ y
push_full n items x y full = let test : nat_lt (length items) n ≡ false = grind (arith, nat_tests) in ap (λ b. cond b x y) test

no_item : (items : List ℕ) → length items ≡ 0 → items ≡ []
no_item [] none = refl
no_item (x ∷ items) none = absurd (omega arith)

-- what the cells have after a call that went through
abbrev pub has_after : (ℕ → ℕ) → ℕ → Aim → ℕ → ℕ
has_after has cell (Push side item) = put has cell item
has_after has cell (Pop side) = has

-- a pop has found what its cell has
abbrev pub HasFound : Aim → ℕ → ℕ → Type 0
HasFound (Push side item) value found = Unit {0}
HasFound (Pop side) value found = value ≡ found

module _ (keeps : ℕ → Type 0) (n : ℕ) (some : 0 < n) (most : n ≤ 16777216) where
  pub sizes : (h : List DequeEntry) → IsLog keeps n h → (head_in (ends_of n h) ≡ head_from n 0 h) × (size_in (ends_of n h) ≡ length (left_of n h))
  sizes h log =
      let small : length (left_of n h) < 4294967296 = omega (arith, log.short) in
      (head_in-ends_word (head_from n 0 h) (length (left_of n h)) small, size_in-ends_word (head_from n 0 h) (length (left_of n h)) small)

  abbrev pub TurnedAway : List DequeEntry → DequeEntry → Type 0
  TurnedAway h e = IsLog keeps n (h ++ e ∷ []) × (left_of n (h ++ e ∷ []) ≡ left_of n h) × (head_from n 0 (h ++ e ∷ []) ≡ head_from n 0 h)

  turned_full : (h : List DequeEntry) → IsLog keeps n h → (size_in (ends_of n h) == n) ≡ true → length (left_of n h) ≡ n
  turned_full h log full = let both = sizes h log in let at : size_in (ends_of n h) ≡ n = grind (arith, nat_tests) in omega arith

  turned_empty : (h : List DequeEntry) → IsLog keeps n h → (size_in (ends_of n h) == 0) ≡ true → left_of n h ≡ []
  turned_empty h log none = let both = sizes h log in let at : size_in (ends_of n h) ≡ 0 = grind (arith, nat_tests) in no_item (left_of n h) (omega arith)

  -- a call that the ends turn away has its entry, and changes nothing
  pub log_turned_away : (h : List DequeEntry) (c : ℕ) (aim : Aim) → IsLog keeps n h → Asks keeps aim → is_turned_away n (ends_of n h) aim ≡ true
      → TurnedAway h (entry c (call_of aim) (refusal aim))
  log_turned_away h c (Push Back item) log kept away =
      let full = turned_full h log away in
      log_steps keeps n h (entry c (PushBack item) Full) (left_of n h) (head_from n 0 h) log kept
      (sym (push_full n (left_of n h) Pushed Full full)) (push_full n (left_of n h) (left_of n h ++ item ∷ []) (left_of n h) full) refl log.items_kept log.short log.head_within
  log_turned_away h c (Push Front item) log kept away =
      let full = turned_full h log away in
      log_steps keeps n h (entry c (PushFront item) Full) (left_of n h) (head_from n 0 h) log kept
      (sym (push_full n (left_of n h) Pushed Full full)) (push_full n (left_of n h) (item ∷ left_of n h) (left_of n h) full) refl log.items_kept log.short log.head_within
  log_turned_away h c (Pop Back) log kept away =
      let none = turned_empty h log away in
      log_steps keeps n h (entry c PopBack Empty) (left_of n h) (head_from n 0 h) log kept
      (ap (λ l. pop_reply (slice_get l (length l - 1))) (sym none)) (ap (λ l. take (length l - 1) l) none ∙ sym none) refl log.items_kept log.short log.head_within
  log_turned_away h c (Pop Front) log kept away =
      let none = turned_empty h log away in
      log_steps keeps n h (entry c PopFront Empty) (left_of n h) (head_from n 0 h) log kept
      (ap (λ l. pop_reply (slice_get l 0)) (sym none)) (ap (λ l. drop 1 l) none ∙ sym none) refl log.items_kept log.short log.head_within

  -- a call that goes through: its entry, the ends, the cells, and what a pop hands out
  pub record Won (h : List DequeEntry) (has : ℕ → ℕ) (aim : Aim) (value : ℕ) (e : DequeEntry) : Type 0 where
    pub log : IsLog keeps n (h ++ e ∷ [])
    pub laid : IsLaid n (head_from n 0 (h ++ e ∷ [])) (has_after has (cell_of n (ends_of n h) (call_of aim)) aim) (left_of n (h ++ e ∷ []))
    pub ends : ends_of n (h ++ e ∷ []) ≡ ends_after n (ends_of n h) aim
    pub kept : HandsOut keeps aim value

  won_by : (h : List DequeEntry) (has : ℕ → ℕ) (aim : Aim) (value : ℕ) (e : DequeEntry) (items : List ℕ) (head : ℕ)
      → IsLog keeps n (h ++ e ∷ []) × (left_of n (h ++ e ∷ []) ≡ items) × (head_from n 0 (h ++ e ∷ []) ≡ head)
      → IsLaid n head (has_after has (cell_of n (ends_of n h) (call_of aim)) aim) items → ends_word head (length items) ≡ ends_after n (ends_of n h) aim → HandsOut keeps aim value
      → Won h has aim value e
  won_by h has aim value e items head steps laid ends kept = record {
    log = steps.0;
    laid = subst (λ k. IsLaid n k (has_after has (cell_of n (ends_of n h) (call_of aim)) aim) (left_of n (h ++ e ∷ []))) (sym steps.2) (subst (IsLaid n head (has_after has (cell_of n (ends_of n h) (call_of aim)) aim)) (sym steps.1) laid);
    ends = ap (λ k. ends_word k (length (left_of n (h ++ e ∷ [])))) steps.2 ∙ (ap (λ l. ends_word head (length l)) steps.1 ∙ ends);
    kept = kept;
  }

  -- The call goes through with its entry, where a pop has found its cell's item
  pub log_won : (h : List DequeEntry) (has : ℕ → ℕ) (c : ℕ) (aim : Aim) (value : ℕ) → IsLog keeps n h → Asks keeps aim → MayGo n (ends_of n h) aim
      → IsLaid n (head_from n 0 h) has (left_of n h) → HasFound aim (has (cell_of n (ends_of n h) (call_of aim))) value → Won h has aim value (entry c (call_of aim) (success aim value))
  log_won h has c (Push Back item) value log kept may laid found =
      let items : List ℕ = left_of n h in
      let head : ℕ = head_from n 0 h in
      let both = sizes h log in
      let room : length items < n = omega arith in
      let cell : cell_of n (ends_of n h) (PushBack item) ≡ (head + length items) % n = ap (λ k. (k + size_in (ends_of n h)) % n) both.0 ∙ ap (λ k. (head + k) % n) both.1 in
      let size : length (items ++ item ∷ []) ≡ length items + 1 = omega (arith, length-append items (item ∷ [])) in
      won_by h has (Push Back item) value (entry c (PushBack item) Pushed) (items ++ item ∷ []) head
      (log_steps keeps n h (entry c (PushBack item) Pushed) (items ++ item ∷ []) head log kept
      (sym (push_room n items Pushed Full room)) (push_room n items (items ++ item ∷ []) items room) refl
      (All-append keeps items (item ∷ []) log.items_kept (all_one keeps item kept)) (omega arith) log.head_within)
      (subst (λ k. IsLaid n head (put has k item) (items ++ item ∷ [])) (sym cell) (laid_push_back n head item has items room laid))
      (ap (ends_word head) size ∙ (ap (λ k. ends_word k (length items + 1)) (sym both.0) ∙ ap (λ k. ends_word (head_in (ends_of n h)) (k + 1)) (sym both.1)))
      tt
  log_won h has c (Push Front item) value log kept may laid found =
      let items : List ℕ = left_of n h in
      let head : ℕ = head_from n 0 h in
      let both = sizes h log in
      let room : length items < n = omega arith in
      let cell : cell_of n (ends_of n h) (PushFront item) ≡ cell_before n head = ap (cell_before n) both.0 in
      won_by h has (Push Front item) value (entry c (PushFront item) Pushed) (item ∷ items) (cell_before n head)
      (log_steps keeps n h (entry c (PushFront item) Pushed) (item ∷ items) (cell_before n head) log kept
      (sym (push_room n items Pushed Full room)) (push_room n items (item ∷ items) items room) refl
      (all_cons keeps item items kept log.items_kept) (omega arith) (mod-lt (head + n - 1) some))
      (subst (λ k. IsLaid n (cell_before n head) (put has k item) (item ∷ items)) (sym cell) (laid_push_front n head item has items log.head_within room laid))
      (ap (λ k. ends_word (cell_before n k) (length (item ∷ items))) (sym both.0) ∙ ap (λ k. ends_word (cell_before n (head_in (ends_of n h))) k) (let p : length {A = ℕ} (item ∷ items) ≡ size_in (ends_of n h) + 1 = omega arith in p))
      tt
  log_won h has c (Pop Back) value log kept may laid found =
      let items : List ℕ = left_of n h in
      let head : ℕ = head_from n 0 h in
      let both = sizes h log in
      let some_item : 0 < length items = omega arith in
      let cell : cell_of n (ends_of n h) PopBack ≡ (head + length items - 1) % n = ap (λ k. (k + size_in (ends_of n h) - 1) % n) both.0 ∙ ap (λ k. (head + k - 1) % n) both.1 in
      let last : slice_get items (length items - 1) ≡ Some value = last_laid n head has items some_item laid ∙ ap Some (ap has (sym cell) ∙ found) in
      let size : length (take (length items - 1) items) ≡ length items - 1 = omega (arith, length-take (length items - 1) items) in
      let one : keeps value = all_at keeps items (length items - 1) value log.items_kept last in
      won_by h has (Pop Back) value (entry c PopBack (Took value)) (take (length items - 1) items) head
      (log_steps keeps n h (entry c PopBack (Took value)) (take (length items - 1) items) head log tt
      (ap pop_reply (sym last)) refl refl
      (all_take keeps (length items - 1) items log.items_kept) (let p = log.short in omega arith) log.head_within)
      (laid_pop_back n head has items laid)
      (ap (ends_word head) size ∙ (ap (λ k. ends_word k (length items - 1)) (sym both.0) ∙ ap (λ k. ends_word (head_in (ends_of n h)) (k - 1)) (sym both.1)))
      one
  log_won h has c (Pop Front) value log kept may laid found =
      let items : List ℕ = left_of n h in
      let head : ℕ = head_from n 0 h in
      let both = sizes h log in
      let some_item : 0 < length items = omega arith in
      let cell : cell_of n (ends_of n h) PopFront ≡ head = both.0 in
      let first : slice_get items 0 ≡ Some value = first_laid n head has items log.head_within some_item laid ∙ ap Some (ap has (sym cell) ∙ found) in
      let size : length (drop 1 items) ≡ length items - 1 = length-drop 1 items in
      let one : keeps value = all_at keeps items 0 value log.items_kept first in
      won_by h has (Pop Front) value (entry c PopFront (Took value)) (drop 1 items) (cell_behind n head)
      (log_steps keeps n h (entry c PopFront (Took value)) (drop 1 items) (cell_behind n head) log tt
      (ap pop_reply (sym first)) refl refl
      (all_drop keeps items log.items_kept) (let p = log.short in omega arith) (mod-lt (head + 1) some))
      (laid_pop_front n head has items laid)
      (ap (ends_word (cell_behind n head)) size ∙ (ap (λ k. ends_word (cell_behind n k) (length items - 1)) (sym both.0) ∙ ap (λ k. ends_word (cell_behind n (head_in (ends_of n h))) (k - 1)) (sym both.1)))
      one

  -- the cell of a call that goes on is one of the ring's
  pub cell_of_within : (h : List DequeEntry) (aim : Aim) → IsLog keeps n h → cell_of n (ends_of n h) (call_of aim) < n
  cell_of_within h (Push Back item) log = mod-lt (head_in (ends_of n h) + size_in (ends_of n h)) some
  cell_of_within h (Push Front item) log = mod-lt (head_in (ends_of n h) + n - 1) some
  cell_of_within h (Pop Back) log = mod-lt (head_in (ends_of n h) + size_in (ends_of n h) - 1) some
  cell_of_within h (Pop Front) log = subst (λ k. k < n) (sym (sizes h log).0) log.head_within

  -- a call that the ends do not turn away may go on
  pub may_go : (h : List DequeEntry) (aim : Aim) → IsLog keeps n h → is_turned_away n (ends_of n h) aim ≡ false → MayGo n (ends_of n h) aim
  may_go h (Push Back item) log on = let both = sizes h log in let short = log.short in let less : size_in (ends_of n h) ≢ n = grind (arith, nat_tests) in omega arith
  may_go h (Push Front item) log on = let both = sizes h log in let short = log.short in let less : size_in (ends_of n h) ≢ n = grind (arith, nat_tests) in omega arith
  may_go h (Pop Back) log on = let less : size_in (ends_of n h) ≢ 0 = grind (arith, nat_tests) in omega arith
  may_go h (Pop Front) log on = let less : size_in (ends_of n h) ≢ 0 = grind (arith, nat_tests) in omega arith

  -- the ends count the items
  pub counted : (h : List DequeEntry) → IsLog keeps n h → length (left_of n h) ≡ size_in (ends_of n h)
  counted h log = sym (sizes h log).1
