-- Locales that are tried one after another.
use Rattle.std.proofs.Common.{◌≡◌, ◌≢◌, ◌⊎◌, ◌<◌, ◌≤◌, ◌+◌, ◌-◌, ◌++◌, ℕ, zero, suc, ltb, List, [], ◌∷◌, None, refl, ap, ap₂, sym, ◌∙◌, subst, inl, inr, ⊎_elim, arith, append_assoc}
use Rattle.std.specs.Prelude.{Contains}
use Rattle.std.specs.List.{range_with_len}
use Rattle.std.proofs.lemmas.Bool.{cases_Bool}
use Rattle.std.proofs.lemmas.Bool.Decides.{eqb_tells}
use Rattle.std.proofs.lemmas.List.{append-nil}
use Rattle.std.proofs.lemmas.List.Elements.{All-nil, All-head, All-tail, All-push, Contains-append_left, Contains-append_right, Contains-append_cases, Contains-push_cases}
use Rattle.std.proofs.lemmas.List.FromFn.{length-range_with_len, get_or-range_with_len}
use Rattle.pass_book.specs.declared.entries.Look.{Look}
use Rattle.pass_table.specs.Words.{AreTries, joined}
use Rattle.pgas_base.specs.declared.shapes.Shape.{Shape}
use Rattle.pgas_base.specs.Pointers.{Pointer}
use Rattle.epoch_laws.specs.Places.{Place}
use Rattle.epoch_laws.specs.Words.{WordName, global_epoch, global_election, local_epoch, local_election, list, free_stack, home_chain, token, header_of, next_of}
use Rattle.epoch_laws.proofs.Updates.{same_place_tells}
use Rattle.epoch_manager.specs.Takes.{header_read, head_read, later, last_header, last_head}
use Rattle.epoch_manager.specs.Tours.{IsOf, AreOf, IsMissed, IsTour, IsGot, order_from}
use Rattle.epoch_manager.proofs.Takes.{headers-append, heads-append}

-- ---- words of one locale tell nothing of another

head_of_other : (name : WordName) (word l k : ℕ) → IsOf l name → k ≢ l → head_read (record { name = name; word = word }) k ≡ None
head_of_other (free_stack j) word l k is ne = ⊎_elim (λ e. absurd (ne (sym e.1 ∙ is))) (λ e. rw e.0 refl) (eqb_tells j k)
head_of_other (home_chain j) word l k is ne = refl
head_of_other (header_of p) word l k is ne = refl
head_of_other (next_of p) word l k is ne = refl
head_of_other global_epoch word l k is ne = absurd is
head_of_other global_election word l k is ne = absurd is
head_of_other (local_epoch j) word l k is ne = absurd is
head_of_other (local_election j) word l k is ne = absurd is
head_of_other (list j i) word l k is ne = absurd is
head_of_other (token t) word l k is ne = absurd is

header_of_other : (name : WordName) (word l : ℕ) (p : Place) → IsOf l name → p.locale ≢ l → header_read (record { name = name; word = word }) p ≡ None
header_of_other (free_stack j) word l p is ne = refl
header_of_other (home_chain j) word l p is ne = refl
header_of_other (header_of q) word l p is ne = ⊎_elim (λ e. absurd (ne (sym (ap (λ x. x.locale) e.1) ∙ is))) (λ e. rw e.0 refl) (same_place_tells q p)
header_of_other (next_of q) word l p is ne = refl
header_of_other global_epoch word l p is ne = absurd is
header_of_other global_election word l p is ne = absurd is
header_of_other (local_epoch j) word l p is ne = absurd is
header_of_other (local_election j) word l p is ne = absurd is
header_of_other (list j i) word l p is ne = absurd is
header_of_other (token t) word l p is ne = absurd is

pub other_head : (l : ℕ) (looks : List (Look WordName)) (k : ℕ) → AreOf l looks → k ≢ l → last_head looks k ≡ None
other_head l [] k of ne = refl
other_head l (look ∷ looks) k of ne =
    let P : Look WordName → Type 0 = λ x. IsOf l x.name in
    ap₂ later (head_of_other look.name look.word l k (All-head P look looks of) ne) (other_head l looks k (All-tail P look looks of) ne)

other_header : (l : ℕ) (looks : List (Look WordName)) (p : Place) → AreOf l looks → p.locale ≢ l → last_header looks p ≡ None
other_header l [] p of ne = refl
other_header l (look ∷ looks) p of ne =
    let P : Look WordName → Type 0 = λ x. IsOf l x.name in
    ap₂ later (header_of_other look.name look.word l p (All-head P look looks of) ne) (other_header l looks p (All-tail P look looks of) ne)

-- ---- the order

pub contains_one : (l : ℕ) → Contains (l ∷ []) l
contains_one l = (0, omega arith, refl)

pub contains_none : (l : ℕ) → Contains [] l → ⊥
contains_none l c = let low = c.1 in absurd (omega arith)

pub one_contained : (l k : ℕ) → Contains (l ∷ []) k → l ≡ k
one_contained l k c = ⊎_elim (λ e. absurd (contains_none k e)) (λ e. e) (Contains-push_cases [] l k c)

pub range_append : (a m n k j : ℕ) → m + n ≡ k → a + m ≡ j → range_with_len a k ≡ range_with_len a m ++ range_with_len j n
range_append a zero n k j all at = ap₂ range_with_len (omega (arith, at)) (omega (arith, all))
range_append a (suc m) n zero j all at = absurd (omega arith)
range_append a (suc m) n (suc k) j all at = ap (λ l. a ∷ l) (range_append (a + 1) m n k j (omega (arith, all)) (omega (arith, at)))

-- the locales from the first up to this one, and then it
pub range_more : (from l : ℕ) → from ≤ l → range_with_len from (l + 1 - from) ≡ range_with_len from (l - from) ++ l ∷ []
range_more from l low = range_append from (l - from) 1 (l + 1 - from) l (omega arith) (omega arith)

pub range_split : (from l to : ℕ) → from ≤ l → l < to → range_with_len from (to - from) ≡ (range_with_len from (l - from) ++ l ∷ []) ++ range_with_len (l + 1) (to - (l + 1))
range_split from l to low high =
    range_append from (l + 1 - from) (to - (l + 1)) (to - from) (l + 1) (omega arith) (omega arith) ∙ ap (λ r. r ++ range_with_len (l + 1) (to - (l + 1))) (range_more from l low)

in_range : (a n l : ℕ) → Contains (range_with_len a n) l → (a ≤ l) × (l < a + n)
in_range a n l c =
    let low = c.1 in
    let many = length-range_with_len a n in
    let at : l ≡ a + c.0 = sym c.2 ∙ get_or-range_with_len a n c.0 l (omega (arith, low, many)) in
    (omega (arith, at), omega (arith, at, low, many))

range_has : (a n l : ℕ) → a ≤ l → l < a + n → Contains (range_with_len a n) l
range_has a n l low high =
    let many = length-range_with_len a n in
    (l - a, omega (arith, many, low, high), get_or-range_with_len a n (l - a) l (omega (arith, low, high)) ∙ omega (arith, low))

pub range_ends : (from l : ℕ) → Contains (range_with_len from (l - from)) l → ⊥
range_ends from l c = let two = in_range from (l - from) l c in let a = two.0 in let b = two.1 in absurd (omega (arith, a, b))

pub ranges_apart : (first many l : ℕ) → Contains (range_with_len first (many - first)) l → Contains (range_with_len 0 first) l → ⊥
ranges_apart first many l c d = let a = (in_range first (many - first) l c).0 in let b = (in_range 0 first l d).1 in absurd (omega (arith, a, b))

below_or : (a b : ℕ) → (a < b) ⊎ (b ≤ a)
below_or a b = ⊎_elim (λ t. inl (grind arith)) (λ t. inr (grind arith)) (cases_Bool (ltb a b))

pub order_below : (first many l : ℕ) → first ≤ many → Contains (order_from first many) l → l < many
order_below first many l low c =
    ⊎_elim
    (λ d. let two = in_range first (many - first) l d in let a = two.0 in let b = two.1 in omega (arith, a, b, low))
    (λ d. let b = (in_range 0 first l d).1 in omega (arith, b, low))
    (Contains-append_cases (range_with_len first (many - first)) (range_with_len 0 first) l c)

pub order_has : (first many l : ℕ) → first ≤ many → l < many → Contains (order_from first many) l
order_has first many l low high =
    ⊎_elim
    (λ e. Contains-append_right (range_with_len first (many - first)) (range_with_len 0 first) l (range_has 0 first l (omega arith) (omega (arith, e))))
    (λ e. Contains-append_left (range_with_len first (many - first)) (range_with_len 0 first) l (range_has first (many - first) l (omega (arith, e)) (omega (arith, e, low, high))))
    (below_or l first)

-- ---- tours

module _ (shape : Shape) where
  pub tour_one : (l : ℕ) (looks : List (Look WordName)) → IsMissed shape l looks → IsTour shape (l ∷ []) looks
  tour_one l looks missed = (looks, [], sym (append-nil looks), missed, refl)

  pub tour_then : (one two : List ℕ) (xs ys : List (Look WordName)) → IsTour shape one xs → IsTour shape two ys → IsTour shape (one ++ two) (xs ++ ys)
  tour_then [] two xs ys first second = subst (λ l. IsTour shape two (l ++ ys)) (sym first) second
  tour_then (l ∷ one) two xs ys first second = (first.0, first.1 ++ ys, ap (λ w. w ++ ys) first.2 ∙ append_assoc first.0 first.1 ys, first.3, tour_then one two first.1 ys first.4 second)

  -- a locale that isn't among them isn't read
  not_first : (k : ℕ) (order : List ℕ) (l : ℕ) → (Contains (k ∷ order) l → ⊥) → l ≢ k
  not_first k order l out e = out (subst (Contains (k ∷ order)) (sym e) (Contains-append_left (k ∷ []) order k (contains_one k)))

  not_rest : (k : ℕ) (order : List ℕ) (l : ℕ) → (Contains (k ∷ order) l → ⊥) → Contains order l → ⊥
  not_rest k order l out c = out (Contains-append_right (k ∷ []) order l c)

  pub no_head : (order : List ℕ) (looks : List (Look WordName)) (l : ℕ) → IsTour shape order looks → (Contains order l → ⊥) → last_head looks l ≡ None
  no_head [] looks l tour out = ap (λ w. last_head w l) tour
  no_head (k ∷ order) looks l tour out =
      ap (λ w. last_head w l) tour.2
      ∙ (heads-append tour.0 tour.1 l ∙ ap₂ later (other_head k tour.0 l tour.3.local (not_first k order l out)) (no_head order tour.1 l tour.4 (not_rest k order l out)))

  pub no_header : (order : List ℕ) (looks : List (Look WordName)) (p : Place) → IsTour shape order looks → (Contains order p.locale → ⊥) → last_header looks p ≡ None
  no_header [] looks p tour out = ap (λ w. last_header w p) tour
  no_header (k ∷ order) looks p tour out =
      ap (λ w. last_header w p) tour.2
      ∙ (headers-append tour.0 tour.1 p ∙ ap₂ later (other_header k tour.0 p tour.3.local (not_first k order p.locale out)) (no_header order tour.1 p tour.4 (not_rest k order p.locale out)))

  -- an object is got after some locales, or before others
  pub got_after : (one two : List ℕ) (q : Pointer) (xs ys : List (Look WordName)) → IsTour shape one xs → IsGot shape two q ys → IsGot shape (one ++ two) q (xs ++ ys)
  got_after one two q xs ys tour got = record {
    passed = one ++ got.passed;
    left = got.left;
    in_order = ap (λ l. one ++ l) got.in_order ∙ sym (append_assoc one got.passed (q.locale ∷ got.left));
    before = xs ++ got.before;
    here = got.here;
    words = ap (λ l. xs ++ l) got.words ∙ sym (append_assoc xs got.before got.here);
    tour = tour_then one got.passed xs got.before tour got.tour;
    local = got.local;
    head = got.head;
    unspent = got.unspent;
    free = got.free;
  }

  pub got_before : (one two : List ℕ) (q : Pointer) (looks : List (Look WordName)) → IsGot shape one q looks → IsGot shape (one ++ two) q looks
  got_before one two q looks got = record {
    passed = got.passed;
    left = got.left ++ two;
    in_order = ap (λ l. l ++ two) got.in_order ∙ append_assoc got.passed (q.locale ∷ got.left) two;
    before = got.before;
    here = got.here;
    words = got.words;
    tour = got.tour;
    local = got.local;
    head = got.head;
    unspent = got.unspent;
    free = got.free;
  }

-- ---- rounds

joined_push : {A : Type 0} (tries : List (List A)) (words : List A) → joined (tries ++ words ∷ []) ≡ joined tries ++ words
joined_push [] words = append-nil words
joined_push (t ∷ tries) words = ap (λ l. t ++ l) (joined_push tries words) ∙ sym (append_assoc t (joined tries) words)

pub tries_none : {A : Type 0} (IsTry : List A → Type 0) → AreTries IsTry []
tries_none IsTry = ([], refl, All-nil IsTry)

pub tries_more : {A : Type 0} (IsTry : List A → Type 0) (xs ys : List A) → AreTries IsTry xs → IsTry ys → AreTries IsTry (xs ++ ys)
tries_more IsTry xs ys tries is = (tries.0 ++ ys ∷ [], ap (λ l. l ++ ys) tries.1 ∙ sym (joined_push tries.0 ys), All-push IsTry tries.0 ys tries.2 is)
