-- Passes that look at word 0 one after another.
use Rattle.std.proofs.Common.{◌≡◌, ℕ, ◌+◌, ◌<◌, ◌≤◌, ◌⊎◌, List, [], ◌∷◌, ◌++◌, length, set, get_or, take, drop, refl, ap, sym, ◌∙◌, subst, arith, ⊎_elim, inl, inr, append_assoc, Some, slice_get, length-set, cond}
use Rattle.std.specs.List.{All}
use Rattle.std.specs.Ordering.{ord_max, nat_cmp}
use Rattle.std.proofs.lemmas.Grind.{common_steps}
use Rattle.std.proofs.lemmas.List.{append-nil}
use Rattle.std.proofs.Math.Seq.{take-append_seam}
use Rattle.std.proofs.lemmas.Option.{slice_get-get_or, slice_get_within, get_or_from_slice_get}
use Rattle.pass_book.specs.declared.entries.Entry.{Entry}
use Rattle.pass_book.specs.declared.entries.Look.{Look}
use Rattle.pass_book.specs.Histories.{IsOfCallers, entries_of}
use Rattle.pass_book.specs.Pages.{IsPageOf}
use Rattle.pass_book.proofs.Prefixes.{prefix_trans}
use Rattle.pass_book.proofs.Sublists.{entries_of-append, entries_of-own, rest_of_others}
use Rattle.pass_book.proofs.BookLaws.{got_set}
use Rattle.pass_table.specs.declared.passes.Pass.{Pass}
use Rattle.pass_table.specs.declared.tables.PassTable.{PassTable}
use Rattle.pass_table.specs.Terms.{Terms}
use Rattle.pass_table.specs.Steps.{Steps, SeesFirst}
use Rattle.pass_table.specs.Passes.{page, pass_view, caller_of, pass_opening, opening_of, plan_of}
use Rattle.pass_table.specs.Openings.{AreOfOpening}
use Rattle.pass_table.specs.Closings.{AreOfAllCallers}
use Rattle.pass_table.specs.Looks.{HasLooked, HaveLooked}
use Rattle.pass_table.proofs.Lists.{all_mid, contained}
use Rattle.pass_table.proofs.Going.{goes_step, goes_begins}

-- the greater of two numbers is no less than either
pub greater : (a b r : ℕ) → r ≡ ord_max nat_cmp a b → (a ≤ r) × (b ≤ r)
greater a b r is = (grind (arith, common_steps), grind (arith, common_steps))

-- what holds of each, and of what took its place
pub all_along : {A : Type 0} (P Q : A → Type 0) (xs ys : List A) → length ys ≡ length xs → ((k : ℕ) (p q : A) → slice_get xs k ≡ Some p → slice_get ys k ≡ Some q → P p → Q q) → All P xs → All Q ys
all_along P Q xs ys many leads all k d below =
    leads k (get_or xs k d) (get_or ys k d) (slice_get-get_or xs k d (omega arith)) (slice_get-get_or ys k d below) (all k d (omega arith))

-- what is read at a place is what stands there
some_same : {A : Type 0} (xs : List A) (k : ℕ) (a : A) → slice_get xs k ≡ Some a → get_or xs k a ≡ a
some_same xs k a at = get_or_from_slice_get xs k a a at

-- a list has a last element, or is empty
snoc_view : {A : Type 0} (xs : List A) → (xs ≡ []) ⊎ ((front : List A) × (a : A) × (xs ≡ front ++ a ∷ []))
snoc_view [] = inl refl
snoc_view (x ∷ xs) =
    inr
    (⊎_elim (λ none. ([], x, ap (λ l. x ∷ l) none)) (λ t. (x ∷ t.0, t.1, ap (λ l. x ∷ l) t.2)) (snoc_view xs))

snoc_last : {A : Type 0} (xs ys : List A) (a b : A) → xs ++ a ∷ [] ≡ ys ++ b ∷ [] → a ≡ b
snoc_last [] [] a b is = cc is
snoc_last [] (y ∷ []) a b is = absurd (cc is)
snoc_last [] (y ∷ z ∷ ys) a b is = absurd (cc is)
snoc_last (x ∷ []) [] a b is = absurd (cc is)
snoc_last (x ∷ z ∷ xs) [] a b is = absurd (cc is)
snoc_last (x ∷ xs) (y ∷ ys) a b is = snoc_last xs ys a b (cc is)

no_snoc : {A : Type 0} (xs : List A) (a : A) → xs ++ a ∷ [] ≡ [] → ⊥
no_snoc [] a is = cc is
no_snoc (x ∷ xs) a is = cc is

-- the caller of the last entry has seen the whole history
last_sees : {Call Reply : Type 0} (front : List (Entry Call Reply)) (e : Entry Call Reply) (seen rest : List (Entry Call Reply)) → seen ++ rest ≡ front ++ e ∷ [] → entries_of e.caller rest ≡ [] → rest ≡ []
last_sees front e seen rest is none =
    ⊎_elim (λ empty. empty)
    (λ t.
    let ends : (seen ++ t.0) ++ t.1 ∷ [] ≡ front ++ e ∷ [] = append_assoc seen t.0 (t.1 ∷ []) ∙ (ap (λ l. seen ++ l) (sym t.2) ∙ is) in
    let same : t.1 ≡ e = snoc_last (seen ++ t.0) front t.1 e ends in
    let own : entries_of e.caller (t.1 ∷ []) ≡ t.1 ∷ [] = entries_of-own e.caller t.1 (ap (λ x. x.caller) same) in
    absurd (no_snoc (entries_of e.caller t.0) t.1 (ap (λ l. entries_of e.caller t.0 ++ l) (sym own) ∙ (sym (entries_of-append e.caller t.0 (t.1 ∷ [])) ∙ (ap (entries_of e.caller) (sym t.2) ∙ none)))))
    (snoc_view rest)

module _ {Slot Call Reply State Plan Part Name : Type 0} (T : Terms Slot Call Reply State Plan Part Name) (opens : State → Type 0) (step : State → Call → Reply → State → Type 0) (plan : Plan) where
  -- one look
  pub has_looked : (most found : ℕ) (p q : Pass Slot Call Reply Plan Part Name) (part : Part) (carried : List (ℕ × Slot)) → pass_opening q ≡ pass_opening p
      → Steps T opens step plan (SeesFirst T part carried) p.seat.seat.me found q.seat.seat.me → most ≡ T.size found → HasLooked T plan most p q
  has_looked most found p q part carried opening steps is =
      let told = steps.told in
      let goes = goes_step T opens step plan _ p.seat.seat.me found q.seat.seat.me steps (record { name = T.first_word; word = found } ∷ []) [] told.sees told.looks told.entries in
      let after = ap (λ m. m.0) steps.after in
      let seen : (pass_view q).seen ≡ steps.effect.history =
      ap (λ v. v.seen) after ∙ (ap (λ b. cond b (steps.effect.history ++ steps.effect.entries) (pass_view p).seen) told.sees ∙ (ap (λ l. steps.effect.history ++ l) told.entries ∙ append-nil steps.effect.history)) in
      let shown = subst (λ l. All (λ (x : Look Name). T.shows plan steps.effect.history x.name x.word) l) told.looks steps.shows in
      record {
        same = (opening, goes.same.number);
        own = steps.before.own;
        mine = goes.mine ∙ append-nil (pass_view p).mine;
        seen = goes_begins T opens step plan (pass_view p) (pass_view q) (record { name = T.first_word; word = found } ∷ []) [] goes;
        word = found;
        looked_at = goes.looked;
        shows = subst (λ h. T.shows plan h T.first_word found) (sym seen) (shown 0 record { name = T.first_word; word = found } (omega arith));
        size = omega arith;
      }

  -- a greater bound
  raised : (most most' : ℕ) (p q : Pass Slot Call Reply Plan Part Name) → most ≤ most' → HasLooked T plan most p q → HasLooked T plan most' p q
  raised most most' p q le look = record { same = look.same; own = look.own; mine = look.mine; seen = look.seen; word = look.word; looked_at = look.looked_at; shows = look.shows; size = (let least = look.size in omega arith) }

  -- the first n passes have looked. The others are as they were
  pub record LooksSoFar (old new : List (Pass Slot Call Reply Plan Part Name)) (n most : ℕ) : Type 0 where
    pub many : length new ≡ length old
    pub done : (k : ℕ) (p q : Pass Slot Call Reply Plan Part Name) → slice_get old k ≡ Some p → slice_get new k ≡ Some q → k < n → HasLooked T plan most p q
    pub rest : (k : ℕ) (p q : Pass Slot Call Reply Plan Part Name) → slice_get old k ≡ Some p → slice_get new k ≡ Some q → n ≤ k → q ≡ p

  -- none has looked
  pub looks_none : (old : List (Pass Slot Call Reply Plan Part Name)) → LooksSoFar old old 0 0
  looks_none old = record { many = refl; done = λ k p q at at' less. absurd (omega arith); rest = λ k p q at at' least. cc (at, at') }

  -- the pass that looks next is as it was
  pub next_as_was : (old new : List (Pass Slot Call Reply Plan Part Name)) (n most : ℕ) (d : Pass Slot Call Reply Plan Part Name) → n < length old → LooksSoFar old new n most → get_or new n d ≡ get_or old n d
  next_as_was old new n most d less so_far =
      let many = so_far.many in
      so_far.rest n (get_or old n d) (get_or new n d) (slice_get-get_or old n d less) (slice_get-get_or new n d (omega arith)) (omega arith)

  -- one more
  pub looks_more : (old new : List (Pass Slot Call Reply Plan Part Name)) (n most most' size : ℕ) (d q : Pass Slot Call Reply Plan Part Name) → n < length old → LooksSoFar old new n most → HasLooked T plan size (get_or new n d) q
      → most ≤ most' → size ≤ most' → LooksSoFar old (set new n q) (n + 1) most'
  looks_more old new n most most' size d q less so_far look more enough = record {
    many = length-set new n q ∙ so_far.many;
    done = λ k p u at at' below.
        ⊎_elim
        (λ t.
        let was : get_or old n d ≡ p = (let there = slice_get-get_or old n d less in let here : slice_get old n ≡ Some p = subst (λ j. slice_get old j ≡ Some p) t.0 at in cc (there, here)) in
        let look' : HasLooked T plan size p q = subst (λ x. HasLooked T plan size x q) (next_as_was old new n most d less so_far ∙ was) look in
        raised size most' p u enough (subst (λ x. HasLooked T plan size p x) t.1 look'))
        (λ t. raised most most' p u more (so_far.done k p u at t.1 (let away = t.0 in omega arith)))
        (got_set new n k q u at');
    rest = λ k p u at at' least.
        ⊎_elim (λ t. let same = t.0 in absurd (omega arith)) (λ t. so_far.rest k p u at t.1 (omega arith)) (got_set new n k q u at');
  }

  -- all
  pub looks_all : (old new : List (Pass Slot Call Reply Plan Part Name)) (n most : ℕ) → length old ≤ n → LooksSoFar old new n most → HaveLooked T plan most old new
  looks_all old new n most all so_far = record {
    many = so_far.many;
    each = λ k p q at at'. let within = slice_get_within old k p at in so_far.done k p q at at' (omega arith);
  }

  -- the passes that were lent for the looks have looked
  pub looked_back : (len most : ℕ) (old lent new : List (Pass Slot Call Reply Plan Part Name)) → len ≡ length old → lent ≡ old → HaveLooked T plan most lent new → HaveLooked T plan most old (take len (new ++ drop (length new) old))
  looked_back len most old lent new long is looked =
      let many : length new ≡ length old = looked.many ∙ ap length is in
      let back : take len (new ++ drop (length new) old) ≡ new = ap (λ n. take n (new ++ drop (length new) old)) (long ∙ sym many) ∙ take-append_seam new (drop (length new) old) in
      subst (HaveLooked T plan most old) (sym back) (subst (λ l. HaveLooked T plan most l new) is looked)

  module _ {C O : Type 0} (d : PassTable C O Slot Plan Part Name Call Reply State) (most : ℕ) (old new : List (Pass Slot Call Reply Plan Part Name)) (looked : HaveLooked T plan most old new) where
    -- after the looks the passes are still of the opening
    pub still_of_opening : AreOfOpening T d old → AreOfOpening T d new
    still_of_opening all = all_along (λ p. pass_opening p ≡ opening_of d) (λ q. pass_opening q ≡ opening_of d) old new looked.many (λ k p q at at' is. (looked.each k p q at at').same.0 ∙ is) all

    -- The last entry's caller has seen the whole history, and what it read of word 0 says so of it
    pub last_look : (h : List (Entry Call Reply)) → IsOfCallers (T.callers (plan_of d)) h → All (λ q. IsPageOf (caller_of q) h (page q)) new → AreOfAllCallers (T.callers (plan_of d)) new
        → (h ≡ []) ⊎ ((word : ℕ) × T.shows plan h T.first_word word × (T.size word ≤ most))
    last_look h callers pages every =
        ⊎_elim inl
        (λ t.
        let front : List (Entry Call Reply) = t.0 in
        let e : Entry Call Reply = t.1 in
        let below : e.caller < T.callers (plan_of d) = all_mid (λ (x : Entry Call Reply). x.caller < T.callers (plan_of d)) front e [] (subst (IsOfCallers (T.callers (plan_of d))) t.2 callers) in
        let Q : Pass Slot Call Reply Plan Part Name → Type 0 = λ q. IsPageOf (caller_of q) h (page q) × ((word : ℕ) × T.shows plan (page q).seen T.first_word word × (T.size word ≤ most)) in
        let all : All Q new =
        all_along (λ p. Unit {0}) Q old new looked.many
        (λ k p q at at' nothing. let look = looked.each k p q at at' in (subst (λ x. IsPageOf (caller_of x) h (page x)) (some_same new k q at') (pages k q (slice_get_within new k q at')), (look.word, look.shows, look.size)))
        (λ k d' within. tt) in
        let one = contained (λ (q : Pass Slot Call Reply Plan Part Name). caller_of q) Q new e.caller all (every e.caller below) in
        let fits = one.1.0 in
        let q : Pass Slot Call Reply Plan Part Name = one.0 in
        let none : entries_of e.caller fits.begins.0 ≡ [] =
        subst (λ c. entries_of c fits.begins.0 ≡ []) one.2 (rest_of_others (caller_of q) (page q).seen h (sym fits.whole ∙ fits.own) fits.begins) in
        let empty : fits.begins.0 ≡ [] = last_sees front e (page q).seen fits.begins.0 (fits.begins.1 ∙ t.2) none in
        let whole : (page q).seen ≡ h = sym (append-nil (page q).seen) ∙ (ap (λ l. (page q).seen ++ l) (sym empty) ∙ fits.begins.1) in
        let read = one.1.1 in
        inr (read.0, subst (λ l. T.shows plan l T.first_word read.0) whole read.1, read.2))
        (snoc_view h)

  -- what each page had before the looks fits what it fits after
  pub pages_before : (most : ℕ) (old new : List (Pass Slot Call Reply Plan Part Name)) (looked : HaveLooked T plan most old new) (h : List (Entry Call Reply)) → All (λ q. IsPageOf (caller_of q) h (page q)) new
      → All (λ p. IsPageOf (caller_of p) h (page p)) old
  pages_before most old new looked h pages =
      all_along (λ q. IsPageOf (caller_of q) h (page q)) (λ p. IsPageOf (caller_of p) h (page p)) new old (sym looked.many)
      (λ k q p at' at of.
      let look = looked.each k p q at at' in
      let of' : IsPageOf (caller_of p) h (page q) = subst (λ c. IsPageOf c h (page q)) look.same.1 of in
      record { whole = sym look.mine ∙ of'.whole; own = look.own; begins = prefix_trans (page p).seen (page q).seen h look.seen of'.begins })
      pages
