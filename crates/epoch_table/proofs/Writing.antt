-- A step on one word of a table that shows the machine's words.
use Rattle.std.proofs.Common.{◌≡◌, ◌≢◌, ◌==◌, ◌&&◌, ◌+◌, ◌<◌, ◌≤◌, ℕ, Bool, true, false, ltb, List, length, set, slice_index, refl, ap, sym, ◌∙◌, subst, ⊎_elim, arith}
use Rattle.std.proofs.lemmas.Bool.{cases_Bool, ltb-true, lt-ltb}
use Rattle.std.proofs.lemmas.Bool.Decides.{eqb_tells}
use Rattle.std.proofs.lemmas.List.{get_or-set_same, get_or-set_other, set-get_or}
use Rattle.std.specs.Prelude.{MatchBool}
use prog.Atomic.{either}
use Rattle.pgas_base.specs.declared.shapes.Shape.{Shape}
use Rattle.epoch_laws.specs.Places.{Place}
use Rattle.epoch_laws.specs.States.{IsPlace}
use Rattle.epoch_laws.specs.Words.{Words, WordName, word_at}
use Rattle.epoch_table.specs.Layout.{Site, Named, InRow, OfClient, named_place, client_place, place, IsNamed, IsSite}
use Rattle.epoch_table.specs.Deeds.{Deed, Elsewhere, Loads, Stores, Swaps, Exchanges, Writes, Does, number_after}
use Rattle.epoch_table.specs.Knowledge.{Finds}
use Rattle.epoch_table.specs.Rule.{AreShown, is_in_row, row_word}
use Rattle.epoch_table.specs.Kinds.{IsOn}
use Rattle.epoch_table.proofs.Places.{one_site, named_within}

first_true : (a b : Bool) → (a && b) ≡ true → a ≡ true
first_true true b e = refl
first_true false b e = e

second_true : (a b : Bool) → (a && b) ≡ true → b ≡ true
second_true true b e = e
second_true false b e = absurd cc

abbrev pub is_row : Site → Bool
is_row (Named x) = false
is_row (InRow q n) = true
is_row (OfClient word) = false

-- there is such a word in a row
row_site : (shape : Shape) (p : Place) (at : ℕ) → is_in_row shape p at ≡ true → IsSite shape (InRow p at)
row_site shape p at b =
    let first = first_true (ltb p.locale shape.locales) (ltb 0 p.index && (ltb p.index (shape.objects + 1) && ltb at shape.width)) b in
    let rest = second_true (ltb p.locale shape.locales) (ltb 0 p.index && (ltb p.index (shape.objects + 1) && ltb at shape.width)) b in
    let some = first_true (ltb 0 p.index) (ltb p.index (shape.objects + 1) && ltb at shape.width) rest in
    let more = second_true (ltb 0 p.index) (ltb p.index (shape.objects + 1) && ltb at shape.width) rest in
    let most = first_true (ltb p.index (shape.objects + 1)) (ltb at shape.width) more in
    let low = second_true (ltb p.index (shape.objects + 1)) (ltb at shape.width) more in
    let a = ltb-true 0 p.index some in
    let c = ltb-true p.index (shape.objects + 1) most in
    (record { locale = ltb-true p.locale shape.locales first; some_object = omega (arith, a); index = omega (arith, c) }, ltb-true at shape.width low)

-- and each word of an object's row is such a one
pub in_row : (shape : Shape) (p : Place) (at : ℕ) → IsPlace shape p → at < shape.width → is_in_row shape p at ≡ true
in_row shape p at is low =
    let some = is.some_object in
    let index = is.index in
    rw (lt-ltb p.locale shape.locales is.locale, lt-ltb 0 p.index (omega (arith, some)), lt-ltb p.index (shape.objects + 1) (omega (arith, index)), lt-ltb at shape.width low) refl

-- a number that is written at another word leaves a word of a row as it is
pub row_else : (shape : Shape) (table : List ℕ) (site : Site) → IsSite shape site → (number : ℕ) (p : Place) (at : ℕ) → InRow p at ≢ site
    → row_word shape (set table (place shape site) number) p at ≡ row_word shape table p at
row_else shape table site is number p at other =
    ⊎_elim
    (λ b. rw b (get_or-set_other table (place shape site) (place shape (InRow p at)) number 0 (λ e. other (one_site shape (InRow p at) site (row_site shape p at b) is e))))
    (λ b. rw b refl)
    (cases_Bool (is_in_row shape p at))

-- one that is written at another word than one of a row leaves the rows as they are
pub row_stays : (shape : Shape) (table : List ℕ) (site : Site) → IsSite shape site → is_row site ≡ false → (number : ℕ) (p : Place) (at : ℕ)
    → row_word shape (set table (place shape site) number) p at ≡ row_word shape table p at
row_stays shape table site is other number p at = row_else shape table site is number p at (λ e. absurd (cc (sym other ∙ ap is_row (sym e))))

module _ (shape : Shape) (table : List ℕ) (name : WordName) (is : IsNamed shape name) where
  -- what such a step finds is the machine's word
  pub found_so : (d : Deed) (words : Words) → AreShown shape table words → IsOn d name → Finds words d (slice_index table (named_place shape name))
  found_so Elsewhere words shown on = tt
  found_so (Loads of) words shown on = ap (word_at words) on ∙ sym (shown name is)
  found_so (Stores of number) words shown on = tt
  found_so (Swaps of number) words shown on = ap (word_at words) on ∙ sym (shown name is)
  found_so (Exchanges of old new) words shown on = ap (word_at words) on ∙ sym (shown name is)

module _ (shape : Shape) (table : List ℕ) (name : WordName) (is : IsNamed shape name) (wide : client_place shape ≤ length table) where
  -- a word that was written shows what was written, and the others what they showed
  written : (words after : Words) (number : ℕ) → AreShown shape table words → Writes words name number after → AreShown shape (set table (named_place shape name) number) after
  written words after number shown writes other is_other =
      let low : named_place shape name < length table = (let w = named_within shape name is in omega (arith, w, wide)) in
      ⊎_elim
      (λ h.
      let same : other ≡ name = named (one_site shape (Named other) (Named name) is_other is h.1) in
      subst (λ o. slice_index (set table (named_place shape name) number) (named_place shape o) ≡ word_at after o) (sym same) (get_or-set_same table (named_place shape name) number 0 low ∙ sym writes.here))
      (λ h.
      let apart = h.1 in
      get_or-set_other table (named_place shape name) (named_place shape other) number 0 apart ∙ (shown other is_other ∙ sym (writes.there other (λ e. apart (ap (named_place shape) e)))))
      (eqb_tells (named_place shape other) (named_place shape name))
    where
      name_in : Site → WordName
      name_in (Named x) = x
      name_in (InRow p at) = name
      name_in (OfClient word) = name

      named : {a b : WordName} → Named a ≡ Named b → a ≡ b
      named e = ap name_in e

  -- a word that stays shows what it showed
  stayed : (words after : Words) → AreShown shape table words → after ≡ words → AreShown shape (set table (named_place shape name) (slice_index table (named_place shape name))) after
  stayed words after shown same =
      subst (λ t. AreShown shape t after) (sym (set-get_or table (named_place shape name) 0)) (subst (AreShown shape table) (sym same) shown)

  exchanged : (words after : Words) (new : ℕ) (b : Bool) → AreShown shape table words → MatchBool b (Writes words name new after) (after ≡ words)
      → AreShown shape (set table (named_place shape name) (either b new (slice_index table (named_place shape name)))) after
  exchanged words after new true shown does = written words after new shown does
  exchanged words after new false shown does = stayed words after shown does

  -- the table after a step on this word shows the words after it
  pub shown_after : (d : Deed) (words after : Words) → AreShown shape table words → IsOn d name → Does words d after
      → AreShown shape (set table (named_place shape name) (number_after d (slice_index table (named_place shape name)))) after
  shown_after Elsewhere words after shown on does = absurd on
  shown_after (Loads of) words after shown on does = stayed words after shown does
  shown_after (Stores of number) words after shown on does = written words after number shown (subst (λ o. Writes words o number after) on does)
  shown_after (Swaps of number) words after shown on does = written words after number shown (subst (λ o. Writes words o number after) on does)
  shown_after (Exchanges of old new) words after shown on does =
      let found : word_at words of ≡ slice_index table (named_place shape name) = ap (word_at words) on ∙ sym (shown name is) in
      exchanged words after new (slice_index table (named_place shape name) == old) shown
      (subst (λ n. MatchBool (n == old) (Writes words name new after) (after ≡ words)) found (subst (λ o. MatchBool (word_at words of == old) (Writes words o new after) (after ≡ words)) on does))

  -- the client's words and the rows stay
  pub client_kept : (number word : ℕ) → slice_index (set table (named_place shape name) number) (place shape (OfClient word)) ≡ slice_index table (place shape (OfClient word))
  client_kept number word =
      let low = named_within shape name is in
      get_or-set_other table (named_place shape name) (place shape (OfClient word)) number 0 (λ e. absurd (omega (arith, low, e)))

  pub row_kept : (number : ℕ) (p : Place) (at : ℕ) → row_word shape (set table (named_place shape name) number) p at ≡ row_word shape table p at
  row_kept = row_stays shape table (Named name) is refl
