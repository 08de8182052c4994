-- The laws of books.
use Rattle.std.proofs.Common.{◌≡◌, ◌≢◌, ℕ, zero, suc, ◌<◌, List, [], ◌∷◌, ◌++◌, length, set, Some, slice_get, refl, ap, sym, subst, arith, inl, inr, ◌⊎◌, ⊎_elim, length-set, append_assoc, ◌∙◌}
use Rattle.std.proofs.lemmas.List.Elements.{All-append}
use Rattle.std.proofs.lemmas.Option.{slice_get_within}
use Rattle.pass_book.proofs.Sublists.{of_callers-more, entries_of-all, entries_of-none, entries_of-append, rest_of_others}
use Rattle.pass_book.specs.declared.entries.Entry.{Entry}
use Rattle.pass_book.specs.Histories.{IsOfCallers, entries_of}
use Rattle.pass_book.specs.Pages.{Page, IsPageOf, longer}
use Rattle.pass_book.specs.Laws.{EntryAdded, EntriesAdded, NoteTaken, ListIsSublist}
use Rattle.pass_book.proofs.PageSteps.{grown_by, grown_else, grown_own, grown_other, told, enters, page_with, page_at}

-- what stands in a list after a write: what was written, or, at another place, what was there
pub got_set : {A : Type 0} (l : List A) (i j : ℕ) (a b : A) → slice_get (set l i a) j ≡ Some b → ((j ≡ i) × (a ≡ b)) ⊎ ((j ≢ i) × (slice_get l j ≡ Some b))
got_set [] i j a b e = absurd (cc e)
got_set (x ∷ xs) zero zero a b e = inl (refl, cc e)
got_set (x ∷ xs) zero (suc j) a b e = inr ((λ h. omega arith), e)
got_set (x ∷ xs) (suc i) zero a b e = inr ((λ h. omega arith), e)
got_set (x ∷ xs) (suc i) (suc j) a b e = ⊎_elim (λ t. inl (ap suc t.0, t.1)) (λ t. let n = t.0 in inr ((λ h. n (omega arith)), t.1)) (got_set xs i j a b e)

module _ {Call Reply State : Type 0} (opens : State → Type 0) (step : State → Call → Reply → State → Type 0) where
  pub entry_keeps : EntryAdded opens step
  entry_keeps book e page is at legal =
      let h : List (Entry Call Reply) = book.history in
      let p' : Page Call Reply = page_with h page e in
      let below : e.caller < length book.pages = slice_get_within book.pages e.caller page at in (
        record {
          legal = legal;
          callers = subst (λ n. IsOfCallers n (h ++ e ∷ [])) (sym (length-set book.pages e.caller p')) (of_callers-more (length book.pages) h e is.callers below);
          pages = λ c q got.
              ⊎_elim
              (λ t.
              let here : IsPageOf c h page = subst (λ k. IsPageOf k h page) (sym t.0) (is.pages e.caller page at) in
              subst (λ r. IsPageOf c (h ++ e ∷ []) r) t.1 (grown_own c h page e here (sym t.0)))
              (λ t. let n = t.0 in grown_other c h q e (is.pages c q t.1) (λ same. n (sym same)))
              (got_set book.pages e.caller c p' q got);
        },
        enters opens step book.start e.caller h page e.call e.reply (is.pages e.caller page at) legal,
      )

  pub entries_keep : EntriesAdded opens step
  entries_keep book c page es is at own legal =
      let h : List (Entry Call Reply) = book.history in
      let p' : Page Call Reply = record { mine = page.mine ++ es; seen = h ++ es } in
      let below : c < length book.pages = slice_get_within book.pages c page at in
      let all : entries_of c es ≡ es = entries_of-all c es own in
      let of : IsPageOf c h page = is.pages c page at in
      let grown : IsPageOf c (h ++ es) p' = grown_by c h page es of all in (
        record {
          legal = legal;
          callers = subst (λ n. IsOfCallers n (h ++ es)) (sym (length-set book.pages c p'))
              (All-append (λ (x : Entry Call Reply). x.caller < length book.pages) h es is.callers (λ k d within. let same = own k d within in omega arith));
          pages = λ o q got.
              ⊎_elim
              (λ t. subst (λ r. IsPageOf o (h ++ es) r) t.1 (subst (λ k. IsPageOf k (h ++ es) p') (sym t.0) grown))
              (λ t. let n = t.0 in grown_else o h q es (is.pages o q t.1) (entries_of-none o es (λ k d within same. n (sym same ∙ own k d within))))
              (got_set book.pages c o p' q got);
        },
        record {
          more = of.begins.0 ++ es;
          seen = ap (λ w. w ++ es) (sym of.begins.1) ∙ append_assoc page.seen of.begins.0 es;
          among = entries_of-append c of.begins.0 es ∙ (ap (λ w. w ++ entries_of c es) (rest_of_others c page.seen h (sym of.whole ∙ of.own) of.begins) ∙ all);
          mine = refl;
          own = grown.own;
          legal = legal;
        },
      )

  pub note_keeps : NoteTaken opens step
  note_keeps book caller page note is at begins =
      let h : List (Entry Call Reply) = book.history in
      let p' : Page Call Reply = page_at (longer page.seen note) page in
      let both = told caller h page note (is.pages caller page at) begins in (
        record {
          legal = is.legal;
          callers = subst (λ n. IsOfCallers n h) (sym (length-set book.pages caller p')) is.callers;
          pages = λ c q got.
              ⊎_elim (λ t. subst (λ r. IsPageOf c h r) t.1 (subst (λ k. IsPageOf k h p') (sym t.0) both.0)) (λ t. is.pages c q t.1) (got_set book.pages caller c p' q got);
        },
        both.1,
      )

  pub list_is : ListIsSublist opens step
  list_is book caller page is at = (is.pages caller page at).whole

-- what stands at a place after a write there, and after one elsewhere
pub got_here : {A : Type 0} (l : List A) (i : ℕ) (a : A) → i < length l → slice_get (set l i a) i ≡ Some a
got_here [] i a within = absurd (omega arith)
got_here (x ∷ xs) zero a within = refl
got_here (x ∷ xs) (suc i) a within = got_here xs i a (omega arith)

pub got_else : {A : Type 0} (l : List A) (i j : ℕ) (a : A) → j ≢ i → slice_get (set l i a) j ≡ slice_get l j
got_else [] i j a n = refl
got_else (x ∷ xs) zero zero a n = absurd (n refl)
got_else (x ∷ xs) zero (suc j) a n = refl
got_else (x ∷ xs) (suc i) zero a n = refl
got_else (x ∷ xs) (suc i) (suc j) a n = got_else xs i j a (λ e. n (ap suc e))
