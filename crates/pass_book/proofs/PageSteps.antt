-- What one caller's page becomes at a step: its own entry, another's entry, a look at the whole history, and a note.
use Rattle.std.proofs.Common.{◌≡◌, ◌≢◌, ℕ, List, [], ◌∷◌, ◌++◌, refl, ap, sym, ◌∙◌, subst}
use mathlib.Core.List.{IsPrefix}
use Rattle.pass_book.specs.declared.entries.Entry.{Entry}
use Rattle.pass_book.specs.Histories.{entries_of, IsOfOthers, IsOfCallers, IsLegal}
use Rattle.pass_book.specs.Pages.{Page, IsPage, IsPageOf, Learns, Enters, longer}
use Rattle.pass_book.proofs.Prefixes.{prefix_self, prefix_more, prefix_trans, prefix_longer}
use Rattle.pass_book.proofs.Sublists.{entries_of-append, entries_of-own, entries_of-other, rest_of_others, entries_of-between, entries_of-alone, of_callers-rest}
use Rattle.std.proofs.lemmas.List.{append-nil}

module _ {Call Reply : Type 0} where
  -- the page after the caller's own entry
  abbrev pub page_with : List (Entry Call Reply) → Page Call Reply → Entry Call Reply → Page Call Reply
  page_with h page e = record { mine = page.mine ++ e ∷ []; seen = h ++ e ∷ [] }

  -- the page after a look at the whole history
  abbrev pub page_at : List (Entry Call Reply) → Page Call Reply → Page Call Reply
  page_at h page = record { mine = page.mine; seen = h }

  own_list : (c : ℕ) (h : List (Entry Call Reply)) (e : Entry Call Reply) (mine : List (Entry Call Reply)) → mine ≡ entries_of c h → e.caller ≡ c → mine ++ e ∷ [] ≡ entries_of c (h ++ e ∷ [])
  own_list c h e mine whole is =
      ap (λ w. w ++ e ∷ []) whole ∙ (ap (λ w. entries_of c h ++ w) (sym (entries_of-own c e is)) ∙ sym (entries_of-append c h (e ∷ [])))

  -- the caller's own entry
  pub grown_own : (c : ℕ) (h : List (Entry Call Reply)) (page : Page Call Reply) (e : Entry Call Reply) → IsPageOf c h page → e.caller ≡ c → IsPageOf c (h ++ e ∷ []) (page_with h page e)
  grown_own c h page e of is = record {
    whole = own_list c h e page.mine of.whole is;
    own = own_list c h e page.mine of.whole is;
    begins = prefix_self (h ++ e ∷ []);
  }

  -- an entry of another caller
  pub grown_other : (c : ℕ) (h : List (Entry Call Reply)) (page : Page Call Reply) (e : Entry Call Reply) → IsPageOf c h page → e.caller ≢ c → IsPageOf c (h ++ e ∷ []) page
  grown_other c h page e of isnt = record {
    whole = of.whole ∙ (sym (append-nil (entries_of c h)) ∙ (ap (λ w. entries_of c h ++ w) (sym (entries_of-other c e isnt)) ∙ sym (entries_of-append c h (e ∷ []))));
    own = of.own;
    begins = prefix_trans page.seen h (h ++ e ∷ []) of.begins (prefix_more h (e ∷ []));
  }

  -- the caller's own entries
  pub grown_by : (c : ℕ) (h : List (Entry Call Reply)) (page : Page Call Reply) (es : List (Entry Call Reply)) → IsPageOf c h page → entries_of c es ≡ es
      → IsPageOf c (h ++ es) record { mine = page.mine ++ es; seen = h ++ es }
  grown_by c h page es of own =
      let whole = ap (λ w. w ++ es) of.whole ∙ (ap (λ w. entries_of c h ++ w) (sym own) ∙ sym (entries_of-append c h es)) in
      record { whole = whole; own = whole; begins = prefix_self (h ++ es) }

  -- entries of others
  pub grown_else : (c : ℕ) (h : List (Entry Call Reply)) (page : Page Call Reply) (es : List (Entry Call Reply)) → IsPageOf c h page → entries_of c es ≡ [] → IsPageOf c (h ++ es) page
  grown_else c h page es of none = record {
    whole = of.whole ∙ (sym (append-nil (entries_of c h)) ∙ (ap (λ w. entries_of c h ++ w) (sym none) ∙ sym (entries_of-append c h es)));
    own = of.own;
    begins = prefix_trans page.seen h (h ++ es) of.begins (prefix_more h es);
  }

  -- a look at the whole history
  pub looked_whole : (c : ℕ) (h : List (Entry Call Reply)) (page : Page Call Reply) → IsPageOf c h page → IsPageOf c h (page_at h page)
  looked_whole c h page of = record { whole = of.whole; own = of.whole; begins = prefix_self h }

  -- a note that has seen a beginning of the history
  pub told : (c : ℕ) (h : List (Entry Call Reply)) (page : Page Call Reply) (note : List (Entry Call Reply)) → IsPageOf c h page → IsPrefix note h
      → IsPageOf c h (page_at (longer page.seen note) page) × Learns page note (page_at (longer page.seen note) page)
  told c h page note of begins =
      let all = prefix_longer page.seen note h of.begins begins in
      let same : entries_of c h ≡ entries_of c page.seen = sym of.whole ∙ of.own in (
        record {
          whole = of.whole;
          own = of.own ∙ sym (entries_of-between c page.seen (longer page.seen note) h all.1 all.0 same);
          begins = all.0;
        },
        record { mine = refl; seen = refl; old_begins = all.1; note_begins = all.2 },
      )

  -- what was seen between two pages of a caller that made no entry is of others
  pub between_of_others : (c : ℕ) (old new : Page Call Reply) → IsPage c old → IsPage c new → new.mine ≡ old.mine → (p : IsPrefix old.seen new.seen) → IsOfOthers c p.0
  between_of_others c old new own own' mine p = rest_of_others c old.seen new.seen (sym own' ∙ (mine ∙ own)) p

module _ {Call Reply State : Type 0} (opens : State → Type 0) (step : State → Call → Reply → State → Type 0) where
  -- to its caller the entry is a call with an entry
  pub enters : (start : State) (c : ℕ) (h : List (Entry Call Reply)) (page : Page Call Reply) (call : Call) (reply : Reply) → IsPageOf c h page
      → IsLegal opens step start (h ++ record { caller = c; call = call; reply = reply } ∷ [])
      → Enters opens step start c page (page_with h page record { caller = c; call = call; reply = reply }) call reply
  enters start c h page call reply of legal =
      let e : Entry Call Reply = record { caller = c; call = call; reply = reply } in record {
        before = of.begins.0;
        seen = ap (λ w. w ++ e ∷ []) (sym of.begins.1);
        others = rest_of_others c page.seen h (sym of.whole ∙ of.own) of.begins;
        mine = refl;
        own = own_list c h e page.mine of.whole refl;
        legal = legal;
      }

module _ {Call Reply : Type 0} where
  -- one caller alone has always seen the whole history
  pub alone_whole : (h : List (Entry Call Reply)) (page : Page Call Reply) → IsOfCallers 1 h → IsPageOf 0 h page → page.seen ≡ h
  alone_whole h page all of =
      let rest : List (Entry Call Reply) = of.begins.0 in
      let none : entries_of 0 rest ≡ [] = rest_of_others 0 page.seen h (sym of.whole ∙ of.own) of.begins in
      let mine : IsOfCallers 1 rest = of_callers-rest 1 page.seen rest (subst (IsOfCallers 1) (sym of.begins.1) all) in
      let empty : rest ≡ [] = sym (entries_of-alone rest mine) ∙ none in
      sym (append-nil page.seen) ∙ (ap (λ l. page.seen ++ l) (sym empty) ∙ of.begins.1)
