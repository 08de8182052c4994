-- A caller's entries in a history that grows.
use Rattle.std.proofs.Common.{◌≡◌, ◌≢◌, ℕ, zero, suc, ◌+◌, ◌<◌, ◌≤◌, Bool, List, [], ◌∷◌, ◌++◌, length, cond, nat_eq, refl, ap, sym, ◌∙◌, arith, length-append, append_assoc, eq-eqb, ne_eqb, subst}
use Rattle.std.proofs.lemmas.List.{append-nil, get_or-append-add}
use Rattle.std.proofs.lemmas.List.Elements.{filter-append, All-append}
use Rattle.std.specs.List.{All}
use Rattle.std.proofs.Math.ListN.{get_or-append}
use mathlib.Core.List.{IsPrefix}
use Rattle.pass_book.specs.declared.entries.Entry.{Entry}
use Rattle.pass_book.specs.Histories.{entries_of, IsOfOthers, IsOfCallers}

nothing_added : {A : Type 0} (xs ys : List A) → length (xs ++ ys) ≡ length xs → ys ≡ []
nothing_added xs [] e = refl
nothing_added xs (y ∷ ys) e = absurd (omega (arith, length-append xs (y ∷ ys)))

pub front_empty : {A : Type 0} (xs ys : List A) → xs ++ ys ≡ [] → xs ≡ []
front_empty [] ys e = refl
front_empty (x ∷ xs) ys e = absurd cc

module _ {Call Reply : Type 0} where
  pub entries_of-append : (c : ℕ) (h k : List (Entry Call Reply)) → entries_of c (h ++ k) ≡ entries_of c h ++ entries_of c k
  entries_of-append c h k = filter-append (λ (e : Entry Call Reply). nat_eq e.caller c) h k

  -- an entry of the caller itself
  pub entries_of-own : (c : ℕ) (e : Entry Call Reply) → e.caller ≡ c → entries_of c (e ∷ []) ≡ e ∷ []
  entries_of-own c e is = ap (λ (b : Bool). cond b (e ∷ []) []) (eq-eqb e.caller c is)

  -- an entry of another caller
  pub entries_of-other : (c : ℕ) (e : Entry Call Reply) → e.caller ≢ c → entries_of c (e ∷ []) ≡ []
  entries_of-other c e isnt = ap (λ (b : Bool). cond b (e ∷ []) []) (ne_eqb e.caller c isnt)

  -- what follows a beginning that has all entries of a caller has none of it
  pub rest_of_others : (c : ℕ) (seen h : List (Entry Call Reply)) → entries_of c h ≡ entries_of c seen → (p : IsPrefix seen h) → IsOfOthers c p.0
  rest_of_others c seen h same p =
      nothing_added (entries_of c seen) (entries_of c p.0)
      (ap length (sym (entries_of-append c seen p.0) ∙ (ap (entries_of c) p.1 ∙ same)))

  -- a list between two that have the same entries of a caller has those too
  pub entries_of-between : (c : ℕ) (xs ys zs : List (Entry Call Reply)) → IsPrefix xs ys → IsPrefix ys zs → entries_of c zs ≡ entries_of c xs → entries_of c ys ≡ entries_of c xs
  entries_of-between c xs ys zs p q same =
      let all : entries_of c (xs ++ (p.0 ++ q.0)) ≡ entries_of c xs = ap (entries_of c) (sym (append_assoc xs p.0 q.0) ∙ (ap (λ w. w ++ q.0) p.1 ∙ q.1)) ∙ same in
      let parts : entries_of c (xs ++ (p.0 ++ q.0)) ≡ entries_of c xs ++ (entries_of c p.0 ++ entries_of c q.0) =
      entries_of-append c xs (p.0 ++ q.0) ∙ ap (λ w. entries_of c xs ++ w) (entries_of-append c p.0 q.0) in
      let whole : entries_of c xs ++ (entries_of c p.0 ++ entries_of c q.0) ≡ entries_of c xs = sym parts ∙ all in
      let none : entries_of c p.0 ++ entries_of c q.0 ≡ [] = nothing_added (entries_of c xs) (entries_of c p.0 ++ entries_of c q.0) (ap length whole) in
      let mid : entries_of c p.0 ≡ [] = front_empty (entries_of c p.0) (entries_of c q.0) none in
      sym (ap (entries_of c) p.1) ∙ (entries_of-append c xs p.0 ∙ (ap (λ w. entries_of c xs ++ w) mid ∙ append-nil (entries_of c xs)))

  only : (n : ℕ) (e : Entry Call Reply) → e.caller < n → IsOfCallers n (e ∷ [])
  only n e below zero d within = below
  only n e below (suc k) d within = absurd (omega arith)

  -- one more entry of one of the callers
  pub of_callers-more : (n : ℕ) (h : List (Entry Call Reply)) (e : Entry Call Reply) → IsOfCallers n h → e.caller < n → IsOfCallers n (h ++ e ∷ [])
  of_callers-more n h e all below = All-append (λ (x : Entry Call Reply). x.caller < n) h (e ∷ []) all (only n e below)

  -- callers below a number are below a greater one
  pub of_callers-le : (n m : ℕ) (h : List (Entry Call Reply)) → n ≤ m → IsOfCallers n h → IsOfCallers m h
  of_callers-le n m h le all k d within = let below = all k d within in omega arith

  -- what one caller alone made is all its own
  pub entries_of-alone : (h : List (Entry Call Reply)) → IsOfCallers 1 h → entries_of 0 h ≡ h
  entries_of-alone [] all = refl
  entries_of-alone (e ∷ h) all =
      let own : e.caller ≡ 0 = (let below = all 0 e (omega arith) in omega arith) in
      ap (λ b. cond b (e ∷ entries_of 0 h) (entries_of 0 h)) (eq-eqb e.caller 0 own) ∙ ap (λ l. e ∷ l) (entries_of-alone h (λ k d within. all (suc k) d (omega arith)))

  -- what follows a beginning is of the same callers
  pub of_callers-rest : (n : ℕ) (xs ys : List (Entry Call Reply)) → IsOfCallers n (xs ++ ys) → IsOfCallers n ys
  of_callers-rest n xs ys all k d within =
      subst (λ (e : Entry Call Reply). e.caller < n) (get_or-append-add xs ys k d) (all (length xs + k) d (omega (arith, length-append xs ys)))

  -- entries that are all the caller's
  pub entries_of-all : (c : ℕ) (h : List (Entry Call Reply)) → All (λ (e : Entry Call Reply). e.caller ≡ c) h → entries_of c h ≡ h
  entries_of-all c [] all = refl
  entries_of-all c (e ∷ h) all =
      ap (λ b. cond b (e ∷ entries_of c h) (entries_of c h)) (eq-eqb e.caller c (all 0 e (omega arith))) ∙ ap (λ l. e ∷ l) (entries_of-all c h (λ k d within. all (suc k) d (omega arith)))

  -- entries that are all another's
  pub entries_of-none : (c : ℕ) (h : List (Entry Call Reply)) → All (λ (e : Entry Call Reply). e.caller ≢ c) h → entries_of c h ≡ []
  entries_of-none c [] all = refl
  entries_of-none c (e ∷ h) all =
      ap (λ b. cond b (e ∷ entries_of c h) (entries_of c h)) (ne_eqb e.caller c (all 0 e (omega arith))) ∙ entries_of-none c h (λ k d within. all (suc k) d (omega arith))

  -- a caller that is not one of the callers has no entry
  pub entries_of-past : (n c : ℕ) (h : List (Entry Call Reply)) → n ≤ c → IsOfCallers n h → entries_of c h ≡ []
  entries_of-past n c h past all = entries_of-none c h (λ k d within same. let below = all k d within in omega arith)

  -- a beginning is of the same callers
  pub of_callers-begin : (n : ℕ) (xs ys : List (Entry Call Reply)) → IsPrefix xs ys → IsOfCallers n ys → IsOfCallers n xs
  of_callers-begin n xs ys p all k d within =
      subst (λ (e : Entry Call Reply). e.caller < n) (get_or-append xs p.0 d k within)
      (subst (λ (l : List (Entry Call Reply)). IsOfCallers n l) (sym p.1) all k d (omega (arith, length-append xs p.0)))
