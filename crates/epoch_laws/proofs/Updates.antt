-- Functions that are changed at one argument.
use Rattle.std.proofs.Common.{◌≡◌, ◌≢◌, ◌&&◌, ◌⊎◌, ℕ, Bool, true, false, refl, ap, sym, ◌∙◌, subst, inl, inr, ⊎_elim}
use mathlib.Core.Path.{fun_ext}
use Rattle.std.proofs.lemmas.Bool.Decides.{eqb_tells}
use Rattle.epoch_laws.specs.declared.tokens.Token.{Token}
use Rattle.epoch_laws.specs.Places.{Place, same_place, same_token, with_number, with_place, with_token}

-- a test of two values tells whether they are equal
abbrev pub Tells : {K : Type 0} → (K → K → Bool) → K → K → Type 0
Tells same a b = ((same a b ≡ true) × (a ≡ b)) ⊎ ((same a b ≡ false) × (a ≢ b))

both_parts : (b c : Bool) → ((b ≡ true) × (c ≡ true) → ⊥) → (b && c) ≡ false
both_parts true true h = absurd (h (refl, refl))
both_parts true false h = refl
both_parts false c h = refl

pub same_place_tells : (p q : Place) → Tells same_place p q
same_place_tells p q =
    ⊎_elim
    (λ h.
    ⊎_elim
    (λ k. inl (rw (h.0, k.0) refl, (λ i. record { locale = h.1 i; index = k.1 i })))
    (λ k. let n = k.1 in inr (rw (h.0, k.0) refl, (λ e. n (ap (λ x. x.index) e))))
    (eqb_tells p.index q.index))
    (λ h. let n = h.1 in inr (rw h.0 refl, (λ e. n (ap (λ x. x.locale) e))))
    (eqb_tells p.locale q.locale)

pub same_token_tells : (t u : Token) → Tells same_token t u
same_token_tells t u =
    ⊎_elim
    (λ h.
    ⊎_elim
    (λ k. inl (rw (h.0, k.0) refl, (λ i. record { locale = h.1 i; number = k.1 i })))
    (λ k. let n = k.1 in inr (rw (h.0, k.0) refl, (λ e. n (ap (λ x. x.number) e))))
    (eqb_tells t.number u.number))
    (λ h. let n = h.1 in inr (rw h.0 refl, (λ e. n (ap (λ x. x.locale) e))))
    (eqb_tells t.locale u.locale)

module _ {A : Type 0} where
  pub number_here : (f : ℕ → A) (n : ℕ) (a : A) → with_number f n a n ≡ a
  unfolding with_number
  number_here f n a = ⊎_elim (λ h. rw h.0 refl) (λ h. let e = h.1 in absurd (e refl)) (eqb_tells n n)

  pub number_there : (f : ℕ → A) (n : ℕ) (a : A) (m : ℕ) → m ≢ n → with_number f n a m ≡ f m
  unfolding with_number
  number_there f n a m ne = ⊎_elim (λ h. absurd (ne h.1)) (λ h. rw h.0 refl) (eqb_tells m n)

  pub place_here : (f : Place → A) (p : Place) (a : A) → with_place f p a p ≡ a
  unfolding with_place
  place_here f p a = ⊎_elim (λ h. rw h.0 refl) (λ h. let e = h.1 in absurd (e refl)) (same_place_tells p p)

  pub place_there : (f : Place → A) (p : Place) (a : A) (q : Place) → q ≢ p → with_place f p a q ≡ f q
  unfolding with_place
  place_there f p a q ne = ⊎_elim (λ h. absurd (ne h.1)) (λ h. rw h.0 refl) (same_place_tells q p)

  pub token_here : (f : Token → A) (t : Token) (a : A) → with_token f t a t ≡ a
  unfolding with_token
  token_here f t a = ⊎_elim (λ h. rw h.0 refl) (λ h. let e = h.1 in absurd (e refl)) (same_token_tells t t)

  pub token_there : (f : Token → A) (t : Token) (a : A) (u : Token) → u ≢ t → with_token f t a u ≡ f u
  unfolding with_token
  token_there f t a u ne = ⊎_elim (λ h. absurd (ne h.1)) (λ h. rw h.0 refl) (same_token_tells u t)

-- what holds of the new value at the number and of the old ones elsewhere holds everywhere
pub at_number : {A : Type 0} (P : ℕ → A → Type 0) (f : ℕ → A) (n : ℕ) (a : A) → P n a → ((m : ℕ) → m ≢ n → P m (f m)) → (m : ℕ) → P m (with_number f n a m)
at_number P f n a here there m =
    ⊎_elim
    (λ h. subst (λ k. P k (with_number f n a k)) (sym h.1) (subst (P n) (sym (number_here f n a)) here))
    (λ h. let ne = h.1 in subst (P m) (sym (number_there f n a m ne)) (there m ne))
    (eqb_tells m n)

pub at_place : {A : Type 0} (P : Place → A → Type 0) (f : Place → A) (p : Place) (a : A) → P p a → ((q : Place) → q ≢ p → P q (f q)) → (q : Place) → P q (with_place f p a q)
at_place P f p a here there q =
    ⊎_elim
    (λ h. subst (λ k. P k (with_place f p a k)) (sym h.1) (subst (P p) (sym (place_here f p a)) here))
    (λ h. let ne = h.1 in subst (P q) (sym (place_there f p a q ne)) (there q ne))
    (same_place_tells q p)

pub at_token : {A : Type 0} (P : Token → A → Type 0) (f : Token → A) (t : Token) (a : A) → P t a → ((u : Token) → u ≢ t → P u (f u)) → (u : Token) → P u (with_token f t a u)
at_token P f t a here there u =
    ⊎_elim
    (λ h. subst (λ k. P k (with_token f t a k)) (sym h.1) (subst (P t) (sym (token_here f t a)) here))
    (λ h. let ne = h.1 in subst (P u) (sym (token_there f t a u ne)) (there u ne))
    (same_token_tells u t)

module _ {A B : Type 0} (part : A → B) (f : ℕ → A) (n : ℕ) (a : A) where
  -- a part of all values, where one is changed
  pub part_with : ◌≡◌ {A = ℕ → B} (λ m. part (with_number f n a m)) (with_number (λ m. part (f m)) n (part a))
  part_with =
      fun_ext
      (λ m.
      ⊎_elim
      (λ h. subst (λ k. part (with_number f n a k) ≡ with_number (λ m. part (f m)) n (part a) k) (sym h.1) (ap part (number_here f n a) ∙ sym (number_here (λ m. part (f m)) n (part a))))
      (λ h. let ne = h.1 in ap part (number_there f n a m ne) ∙ sym (number_there (λ m. part (f m)) n (part a) m ne))
      (eqb_tells m n))

  -- a part that doesn't change stays of all values
  pub part_kept : part a ≡ part (f n) → ◌≡◌ {A = ℕ → B} (λ m. part (with_number f n a m)) (λ m. part (f m))
  part_kept e =
      fun_ext
      (λ m.
      ⊎_elim
      (λ h. subst (λ k. part (with_number f n a k) ≡ part (f k)) (sym h.1) (ap part (number_here f n a) ∙ e))
      (λ h. let ne = h.1 in ap part (number_there f n a m ne))
      (eqb_tells m n))
