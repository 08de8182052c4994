-- Lists that show a function, where one value is changed.
use Rattle.std.proofs.Common.{◌≡◌, ◌≢◌, ◌⊎◌, ◌<◌, ◌≤◌, ◌+◌, ◌-◌, ◌*◌, ◌/◌, ℕ, List, length, slice_index_or, slice_set, refl, ap, sym, ◌∙◌, subst, inl, inr, arith}
use Rattle.std.proofs.lemmas.List.{get_or-set_other, get_or-set_same, length-set}
use Rattle.std.proofs.lemmas.Nat.{div-mul-add, mul-add-lt}
use Rattle.std.proofs.lemmas.Bool.Decides.{eqb_tells}
use Rattle.pgas_base.specs.declared.shapes.Shape.{Shape}
use Rattle.epoch_laws.specs.declared.tokens.Token.{Token}
use Rattle.epoch_laws.specs.Places.{Place, with_number, with_place, with_token}
use Rattle.epoch_laws.specs.DeferralSteps.{with_list}
use Rattle.epoch_laws.specs.States.{IsPlace}
use Rattle.epoch_laws.proofs.Updates.{same_place_tells, same_token_tells, number_here, number_there, place_here, place_there, token_here, token_there}
use Rattle.epoch_core.specs.Tables.{Shows, ListName, IsList, list_number, IsToken, token_number, place_number}

-- a key is the one whose value is changed, or has another number and its old value
abbrev pub Elsewhere : {K A : Type 0} → (K → ℕ) → (K → A) → (K → A) → K → K → Type 0
Elsewhere number f g k q = (q ≡ k) ⊎ ((number q ≢ number k) × (g q ≡ f q))

pub Shows-set : {K A : Type 0} (count : ℕ) (Inside : K → Type 0) (number : K → ℕ) (xs ys : List A) (f g : K → A) (k : K) (x : A) → Shows count Inside number xs f
    → Inside k → number k < count → ys ≡ slice_set xs (number k) x → g k ≡ x → ((q : K) → Inside q → Elsewhere number f g k q) → Shows count Inside number ys g
Shows-set {K} {A} count Inside number xs ys f g k x shows inside low is here there =
    record {
      len = ap length is ∙ length-set xs (number k) x ∙ shows.len;
      at = λ q d in_q. elim (there q in_q) [
        | inl same ↦
            let fits : number k < length xs = rw shows.len low in
            let P : K → Type 0 = λ v. slice_index_or ys (number v) d ≡ g v in
            subst P (sym same) (ap (λ (l : List A). slice_index_or l (number k) d) is ∙ get_or-set_same xs (number k) x d fits ∙ sym here)
        | inr (apart, kept) ↦
            ap (λ (l : List A). slice_index_or l (number q) d) is ∙ get_or-set_other xs (number k) (number q) x d apart ∙ shows.at q d in_q ∙ sym kept
      ];
    }

-- rows and columns
pub row_of : (w a b a' b' : ℕ) → b < w → b' < w → a * w + b ≡ a' * w + b' → a ≡ a'
row_of w a b a' b' low low' same = sym (div-mul-add a w b low) ∙ ap (λ v. v / w) same ∙ div-mul-add a' w b' low'

pub column_of : (w a b a' b' : ℕ) → b < w → b' < w → a * w + b ≡ a' * w + b' → b ≡ b'
column_of w a b a' b' low low' same = let rows : a * w ≡ a' * w = ap (λ v. v * w) (row_of w a b a' b' low low' same) in omega arith

pub number-with : {A : Type 0} (count : ℕ) (xs ys : List A) (f : ℕ → A) (k : ℕ) (x : A) → Shows count (λ l. l < count) (λ l. l) xs f → k < count → ys ≡ slice_set xs k x
    → Shows count (λ l. l < count) (λ l. l) ys (with_number f k x)
number-with {A} count xs ys f k x shows low is =
    Shows-set count (λ l. l < count) (λ l. l) xs ys f (with_number f k x) k x shows low low is (number_here f k x)
    (λ q _. elim (eqb_tells q k) [ inl (_, same) ↦ inl same | inr (_, apart) ↦ inr (apart, number_there f k x q apart) ])

module _ (shape : Shape) where
  pub token_low : (t : Token) → IsToken shape t → token_number shape t < shape.locales * shape.tokens
  token_low t inside = omega (arith, mul-add-lt t.locale shape.tokens t.number shape.locales inside.locale inside.number)

  pub place_low : (p : Place) → IsPlace shape p → place_number shape p < shape.locales * shape.objects
  place_low p inside =
      let some : 1 ≤ p.index = inside.some_object in
      let most : p.index ≤ shape.objects = inside.index in
      let low : p.index - 1 < shape.objects = omega arith in
      omega (arith, mul-add-lt p.locale shape.objects (p.index - 1) shape.locales inside.locale low)

  list_low : (n : ListName) → IsList shape n → list_number n < shape.locales * 4
  list_low n inside = omega (arith, inside.0, inside.1)

  token_apart : (t u : Token) → IsToken shape t → IsToken shape u → t ≢ u → token_number shape t ≢ token_number shape u
  token_apart t u in_t in_u apart same =
      let rows : t.locale ≡ u.locale = row_of shape.tokens t.locale t.number u.locale u.number in_t.number in_u.number same in
      let columns : t.number ≡ u.number = column_of shape.tokens t.locale t.number u.locale u.number in_t.number in_u.number same in
      apart (λ i. record { locale = rows i; number = columns i })

  pub place_apart : (p q : Place) → IsPlace shape p → IsPlace shape q → p ≢ q → place_number shape p ≢ place_number shape q
  place_apart p q in_p in_q apart same =
      let some : 1 ≤ p.index = in_p.some_object in
      let most : p.index ≤ shape.objects = in_p.index in
      let some' : 1 ≤ q.index = in_q.some_object in
      let most' : q.index ≤ shape.objects = in_q.index in
      let low : p.index - 1 < shape.objects = omega arith in
      let low' : q.index - 1 < shape.objects = omega arith in
      let rows : p.locale ≡ q.locale = row_of shape.objects p.locale (p.index - 1) q.locale (q.index - 1) low low' same in
      let before : p.index - 1 ≡ q.index - 1 = column_of shape.objects p.locale (p.index - 1) q.locale (q.index - 1) low low' same in
      let columns : p.index ≡ q.index = omega arith in
      apart (λ i. record { locale = rows i; index = columns i })

  pub token-with : {A : Type 0} (xs ys : List A) (f : Token → A) (t : Token) (x : A) → Shows (shape.locales * shape.tokens) (IsToken shape) (token_number shape) xs f → IsToken shape t
      → ys ≡ slice_set xs (token_number shape t) x → Shows (shape.locales * shape.tokens) (IsToken shape) (token_number shape) ys (with_token f t x)
  token-with {A} xs ys f t x shows inside is =
      Shows-set (shape.locales * shape.tokens) (IsToken shape) (token_number shape) xs ys f (with_token f t x) t x shows inside (token_low t inside) is (token_here f t x)
      (λ q in_q. elim (same_token_tells q t) [ inl (_, same) ↦ inl same | inr (_, apart) ↦ inr (token_apart q t in_q inside apart, token_there f t x q apart) ])

  pub place-with : {A : Type 0} (xs ys : List A) (f : Place → A) (p : Place) (x : A) → Shows (shape.locales * shape.objects) (IsPlace shape) (place_number shape) xs f → IsPlace shape p
      → ys ≡ slice_set xs (place_number shape p) x → Shows (shape.locales * shape.objects) (IsPlace shape) (place_number shape) ys (with_place f p x)
  place-with {A} xs ys f p x shows inside is =
      Shows-set (shape.locales * shape.objects) (IsPlace shape) (place_number shape) xs ys f (with_place f p x) p x shows inside (place_low p inside) is (place_here f p x)
      (λ q in_q. elim (same_place_tells q p) [ inl (_, same) ↦ inl same | inr (_, apart) ↦ inr (place_apart q p in_q inside apart, place_there f p x q apart) ])

  pub list-with : (xs ys : List ℕ) (f : ℕ → ℕ → ℕ) (l k x : ℕ) → Shows (shape.locales * 4) (IsList shape) list_number xs (λ n. f n.locale n.list) → l < shape.locales → k < 4
      → ys ≡ slice_set xs (l * 4 + k) x → Shows (shape.locales * 4) (IsList shape) list_number ys (λ n. with_list f l k x n.locale n.list)
  unfolding with_list
  list-with xs ys f l k x shows low list is =
      let name : ListName = record { locale = l; list = k } in
      Shows-set (shape.locales * 4) (IsList shape) list_number xs ys (λ n. f n.locale n.list) (λ n. with_list f l k x n.locale n.list) name x shows (low, list) (list_low name (low, list)) is
      (elim (eqb_tells l l) [ inl (is_l, _) ↦ elim (eqb_tells k k) [ inl (is_k, _) ↦ rw (is_l, is_k) refl | inr (_, apart) ↦ absurd (apart refl) ] | inr (_, apart) ↦ absurd (apart refl) ])
      (λ q in_q. elim (eqb_tells q.locale l) [
        | inl (is_l, same_l) ↦ elim (eqb_tells q.list k) [
          | inl (_, same_k) ↦ inl (λ i. record { locale = same_l i; list = same_k i })
          | inr (is_k, apart) ↦ inr ((λ same. apart (omega (arith, same, same_l))), rw (is_l, is_k) refl)
        ]
        | inr (is_l, apart) ↦ inr ((λ same. apart (row_of 4 q.locale q.list l k in_q.1 list same)), rw is_l refl)
      ])
