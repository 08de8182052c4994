-- Each segment has its turn in the order in which a caller tries them.
use Rattle.std.proofs.Common.{◌≡◌, ◌≢◌, ℕ, ◌+◌, ◌-◌, ◌*◌, ◌/◌, ◌%◌, ◌<◌, ◌≤◌, ap, ap₂, sym, ◌∙◌, arith, ⊎_elim, div-add-mod'}
use Rattle.std.proofs.Math.Nat.{add-mod_right, mod-eq_of_lt, mod-lt, mul-le-mul_right, div-lt_iff_lt-mul, div-eq_of_lt}
use Rattle.std.proofs.lemmas.Nat.{div-mul-add, mod-mul-add, mul-le}
use Rattle.std.proofs.lemmas.Bool.{cases_lt}
use Rattle.shared_bag.specs.declared.shapes.Shape.{Shape}
use Rattle.shared_bag.specs.Shapes.{IsShape, IsOwn, all_segments, tried, tried_locale, tried_number}

-- so many steps round from one number lead to another
round : (own l n : ℕ) → own < n → l < n → (own + (l + n - own) % n) % n ≡ l
round own l n a b =
    ⊎_elim
    (λ less.
    let inner : (l + n - own) % n ≡ l + n - own = mod-eq_of_lt (omega arith) in
    let sum : own + (l + n - own) ≡ l + n = omega arith in
    ap (λ x. (own + x) % n) inner ∙ (ap (λ x. x % n) sum ∙ (add-mod_right l n ∙ mod-eq_of_lt b)))
    (λ least.
    let shift : l + n - own ≡ (l - own) + n = omega arith in
    let inner : (l + n - own) % n ≡ l - own = ap (λ x. x % n) shift ∙ (add-mod_right (l - own) n ∙ mod-eq_of_lt (omega arith)) in
    let sum : own + (l - own) ≡ l = omega arith in
    ap (λ x. (own + x) % n) inner ∙ (ap (λ x. x % n) sum ∙ mod-eq_of_lt b))
    (cases_lt l own)

-- each segment is tried after some others
pub tried_all : (shape : Shape) (caller k : ℕ) → IsShape shape → k < all_segments shape → (j : ℕ) × (j < all_segments shape) × (tried shape caller j ≡ k)
tried_all shape caller k is within =
    let L : ℕ = shape.locales in
    let S : ℕ = shape.segments in
    let some_locale : 0 < L = (let least = is.locales.0 in omega arith) in
    let some_segment : 0 < S = (let least = is.segments.0 in omega arith) in
    let own : ℕ = caller % L in
    let first : ℕ = caller / L % S in
    let locale : ℕ = k / S in
    let number : ℕ = k % S in
    let locale_less : locale < L = (div-lt_iff_lt-mul some_segment).1 within in
    let number_less : number < S = mod-lt k some_segment in
    let a : ℕ = (locale + L - own) % L in
    let b : ℕ = (number + S - first) % S in
    let a_less : a < L = mod-lt (locale + L - own) some_locale in
    let b_less : b < S = mod-lt (number + S - first) some_segment in
    let j : ℕ = a * S + b in
    let top : (a + 1) * S ≤ L * S = mul-le-mul_right S (omega arith) in
    let less : j < L * S = omega arith in
    let high : j / S ≡ a = div-mul-add a S b b_less in
    let low : j % S ≡ b = mod-mul-add a S b b_less in
    let at_locale : tried_locale shape caller j ≡ locale = ap (λ x. (own + x) % L) high ∙ round own locale L (mod-lt caller some_locale) locale_less in
    let at_number : tried_number shape caller j ≡ number = ap (λ x. (first + x) % S) low ∙ round first number S (mod-lt (caller / L) some_segment) number_less in
    (j, less, ap₂ (λ x y. x * S + y) at_locale at_number ∙ div-add-mod' k S)

-- a caller tries the segments of its own locale first
pub tried_own : (shape : Shape) (caller place : ℕ) → IsShape shape → place < shape.segments → IsOwn shape caller (tried shape caller place)
tried_own shape caller place is less =
    let some_locale : 0 < shape.locales = (let least = is.locales.0 in omega arith) in
    let own : ℕ = caller % shape.locales in
    let none : place / shape.segments ≡ 0 = div-eq_of_lt less in
    let at_locale : tried_locale shape caller place ≡ own = ap (λ x. (own + x) % shape.locales) none ∙ (ap (λ x. x % shape.locales) (let whole : own + 0 ≡ own = omega arith in whole) ∙ mod-eq_of_lt (mod-lt caller some_locale)) in
    div-mul-add (tried_locale shape caller place) shape.segments (tried_number shape caller place) (mod-lt _ (omega arith)) ∙ at_locale

-- and each of them
pub own_tried : (shape : Shape) (caller k : ℕ) → IsShape shape → IsOwn shape caller k → (j : ℕ) × (j < shape.segments) × (tried shape caller j ≡ k)
own_tried shape caller k is own =
    let S : ℕ = shape.segments in
    let some_segment : 0 < S = (let least = is.segments.0 in omega arith) in
    let first : ℕ = caller / shape.locales % S in
    let number : ℕ = k % S in
    let j : ℕ = (number + S - first) % S in
    let less : j < S = mod-lt (number + S - first) some_segment in
    let at_locale : tried_locale shape caller j ≡ k / S = (sym (div-mul-add (tried_locale shape caller j) S (tried_number shape caller j) (mod-lt _ some_segment)) ∙ tried_own shape caller j is less) ∙ sym own in
    let low : j % S ≡ j = mod-eq_of_lt less in
    let at_number : tried_number shape caller j ≡ number = ap (λ x. (first + x) % S) low ∙ round first number S (mod-lt (caller / shape.locales) some_segment) (mod-lt k some_segment) in
    (j, less, ap₂ (λ x y. x * S + y) at_locale at_number ∙ div-add-mod' k S)

pub some_segments : (shape : Shape) → IsShape shape → all_segments shape ≢ 0
some_segments shape is none = let least : 1 * 1 ≤ shape.locales * shape.segments = mul-le 1 1 shape.locales shape.segments is.locales.0 is.segments.0 in omega arith

-- and from where they lead, back
back_round : (own x n : ℕ) → own < n → x < n → ((own + x) % n + n - own) % n ≡ x
back_round own x n a b =
    ⊎_elim
    (λ less.
    let inner : (own + x) % n ≡ own + x = mod-eq_of_lt less in
    let left : (own + x) + n - own ≡ x + n = omega arith in
    ap (λ y. (y + n - own) % n) inner ∙ (ap (λ y. y % n) left ∙ (add-mod_right x n ∙ mod-eq_of_lt b)))
    (λ least.
    let past : own + x ≡ (own + x - n) + n = omega arith in
    let inner : (own + x) % n ≡ own + x - n = ap (λ y. y % n) past ∙ (add-mod_right (own + x - n) n ∙ mod-eq_of_lt (omega arith)) in
    let left : (own + x - n) + n - own ≡ x = omega arith in
    ap (λ y. (y + n - own) % n) inner ∙ (ap (λ y. y % n) left ∙ mod-eq_of_lt b))
    (cases_lt (own + x) n)

-- none is tried twice
pub tried_once : (shape : Shape) (caller i j : ℕ) → IsShape shape → i < all_segments shape → j < all_segments shape → tried shape caller i ≡ tried shape caller j → i ≡ j
tried_once shape caller i j is within within' same =
    let L : ℕ = shape.locales in
    let S : ℕ = shape.segments in
    let some_locale : 0 < L = (let least = is.locales.0 in omega arith) in
    let some_segment : 0 < S = (let least = is.segments.0 in omega arith) in
    let own : ℕ = caller % L in
    let first : ℕ = caller / L % S in
    let locale_of : (k : ℕ) → tried shape caller k / S ≡ tried_locale shape caller k = λ k. div-mul-add (tried_locale shape caller k) S (tried_number shape caller k) (mod-lt _ some_segment) in
    let number_of : (k : ℕ) → tried shape caller k % S ≡ tried_number shape caller k = λ k. mod-mul-add (tried_locale shape caller k) S (tried_number shape caller k) (mod-lt _ some_segment) in
    let back_locale : (k : ℕ) → k < all_segments shape → (tried_locale shape caller k + L - own) % L ≡ k / S = λ k less. back_round own (k / S) L (mod-lt caller some_locale) ((div-lt_iff_lt-mul some_segment).1 less) in
    let back_number : (k : ℕ) → (tried_number shape caller k + S - first) % S ≡ k % S = λ k. back_round first (k % S) S (mod-lt (caller / L) some_segment) (mod-lt k some_segment) in
    let locales : i / S ≡ j / S = sym (back_locale i within) ∙ (ap (λ x. (x + L - own) % L) (sym (locale_of i) ∙ (ap (λ k. k / S) same ∙ locale_of j)) ∙ back_locale j within') in
    let numbers : i % S ≡ j % S = sym (back_number i) ∙ (ap (λ x. (x + S - first) % S) (sym (number_of i) ∙ (ap (λ k. k % S) same ∙ number_of j)) ∙ back_number j) in
    sym (div-add-mod' i S) ∙ (ap₂ (λ x y. x * S + y) locales numbers ∙ div-add-mod' j S)
