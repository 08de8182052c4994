-- What a word looks like to clap.
use Rattle.std.proofs.Common.{ℕ, ◌≡◌, ◌==◌, ◌+◌, refl, ap, sym, subst, ◌∙◌, codes, Bool, true, false, Some, None, [], ◌∷◌, ◌++◌, suc, take, drop, arith, inl, inr}
use Rattle.std.specs.Prelude.{◌⊎◌}
use Rattle.std.specs.List.{after_first, before_first, position_or_len}
use Rattle.std.specs.Str.{bytes_eq}
use Rattle.std.proofs.lemmas.Bool.{eqb-true}
use Rattle.std.proofs.lemmas.Slice.Eq.{bytes_eq-Decides}
use Rattle.clap.specs.Lexer.{has_byte, long_of, name_and_value, short_of}
use Rattle.clap.specs.Walk.{Text, arg_by_long}
use Rattle.pgas_top.specs.Options.{is_equals}
use Rattle.pgas_top.proofs.ClapSteps.{Edges, Seed, Vertices, Which, built_rule, name_of, top}

abbrev pub dashes : Text
dashes = 45 ∷ 45 ∷ []

-- a word that begins as an option, and one that doesn't
pub data Class (word : Text) : Type 0 where
  dashed : word ≡ dashes → Class word
  long : (text : Text) → word ≡ 45 ∷ 45 ∷ text → bytes_eq word dashes ≡ false → long_of word ≡ Some (name_and_value text) → Class word
  short : (x : ℕ) (xs : Text) → bytes_eq word dashes ≡ false → long_of word ≡ None → short_of word ≡ Some (x ∷ xs) → Class word
  plain : bytes_eq word dashes ≡ false → long_of word ≡ None → short_of word ≡ None → Class word

two_dashes : (text : Text) → Class (45 ∷ 45 ∷ text)
two_dashes [] = dashed refl
two_dashes (x ∷ xs) = long (x ∷ xs) refl refl refl

one_dash : (text : Text) → Class (45 ∷ text)
one_dash [] = plain refl refl refl
one_dash (x ∷ xs) = either (x == 45) refl
  where
    either : (b : Bool) → (x == 45) ≡ b → Class (45 ∷ x ∷ xs)
    either true is = subst (λ (y : ℕ). Class (45 ∷ y ∷ xs)) (sym (eqb-true x 45 is)) (two_dashes xs)
    either false is = short x xs (rw is refl) (rw is refl) (rw is refl)

pub class_of : (word : Text) → Class word
class_of [] = plain refl refl refl
class_of (x ∷ xs) = either (x == 45) refl
  where
    either : (b : Bool) → (x == 45) ≡ b → Class (x ∷ xs)
    either true is = subst (λ (y : ℕ). Class (y ∷ xs)) (sym (eqb-true x 45 is)) (one_dash xs)
    either false is = plain (rw is refl) (rw is refl) (rw is refl)

bytes_eq-true : (xs ys : Text) → bytes_eq xs ys ≡ true → xs ≡ ys
bytes_eq-true xs ys is = (bytes_eq-Decides xs ys).0 is

-- the option of this name, if there is one
pub known : (name : Text) → ((k : Which) × (name ≡ name_of k) × (arg_by_long top.rules name ≡ Some (built_rule k))) ⊎ (arg_by_long top.rules name ≡ None)
known name = first (bytes_eq (codes "seed") name) refl
  where
    third : bytes_eq (codes "seed") name ≡ false → bytes_eq (codes "vertices") name ≡ false → (b : Bool) → bytes_eq (codes "edges") name ≡ b → ((k : Which) × (name ≡ name_of k) × (arg_by_long top.rules name ≡ Some (built_rule k))) ⊎ (arg_by_long top.rules name ≡ None)
    third seed vertices true is = inl (Edges, sym (bytes_eq-true (codes "edges") name is), rw (seed, vertices, is) refl)
    third seed vertices false is = inr (rw (seed, vertices, is) refl)

    second : bytes_eq (codes "seed") name ≡ false → (b : Bool) → bytes_eq (codes "vertices") name ≡ b → ((k : Which) × (name ≡ name_of k) × (arg_by_long top.rules name ≡ Some (built_rule k))) ⊎ (arg_by_long top.rules name ≡ None)
    second seed true is = inl (Vertices, sym (bytes_eq-true (codes "vertices") name is), rw (seed, is) refl)
    second seed false is = third seed is (bytes_eq (codes "edges") name) refl

    first : (b : Bool) → bytes_eq (codes "seed") name ≡ b → ((k : Which) × (name ≡ name_of k) × (arg_by_long top.rules name ≡ Some (built_rule k))) ⊎ (arg_by_long top.rules name ≡ None)
    first true is = inl (Seed, sym (bytes_eq-true (codes "seed") name is), rw is refl)
    first false is = second is (bytes_eq (codes "vertices") name) refl

-- a text with an `=`, and one with none
pub with_equals : (text : Text) → has_byte 61 text ≡ true → text ≡ before_first is_equals text ++ 61 ∷ after_first is_equals text
with_equals [] is = cc
with_equals (x ∷ xs) is = either (x == 61) refl (with_equals xs)
  where
    either : (b : Bool) → (x == 61) ≡ b → (has_byte 61 xs ≡ true → xs ≡ before_first is_equals xs ++ 61 ∷ after_first is_equals xs) → x ∷ xs ≡ before_first is_equals (x ∷ xs) ++ 61 ∷ after_first is_equals (x ∷ xs)
    either true equal rest = rw equal (ap (λ (y : ℕ). y ∷ xs) (eqb-true x 61 equal))
    either false other rest =
        let n = position_or_len is_equals xs in
        let step : 1 + n ≡ suc n = omega arith in
        let back : 1 + n + 1 ≡ suc (n + 1) = omega arith in
        let there : has_byte 61 xs ≡ true = rw other at is in
        rw other (ap (λ (l : Text). x ∷ l) (rest there) ∙ (ap (λ (k : ℕ). take k (x ∷ xs) ++ 61 ∷ drop (n + 1) xs) (sym step) ∙ ap (λ (k : ℕ). take (1 + n) (x ∷ xs) ++ 61 ∷ drop k (x ∷ xs)) (sym back)))

pub without_equals : (text : Text) → has_byte 61 text ≡ false → before_first is_equals text ≡ text
without_equals [] is = refl
without_equals (x ∷ xs) is = either (x == 61) refl (without_equals xs)
  where
    either : (b : Bool) → (x == 61) ≡ b → (has_byte 61 xs ≡ false → before_first is_equals xs ≡ xs) → before_first is_equals (x ∷ xs) ≡ x ∷ xs
    either true equal rest = let bad : true ≡ false = rw equal at is in cc
    either false other rest =
        let n = position_or_len is_equals xs in
        let step : 1 + n ≡ suc n = omega arith in
        let there : has_byte 61 xs ≡ false = rw other at is in
        rw other (ap (λ (k : ℕ). take k (x ∷ xs)) step ∙ ap (λ (l : Text). x ∷ l) (rest there))
