-- What words list and number.
use Rattle.std.proofs.Common.{◌≡◌, ℕ, ◌<◌, ◌≤◌, ◌^◌, List, [], ◌∷◌, ◌++◌, length, refl, ap, sym, ◌∙◌, subst, inl, inr, Option, None, Some, arith, append_assoc, length-append}
use Rattle.std.specs.List.{after_first, before_first, position_or_len, slice_split}
use Rattle.std.proofs.lemmas.List.Splits.{slice_split_first, slice_split_none}
use Rattle.std.proofs.lemmas.List.Sums.{fails_before_first}
use Rattle.pgas_top.specs.Commands.{AreSources, is_comma}
use Rattle.pgas_top.specs.Options.{HasNumber, IsNumberOf, IsNumberWord, Setting}

-- a word is one number
pub number_one : (word : List ℕ) (one other : ℕ) → IsNumberWord word one → IsNumberWord word other → one ≡ other
number_one word one other is also = sym is.1 ∙ also.1

-- and so is a word that may be missing
pub IsNumberOf-one : (word : Option (List ℕ)) (one other : ℕ) → IsNumberOf word one → IsNumberOf word other → one ≡ other
IsNumberOf-one None one other is also = absurd is
IsNumberOf-one (Some word) one other is also = number_one word one other is also

-- and so is the value of the option with a name
pub HasNumber-one : (options : List Setting) (name : List ℕ) (one other : ℕ) → HasNumber options name one → HasNumber options name other → one ≡ other
HasNumber-one [] name one other is also = absurd is
HasNumber-one (option ∷ options) name one other (inl is) (inl also) = number_one option.value one other is.1 also.1
HasNumber-one (option ∷ options) name one other (inl is) (inr also) = absurd (also.0 is.0)
HasNumber-one (option ∷ options) name one other (inr is) (inl also) = absurd (is.0 also.0)
HasNumber-one (option ∷ options) name one other (inr is) (inr also) = HasNumber-one options name one other is.1 also.1

-- a word with no comma is its one part
pub no_comma : (word : List ℕ) → position_or_len is_comma word ≡ length word → slice_split is_comma word ≡ word ∷ []
no_comma word none = slice_split_none is_comma word (λ k d within. fails_before_first is_comma word k d (omega arith))

-- a word with a comma is its first part, and the parts of what stands behind that comma
pub first_comma : (word : List ℕ) → position_or_len is_comma word < length word → slice_split is_comma word ≡ before_first is_comma word ∷ slice_split is_comma (after_first is_comma word)
first_comma word some = slice_split_first is_comma word 0 some

-- The parts that were read list these sources, and these parts are left.
pub record AreRead (parts : List (List ℕ)) (read : List ℕ) (left : List (List ℕ)) : Type 0 where
  pub there : (rest : List ℕ) → AreSources left rest → AreSources parts (read ++ rest)
  pub back : (all : List ℕ) → AreSources parts all → (rest : List ℕ) × (all ≡ read ++ rest) × AreSources left rest

pub read_none : (parts : List (List ℕ)) → AreRead parts [] parts
read_none parts = record { there = λ rest h. h; back = λ all h. (all, refl, h) }

split_rest : (part : List ℕ) (left : List (List ℕ)) (source : ℕ) (rest : List ℕ) → IsNumberWord part source → AreSources (part ∷ left) rest → (more : List ℕ) × (rest ≡ source ∷ more) × AreSources left more
split_rest part left source [] is h = absurd h
split_rest part left source (first ∷ more) is h = (more, ap (λ (s : ℕ). s ∷ more) (number_one part first source h.0 is), h.2)

-- one part more
pub read_more : (parts : List (List ℕ)) (read : List ℕ) (part : List ℕ) (left now : List (List ℕ)) (source : ℕ) → AreRead parts read now → now ≡ part ∷ left → IsNumberWord part source → source < 2 ^ 24 → AreRead parts (read ++ source ∷ []) left
read_more parts read part left now source are cut is small = record {
  there = λ rest h. subst (AreSources parts) (sym (append_assoc read (source ∷ []) rest)) (are.there (source ∷ rest) (subst (λ (ps : List (List ℕ)). AreSources ps (source ∷ rest)) (sym cut) (is, small, h)));
  back = λ all h.
      let before = are.back all h in
      let now_rest = split_rest part left source before.0 is (subst (λ (ps : List (List ℕ)). AreSources ps before.0) cut before.2) in
      (now_rest.0, before.1 ∙ (ap (λ (r : List ℕ). read ++ r) now_rest.1 ∙ sym (append_assoc read (source ∷ []) now_rest.0)), now_rest.2);
}

first_of : (part : List ℕ) (left : List (List ℕ)) (rest : List ℕ) → AreSources (part ∷ left) rest → (source : ℕ) × IsNumberWord part source × (source < 2 ^ 24) × (1 ≤ length rest)
first_of part left [] h = absurd h
first_of part left (source ∷ rest) h = (source, h.0, h.1, omega arith)

-- a part that can't be read leaves no sources of the whole
pub read_stopped : (parts : List (List ℕ)) (read : List ℕ) (part : List ℕ) (left now : List (List ℕ)) → AreRead parts read now → now ≡ part ∷ left → ((source : ℕ) → IsNumberWord part source → source < 2 ^ 24 → length read < 64 → ⊥) → (all : List ℕ) → AreSources parts all → length all ≤ 64 → ⊥
read_stopped parts read part left now are cut stops all h few =
    let rest = are.back all h in
    let first = first_of part left rest.0 (subst (λ (ps : List (List ℕ)). AreSources ps rest.0) cut rest.2) in
    stops first.0 first.1 first.2 (omega (arith, few, first.3, ap length rest.1, length-append read rest.0))

-- all parts were read
pub read_all : (parts : List (List ℕ)) (read : List ℕ) → AreRead parts read [] → AreSources parts read
read_all parts read are = subst (AreSources parts) (append_nothing read) (are.there [] tt)
  where
    append_nothing : (xs : List ℕ) → xs ++ [] ≡ xs
    append_nothing [] = refl
    append_nothing (x ∷ xs) = ap (λ (l : List ℕ). x ∷ l) (append_nothing xs)
