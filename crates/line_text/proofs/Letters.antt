-- Literal words and their fronts.
use Rattle.std.proofs.Common.{◌≡◌, ℕ, zero, suc, ◌+◌, ◌<◌, ◌≤◌, Bool, true, false, ◌==◌, List, [], ◌∷◌, ◌++◌, length, take, drop, get_or, Some, None, Decides, refl, ap, sym, ◌∙◌, arith, append_assoc, length-append}
use Rattle.std.specs.Cmp.Lexicographic.{pointwise}
use Rattle.std.proofs.lemmas.Bool.{cond-true, cond-false}
use Rattle.std.proofs.lemmas.Bool.Decides.{Decides-eqb}
use Rattle.std.proofs.lemmas.List.{drop_more, take_at, length_push, take-append-drop}
use Rattle.std.proofs.lemmas.Slice.Eq.{slice_eq-Decides}
use Rattle.line_text.specs.Fronts.{Begins, BeginsNone, BeginsOne}
use Rattle.line_text.specs.Lines.{place_from}

-- ---- equal words

decides : (one other : List ℕ) → Decides (pointwise ◌==◌ one other) (one ≡ other)
decides one other = slice_eq-Decides Decides-eqb one other (pointwise ◌==◌ one other) refl

not_true : (b : Bool) → (b ≡ true → ⊥) → b ≡ false
not_true true not = absurd (not refl)
not_true false not = refl

pub same_words : (one other : List ℕ) → one ≡ other → pointwise ◌==◌ one other ≡ true
same_words one other same = (decides one other).1 same

pub other_words : (one other : List ℕ) → (one ≡ other → ⊥) → pointwise ◌==◌ one other ≡ false
other_words one other apart = not_true (pointwise ◌==◌ one other) (λ same. apart ((decides one other).0 same))

-- ---- the place of a word

pub place_found : (words : List (List ℕ)) (word : List ℕ) (at : ℕ) → at < length words → get_or words at [] ≡ word → place_from at (drop at words) word ≡ Some at
place_found words word at within is =
    ap (λ (rest : List (List ℕ)). place_from at rest word) (drop_more words at [] within)
    ∙ cond-true (pointwise ◌==◌ (get_or words at []) word) (Some at) (place_from (at + 1) (drop (at + 1) words) word) (same_words (get_or words at []) word is)

pub place_passed : (words : List (List ℕ)) (word : List ℕ) (at : ℕ) → at < length words → (get_or words at [] ≡ word → ⊥) → place_from at (drop at words) word ≡ place_from (at + 1) (drop (at + 1) words) word
place_passed words word at within isnt =
    ap (λ (rest : List (List ℕ)). place_from at rest word) (drop_more words at [] within)
    ∙ cond-false (pointwise ◌==◌ (get_or words at []) word) (Some at) (place_from (at + 1) (drop (at + 1) words) word) (other_words (get_or words at []) word isnt)

-- a word that begins as no word does has no place
pub no_place : (words : List (List ℕ)) (front more : List ℕ) (from : ℕ) → BeginsNone words front → place_from from words (front ++ more) ≡ None
no_place [] front more from none = refl
no_place (first ∷ words) front more from none =
    cond-false (pointwise ◌==◌ first (front ++ more)) (Some from) (place_from (from + 1) words (front ++ more)) (other_words first (front ++ more) (λ same. none 0 (omega arith) (more, same)))
    ∙ no_place words front more (from + 1) (λ index within begins. none (suc index) (omega arith) begins)

-- each word of a list has a place in it
pub some_place : (words : List (List ℕ)) (index from : ℕ) → index < length words → (place : ℕ) × (place_from from words (get_or words index []) ≡ Some place) × (place < from + length words)
some_place [] index from within = absurd (omega (arith, within))
some_place (first ∷ words) zero from within =
    (from, cond-true (pointwise ◌==◌ first first) (Some from) (place_from (from + 1) words first) (same_words first first refl), omega arith)
some_place (first ∷ words) (suc index) from within = by (pointwise ◌==◌ first (get_or words index [])) refl (some_place words index (from + 1) (omega arith))
  where
    by : (same : Bool) → pointwise ◌==◌ first (get_or words index []) ≡ same → (place : ℕ) × (place_from (from + 1) words (get_or words index []) ≡ Some place) × (place < from + 1 + length words)
        → (place : ℕ) × (place_from from (first ∷ words) (get_or words index []) ≡ Some place) × (place < from + length (first ∷ words))
    by true is later = (from, cond-true (pointwise ◌==◌ first (get_or words index [])) (Some from) (place_from (from + 1) words (get_or words index [])) is, omega arith)
    by false is later = (later.0, cond-false (pointwise ◌==◌ first (get_or words index [])) (Some from) (place_from (from + 1) words (get_or words index [])) is ∙ later.1, omega (arith, later.2))

-- ---- how a word begins

pub begins_front : (word front : List ℕ) (byte : ℕ) → length front < length word → get_or word (length front) 0 ≡ byte → word ≡ front ++ drop (length front) word → Begins word (front ++ byte ∷ [])
begins_front word front byte within is whole = (
  drop (length front + 1) word,
  whole ∙ (ap (λ (t : List ℕ). front ++ t) (drop_more word (length front) 0 within)
      ∙ (ap (λ b. front ++ b ∷ drop (length front + 1) word) is ∙ sym (append_assoc front (byte ∷ []) (drop (length front + 1) word)))),
)

-- the word goes on with its own letter
pub own_letter : (words : List (List ℕ)) (index at byte : ℕ) → index < length words → at < length (get_or words index []) → get_or (get_or words index []) at 0 ≡ byte
    → BeginsOne words (take at (get_or words index []) ++ byte ∷ []) index
own_letter words index at byte among within is =
    let word = get_or words index [] in (
      among,
      (
        drop (at + 1) word,
        sym (take-append-drop at word) ∙ (ap (λ (t : List ℕ). take at word ++ t) (drop_more word at 0 within)
            ∙ (ap (λ b. take at word ++ b ∷ drop (at + 1) word) is ∙ sym (append_assoc (take at word) (byte ∷ []) (drop (at + 1) word)))),
      ),
    )

-- the front of a word that begins so
pub front_is : (word front : List ℕ) (byte at : ℕ) → length front ≡ at → Begins word (front ++ byte ∷ []) → take (at + 1) word ≡ front ++ byte ∷ []
front_is word front byte at size begins =
    ap (take (at + 1)) begins.1 ∙ ap (λ n. take n ((front ++ byte ∷ []) ++ begins.0)) (omega (arith, length_push front byte, size))
    ∙ take_at (front ++ byte ∷ []) begins.0 (length (front ++ byte ∷ [])) refl

pub front_fits : (word front : List ℕ) (byte at : ℕ) → length front ≡ at → Begins word (front ++ byte ∷ []) → at + 1 ≤ length word
front_fits word front byte at size begins = omega (arith, ap length begins.1, length-append (front ++ byte ∷ []) begins.0, length_push front byte, size)
