-- What the option at a place makes of the options of the words from there on.
use Rattle.std.proofs.Common.{◌≡◌, ℕ, ◌+◌, ◌<◌, true, false, List, [], ◌∷◌, length, get_or, drop, refl, ap, sym, ◌∙◌, arith, add-one, drop-cons}
use Rattle.std.proofs.lemmas.Bool.{cond-true, cond-false}
use Rattle.std.proofs.lemmas.List.{drop_all}
use Rattle.pgas_top.specs.Options.{Setting, has_equals, options_of, word_option}

-- the words from a place on
here : (words : List (List ℕ)) (at : ℕ) (d : List ℕ) → at < length words → drop at words ≡ get_or words at d ∷ drop (at + 1) words
here words at d within = rw (add-one, drop-cons words at d)

first_equals : (word : List ℕ) (rest : List (List ℕ)) → has_equals word ≡ true → options_of (word ∷ rest) ≡ word_option word ∷ options_of rest
first_equals word [] has = refl
first_equals word (next ∷ rest) has = cond-true (has_equals word) (word_option word ∷ options_of (next ∷ rest)) _ has

-- a word with an `=`
pub option_one : (words : List (List ℕ)) (at : ℕ) (word : List ℕ) → at < length words → get_or words at word ≡ word → has_equals word ≡ true
    → options_of (drop at words) ≡ word_option word ∷ options_of (drop (at + 1) words)
option_one words at word within is has =
    ap options_of (here words at word within ∙ ap (λ (w : List ℕ). w ∷ drop (at + 1) words) is) ∙ first_equals word (drop (at + 1) words) has

-- two words
pub option_two : (words : List (List ℕ)) (at : ℕ) (word value : List ℕ) → at + 1 < length words → get_or words at word ≡ word → get_or words (at + 1) value ≡ value → has_equals word ≡ false
    → options_of (drop at words) ≡ record { name = word; value = value } ∷ options_of (drop (at + 1 + 1) words)
option_two words at word value within is next has =
    let from : drop (at + 1) words ≡ value ∷ drop (at + 1 + 1) words = here words (at + 1) value within ∙ ap (λ (w : List ℕ). w ∷ drop (at + 1 + 1) words) next in
    ap options_of (here words at word (omega arith) ∙ (ap (λ (w : List ℕ). w ∷ drop (at + 1) words) is ∙ ap (λ (ws : List (List ℕ)). word ∷ ws) from))
    ∙ cond-false (has_equals word) _ _ has

-- the last word, with no `=`
pub option_last : (words : List (List ℕ)) (at : ℕ) (word : List ℕ) → at + 1 ≡ length words → get_or words at word ≡ word → word_option word ≡ record { name = word; value = [] }
    → options_of (drop at words) ≡ record { name = word; value = [] } ∷ options_of (drop (at + 1) words)
option_last words at word last is whole =
    let none : drop (at + 1) words ≡ [] = drop_all (at + 1) words (omega arith) in
    ap options_of (here words at word (omega arith) ∙ (ap (λ (w : List ℕ). w ∷ drop (at + 1) words) is ∙ ap (λ (ws : List (List ℕ)). word ∷ ws) none))
    ∙ (ap (λ (s : Setting). s ∷ []) whole ∙ ap (λ (ws : List (List ℕ)). record { name = word; value = [] } ∷ options_of ws) (sym none))
