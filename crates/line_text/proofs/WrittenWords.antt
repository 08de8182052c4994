-- What a line says that is written as words with one space between two.
use Rattle.std.proofs.Common.{◌≡◌, ◌≢◌, ℕ, ◌+◌, ◌*◌, ◌<◌, ◌≤◌, ◌^◌, ◌==◌, ◌&&◌, true, false, List, [], ◌∷◌, ◌++◌, length, Some, None, is_some, Ok, decimal, refl, ap, sym, ◌∙◌, arith, append-nil}
use Rattle.std.specs.Char.{digit_value}
use Rattle.std.specs.List.{AllByRecursion}
use Rattle.std.proofs.lemmas.Bool.{cond-true, cond-false, ne_eqb}
use Rattle.std.proofs.lemmas.Option.{same_Some}
use Rattle.line_text.specs.declared.forms.Bounds.{Bounds}
use Rattle.line_text.specs.Lines.{Grammar, then_leads, or_bad, rest_leads, is_number, word_leads, says_words, says_line, says_lead, line_says, place_from}
use Rattle.line_text.specs.Words.{Cut, cut, with_word, words_of, behind_blank, is_digit, number_behind, IsLetter, AreLetters, spaced, words_line}
use Rattle.line_text.proofs.Runs.{cut_letters, letters_within, all_append, digit_letter, digit_within}
use Rattle.line_text.proofs.Steps.{cut_blank, digit_more, ends_in, number_in, rest_digit, rest_dot, rest_first}
use Rattle.line_text.proofs.Written.{decimal_digits}

-- each is a word of a line
abbrev pub AreWords : List (List ℕ) → Type 0
AreWords words = AllByRecursion AreLetters words

-- digits are letters
pub digits_are : (digits : List ℕ) → AllByRecursion (λ byte. is_digit byte ≡ true) digits → AllByRecursion IsLetter digits
digits_are [] all = tt
digits_are (byte ∷ digits) all = ((digit_letter byte all.0, digit_within byte all.0), digits_are digits all.1)

-- ---- how they are cut

word_cut : (word : List ℕ) (rest : List ℕ) (words : List (List ℕ)) → AllByRecursion IsLetter word → cut rest ≡ record { word = []; others = words } → cut (word ++ rest) ≡ record { word = word; others = words }
word_cut word rest words letters is =
    cut_letters word rest letters ∙ (ap (λ (c : Cut). record { word = word ++ c.word; others = c.others }) is ∙ ap (λ (w : List ℕ). record { word = w; others = words }) (append-nil word))

kept_word : (word : List ℕ) (words : List (List ℕ)) → 0 < length word → with_word word words ≡ word ∷ words
kept_word [] words some = absurd (omega (arith, some))
kept_word (letter ∷ letters) words some = refl

cut_spaced : (words : List (List ℕ)) → AreWords words → cut (spaced words) ≡ record { word = []; others = words }
cut_spaced [] all = refl
cut_spaced (word ∷ words) all =
    cut_blank 32 (word ++ spaced words) refl
    ∙ (ap behind_blank (word_cut word (spaced words) words all.0.1 (cut_spaced words all.1))
    ∙ ap (λ (w : List (List ℕ)). record { word = []; others = w }) (kept_word word words all.0.0))

cut_words : (word : List ℕ) (words : List (List ℕ)) → AreWords (word ∷ words) → cut (words_line (word ∷ words)) ≡ record { word = word; others = words }
cut_words word words all = word_cut word (spaced words) words all.0.1 (cut_spaced words all.1)

-- the words of the line are these
pub words_cut : (words : List (List ℕ)) → AreWords words → words_of (cut (words_line words)) ≡ words
words_cut [] all = refl
words_cut (word ∷ words) all = ap words_of (cut_words word words all) ∙ kept_word word words all.0.0

-- no word ends the line
spaced_within : (words : List (List ℕ)) → AreWords words → AllByRecursion (λ byte. byte ≢ 10) (spaced words)
spaced_within [] all = tt
spaced_within (word ∷ words) all = ((λ is. omega (arith, is)), all_append word (spaced words) (letters_within word all.0.1) (spaced_within words all.1))

pub words_within : (words : List (List ℕ)) → AreWords words → AllByRecursion (λ byte. byte ≢ 10) (words_line words)
words_within [] all = tt
words_within (word ∷ words) all = all_append word (spaced words) (letters_within word all.0.1) (spaced_within words all.1)

pub decimal_letters : (number : ℕ) → number < 2 ^ 64 → AreLetters (decimal number)
decimal_letters number small = let is = decimal_digits number small in (is.0, digits_are (decimal number) is.1)

module _ {Form Line : Type 0} (G : Grammar Form Line) (IsForm : Form → Type 0) where
  lead_line : (form : Form) (word : List ℕ) (words : List (List ℕ)) → 0 < length word → says_lead G form word words ≡ says_line G form (word ∷ words)
  lead_line form [] words some = absurd (omega (arith, some))
  lead_line form (letter ∷ letters) words some = refl

  -- a line of words says what they say, unless it is a comment
  pub line_of : (form : Form) (word : List ℕ) (words : List (List ℕ)) → AreWords (word ∷ words) → line_says G form (words_line (word ∷ words)) ≡ says_line G form (word ∷ words)
  line_of form word words all = ap (λ (c : Cut). says_lead G form c.word c.others) (cut_words word words all) ∙ lead_line form word words all.0.0

  pub line_of_words : (form : Form) (letter : ℕ) (letters : List ℕ) (words : List (List ℕ)) → letter ≢ 35 → AreWords ((letter ∷ letters) ∷ words)
      → line_says G form (words_line ((letter ∷ letters) ∷ words)) ≡ says_words G form ((letter ∷ letters) ∷ words)
  line_of_words form letter letters words sign all =
      line_of form (letter ∷ letters) words all ∙ cond-false (letter == 35) (Ok None) (says_words G form ((letter ∷ letters) ∷ words)) (ne_eqb letter 35 sign)

  -- ---- numbers

  module _ (form : Form) where
    digits_rest : (digits : List ℕ) (value number : ℕ) (more : List ℕ) → AllByRecursion (λ byte. is_digit byte ≡ true) digits → number_behind value digits ≡ Some number
        → rest_leads G form (Some value) (digits ++ more) ≡ rest_leads G form (Some number) more
    digits_rest [] value number more all is = ap (λ v. rest_leads G form (Some v) more) (same_Some value number is)
    digits_rest (byte ∷ digits) value number more all is =
        rest_digit G IsForm form value byte (digits ++ more) all.0
        ∙ digits_rest digits (value * 10 + digit_value byte) number more all.1 (sym (digit_more value byte digits all.0) ∙ is)

    -- a number that stands first
    digits_first : (digits : List ℕ) (number : ℕ) (more : List ℕ) → 0 < length digits → AllByRecursion (λ byte. is_digit byte ≡ true) digits → number_behind 0 digits ≡ Some number
        → rest_leads G form None (digits ++ more) ≡ rest_leads G form (Some number) more
    digits_first [] number more some all is = absurd (omega arith)
    digits_first (byte ∷ digits) number more some all is =
        rest_first G IsForm form byte (digits ++ more) all.0
        ∙ digits_rest digits (0 * 10 + digit_value byte) number more all.1 (sym (digit_more 0 byte digits all.0) ∙ is)

    -- a word of digits is a number, or begins with one
    number_word : (bounds : Bounds) (digits more : List ℕ) → G.bounds form ≡ Some bounds → 0 < length digits → AllByRecursion (λ byte. is_digit byte ≡ true) digits
        → word_leads G form (digits ++ more) ≡ rest_leads G form None (digits ++ more)
    number_word bounds [] more own some all = absurd (omega arith)
    number_word bounds (byte ∷ digits) more own some all =
        let word = byte ∷ digits ++ more in
        cond-true (is_number G form word) (rest_leads G form None word) (then_leads (or_bad (place_from 0 (G.words form) word)) (λ place. Ok (G.after_word form place)))
        (ap (λ o. is_some o && is_digit byte) own ∙ all.0)

    module _ (bounds : Bounds) (digits : List ℕ) (number : ℕ) (own : G.bounds form ≡ Some bounds) (some : 0 < length digits) (all : AllByRecursion (λ byte. is_digit byte ≡ true) digits)
        (is : number_behind 0 digits ≡ Some number) (least : bounds.least ≤ number) (most : number ≤ bounds.most) where
      -- the last number of a word
      pub number_last : G.joined form ≡ false → rest_leads G form None digits ≡ Ok (G.after_number form number)
      number_last alone =
          ap (rest_leads G form None) (sym (append-nil digits)) ∙ (digits_first digits number [] some all is ∙ ends_in G IsForm form bounds own number alone least most)

      -- one that is joined to another
      pub number_joined : (more : List ℕ) → G.joined form ≡ true → rest_leads G form None (digits ++ 46 ∷ more) ≡ rest_leads G (G.after_number form number) None more
      number_joined more joined =
          digits_first digits number (46 ∷ more) some all is
          ∙ (rest_dot G IsForm form number 46 more refl (ap (λ b. b && true) joined)
          ∙ ap (λ r. then_leads r (λ next. rest_leads G next None more)) (number_in G IsForm form bounds own number least most))

      -- the words that they are
      pub number_leads_on : G.joined form ≡ false → word_leads G form digits ≡ Ok (G.after_number form number)
      number_leads_on alone =
          ap (word_leads G form) (sym (append-nil digits))
          ∙ (number_word bounds digits [] own some all ∙ (ap (rest_leads G form None) (append-nil digits) ∙ number_last alone))

      pub joined_leads_on : (more : List ℕ) → G.joined form ≡ true → word_leads G form (digits ++ 46 ∷ more) ≡ rest_leads G (G.after_number form number) None more
      joined_leads_on more joined = number_word bounds digits (46 ∷ more) own some all ∙ number_joined more joined

  -- a number that is written leads on
  pub decimal_leads : (form : Form) (bounds : Bounds) (number : ℕ) → G.bounds form ≡ Some bounds → G.joined form ≡ false → bounds.least ≤ number → number ≤ bounds.most → number < 2 ^ 64 → word_leads G form (decimal number) ≡ Ok (G.after_number form number)
  decimal_leads form bounds number own alone least most small = let is = decimal_digits number small in number_leads_on form bounds (decimal number) number own is.0 is.1 is.2 least most alone
