-- What holds behind the words of a line, of which so many bytes were read.
use Rattle.std.proofs.Common.{◌≡◌, ◌⊎◌, ℕ, ◌+◌, ◌<◌, ◌≤◌, ◌*◌, ◌^◌, suc, Bool, true, false, ◌==◌, cond, nat_lt, if◌then◌else◌, List, [], ◌∷◌, ◌++◌, length, slice_index_or, Option, Some, None, Ok, Err, decimal, refl, ap, sym, ◌∙◌, arith, subst, inl, inr, ⊎_elim, length-append}
use Rattle.std.specs.Char.{digit_value}
use Rattle.std.specs.Cmp.Lexicographic.{pointwise, same_text}
use Rattle.std.specs.List.{AllByRecursion}
use Rattle.std.specs.Str.Parse.{AllDigits, digits_value_after}
use Rattle.std.proofs.lemmas.Bool.{ltb-true}
use Rattle.std.proofs.lemmas.Fmt.{length-decimal-le}
use Rattle.std.proofs.lemmas.Int.Digits.{digits_value-lt}
use Rattle.std.proofs.lemmas.List.{length_push}
use Rattle.std.proofs.lemmas.Option.{none-some, same_Some}
use Rattle.line_text.specs.declared.forms.Bounds.{Bounds}
use Rattle.line_text.specs.declared.forms.Reject.TheVariants.{Bad}
use Rattle.line_text.specs.Lines.{Grammar, then_leads, or_bad, bounded, number_leads, is_dot, rest_leads, is_number, word_leads, says_words, says_line, says_lead, line_says, word_at, place_from}
use Rattle.line_text.specs.Words.{is_blank, Cut, cut, with_word, words_of, behind_blank, with_letter, is_digit, number_behind, spaced}
use Rattle.line_text.proofs.Runs.{digits_push, number_push}
use Rattle.line_text.proofs.Steps.{digit_more}
use Rattle.line_text.proofs.Said.{bound, some, same_ok, not_err, chosen, in_bounds}

-- ---- a line is no shorter than its words

cut_short : (line : List ℕ) → length (cut line).word + length (spaced (cut line).others) ≤ length line
cut_short [] = omega arith
cut_short (byte ∷ line) = by (is_blank byte) (cut line) (cut_short line)
  where
    behind : (word : List ℕ) (others : List (List ℕ)) → length word + length (spaced others) ≤ length line → length (spaced (with_word word others)) ≤ suc (length line)
    behind [] others short = omega (arith, short)
    behind (letter ∷ letters) others short = omega (arith, short, length-append (letter ∷ letters) (spaced others))

    by : (blank : Bool) (c : Cut) → length c.word + length (spaced c.others) ≤ length line
        → length (if blank then behind_blank c else with_letter byte c).word + length (spaced (if blank then behind_blank c else with_letter byte c).others) ≤ suc (length line)
    by true c short = omega (arith, behind c.word c.others short)
    by false c short = omega (arith, short)

words_short : (line : List ℕ) → length (spaced (words_of (cut line))) ≤ length line + 1
words_short line = by (cut line).word (cut line).others (cut_short line)
  where
    by : (word : List ℕ) (others : List (List ℕ)) → length word + length (spaced others) ≤ length line → length (spaced (with_word word others)) ≤ length line + 1
    by [] others short = omega (arith, short)
    by (letter ∷ letters) others short = omega (arith, short, length-append (letter ∷ letters) (spaced others))

-- ---- a number is no shorter than it is written

choice : {A : Type 0} (b : Bool) (x y z : A) → (if b then x else y) ≡ z → ((b ≡ true) × (x ≡ z)) ⊎ ((b ≡ false) × (y ≡ z))
choice true x y z is = inl (refl, is)
choice false x y z is = inr (refl, is)

digits_of : (digits : List ℕ) (value number : ℕ) → number_behind value digits ≡ Some number → AllDigits 10 digits × (digits_value_after 10 value digits ≡ number)
digits_of [] value number is = (tt, same_Some value number is)
digits_of (byte ∷ digits) value number is =
    ⊎_elim (λ digit. let others = digits_of digits (value * 10 + digit_value byte) number digit.1 in ((ltb-true (digit_value byte) 10 digit.0, others.0), others.1))
    (λ other. absurd (none-some number other.1)) (choice (is_digit byte) (number_behind (value * 10 + digit_value byte) digits) None (Some number) is)

pub decimal_short : (digits : List ℕ) (number : ℕ) → 0 < length digits → number < 2 ^ 64 → number_behind 0 digits ≡ Some number → length (decimal number) ≤ length digits
decimal_short digits number longer small is =
    let of = digits_of digits 0 number is in
    length-decimal-le (length digits) number longer (subst (λ n. n < 10 ^ length digits) of.1 (digits_value-lt 10 digits of.0)) small

-- these digits have written the number, if there were any
abbrev HasWritten : Option ℕ → List ℕ → Type 0
HasWritten None digits = digits ≡ []
HasWritten (Some value) digits = (0 < length digits) × AllByRecursion (λ byte. is_digit byte ≡ true) digits × (number_behind 0 digits ≡ Some value)

first_digit : (byte : ℕ) → is_digit byte ≡ true → HasWritten (Some (0 * 10 + digit_value byte)) (byte ∷ [])
first_digit byte digit = (omega arith, (digit, tt), digit_more 0 byte [] digit)

next_digit : (digits : List ℕ) (value byte : ℕ) → HasWritten (Some value) digits → is_digit byte ≡ true → HasWritten (Some (value * 10 + digit_value byte)) (digits ++ byte ∷ [])
next_digit digits value byte written digit = (omega (arith, length_push digits byte), digits_push digits byte written.1 digit, number_push digits 0 value byte written.1 written.2 digit)

-- ---- what the words lead to

module _ {Form Line : Type 0} (G : Grammar Form Line) (P : Form → ℕ → Type 0) (indents : (form : Form) → P form 0 → P (G.indented form) 0)
    (literal : (form : Form) (size index : ℕ) → P form size → index < length (G.words form) → P (G.after_word form index) (size + 1 + length (word_at G form index)))
    (numeral : (form : Form) (size : ℕ) (bounds : Bounds) (number : ℕ) (digits : List ℕ) → P form size → G.bounds form ≡ Some bounds → bounds.least ≤ number → number ≤ bounds.most → 0 < length digits → number_behind 0 digits ≡ Some number
    → P (G.after_number form number) (size + 1 + length digits)) where
  place_word : (words : List (List ℕ)) (word : List ℕ) (from place : ℕ) → place_from from words word ≡ Some place → (index : ℕ) × (place ≡ from + index) × (index < length words) × (slice_index_or words index [] ≡ word)
  place_word [] word from place is = absurd (none-some place is)
  place_word (first ∷ words) word from place is =
      ⊎_elim (λ here. (0, omega (arith, same_Some from place here.1), omega arith, same_text first word (sym here.0)))
      (λ later. let of = place_word words word (from + 1) place later.1 in (suc of.0, omega (arith, of.1), omega (arith, of.2), of.3))
      (choice (pointwise ◌==◌ first word) (Some from) (place_from (from + 1) words word) (Some place) is)

  literal_behind : (form next : Form) (size : ℕ) (word : List ℕ) → P form size → then_leads (or_bad (place_from 0 (G.words form) word)) (λ place. Ok (G.after_word form place)) ≡ Ok next → P next (size + 1 + length word)
  literal_behind form next size word is leads =
      let of = bound (or_bad (place_from 0 (G.words form) word)) (λ place. Ok (G.after_word form place)) next leads in
      let at = place_word (G.words form) word 0 of.0 (some (place_from 0 (G.words form) word) of.0 of.1) in
      subst (λ f. P f (size + 1 + length word)) (same_ok (G.after_word form of.0) next of.2)
      (subst (λ place. P (G.after_word form place) (size + 1 + length word)) (omega (arith, at.1))
      (subst (λ (w : List ℕ). P (G.after_word form at.0) (size + 1 + length w)) at.3 (literal form size at.0 is at.2)))

  bounded_same : (bounds : Bounds) (value number : ℕ) → bounded bounds value ≡ Ok number → value ≡ number
  bounded_same bounds value number is =
      ⊎_elim (λ high. absurd (not_err bounds.above number high.1))
      (λ fits. ⊎_elim (λ less. absurd (not_err Bad number less.1)) (λ more. same_ok value number more.1) (chosen (nat_lt value bounds.least) (Err Bad) (Ok value) (Ok number) fits.1))
      (chosen (nat_lt bounds.most value) (Err bounds.above) (if nat_lt value bounds.least then Err Bad else Ok value) (Ok number) is)

  number_behind_is : (form next : Form) (size value : ℕ) (digits : List ℕ) → P form size → 0 < length digits → number_behind 0 digits ≡ Some value → number_leads G form value ≡ Ok next → P next (size + 1 + length digits)
  number_behind_is form next size value digits is longer written leads =
      let own = bound (or_bad (G.bounds form)) (λ bounds. then_leads (bounded bounds value) (λ number. Ok (G.after_number form number))) next leads in
      let fits = bound (bounded own.0 value) (λ number. Ok (G.after_number form number)) next own.2 in
      let range = in_bounds own.0 value fits.0 fits.1 in
      let same : value ≡ fits.0 = bounded_same own.0 value fits.0 fits.1 in
      subst (λ f. P f (size + 1 + length digits)) (same_ok (G.after_number form fits.0) next fits.2)
      (numeral form size own.0 fits.0 digits is (some (G.bounds form) own.0 own.1) range.0 range.1 longer (written ∙ ap (λ v. Some v) same))

  -- behind the rest of a word of numbers, of which these digits were read
  numbers_behind : (word : List ℕ) (form next : Form) (size : ℕ) (value : Option ℕ) (digits : List ℕ) → P form size → HasWritten value digits → rest_leads G form value word ≡ Ok next → P next (size + 1 + length digits + length word)
  numbers_behind [] form next size None digits is written leads = absurd (not_err Bad next leads)
  numbers_behind [] form next size (Some value) digits is written leads =
      ⊎_elim (λ joined. absurd (not_err Bad next joined.1)) (λ alone. subst (λ n. P next n) (omega arith) (number_behind_is form next size value digits is written.0 written.2 alone.1))
      (chosen (G.joined form) (Err Bad) (number_leads G form value) (Ok next) leads)
  numbers_behind (byte ∷ word) form next size None digits is written leads =
      ⊎_elim (λ digit. subst (λ n. P next n) (omega (arith, ap length written)) (numbers_behind word form next size (Some (0 * 10 + digit_value byte)) (byte ∷ []) is (first_digit byte digit.0) digit.1))
      (λ other. absurd (not_err Bad next other.1)) (chosen (is_digit byte) (rest_leads G form (Some (0 * 10 + digit_value byte)) word) (Err Bad) (Ok next) leads)
  numbers_behind (byte ∷ word) form next size (Some value) digits is written leads =
      let behind = then_leads (number_leads G form value) (λ joined. rest_leads G joined None word) in
      ⊎_elim
      (λ digit. subst (λ n. P next n) (omega (arith, length_push digits byte)) (numbers_behind word form next size (Some (value * 10 + digit_value byte)) (digits ++ byte ∷ []) is (next_digit digits value byte written digit.0) digit.1))
      (λ other. ⊎_elim
      (λ dot. let of = bound (number_leads G form value) (λ joined. rest_leads G joined None word) next dot.1 in
      subst (λ n. P next n) (omega arith) (numbers_behind word of.0 next (size + 1 + length digits) None [] (number_behind_is form of.0 size value digits is written.0 written.2 of.1) refl of.2))
      (λ neither. absurd (not_err Bad next neither.1)) (chosen (is_dot G form byte) behind (Err Bad) (Ok next) other.1))
      (chosen (is_digit byte) (rest_leads G form (Some (value * 10 + digit_value byte)) word) (cond (is_dot G form byte) behind (Err Bad)) (Ok next) leads)

  word_behind : (form next : Form) (size : ℕ) (word : List ℕ) → P form size → word_leads G form word ≡ Ok next → P next (size + 1 + length word)
  word_behind form next size word is leads =
      ⊎_elim (λ number. subst (λ n. P next n) (omega arith) (numbers_behind word form next size None [] is refl number.1)) (λ other. literal_behind form next size word is other.1)
      (chosen (is_number G form word) (rest_leads G form None word) (then_leads (or_bad (place_from 0 (G.words form) word)) (λ place. Ok (G.after_word form place))) (Ok next) leads)

  -- the form that says the line, and how many bytes the words before it took
  pub record SaysBehind (line : Line) (size : ℕ) : Type 0 where
    pub form : Form
    pub bytes : ℕ
    pub is : P form bytes
    pub says : G.says form ≡ Some line
    pub short : bytes ≤ size

  words_behind : (words : List (List ℕ)) (form : Form) (line : Line) (size : ℕ) → P form size → says_words G form words ≡ Ok (Some line) → SaysBehind line (size + length (spaced words))
  words_behind [] form line size is says =
      let of = bound (or_bad (G.says form)) (λ line. Ok (Some line)) (Some line) says in
      record {
        form = form;
        bytes = size;
        is = is;
        says = some (G.says form) of.0 of.1 ∙ same_ok (Some of.0) (Some line) of.2;
        short = omega arith;
      }
  words_behind (word ∷ words) form line size is says =
      let of = bound (word_leads G form word) (λ next. says_words G next words) (Some line) says in
      let rest = words_behind words of.0 line (size + 1 + length word) (word_behind form of.0 size word is of.1) of.2 in
      record { form = rest.form; bytes = rest.bytes; is = rest.is; says = rest.says; short = omega (arith, rest.short, length-append word (spaced words)) }

  no_longer : (line : Line) (size most : ℕ) → size ≤ most → SaysBehind line size → SaysBehind line most
  no_longer line size most short said = record { form = said.form; bytes = said.bytes; is = said.is; says = said.says; short = omega (arith, short, said.short) }

  line_behind : (words : List (List ℕ)) (form : Form) (line : Line) → P form 0 → says_line G form words ≡ Ok (Some line) → SaysBehind line (length (spaced words))
  line_behind [] form line is says = absurd (none-some line (same_ok None (Some line) says))
  line_behind ([] ∷ words) form line is says = no_longer line (0 + length (spaced ([] ∷ words))) (length (spaced ([] ∷ words))) (omega arith) (words_behind ([] ∷ words) form line 0 is says)
  line_behind ((letter ∷ letters) ∷ words) form line is says =
      ⊎_elim (λ comment. absurd (none-some line (same_ok None (Some line) comment.1)))
      (λ words_say. no_longer line (0 + length (spaced ((letter ∷ letters) ∷ words))) (length (spaced ((letter ∷ letters) ∷ words))) (omega arith) (words_behind ((letter ∷ letters) ∷ words) form line 0 is words_say.1))
      (chosen (letter == 35) (Ok None) (says_words G form ((letter ∷ letters) ∷ words)) (Ok (Some line)) says)

  pub says_behind : (form : Form) (bytes : List ℕ) (line : Line) → P form 0 → line_says G form bytes ≡ Ok (Some line) → SaysBehind line (length bytes + 1)
  says_behind form bytes line is says = by (cut bytes).word (cut bytes).others (words_short bytes) says
    where
      by : (word : List ℕ) (others : List (List ℕ)) → length (spaced (with_word word others)) ≤ length bytes + 1 → says_lead G form word others ≡ Ok (Some line) → SaysBehind line (length bytes + 1)
      by [] others short says = no_longer line (length (spaced others)) (length bytes + 1) short (line_behind others (G.indented form) line (indents form is) says)
      by (letter ∷ letters) others short says = no_longer line (length (spaced ((letter ∷ letters) ∷ others))) (length bytes + 1) short (line_behind ((letter ∷ letters) ∷ others) form line is says)
