-- Many bytes of a line at once.
use Rattle.std.proofs.Common.{◌≡◌, ◌≢◌, ℕ, zero, suc, ◌+◌, ◌-◌, ◌*◌, ◌<◌, ◌≤◌, Bool, true, false, ◌==◌, ◌||◌, ◌&&◌, List, [], ◌∷◌, ◌++◌, length, take, drop, get_or, Some, None, is_some, refl, ap, sym, ◌∙◌, arith, subst, inl, inr, ⊎_elim, append_assoc, add-zero, length-drop}
use Rattle.std.specs.Char.{digit_value}
use Rattle.std.specs.List.{AllByRecursion}
use Rattle.std.proofs.lemmas.Bool.{false≢true, ne_eqb, ltb-true}
use Rattle.std.proofs.lemmas.List.{take-append-drop, take_all, take_more, length-take-le}
use Rattle.std.proofs.Math.Seq.{take-add}
use Rattle.std.proofs.lemmas.Option.{same_Some}
use Rattle.std.proofs.lemmas.Str.Parse.{digit_from_value}
use Rattle.line_text.specs.declared.forms.Bounds.{Bounds}
use Rattle.line_text.specs.declared.states.State.{State}
use Rattle.line_text.specs.declared.states.State.TheVariants.{Lead, Comment, Gap, Word, Number, Joint}
use Rattle.line_text.specs.Lines.{Grammar, IsGrammar, is_number, says_words, word_at, place_from}
use Rattle.line_text.specs.Scans.{Goes, StandsThere, StandsWord, HasBegun, HasJoined}
use Rattle.line_text.specs.States.{says_from, rest_says, IsFront, IsOpen, Leads}
use Rattle.line_text.specs.Words.{is_blank, Cut, cut, with_word, words_of, is_digit, number_behind, IsLetter, AreLetters}
use Rattle.line_text.proofs.Steps.{cut_letter, digit_more, gap_digit, joint_digit, number_digit, number_dot, lead_letter, is_number_more, ends_in, number_ends, number_blank, word_ends, word_blank}

-- ---- digits

or_false : (a b : Bool) → a ≡ false → b ≡ false → (a || b) ≡ false
or_false true b neither more = absurd (false≢true (sym neither))
or_false false b neither more = more

-- a digit is 48 to 57
digit_range : (byte : ℕ) → is_digit byte ≡ true → (48 ≤ byte) × (byte ≤ 57)
digit_range byte digit =
    let value : digit_value byte < 10 = ltb-true (digit_value byte) 10 digit in
    (omega (arith, digit_from_value byte value, value), omega (arith, digit_from_value byte value, value))

pub digit_letter : (byte : ℕ) → is_digit byte ≡ true → is_blank byte ≡ false
digit_letter byte digit =
    let range = digit_range byte digit in
    or_false (byte == 32) (byte == 9 || byte == 13) (ne_eqb byte 32 (λ is. omega (arith, range.0)))
    (or_false (byte == 9) (byte == 13) (ne_eqb byte 9 (λ is. omega (arith, range.0))) (ne_eqb byte 13 (λ is. omega (arith, range.0))))

pub digit_within : (byte : ℕ) → is_digit byte ≡ true → byte ≢ 10
digit_within byte digit is = omega (arith, is, (digit_range byte digit).0)

pub digits_within : (bytes : List ℕ) → AllByRecursion (λ byte. is_digit byte ≡ true) bytes → AllByRecursion (λ byte. byte ≢ 10) bytes
digits_within [] all = tt
digits_within (byte ∷ bytes) all = (digit_within byte all.0, digits_within bytes all.1)

pub digits_push : (digits : List ℕ) (byte : ℕ) → AllByRecursion (λ byte. is_digit byte ≡ true) digits → is_digit byte ≡ true → AllByRecursion (λ byte. is_digit byte ≡ true) (digits ++ byte ∷ [])
digits_push [] byte all digit = (digit, tt)
digits_push (first ∷ digits) byte all digit = (all.0, digits_push digits byte all.1 digit)

pub number_push : (digits : List ℕ) (value number byte : ℕ) → AllByRecursion (λ byte. is_digit byte ≡ true) digits → number_behind value digits ≡ Some number → is_digit byte ≡ true
    → number_behind value (digits ++ byte ∷ []) ≡ Some (number * 10 + digit_value byte)
number_push [] value number byte all is digit = digit_more value byte [] digit ∙ ap (λ v. Some (v * 10 + digit_value byte)) (same_Some value number is)
number_push (first ∷ digits) value number byte all is digit =
    digit_more value first (digits ++ byte ∷ []) all.0 ∙ number_push digits (value * 10 + digit_value first) number byte all.1 (sym (digit_more value first digits all.0) ∙ is) digit

-- ---- letters and lines

pub cut_letters : (letters rest : List ℕ) → AllByRecursion IsLetter letters → cut (letters ++ rest) ≡ record { word = letters ++ (cut rest).word; others = (cut rest).others }
cut_letters [] rest all = refl
cut_letters (letter ∷ letters) rest all =
    cut_letter letter (letters ++ rest) all.0.0 ∙ ap (λ (c : Cut). record { word = letter ∷ c.word; others = c.others }) (cut_letters letters rest all.1)

pub letters_within : (letters : List ℕ) → AllByRecursion IsLetter letters → AllByRecursion (λ byte. byte ≢ 10) letters
letters_within [] all = tt
letters_within (letter ∷ letters) all = (all.0.1, letters_within letters all.1)

pub all_append : (one other : List ℕ) → AllByRecursion (λ byte. byte ≢ 10) one → AllByRecursion (λ byte. byte ≢ 10) other → AllByRecursion (λ byte. byte ≢ 10) (one ++ other)
all_append [] other all more = more
all_append (byte ∷ one) other all more = (all.0, all_append one other all.1 more)

module _ {Form Line : Type 0} (G : Grammar Form Line) (IsForm : Form → Type 0) where
  digits_lead : (form : Form) (bounds : Bounds) → G.bounds form ≡ Some bounds → (digits : List ℕ) (value number : ℕ) → AllByRecursion (λ byte. is_digit byte ≡ true) digits → number_behind value digits ≡ Some number
      → Leads G (Number form bounds value) digits (Number form bounds number)
  digits_lead form bounds own [] value number all is rest = ap (λ v. rest_says G (Number form bounds v) rest) (same_Some value number is)
  digits_lead form bounds own (byte ∷ digits) value number all is rest =
      number_digit G IsForm form bounds own value byte (digit_letter byte all.0) all.0 (digits ++ rest)
      ∙ digits_lead form bounds own digits (value * 10 + digit_value byte) number all.1 (sym (digit_more value byte digits all.0) ∙ is) rest

  pub goes_digits : (form : Form) (bounds : Bounds) (value number count : ℕ) (bytes : List ℕ) → G.bounds form ≡ Some bounds → count ≤ length bytes → AllByRecursion (λ byte. is_digit byte ≡ true) (take count bytes)
      → number_behind value (take count bytes) ≡ Some number → Goes G (Number form bounds value) bytes count (Number form bounds number)
  goes_digits form bounds value number count bytes own within all is = record {
    within = within;
    line = digits_within (take count bytes) all;
    leads = digits_lead form bounds own (take count bytes) value number all is;
  }

  -- a number that stands next
  pub first_leads : (form : Form) (bounds : Bounds) → G.bounds form ≡ Some bounds → (digits : List ℕ) (number : ℕ) → 0 < length digits → AllByRecursion (λ byte. is_digit byte ≡ true) digits → number_behind 0 digits ≡ Some number
      → Leads G (Gap form) digits (Number form bounds number)
  first_leads form bounds own [] number some all is rest = absurd (omega arith)
  first_leads form bounds own (byte ∷ digits) number some all is rest =
      gap_digit G IsForm form bounds own byte (digit_letter byte all.0) all.0 (digits ++ rest)
      ∙ digits_lead form bounds own digits (0 * 10 + digit_value byte) number all.1 (sym (digit_more 0 byte digits all.0) ∙ is) rest

  pub lead_leads : (form : Form) (bounds : Bounds) → G.bounds form ≡ Some bounds → (digits : List ℕ) (number : ℕ) → 0 < length digits → AllByRecursion (λ byte. is_digit byte ≡ true) digits → number_behind 0 digits ≡ Some number
      → Leads G (Lead form) digits (Number form bounds number)
  lead_leads form bounds own [] number some all is rest = absurd (omega arith)
  lead_leads form bounds own (byte ∷ digits) number some all is rest =
      lead_letter G IsForm form byte (digit_letter byte all.0) (λ sign. omega (arith, sign, (digit_range byte all.0).0)) (digits ++ rest)
      ∙ first_leads form bounds own (byte ∷ digits) number some all is rest

  joint_leads : (form : Form) (bounds : Bounds) → G.bounds form ≡ Some bounds → (digits : List ℕ) (number : ℕ) → 0 < length digits → AllByRecursion (λ byte. is_digit byte ≡ true) digits → number_behind 0 digits ≡ Some number
      → Leads G (Joint form) digits (Number form bounds number)
  joint_leads form bounds own [] number some all is rest = absurd (omega arith)
  joint_leads form bounds own (byte ∷ digits) number some all is rest =
      joint_digit G IsForm form bounds own byte (digit_letter byte all.0) all.0 (digits ++ rest)
      ∙ digits_lead form bounds own digits (0 * 10 + digit_value byte) number all.1 (sym (digit_more 0 byte digits all.0) ∙ is) rest

  module _ (form : Form) (bounds : Bounds) (number count : ℕ) (bytes : List ℕ) (own : G.bounds form ≡ Some bounds) (some : 0 < count) (within : count ≤ length bytes)
      (all : AllByRecursion (λ byte. is_digit byte ≡ true) (take count bytes)) (is : number_behind 0 (take count bytes) ≡ Some number) where
    some_digits : 0 < length (take count bytes)
    some_digits = omega (arith, length-take-le count bytes within, some)

    pub lead_goes : Goes G (Lead form) bytes count (Number form bounds number)
    lead_goes = record {
      within = within;
      line = digits_within (take count bytes) all;
      leads = lead_leads form bounds own (take count bytes) number some_digits all is;
    }

    pub gap_goes : Goes G (Gap form) bytes count (Number form bounds number)
    gap_goes = record {
      within = within;
      line = digits_within (take count bytes) all;
      leads = first_leads form bounds own (take count bytes) number some_digits all is;
    }

    pub joint_goes : Goes G (Joint form) bytes count (Number form bounds number)
    joint_goes = record {
      within = within;
      line = digits_within (take count bytes) all;
      leads = joint_leads form bounds own (take count bytes) number some_digits all is;
    }

  pub goes_nowhere : (state : State Form) (bytes : List ℕ) → Goes G state bytes 0 state
  goes_nowhere state bytes = record { within = omega arith; line = tt; leads = λ rest. refl }

  pub goes_comment : (count : ℕ) (bytes : List ℕ) → count ≤ length bytes → AllByRecursion (λ byte. byte ≢ 10) (take count bytes) → Goes G Comment bytes count Comment
  goes_comment count bytes within line = record { within = within; line = line; leads = λ rest. refl }

  -- ---- letters

  pub letters_drop : (letters : List ℕ) (at : ℕ) → AllByRecursion IsLetter letters → AllByRecursion IsLetter (drop at letters)
  letters_drop letters zero all = all
  letters_drop [] (suc at) all = tt
  letters_drop (letter ∷ letters) (suc at) all = letters_drop letters at all.1

  module _ (sound : IsGrammar G IsForm) (form : Form) (index at : ℕ) (is_form : IsForm form) (front : IsFront G form index at) where
    rest_letters : AllByRecursion IsLetter (drop at (word_at G form index))
    rest_letters = letters_drop (word_at G form index) at (sound.letters form index is_form front.within).1

    pub whole : take (at + length (drop at (word_at G form index))) (word_at G form index) ≡ word_at G form index
    whole = take_all (at + length (drop at (word_at G form index))) (word_at G form index) (omega (arith, length-drop at (word_at G form index)))

    pub no_number_whole : is_number G form (word_at G form index) ≡ false
    no_number_whole =
        let word = word_at G form index in
        subst (λ (w : List ℕ). is_number G form w ≡ false) (take-append-drop at word)
        (is_number_more G IsForm form (take at word) (drop at word) (omega (arith, length-take-le at word front.front, front.some)) front.no_number)

    -- the rest of the word leads behind its last letter
    word_leads_on : Leads G (Word form index at) (drop at (word_at G form index)) (Word form index (at + length (drop at (word_at G form index))))
    word_leads_on rest =
        let word = word_at G form index in
        let letters = drop at word in
        ap (says_from G (Word form index at)) (cut_letters letters rest rest_letters)
        ∙ ap (λ (w : List ℕ). says_words G form (w ∷ (cut rest).others))
        (sym (append_assoc (take at word) letters (cut rest).word) ∙ ap (λ (w : List ℕ). w ++ (cut rest).word) (take-append-drop at word ∙ sym whole))

    pub goes_letters : (count : ℕ) (bytes : List ℕ) → count ≤ length bytes → StandsThere (drop at (word_at G form index)) bytes count
        → IsFront G form index (at + count) × Goes G (Word form index at) bytes count (Word form index (at + count))
    goes_letters count bytes within (inl none) =
        let P : ℕ → Type 0 = λ n. IsFront G form index (at + n) × Goes G (Word form index at) bytes n (Word form index (at + n)) in
        subst P (sym none) (subst (λ n. IsFront G form index n × Goes G (Word form index at) bytes 0 (Word form index n)) (sym (add-zero at)) (front, goes_nowhere (Word form index at) bytes))
    goes_letters count bytes within (inr all) =
        let letters = drop at (word_at G form index) in
        let size : at + count ≡ at + length letters = ap (λ n. at + n) all.0 in
        let front_at : IsFront G form index (at + length letters) = record {
          within = front.within;
          some = omega (arith, front.some);
          front = omega (arith, length-drop at (word_at G form index), front.front);
          no_number = ap (is_number G form) whole ∙ no_number_whole;
        } in (
          subst (λ n. IsFront G form index n) (sym size) front_at,
          record {
            within = within;
            line = subst (AllByRecursion (λ byte. byte ≢ 10)) (sym all.1) (letters_within letters rest_letters);
            leads = subst (λ n. Leads G (Word form index at) (take count bytes) (Word form index n)) (sym size) (subst (λ (b : List ℕ). Leads G (Word form index at) b (Word form index (at + length letters))) (sym all.1) word_leads_on);
          },
        )

  -- ---- whole lines, one behind the other

  pub leads_on : (state mid next : State Form) (one other : List ℕ) → Leads G state one mid → Leads G mid other next → Leads G state (one ++ other) next
  leads_on state mid next one other first then rest = ap (rest_says G state) (append_assoc one other rest) ∙ (first (other ++ rest) ∙ then rest)

  -- bytes further on in the piece lead further
  pub goes_on : (state mid next : State Form) (bytes : List ℕ) (at count : ℕ) → Goes G state bytes at mid → Goes G mid (take (length bytes - at) (drop at bytes)) count next → Goes G state bytes (at + count) next
  goes_on state mid next bytes at count first then =
      let slice : take (length bytes - at) (drop at bytes) ≡ drop at bytes = take_all (length bytes - at) (drop at bytes) (omega (arith, length-drop at bytes)) in
      let run : take at bytes ++ take count (take (length bytes - at) (drop at bytes)) ≡ take (at + count) bytes = ap (λ (s : List ℕ). take at bytes ++ take count s) slice ∙ sym (take-add at count bytes) in
      record {
        within = omega (arith, first.within, then.within, ap length slice, length-drop at bytes);
        line = subst (AllByRecursion (λ byte. byte ≢ 10)) run (all_append (take at bytes) (take count (take (length bytes - at) (drop at bytes))) first.line then.line);
        leads = subst (λ (r : List ℕ). Leads G state r next) run (leads_on state mid next (take at bytes) (take count (take (length bytes - at) (drop at bytes))) first.leads then.leads);
      }

  -- one byte further
  pub goes_byte : (state mid next : State Form) (bytes : List ℕ) (at : ℕ) → Goes G state bytes at mid → at < length bytes → (get_or bytes at 0 ≢ 10) → Leads G mid (get_or bytes at 0 ∷ []) next → Goes G state bytes (at + 1) next
  goes_byte state mid next bytes at first within byte leads =
      let run = take_more bytes at 0 within in
      record {
        within = omega (arith, within);
        line = subst (AllByRecursion (λ byte. byte ≢ 10)) (sym run) (all_append (take at bytes) (get_or bytes at 0 ∷ []) first.line (byte, tt));
        leads = subst (λ (r : List ℕ). Leads G state r next) (sym run) (leads_on state mid next (take at bytes) (get_or bytes at 0 ∷ []) first.leads leads);
      }

  -- ---- whole words

  -- the number of the form, behind those to which it is joined
  module _ (from form : Form) (bounds : Bounds) (number at count : ℕ) (bytes : List ℕ) (joined : HasJoined G from bytes at form) (own : G.bounds form ≡ Some bounds) (some : 0 < count)
      (within : count ≤ length (take (length bytes - at) (drop at bytes))) (all : AllByRecursion (λ byte. is_digit byte ≡ true) (take count (take (length bytes - at) (drop at bytes))))
      (is : number_behind 0 (take count (take (length bytes - at) (drop at bytes))) ≡ Some number) where
    pub joined_goes : Goes G (Lead from) bytes (at + count) (Number form bounds number) × Goes G (Gap from) bytes (at + count) (Number form bounds number)
    joined_goes = by joined
      where
        slice : List ℕ
        slice = take (length bytes - at) (drop at bytes)

        nowhere : (state : State Form) → at ≡ 0 → Goes G state bytes at state
        nowhere state first = subst (λ n. Goes G state bytes n state) (sym first) (goes_nowhere state bytes)

        by : HasJoined G from bytes at form → Goes G (Lead from) bytes (at + count) (Number form bounds number) × Goes G (Gap from) bytes (at + count) (Number form bounds number)
        by (inl first) =
            let lead = subst (λ f. Goes G (Lead f) slice count (Number form bounds number)) first.1 (lead_goes form bounds number count slice own some within all is) in
            let gap = subst (λ f. Goes G (Gap f) slice count (Number form bounds number)) first.1 (gap_goes form bounds number count slice own some within all is) in (
              goes_on (Lead from) (Lead from) (Number form bounds number) bytes at count (nowhere (Lead from) first.0) lead,
              goes_on (Gap from) (Gap from) (Number form bounds number) bytes at count (nowhere (Gap from) first.0) gap,
            )
        by (inr goes) =
            let joint = joint_goes form bounds number count slice own some within all is in (
              goes_on (Lead from) (Joint form) (Number form bounds number) bytes at count goes.0 joint,
              goes_on (Gap from) (Joint form) (Number form bounds number) bytes at count goes.1 joint,
            )

    -- its word ends
    pub numeral_stands : IsGrammar G IsForm → IsForm form → G.joined form ≡ false → IsOpen bounds number → bounds.least ≤ number → StandsWord G IsForm from bytes (G.after_number form number) (at + count)
    numeral_stands sound is_form alone open_at least = record {
      state = Number form bounds number;
      is_state = (is_form, own, open_at);
      is_form = sound.number form bounds number is_form own least open_at.0;
      lead = joined_goes.0;
      gap = joined_goes.1;
      ends = number_ends G IsForm form bounds own number (G.after_number form number) (ends_in G IsForm form bounds own number alone least open_at.0);
      blank = λ byte blank. number_blank G IsForm form bounds own number byte (G.after_number form number) blank (ends_in G IsForm form bounds own number alone least open_at.0);
    }

    -- a dot joins another to it
    pub joined_more : G.joined form ≡ true → bounds.least ≤ number → number ≤ bounds.most → at + count < length bytes → get_or bytes (at + count) 0 ≡ 46 → HasJoined G from bytes (at + count + 1) (G.after_number form number)
    joined_more is_joined least most inside dot = inr (
      goes_byte (Lead from) (Number form bounds number) (Joint (G.after_number form number)) bytes (at + count) joined_goes.0 inside not_end leads,
      goes_byte (Gap from) (Number form bounds number) (Joint (G.after_number form number)) bytes (at + count) joined_goes.1 inside not_end leads,
    )
      where
        not_end : get_or bytes (at + count) 0 ≢ 10
        not_end is = omega (arith, is, dot)

        leads : Leads G (Number form bounds number) (get_or bytes (at + count) 0 ∷ []) (Joint (G.after_number form number))
        leads = subst (λ byte. Leads G (Number form bounds number) (byte ∷ []) (Joint (G.after_number form number))) (sym dot) (number_dot G IsForm form bounds own number 46 refl refl (ap (λ j. j && true) is_joined) least most)

  no_bounds_word : (form : Form) (word : List ℕ) → G.bounds form ≡ None → is_number G form word ≡ false
  no_bounds_word form [] none = refl
  no_bounds_word form (letter ∷ letters) none = ap (λ o. is_some o && is_digit letter) none

  gap_word : (form : Form) (index : ℕ) (word rest : List ℕ) → AllByRecursion IsLetter word → 0 < length word → take (length word) (word_at G form index) ≡ word → rest_says G (Gap form) (word ++ rest) ≡ rest_says G (Word form index (length word)) rest
  gap_word form index word rest all some is =
      ap (λ (c : Cut). says_words G form (words_of c)) (cut_letters word rest all)
      ∙ (kept word (cut rest).word some ∙ ap (λ (w : List ℕ). says_words G form ((w ++ (cut rest).word) ∷ (cut rest).others)) (sym is))
    where
      kept : (word more : List ℕ) → 0 < length word → says_words G form (with_word (word ++ more) (cut rest).others) ≡ says_words G form ((word ++ more) ∷ (cut rest).others)
      kept [] more none = absurd (omega (arith, none))
      kept (letter ∷ letters) more none = refl

  lead_word : (form : Form) (bytes rest : List ℕ) (count : ℕ) → AllByRecursion IsLetter (take count bytes) → 0 < count → (get_or bytes 0 0 ≢ 35) → 0 < length bytes → rest_says G (Lead form) (take count bytes ++ rest) ≡ rest_says G (Gap form) (take count bytes ++ rest)
  lead_word form [] rest count all some sign none = absurd (omega (arith, none))
  lead_word form (byte ∷ bytes) rest zero all some sign none = absurd (omega (arith, some))
  lead_word form (byte ∷ bytes) rest (suc count) all some sign none = lead_letter G IsForm form byte all.0.0 sign (take count bytes ++ rest)

  pub literal_stands : (sound : IsGrammar G IsForm) (form : Form) (place count : ℕ) (bytes : List ℕ) → IsForm form → G.bounds form ≡ None → count ≤ length bytes → (get_or bytes 0 0 ≢ 35)
      → place_from 0 (G.words form) (take count bytes) ≡ Some place → place < length (G.words form) → word_at G form place ≡ take count bytes
      → StandsWord G IsForm form bytes (G.after_word form place) count
  literal_stands sound form place count bytes is_form none fits sign found within is =
      let word = take count bytes in
      let letters : AreLetters word = subst AreLetters is (sound.letters form place is_form within) in
      let size : length word ≡ count = length-take-le count bytes fits in
      let all : take count (word_at G form place) ≡ word = ap (take count) is ∙ take_all count word (omega (arith, size)) in
      let front : IsFront G form place count = record { within = within; some = omega (arith, letters.0, size); front = omega (arith, size, ap length is); no_number = no_bounds_word form (take count (word_at G form place)) none } in
      let own : place_from 0 (G.words form) (take count (word_at G form place)) ≡ Some place = ap (place_from 0 (G.words form)) all ∙ found in
      let gap_leads : Leads G (Gap form) word (Word form place count) =
      λ rest. subst (λ n. rest_says G (Gap form) (word ++ rest) ≡ rest_says G (Word form place n) rest) size (gap_word form place word rest letters.1 letters.0 (subst (λ n. take n (word_at G form place) ≡ word) (sym size) all)) in
      record {
        state = Word form place count;
        is_state = (is_form, front);
        is_form = sound.word form place is_form within;
        lead = record { within = fits; line = letters_within word letters.1; leads = λ rest. lead_word form bytes rest count letters.1 (omega (arith, letters.0, size)) sign (omega (arith, letters.0, size, fits)) ∙ gap_leads rest };
        gap = record { within = fits; line = letters_within word letters.1; leads = gap_leads };
        ends = word_ends G IsForm form place count front place own;
        blank = λ byte blank. word_blank G IsForm form place count front byte place blank own;
      }

  -- a word further on in a line that has begun
  pub begun_word : (from form next : Form) (count at : ℕ) (bytes : List ℕ) → HasBegun G from bytes at form → (stands : StandsWord G IsForm form (take (length bytes - at) (drop at bytes)) next count) → Goes G (Lead from) bytes (at + count) stands.state
  begun_word from form next count at bytes begun stands =
      let slice = take (length bytes - at) (drop at bytes) in
      goes_on (Lead from) begun.state stands.state bytes at count begun.goes
      (⊎_elim (λ lead. subst (λ s. Goes G s slice count stands.state) (sym lead) stands.lead) (λ gap. subst (λ s. Goes G s slice count stands.state) (sym gap) stands.gap) begun.begun)
