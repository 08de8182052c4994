-- What a line says is what one of the forms of its grammar says.
use Rattle.std.proofs.Common.{◌≡◌, ◌⊎◌, ℕ, ◌+◌, ◌<◌, ◌≤◌, ◌*◌, Bool, true, false, ◌==◌, cond, nat_lt, List, [], ◌∷◌, ◌++◌, length, take, Option, Some, None, Result, Ok, Err, refl, ap, arith, subst, inl, inr, ⊎_elim}
use Rattle.std.specs.Char.{digit_value}
use Rattle.std.specs.Cmp.Lexicographic.{pointwise}
use Rattle.std.proofs.lemmas.Bool.{ltb-false}
use Rattle.std.proofs.lemmas.Option.{none-some, same_Some}
use Rattle.line_text.specs.declared.forms.Bounds.{Bounds}
use Rattle.line_text.specs.declared.forms.Reject.{Reject}
use Rattle.line_text.specs.declared.forms.Reject.TheVariants.{Bad}
use Rattle.line_text.specs.declared.states.State.{State}
use Rattle.line_text.specs.declared.states.State.TheVariants.{Lead, Comment, Gap, Word, Number, Joint}
use Rattle.line_text.specs.Lines.{Grammar, IsGrammar, IsSaid, then_leads, or_bad, bounded, number_leads, ends_number, is_dot, rest_leads, is_number, word_leads, says_words, says_number, says_line, says_lead, word_at, place_from}
use Rattle.line_text.specs.States.{rest_says, IsState}
use Rattle.line_text.specs.Words.{cut, words_of, is_digit}

-- ---- what a chain of readings gives

pub bound : {A B : Type 0} (r : Result A Reject) (f : A → Result B Reject) (b : B) → then_leads r f ≡ Ok b → (a : A) × (r ≡ Ok a) × (f a ≡ Ok b)
bound (Ok a) f b is = (a, refl, is)
bound {B = B} (Err reject) f b is = absurd (not_ok b is)
  where
    not_ok : (y : B) → ◌≡◌ {A = Result B Reject} (Err reject) (Ok y) → ⊥
    not_ok y is = cc

pub some : {A : Type 0} (o : Option A) (a : A) → or_bad o ≡ Ok a → o ≡ Some a
some {A = A} (Some other) a is = ap (λ b. Some b) (same other a is)
  where
    same : (x y : A) → ◌≡◌ {A = Result A Reject} (Ok x) (Ok y) → x ≡ y
    same x y is = cc
some {A = A} None a is = absurd (not_ok a is)
  where
    not_ok : (y : A) → ◌≡◌ {A = Result A Reject} (Err Bad) (Ok y) → ⊥
    not_ok y is = cc

pub same_ok : {A : Type 0} (x y : A) → ◌≡◌ {A = Result A Reject} (Ok x) (Ok y) → x ≡ y
same_ok x y is = cc

-- which branch a choice took
pub chosen : {A : Type 0} (b : Bool) (x y z : A) → cond b x y ≡ z → ((b ≡ true) × (x ≡ z)) ⊎ ((b ≡ false) × (y ≡ z))
chosen true x y z is = inl (refl, is)
chosen false x y z is = inr (refl, is)

pub not_err : {A : Type 0} (reject : Reject) (a : A) → ◌≡◌ {A = Result A Reject} (Err reject) (Ok a) → ⊥
not_err reject a is = cc

-- a number that is taken lies in its bounds
pub in_bounds : (bounds : Bounds) (value number : ℕ) → bounded bounds value ≡ Ok number → (bounds.least ≤ number) × (number ≤ bounds.most)
in_bounds bounds value number is =
    let low = cond (nat_lt value bounds.least) (Err Bad) (Ok value) in
    ⊎_elim (λ high. absurd (not_err bounds.above number high.1))
    (λ fits. ⊎_elim (λ less. absurd (not_err Bad number less.1))
    (λ more. let same : value ≡ number = same_ok value number more.1 in (omega (arith, same, ltb-false value bounds.least more.0), omega (arith, same, ltb-false bounds.most value fits.0)))
    (chosen (nat_lt value bounds.least) (Err Bad) (Ok value) (Ok number) fits.1))
    (chosen (nat_lt bounds.most value) (Err bounds.above) low (Ok number) is)

place_within : (words : List (List ℕ)) (word : List ℕ) (from place : ℕ) → place_from from words word ≡ Some place → place < from + length words
place_within [] word from place is = absurd (none-some place is)
place_within (first ∷ words) word from place is =
    ⊎_elim (λ here. omega (arith, same_Some from place here.1)) (λ later. omega (arith, place_within words word (from + 1) place later.1))
    (chosen (pointwise ◌==◌ first word) (Some from) (place_from (from + 1) words word) (Some place) is)

module _ {Form Line : Type 0} (G : Grammar Form Line) (IsForm : Form → Type 0) (sound : IsGrammar G IsForm) where
  number_sound : (form next : Form) (value : ℕ) → IsForm form → number_leads G form value ≡ Ok next → IsForm next
  number_sound form next value is leads =
      let own = bound (or_bad (G.bounds form)) (λ bounds. then_leads (bounded bounds value) (λ number. Ok (G.after_number form number))) next leads in
      let fits = bound (bounded own.0 value) (λ number. Ok (G.after_number form number)) next own.2 in
      let range = in_bounds own.0 value fits.0 fits.1 in
      subst IsForm (same_ok (G.after_number form fits.0) next fits.2) (sound.number form own.0 fits.0 is (some (G.bounds form) own.0 own.1) range.0 range.1)

  ends_sound : (form next : Form) (value : ℕ) → IsForm form → ends_number G form value ≡ Ok next → IsForm next
  ends_sound form next value is leads =
      ⊎_elim (λ joined. absurd (not_err Bad next joined.1)) (λ alone. number_sound form next value is alone.1) (chosen (G.joined form) (Err Bad) (number_leads G form value) (Ok next) leads)

  numbers_sound : (word : List ℕ) (form next : Form) (value : Option ℕ) → IsForm form → rest_leads G form value word ≡ Ok next → IsForm next
  numbers_sound [] form next None is leads = absurd (not_err Bad next leads)
  numbers_sound [] form next (Some value) is leads = ends_sound form next value is leads
  numbers_sound (byte ∷ word) form next None is leads =
      ⊎_elim (λ digit. numbers_sound word form next (Some (0 * 10 + digit_value byte)) is digit.1) (λ other. absurd (not_err Bad next other.1))
      (chosen (is_digit byte) (rest_leads G form (Some (0 * 10 + digit_value byte)) word) (Err Bad) (Ok next) leads)
  numbers_sound (byte ∷ word) form next (Some value) is leads =
      let behind = then_leads (number_leads G form value) (λ joined. rest_leads G joined None word) in
      ⊎_elim (λ digit. numbers_sound word form next (Some (value * 10 + digit_value byte)) is digit.1)
      (λ other. ⊎_elim (λ dot. let of = bound (number_leads G form value) (λ joined. rest_leads G joined None word) next dot.1 in numbers_sound word of.0 next None (number_sound form of.0 value is of.1) of.2)
      (λ neither. absurd (not_err Bad next neither.1)) (chosen (is_dot G form byte) behind (Err Bad) (Ok next) other.1))
      (chosen (is_digit byte) (rest_leads G form (Some (value * 10 + digit_value byte)) word) (cond (is_dot G form byte) behind (Err Bad)) (Ok next) leads)

  literal_sound : (form next : Form) (word : List ℕ) → IsForm form → then_leads (or_bad (place_from 0 (G.words form) word)) (λ place. Ok (G.after_word form place)) ≡ Ok next → IsForm next
  literal_sound form next word is leads =
      let of = bound (or_bad (place_from 0 (G.words form) word)) (λ place. Ok (G.after_word form place)) next leads in
      subst IsForm (same_ok (G.after_word form of.0) next of.2) (sound.word form of.0 is (omega (arith, place_within (G.words form) word 0 of.0 (some (place_from 0 (G.words form) word) of.0 of.1))))

  word_sound : (form next : Form) (word : List ℕ) → IsForm form → word_leads G form word ≡ Ok next → IsForm next
  word_sound form next word is leads =
      ⊎_elim (λ number. numbers_sound word form next None is number.1) (λ literal. literal_sound form next word is literal.1)
      (chosen (is_number G form word) (rest_leads G form None word) (then_leads (or_bad (place_from 0 (G.words form) word)) (λ place. Ok (G.after_word form place))) (Ok next) leads)

  words_said : (words : List (List ℕ)) (form : Form) (said : Option Line) → IsForm form → says_words G form words ≡ Ok said → IsSaid G IsForm said
  words_said [] form said is says =
      let of = bound (or_bad (G.says form)) (λ line. Ok (Some line)) said says in
      subst (IsSaid G IsForm) (same_ok (Some of.0) said of.2) (form, is, some (G.says form) of.0 of.1)
  words_said (word ∷ words) form said is says =
      let of = bound (word_leads G form word) (λ next. says_words G next words) said says in
      words_said words of.0 said (word_sound form of.0 word is of.1) of.2

  line_said : (words : List (List ℕ)) (form : Form) (said : Option Line) → IsForm form → says_line G form words ≡ Ok said → IsSaid G IsForm said
  line_said [] form said is says = subst (IsSaid G IsForm) (same_ok None said says) tt
  line_said ([] ∷ words) form said is says = words_said ([] ∷ words) form said is says
  line_said ((letter ∷ letters) ∷ words) form said is says =
      ⊎_elim (λ comment. subst (IsSaid G IsForm) (same_ok None said comment.1) tt) (λ line. words_said ((letter ∷ letters) ∷ words) form said is line.1)
      (chosen (letter == 35) (Ok None) (says_words G form ((letter ∷ letters) ∷ words)) (Ok said) says)

  lead_said : (letters : List ℕ) (others : List (List ℕ)) (form : Form) (said : Option Line) → IsForm form → says_lead G form letters others ≡ Ok said → IsSaid G IsForm said
  lead_said [] others form said is says = line_said others (G.indented form) said (sound.indents form is) says
  lead_said (letter ∷ letters) others form said is says = line_said ((letter ∷ letters) ∷ others) form said is says

  number_said : (value : Option ℕ) (rest : List ℕ) (form : Form) (said : Option Line) → IsForm form → says_number G form value (cut rest) ≡ Ok said → IsSaid G IsForm said
  number_said value rest form said is says =
      let of = bound (rest_leads G form value (cut rest).word) (λ next. says_words G next (cut rest).others) said says in
      words_said (cut rest).others of.0 said (numbers_sound (cut rest).word form of.0 value is of.1) of.2

  pub rest_said : (state : State Form) (rest : List ℕ) (said : Option Line) → IsState G IsForm state → rest_says G state rest ≡ Ok said → IsSaid G IsForm said
  rest_said (Lead form) rest said is says = lead_said (cut rest).word (cut rest).others form said is says
  rest_said Comment rest said is says = subst (IsSaid G IsForm) (same_ok None said says) tt
  rest_said (Gap form) rest said is says = words_said (words_of (cut rest)) form said is says
  rest_said (Word form index at) rest said is says = words_said ((take at (word_at G form index) ++ (cut rest).word) ∷ (cut rest).others) form said is.0 says
  rest_said (Number form bounds value) rest said is says = number_said (Some value) rest form said is.0 says
  rest_said (Joint form) rest said is says = number_said None rest form said is.0 says
