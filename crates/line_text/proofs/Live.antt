-- From each state of a line some line goes on.
use Rattle.std.proofs.Common.{◌≡◌, ℕ, ◌+◌, ◌*◌, ◌≤◌, Bool, true, false, ◌&&◌, List, [], ◌∷◌, ◌++◌, take, drop, Some, None, Ok, refl, ap, ◌∙◌, arith, inl, inr, append-nil}
use Rattle.std.specs.Char.{digit_value, digit_char}
use Rattle.std.proofs.lemmas.Bool.{lt-ltb, cases_lt}
use Rattle.std.proofs.lemmas.List.{take-append-drop}
use Rattle.std.proofs.lemmas.Str.{digit_value-digit_char}
use Rattle.line_text.specs.declared.forms.Bounds.{Bounds}
use Rattle.line_text.specs.declared.states.State.{State}
use Rattle.line_text.specs.declared.states.State.TheVariants.{Lead, Comment, Gap, Word, Number, Joint}
use Rattle.line_text.specs.Lines.{Grammar, IsGrammar, then_leads, or_bad, says_words, word_at}
use Rattle.line_text.specs.States.{says_from, rest_says, IsState, IsFront, IsOpen}
use Rattle.line_text.specs.Texts.{GoesOn}
use Rattle.line_text.specs.Words.{cut, words_of, is_digit}
use Rattle.line_text.proofs.Letters.{some_place}
use Rattle.line_text.proofs.Runs.{digit_letter, cut_letters, letters_drop, no_number_whole}
use Rattle.line_text.proofs.Steps.{literal_leads, ends_in, number_blank, number_digit, number_dot}

module _ {Form Line : Type 0} (G : Grammar Form Line) (IsForm : Form → Type 0) (sound : IsGrammar G IsForm) where
  gap_live : (form : Form) → IsForm form → GoesOn (rest_says G (Gap form))
  gap_live form is = let live = sound.goes_on form is in (live.0, Some live.1, live.2)

  -- a number in its bounds goes on behind a blank, or behind the dot that joins it to another
  number_live : (form : Form) (bounds : Bounds) (value : ℕ) → IsForm form → G.bounds form ≡ Some bounds → bounds.least ≤ value → value ≤ bounds.most → GoesOn (rest_says G (Number form bounds value))
  number_live form bounds value is own least most = by (G.joined form) refl
    where
      by : (joined : Bool) → G.joined form ≡ joined → GoesOn (rest_says G (Number form bounds value))
      by true joined =
          let live = sound.joins form bounds value is own least most joined in
          (46 ∷ live.0, Some live.1, number_dot G IsForm form bounds own value 46 refl refl (ap (λ b. b && true) joined) least most live.0 ∙ live.2)
      by false alone =
          let live = gap_live (G.after_number form value) (sound.number form bounds value is own least most) in
          (32 ∷ live.0, live.1, number_blank G IsForm form bounds own value 32 (G.after_number form value) refl (ends_in G IsForm form bounds own value alone least most) live.0 ∙ live.2)

  -- and one that isn't goes on with a digit
  digit_live : (form : Form) (bounds : Bounds) (value digit : ℕ) → IsForm form → G.bounds form ≡ Some bounds → digit ≤ 9 → bounds.least ≤ value * 10 + digit → value * 10 + digit ≤ bounds.most
      → GoesOn (rest_says G (Number form bounds value))
  digit_live form bounds value digit is own small least most =
      let byte = digit_char digit in
      let same : digit_value byte ≡ digit = digit_value-digit_char digit (omega (arith, small)) in
      let digits : is_digit byte ≡ true = lt-ltb (digit_value byte) 10 (omega (arith, same, small)) in
      let live = number_live form bounds (value * 10 + digit_value byte) is own (omega (arith, same, least)) (omega (arith, same, most)) in
      (byte ∷ live.0, live.1, number_digit G IsForm form bounds own value byte (digit_letter byte digits) digits live.0 ∙ live.2)

  open_live : (form : Form) (bounds : Bounds) (value : ℕ) → IsForm form → G.bounds form ≡ Some bounds → IsOpen bounds value → GoesOn (rest_says G (Number form bounds value))
  open_live form bounds value is own (most, inl none) = let b = sound.bounds form bounds is own in digit_live form bounds value bounds.least is own b.digit (omega arith) (omega (arith, none, b.some))
  open_live form bounds value is own (most, inr (inl least)) = number_live form bounds value is own least most
  open_live form bounds value is own (most, inr (inr more)) =
      let b = sound.bounds form bounds is own in
      elim (cases_lt (value * 10) bounds.least) [
        | inl less ↦ digit_live form bounds value bounds.least is own b.digit (omega arith) (omega (arith, less, b.digit, b.some))
        | inr least ↦ digit_live form bounds value 0 is own (omega arith) (omega (arith, least)) (omega (arith, more))
      ]

  word_live : (form : Form) (index at : ℕ) → IsForm form → IsFront G form index at → GoesOn (rest_says G (Word form index at))
  word_live form index at is front =
      let word = word_at G form index in
      let letters = drop at word in
      let place = some_place (G.words form) index 0 front.within in
      let live = gap_live (G.after_word form place.0) (sound.word form place.0 is (omega (arith, place.2))) in (
        letters ++ 32 ∷ live.0,
        live.1,
        ap (says_from G (Word form index at)) (cut_letters letters (32 ∷ live.0) (letters_drop G IsForm word at (sound.letters form index is front.within).1))
            ∙ (ap (λ (w : List ℕ). says_words G form (w ∷ words_of (cut live.0))) (ap (λ (l : List ℕ). take at word ++ l) (append-nil letters) ∙ take-append-drop at word)
            ∙ (ap (λ r. then_leads r (λ next. says_words G next (words_of (cut live.0)))) (literal_leads G IsForm form word (no_number_whole G IsForm sound form index at is front) ∙ ap (λ o. then_leads (or_bad o) (λ place. Ok (G.after_word form place))) place.1)
            ∙ live.2)),
      )

  pub live : (state : State Form) → IsState G IsForm state → GoesOn (rest_says G state)
  live (Lead form) is = ([], None, refl)
  live Comment is = ([], None, refl)
  live (Gap form) is = gap_live form is
  live (Word form index at) is = word_live form index at is.0 is.1
  live (Number form bounds value) is = open_live form bounds value is.0 is.1 is.2
  live (Joint form) is = (is.1.0, Some is.1.1, is.1.2)
