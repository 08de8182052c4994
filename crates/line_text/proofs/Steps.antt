-- Where bytes lead within a line.
use Rattle.std.proofs.Common.{◌≡◌, ◌≢◌, ◌⊎◌, ℕ, ◌+◌, ◌*◌, ◌<◌, ◌≤◌, Bool, true, false, ◌==◌, ◌&&◌, nat_lt, cond, List, [], ◌∷◌, ◌++◌, length, take, Option, Some, None, is_some, Result, Ok, Err, refl, ap, sym, ◌∙◌, arith, subst, inl, inr, ⊎_elim, append_assoc, append-nil}
use Rattle.std.specs.Char.{digit_value}
use Rattle.std.proofs.lemmas.Bool.{cond-true, cond-false, lt-ltb, le-ltb, ne_eqb}
use Rattle.std.proofs.lemmas.List.{length-take-le}
use Rattle.line_text.specs.declared.forms.Bounds.{Bounds}
use Rattle.line_text.specs.declared.forms.Reject.{Reject}
use Rattle.line_text.specs.declared.forms.Reject.TheVariants.{Bad, TooLarge}
use Rattle.line_text.specs.declared.states.State.{State}
use Rattle.line_text.specs.declared.states.State.TheVariants.{Lead, Comment, Gap, Word, Number, Joint}
use Rattle.line_text.specs.declared.states.Step.{Step}
use Rattle.line_text.specs.declared.states.Step.TheVariants.{Next, Ends, Rejects}
use Rattle.line_text.specs.Fronts.{BeginsNone, BeginsOne, IsOutside}
use Rattle.line_text.specs.Lines.{Grammar, then_leads, or_bad, bounded, number_leads, ends_number, is_dot, rest_leads, is_number, word_leads, says_words, says_number, says_line, says_lead, word_at, place_from, IsBounds}
use Rattle.line_text.specs.States.{says_from, rest_says, IsFront, IsStopped, RejectsByte, Leads, Takes}
use Rattle.line_text.specs.Words.{is_blank, Cut, cut, with_word, words_of, behind_blank, with_letter, is_digit, number_behind}
use Rattle.line_text.proofs.Letters.{no_place, front_is, front_fits}

-- ---- one byte of a line

pub cut_blank : (byte : ℕ) (rest : List ℕ) → is_blank byte ≡ true → cut (byte ∷ rest) ≡ behind_blank (cut rest)
cut_blank byte rest blank = cond-true (is_blank byte) (behind_blank (cut rest)) (with_letter byte (cut rest)) blank

pub cut_letter : (byte : ℕ) (rest : List ℕ) → is_blank byte ≡ false → cut (byte ∷ rest) ≡ with_letter byte (cut rest)
cut_letter byte rest letter = cond-false (is_blank byte) (behind_blank (cut rest)) (with_letter byte (cut rest)) letter

-- ---- numbers

pub bounded_in : (bounds : Bounds) (value : ℕ) → bounds.least ≤ value → value ≤ bounds.most → bounded bounds value ≡ Ok value
bounded_in bounds value least most =
    cond-false (nat_lt bounds.most value) (Err bounds.above) (cond (nat_lt value bounds.least) (Err Bad) (Ok value)) (le-ltb bounds.most value most)
    ∙ cond-false (nat_lt value bounds.least) (Err Bad) (Ok value) (le-ltb value bounds.least least)

bounded_low : (bounds : Bounds) (value : ℕ) → value < bounds.least → value ≤ bounds.most → bounded bounds value ≡ Err Bad
bounded_low bounds value low most =
    cond-false (nat_lt bounds.most value) (Err bounds.above) (cond (nat_lt value bounds.least) (Err Bad) (Ok value)) (le-ltb bounds.most value most)
    ∙ cond-true (nat_lt value bounds.least) (Err Bad) (Ok value) (lt-ltb value bounds.least low)

bounded_high : (bounds : Bounds) (value : ℕ) → bounds.most < value → bounded bounds value ≡ Err bounds.above
bounded_high bounds value high = cond-true (nat_lt bounds.most value) (Err bounds.above) (cond (nat_lt value bounds.least) (Err Bad) (Ok value)) (lt-ltb bounds.most value high)

pub digit_more : (value byte : ℕ) (word : List ℕ) → is_digit byte ≡ true → number_behind value (byte ∷ word) ≡ number_behind (value * 10 + digit_value byte) word
digit_more value byte word digit = cond-true (is_digit byte) (number_behind (value * 10 + digit_value byte) word) None digit

and_false : (b : Bool) → (b && false) ≡ false
and_false true = refl
and_false false = refl

module _ {Form Line : Type 0} (G : Grammar Form Line) (IsForm : Form → Type 0) where
  -- ---- two states with one rest

  rejects_alike : (state other : State Form) (byte : ℕ) (reject : Reject) → (byte ≢ 10) → ((rest : List ℕ) → rest_says G state (byte ∷ rest) ≡ rest_says G other (byte ∷ rest))
      → RejectsByte (rest_says G other) byte reject → RejectsByte (rest_says G state) byte reject
  rejects_alike state other byte Bad within alike (inl at) = absurd (within at.0)
  rejects_alike state other byte Bad within alike (inr stops) = inr (within, λ rest. alike rest ∙ stops.1 rest)
  rejects_alike state other byte (TooLarge kind) within alike stops = (
    within,
    (
      λ rest. subst (λ (v : Result (Option Line) Reject). (v ≡ Err Bad) ⊎ (v ≡ Err (TooLarge kind))) (sym (alike rest)) (stops.1.0 rest),
      (stops.1.1.0, alike stops.1.1.0 ∙ stops.1.1.1),
    ),
  )

  -- what a byte does depends on what the rest says alone
  pub takes_alike : (state other : State Form) (byte : ℕ) (step : Step Form Line) → (byte ≢ 10) → ((rest : List ℕ) → rest_says G state (byte ∷ rest) ≡ rest_says G other (byte ∷ rest))
      → Takes G IsForm other byte step → Takes G IsForm state byte step
  takes_alike state other byte (Next next) within alike takes = (within, takes.1, λ rest. alike rest ∙ takes.2 rest)
  takes_alike state other byte (Ends said) within alike takes = absurd (within takes.0)
  takes_alike state other byte (Rejects reject) within alike takes = rejects_alike state other byte reject within alike takes

  -- the same of the end of a line
  pub ends_alike : (state other : State Form) (step : Step Form Line) → rest_says G state [] ≡ rest_says G other [] → Takes G IsForm other 10 step → Takes G IsForm state 10 step
  ends_alike state other (Next next) alike takes = absurd (takes.0 refl)
  ends_alike state other (Ends said) alike takes = (refl, alike ∙ takes.1)
  ends_alike state other (Rejects Bad) alike (inl at) = inl (refl, alike ∙ at.1)
  ends_alike state other (Rejects Bad) alike (inr stops) = absurd (stops.0 refl)
  ends_alike state other (Rejects (TooLarge kind)) alike takes = absurd (takes.0 refl)

  -- the byte leads to where no line goes on
  pub rejects_by : (state next : State Form) (byte : ℕ) (reject : Reject) → (byte ≢ 10) → Leads G state (byte ∷ []) next → IsStopped (rest_says G next) reject → RejectsByte (rest_says G state) byte reject
  rejects_by state next byte Bad within leads stops = inr (within, λ rest. leads rest ∙ stops rest)
  rejects_by state next byte (TooLarge kind) within leads stops = (
    within,
    (
      λ rest. subst (λ (v : Result (Option Line) Reject). (v ≡ Err Bad) ⊎ (v ≡ Err (TooLarge kind))) (sym (leads rest)) (stops.0 rest),
      (stops.1.0, leads stops.1.0 ∙ stops.1.1),
    ),
  )

  pub no_bounds : (form : Form) (byte : ℕ) → G.bounds form ≡ None → is_number G form (byte ∷ []) ≡ false
  no_bounds form byte none = ap (λ o. is_some o && is_digit byte) none

  pub no_number : (form : Form) (byte : ℕ) → is_digit byte ≡ false → is_number G form (byte ∷ []) ≡ false
  no_number form byte digit = ap (λ b. is_some (G.bounds form) && b) digit ∙ and_false (is_some (G.bounds form))

  -- ---- before a word

  lead_words : (form : Form) (word : List ℕ) (others : List (List ℕ)) → G.indented (G.indented form) ≡ G.indented form → says_line G (G.indented form) (with_word word others) ≡ says_lead G (G.indented form) word others
  lead_words form [] others once = ap (λ f. says_line G f others) (sym once)
  lead_words form (letter ∷ letters) others once = refl

  pub lead_blank : (form : Form) (byte : ℕ) → is_blank byte ≡ true → G.indented (G.indented form) ≡ G.indented form → Leads G (Lead form) (byte ∷ []) (Lead (G.indented form))
  lead_blank form byte blank once rest =
      ap (λ (c : Cut). says_lead G form c.word c.others) (cut_blank byte rest blank) ∙ lead_words form (cut rest).word (cut rest).others once

  pub lead_comment : (form : Form) → Leads G (Lead form) (35 ∷ []) Comment
  lead_comment form rest = refl

  pub lead_letter : (form : Form) (byte : ℕ) → is_blank byte ≡ false → (byte ≢ 35) → (rest : List ℕ) → rest_says G (Lead form) (byte ∷ rest) ≡ rest_says G (Gap form) (byte ∷ rest)
  lead_letter form byte letter sign rest =
      let words = says_words G form (words_of (with_letter byte (cut rest))) in
      ap (λ (c : Cut). says_lead G form c.word c.others) (cut_letter byte rest letter)
      ∙ (cond-false (byte == 35) (Ok None) words (ne_eqb byte 35 sign)
      ∙ ap (λ (c : Cut). says_words G form (words_of c)) (sym (cut_letter byte rest letter)))

  pub gap_blank : (form : Form) (byte : ℕ) → is_blank byte ≡ true → Leads G (Gap form) (byte ∷ []) (Gap form)
  gap_blank form byte blank rest = ap (λ (c : Cut). says_words G form (words_of c)) (cut_blank byte rest blank)

  -- ---- what the rest of a word of numbers does, byte by byte

  module _ (form : Form) where
    pub rest_digit : (value byte : ℕ) (word : List ℕ) → is_digit byte ≡ true → rest_leads G form (Some value) (byte ∷ word) ≡ rest_leads G form (Some (value * 10 + digit_value byte)) word
    rest_digit value byte word digit =
        cond-true (is_digit byte) (rest_leads G form (Some (value * 10 + digit_value byte)) word)
        (cond (is_dot G form byte) (then_leads (number_leads G form value) (λ next. rest_leads G next None word)) (Err Bad)) digit

    no_digit_on : (value byte : ℕ) (word : List ℕ) → is_digit byte ≡ false
        → rest_leads G form (Some value) (byte ∷ word) ≡ cond (is_dot G form byte) (then_leads (number_leads G form value) (λ next. rest_leads G next None word)) (Err Bad)
    no_digit_on value byte word digit =
        cond-false (is_digit byte) (rest_leads G form (Some (value * 10 + digit_value byte)) word)
        (cond (is_dot G form byte) (then_leads (number_leads G form value) (λ next. rest_leads G next None word)) (Err Bad)) digit

    pub rest_dot : (value byte : ℕ) (word : List ℕ) → is_digit byte ≡ false → is_dot G form byte ≡ true
        → rest_leads G form (Some value) (byte ∷ word) ≡ then_leads (number_leads G form value) (λ next. rest_leads G next None word)
    rest_dot value byte word digit dot =
        no_digit_on value byte word digit ∙ cond-true (is_dot G form byte) (then_leads (number_leads G form value) (λ next. rest_leads G next None word)) (Err Bad) dot

    rest_other : (value byte : ℕ) (word : List ℕ) → is_digit byte ≡ false → is_dot G form byte ≡ false → rest_leads G form (Some value) (byte ∷ word) ≡ Err Bad
    rest_other value byte word digit dot =
        no_digit_on value byte word digit ∙ cond-false (is_dot G form byte) (then_leads (number_leads G form value) (λ next. rest_leads G next None word)) (Err Bad) dot

    pub rest_first : (byte : ℕ) (word : List ℕ) → is_digit byte ≡ true → rest_leads G form None (byte ∷ word) ≡ rest_leads G form (Some (0 * 10 + digit_value byte)) word
    rest_first byte word digit = cond-true (is_digit byte) (rest_leads G form (Some (0 * 10 + digit_value byte)) word) (Err Bad) digit

    ends_joined : (value : ℕ) → G.joined form ≡ true → ends_number G form value ≡ Err Bad
    ends_joined value is = cond-true (G.joined form) (Err Bad) (number_leads G form value) is

  -- ---- numbers

  module _ (form : Form) (bounds : Bounds) (own : G.bounds form ≡ Some bounds) where
    pub number_in : (value : ℕ) → bounds.least ≤ value → value ≤ bounds.most → number_leads G form value ≡ Ok (G.after_number form value)
    number_in value least most =
        ap (λ o. then_leads (or_bad o) (λ bounds. then_leads (bounded bounds value) (λ bounded. Ok (G.after_number form bounded)))) own
        ∙ ap (λ r. then_leads r (λ bounded. Ok (G.after_number form bounded))) (bounded_in bounds value least most)

    number_out : (value : ℕ) (reject : Reject) → bounded bounds value ≡ Err reject → number_leads G form value ≡ Err reject
    number_out value reject out =
        ap (λ o. then_leads (or_bad o) (λ bounds. then_leads (bounded bounds value) (λ bounded. Ok (G.after_number form bounded)))) own
        ∙ ap (λ r. then_leads r (λ bounded. Ok (G.after_number form bounded))) out

    abbrev says_rest : Option ℕ → List ℕ → List (List ℕ) → Result (Option Line) Reject
    says_rest number word others = says_number G form number (record { word = word; others = others })

    pub gap_digit : (byte : ℕ) → is_blank byte ≡ false → is_digit byte ≡ true → (rest : List ℕ) → rest_says G (Gap form) (byte ∷ rest) ≡ rest_says G (Number form bounds (0 * 10 + digit_value byte)) rest
    gap_digit byte letter digit rest =
        let c = cut rest in
        let word = byte ∷ c.word in
        let literal = then_leads (or_bad (place_from 0 (G.words form) word)) (λ place. Ok (G.after_word form place)) in
        ap (λ (c : Cut). says_words G form (words_of c)) (cut_letter byte rest letter)
        ∙ (ap (λ r. then_leads r (λ next. says_words G next c.others)) (cond-true (is_some (G.bounds form) && is_digit byte) (rest_leads G form None word) literal (ap (λ o. is_some o && is_digit byte) own ∙ digit))
        ∙ ap (λ r. then_leads r (λ next. says_words G next c.others)) (rest_first form byte c.word digit))

    pub joint_digit : (byte : ℕ) → is_blank byte ≡ false → is_digit byte ≡ true → (rest : List ℕ) → rest_says G (Joint form) (byte ∷ rest) ≡ rest_says G (Number form bounds (0 * 10 + digit_value byte)) rest
    joint_digit byte letter digit rest =
        ap (says_from G (Joint form)) (cut_letter byte rest letter) ∙ ap (λ r. then_leads r (λ next. says_words G next (cut rest).others)) (rest_first form byte (cut rest).word digit)

    pub number_digit : (value byte : ℕ) → is_blank byte ≡ false → is_digit byte ≡ true → (rest : List ℕ)
        → rest_says G (Number form bounds value) (byte ∷ rest) ≡ rest_says G (Number form bounds (value * 10 + digit_value byte)) rest
    number_digit value byte letter digit rest =
        ap (says_from G (Number form bounds value)) (cut_letter byte rest letter)
        ∙ ap (λ r. then_leads r (λ next. says_words G next (cut rest).others)) (rest_digit form value byte (cut rest).word digit)

    pub number_letter : (value byte : ℕ) → is_blank byte ≡ false → is_digit byte ≡ false → is_dot G form byte ≡ false → (rest : List ℕ) → rest_says G (Number form bounds value) (byte ∷ rest) ≡ Err Bad
    number_letter value byte letter digit dot rest =
        ap (says_from G (Number form bounds value)) (cut_letter byte rest letter)
        ∙ ap (λ r. then_leads r (λ next. says_words G next (cut rest).others)) (rest_other form value byte (cut rest).word digit dot)

    pub number_dot : (value byte : ℕ) → is_blank byte ≡ false → is_digit byte ≡ false → is_dot G form byte ≡ true → bounds.least ≤ value → value ≤ bounds.most
        → Leads G (Number form bounds value) (byte ∷ []) (Joint (G.after_number form value))
    number_dot value byte letter digit dot least most rest =
        ap (says_from G (Number form bounds value)) (cut_letter byte rest letter)
        ∙ (ap (λ r. then_leads r (λ next. says_words G next (cut rest).others)) (rest_dot form value byte (cut rest).word digit dot)
        ∙ ap (λ r. then_leads (then_leads r (λ next. rest_leads G next None (cut rest).word)) (λ next. says_words G next (cut rest).others)) (number_in value least most))

    pub number_dot_early : (value byte : ℕ) → is_blank byte ≡ false → is_digit byte ≡ false → is_dot G form byte ≡ true → value < bounds.least → value ≤ bounds.most → (rest : List ℕ)
        → rest_says G (Number form bounds value) (byte ∷ rest) ≡ Err Bad
    number_dot_early value byte letter digit dot low most rest =
        ap (says_from G (Number form bounds value)) (cut_letter byte rest letter)
        ∙ (ap (λ r. then_leads r (λ next. says_words G next (cut rest).others)) (rest_dot form value byte (cut rest).word digit dot)
        ∙ ap (λ r. then_leads (then_leads r (λ next. rest_leads G next None (cut rest).word)) (λ next. says_words G next (cut rest).others)) (number_out value Bad (bounded_low bounds value low most)))

    pub number_blank : (value byte : ℕ) (next : Form) → is_blank byte ≡ true → ends_number G form value ≡ Ok next → Leads G (Number form bounds value) (byte ∷ []) (Gap next)
    number_blank value byte next blank ends rest =
        ap (says_from G (Number form bounds value)) (cut_blank byte rest blank)
        ∙ ap (λ r. then_leads r (λ next. says_words G next (words_of (cut rest)))) ends

    pub number_early : (value byte : ℕ) → is_blank byte ≡ true → ends_number G form value ≡ Err Bad → (rest : List ℕ) → rest_says G (Number form bounds value) (byte ∷ rest) ≡ Err Bad
    number_early value byte blank ends rest =
        ap (says_from G (Number form bounds value)) (cut_blank byte rest blank)
        ∙ ap (λ r. then_leads r (λ next. says_words G next (words_of (cut rest)))) ends

    pub number_ends : (value : ℕ) (next : Form) → ends_number G form value ≡ Ok next → rest_says G (Number form bounds value) [] ≡ rest_says G (Gap next) []
    number_ends value next ends = ap (λ r. then_leads r (λ next. says_words G next [])) ends

    pub number_ends_early : (value : ℕ) → ends_number G form value ≡ Err Bad → rest_says G (Number form bounds value) [] ≡ Err Bad
    number_ends_early value ends = ap (λ r. then_leads r (λ next. says_words G next [])) ends

    -- the end of a number that isn't joined to another
    pub ends_in : (value : ℕ) → G.joined form ≡ false → bounds.least ≤ value → value ≤ bounds.most → ends_number G form value ≡ Ok (G.after_number form value)
    ends_in value alone least most = cond-false (G.joined form) (Err Bad) (number_leads G form value) alone ∙ number_in value least most

    pub ends_early : (value : ℕ) → value < bounds.least → value ≤ bounds.most → ends_number G form value ≡ Err Bad
    ends_early value low most = by (G.joined form) refl
      where
        by : (joined : Bool) → G.joined form ≡ joined → ends_number G form value ≡ Err Bad
        by true is = ends_joined form value is
        by false is = cond-false (G.joined form) (Err Bad) (number_leads G form value) is ∙ number_out value Bad (bounded_low bounds value low most)

    -- ---- numbers that have left their bounds

    -- a number that leads nowhere, and none with more digits does
    module _ (others : List (List ℕ)) where
      says_out : (value : ℕ) (reject : Reject) → number_leads G form value ≡ Err reject → (says_rest (Some value) [] others ≡ Err Bad) ⊎ (says_rest (Some value) [] others ≡ Err reject)
      says_out value reject out = by (G.joined form) refl
        where
          by : (joined : Bool) → G.joined form ≡ joined → (says_rest (Some value) [] others ≡ Err Bad) ⊎ (says_rest (Some value) [] others ≡ Err reject)
          by true is = inl (ap (λ r. then_leads r (λ next. says_words G next others)) (ends_joined form value is))
          by false is = inr (ap (λ r. then_leads r (λ next. says_words G next others)) (cond-false (G.joined form) (Err Bad) (number_leads G form value) is ∙ out))

      says_dot : (value byte : ℕ) (word : List ℕ) (reject : Reject) → is_digit byte ≡ false → number_leads G form value ≡ Err reject
          → (says_rest (Some value) (byte ∷ word) others ≡ Err Bad) ⊎ (says_rest (Some value) (byte ∷ word) others ≡ Err reject)
      says_dot value byte word reject digit out = by (is_dot G form byte) refl
        where
          by : (dot : Bool) → is_dot G form byte ≡ dot → (says_rest (Some value) (byte ∷ word) others ≡ Err Bad) ⊎ (says_rest (Some value) (byte ∷ word) others ≡ Err reject)
          by true is =
              inr (ap (λ r. then_leads r (λ next. says_words G next others)) (rest_dot form value byte word digit is)
              ∙ ap (λ r. then_leads (then_leads r (λ next. rest_leads G next None word)) (λ next. says_words G next others)) out)
          by false is = inl (ap (λ r. then_leads r (λ next. says_words G next others)) (rest_other form value byte word digit is))

    -- a number that has passed its bounds says why, or its word is no number
    passed : (word : List ℕ) (value : ℕ) (others : List (List ℕ)) → bounds.most < value → (says_rest (Some value) word others ≡ Err Bad) ⊎ (says_rest (Some value) word others ≡ Err bounds.above)
    passed [] value others high = says_out others value bounds.above (number_out value bounds.above (bounded_high bounds value high))
    passed (byte ∷ word) value others high = by (is_digit byte) refl (passed word (value * 10 + digit_value byte) others (omega (arith, high)))
      where
        by : (digit : Bool) → is_digit byte ≡ digit
            → (says_rest (Some (value * 10 + digit_value byte)) word others ≡ Err Bad) ⊎ (says_rest (Some (value * 10 + digit_value byte)) word others ≡ Err bounds.above) → (says_rest (Some value) (byte ∷ word) others ≡ Err Bad) ⊎ (says_rest (Some value) (byte ∷ word) others ≡ Err bounds.above)
        by true is more =
            subst (λ r. (then_leads r (λ next. says_words G next others) ≡ Err Bad) ⊎ (then_leads r (λ next. says_words G next others) ≡ Err bounds.above)) (sym (rest_digit form value byte word is))
            more
        by false is more = says_dot others value byte word bounds.above is (number_out value bounds.above (bounded_high bounds value high))

    passed_rest : (value : ℕ) → bounds.most < value → (rest : List ℕ) → (rest_says G (Number form bounds value) rest ≡ Err Bad) ⊎ (rest_says G (Number form bounds value) rest ≡ Err bounds.above)
    passed_rest value high rest = passed (cut rest).word value (cut rest).others high

    -- some rest says why: the end of the word, or the dot
    says_why : (value : ℕ) → bounds.most < value → (rest : List ℕ) × (rest_says G (Number form bounds value) rest ≡ Err bounds.above)
    says_why value high = by (G.joined form) refl
      where
        out : number_leads G form value ≡ Err bounds.above
        out = number_out value bounds.above (bounded_high bounds value high)

        by : (joined : Bool) → G.joined form ≡ joined → (rest : List ℕ) × (rest_says G (Number form bounds value) rest ≡ Err bounds.above)
        by true is = (
          46 ∷ [],
          ap (λ r. then_leads r (λ next. says_words G next [])) (rest_dot form value 46 [] refl (ap (λ b. b && true) is))
              ∙ ap (λ r. then_leads (then_leads r (λ next. rest_leads G next None [])) (λ next. says_words G next [])) out,
        )
        by false is = ([], ap (λ r. then_leads r (λ next. says_words G next [])) (cond-false (G.joined form) (Err Bad) (number_leads G form value) is ∙ out))

    stops_above : (value : ℕ) (above : Reject) → bounds.above ≡ above → bounds.most < value → IsStopped (rest_says G (Number form bounds value)) above
    stops_above value Bad is high = λ rest. ⊎_elim (λ bad. bad) (λ past. past ∙ ap (λ r. Err r) is) (passed_rest value high rest)
    stops_above value (TooLarge kind) is high =
        let why = says_why value high in (
          λ rest. ⊎_elim (λ bad. inl bad) (λ past. inr (past ∙ ap (λ r. Err r) is)) (passed_rest value high rest),
          (why.0, why.1 ∙ ap (λ r. Err r) is),
        )

    -- too few for the bounds, and past them with one more digit
    module _ (value : ℕ) (low : value < bounds.least) (most : value ≤ bounds.most) (past : bounds.most < value * 10) (bad : bounds.above ≡ Bad) where
      out_low : number_leads G form value ≡ Err Bad
      out_low = number_out value Bad (bounded_low bounds value low most)

      too_few : (word : List ℕ) (others : List (List ℕ)) → says_rest (Some value) word others ≡ Err Bad
      too_few [] others = ⊎_elim (λ is. is) (λ is. is) (says_out others value Bad out_low)
      too_few (byte ∷ word) others = by (is_digit byte) refl
        where
          by : (digit : Bool) → is_digit byte ≡ digit → says_rest (Some value) (byte ∷ word) others ≡ Err Bad
          by true is =
              ap (λ r. then_leads r (λ next. says_words G next others)) (rest_digit form value byte word is)
              ∙ ⊎_elim (λ none. none) (λ high. high ∙ ap (λ r. Err r) bad) (passed word (value * 10 + digit_value byte) others (omega (arith, past)))
          by false is = ⊎_elim (λ is. is) (λ is. is) (says_dot others value byte word Bad is out_low)

    pub number_stops : (value : ℕ) (reject : Reject) → IsBounds bounds → IsOutside bounds value reject → IsStopped (rest_says G (Number form bounds value)) reject
    number_stops value reject is (inl high) = subst (IsStopped (rest_says G (Number form bounds value))) (sym high.1) (stops_above value bounds.above refl high.0)
    number_stops value reject is (inr low) =
        subst (IsStopped (rest_says G (Number form bounds value))) (sym low.3)
        (λ rest. too_few value low.1 (omega (arith, is.some, low.1, low.2)) low.2 (⊎_elim (λ none. absurd (omega (arith, none, low.1))) (λ bad. bad) is.one_sided) (cut rest).word (cut rest).others)

  -- ---- behind the dot of a number

  joint_blank : (form : Form) (byte : ℕ) → is_blank byte ≡ true → (rest : List ℕ) → rest_says G (Joint form) (byte ∷ rest) ≡ Err Bad
  joint_blank form byte blank rest = ap (says_from G (Joint form)) (cut_blank byte rest blank)

  joint_letter : (form : Form) (byte : ℕ) → is_blank byte ≡ false → is_digit byte ≡ false → (rest : List ℕ) → rest_says G (Joint form) (byte ∷ rest) ≡ Err Bad
  joint_letter form byte letter digit rest =
      ap (says_from G (Joint form)) (cut_letter byte rest letter)
      ∙ ap (λ r. then_leads r (λ next. says_words G next (cut rest).others)) (cond-false (is_digit byte) (rest_leads G form (Some (0 * 10 + digit_value byte)) (cut rest).word) (Err Bad) digit)

  -- where no number may come none is one
  module _ (form : Form) (none : G.bounds form ≡ None) where
    leads_none : (value : ℕ) → number_leads G form value ≡ Err Bad
    leads_none value = ap (λ o. then_leads (or_bad o) (λ bounds. then_leads (bounded bounds value) (λ bounded. Ok (G.after_number form bounded)))) none

    none_ends : (value : ℕ) → ends_number G form value ≡ Err Bad
    none_ends value = by (G.joined form) refl
      where
        by : (joined : Bool) → G.joined form ≡ joined → ends_number G form value ≡ Err Bad
        by true is = ends_joined form value is
        by false is = cond-false (G.joined form) (Err Bad) (number_leads G form value) is ∙ leads_none value

    none_leads : (word : List ℕ) (value : ℕ) → rest_leads G form (Some value) word ≡ Err Bad
    none_leads [] value = none_ends value
    none_leads (byte ∷ word) value = by (is_digit byte) (is_dot G form byte) refl refl (none_leads word (value * 10 + digit_value byte))
      where
        by : (digit dot : Bool) → is_digit byte ≡ digit → is_dot G form byte ≡ dot → rest_leads G form (Some (value * 10 + digit_value byte)) word ≡ Err Bad → rest_leads G form (Some value) (byte ∷ word) ≡ Err Bad
        by true dot is then more = rest_digit form value byte word is ∙ more
        by false true is then more = rest_dot form value byte word is then ∙ ap (λ r. then_leads r (λ next. rest_leads G next None word)) (leads_none value)
        by false false is then more = rest_other form value byte word is then

    joint_none : (byte : ℕ) → is_blank byte ≡ false → is_digit byte ≡ true → (rest : List ℕ) → rest_says G (Joint form) (byte ∷ rest) ≡ Err Bad
    joint_none byte letter digit rest =
        ap (says_from G (Joint form)) (cut_letter byte rest letter)
        ∙ ap (λ r. then_leads r (λ next. says_words G next (cut rest).others))
        (cond-true (is_digit byte) (rest_leads G form (Some (0 * 10 + digit_value byte)) (cut rest).word) (Err Bad) digit ∙ none_leads (cut rest).word (0 * 10 + digit_value byte))

  pub joint_stops : (form : Form) (byte : ℕ) → (is_digit byte ≡ true → G.bounds form ≡ None) → (rest : List ℕ) → rest_says G (Joint form) (byte ∷ rest) ≡ Err Bad
  joint_stops form byte none rest = by (is_blank byte) (is_digit byte) refl refl
    where
      by : (blank digit : Bool) → is_blank byte ≡ blank → is_digit byte ≡ digit → rest_says G (Joint form) (byte ∷ rest) ≡ Err Bad
      by true digit is then = joint_blank form byte is rest
      by false true is then = joint_none form (none then) byte is then rest
      by false false is then = joint_letter form byte is then rest

  -- ---- literal words

  pub is_number_more : (form : Form) (front more : List ℕ) → 0 < length front → is_number G form front ≡ false → is_number G form (front ++ more) ≡ false
  is_number_more form [] more some literal = absurd (omega arith)
  is_number_more form (letter ∷ front) more some literal = literal

  pub literal_leads : (form : Form) (word : List ℕ) → is_number G form word ≡ false → word_leads G form word ≡ then_leads (or_bad (place_from 0 (G.words form) word)) (λ place. Ok (G.after_word form place))
  literal_leads form word literal =
      cond-false (is_number G form word) (rest_leads G form None word) (then_leads (or_bad (place_from 0 (G.words form) word)) (λ place. Ok (G.after_word form place))) literal

  -- no line goes on with letters with which no word begins
  unknown : (form : Form) (front more : List ℕ) (others : List (List ℕ)) → is_number G form (front ++ more) ≡ false → BeginsNone (G.words form) front → says_words G form ((front ++ more) ∷ others) ≡ Err Bad
  unknown form front more others literal none =
      ap (λ r. then_leads r (λ next. says_words G next others))
      (literal_leads form (front ++ more) literal ∙ ap (λ o. then_leads (or_bad o) (λ place. Ok (G.after_word form place))) (no_place (G.words form) front more 0 none))

  pub gap_stops : (form : Form) (byte : ℕ) → is_blank byte ≡ false → is_number G form (byte ∷ []) ≡ false → BeginsNone (G.words form) (byte ∷ []) → (rest : List ℕ) → rest_says G (Gap form) (byte ∷ rest) ≡ Err Bad
  gap_stops form byte letter literal none rest =
      ap (λ (c : Cut). says_words G form (words_of c)) (cut_letter byte rest letter) ∙ unknown form (byte ∷ []) (cut rest).word (cut rest).others literal none

  -- the first letter of a word
  pub gap_letter : (form : Form) (byte index : ℕ) → is_blank byte ≡ false → is_number G form (byte ∷ []) ≡ false → BeginsOne (G.words form) (byte ∷ []) index
      → IsFront G form index 1 × Leads G (Gap form) (byte ∷ []) (Word form index 1)
  gap_letter form byte index letter literal one =
      let is = front_is (word_at G form index) [] byte 0 refl one.1 in (
        record { within = one.0; some = omega arith; front = front_fits (word_at G form index) [] byte 0 refl one.1; no_number = ap (is_number G form) is ∙ literal },
        λ rest. ap (λ (c : Cut). says_words G form (words_of c)) (cut_letter byte rest letter) ∙ ap (λ (w : List ℕ). says_words G form ((w ++ (cut rest).word) ∷ (cut rest).others)) (sym is),
      )

  module _ (form : Form) (index at : ℕ) (is : IsFront G form index at) where
    front_size : length (take at (word_at G form index)) ≡ at
    front_size = length-take-le at (word_at G form index) is.front

    pub word_stops : (byte : ℕ) → is_blank byte ≡ false → BeginsNone (G.words form) (take at (word_at G form index) ++ byte ∷ []) → (rest : List ℕ) → rest_says G (Word form index at) (byte ∷ rest) ≡ Err Bad
    word_stops byte letter none rest =
        let front = take at (word_at G form index) in
        let c = cut rest in
        ap (says_from G (Word form index at)) (cut_letter byte rest letter)
        ∙ (ap (λ (w : List ℕ). says_words G form (w ∷ c.others)) (sym (append_assoc front (byte ∷ []) c.word))
        ∙ unknown form (front ++ byte ∷ []) c.word c.others
        (subst (λ (w : List ℕ). is_number G form w ≡ false) (sym (append_assoc front (byte ∷ []) c.word)) (is_number_more form front (byte ∷ c.word) (omega (arith, front_size, is.some)) is.no_number)) none)

    pub word_letter : (byte other : ℕ) → is_blank byte ≡ false → BeginsOne (G.words form) (take at (word_at G form index) ++ byte ∷ []) other
        → IsFront G form other (at + 1) × Leads G (Word form index at) (byte ∷ []) (Word form other (at + 1))
    word_letter byte other letter one =
        let front = take at (word_at G form index) in
        let longer = front_is (word_at G form other) front byte at front_size one.1 in (
          record {
            within = one.0;
            some = omega arith;
            front = front_fits (word_at G form other) front byte at front_size one.1;
            no_number = ap (is_number G form) longer ∙ is_number_more form front (byte ∷ []) (omega (arith, front_size, is.some)) is.no_number;
          },
          λ rest. ap (says_from G (Word form index at)) (cut_letter byte rest letter)
              ∙ (ap (λ (w : List ℕ). says_words G form (w ∷ (cut rest).others)) (sym (append_assoc front (byte ∷ []) (cut rest).word))
              ∙ ap (λ (w : List ℕ). says_words G form ((w ++ (cut rest).word) ∷ (cut rest).others)) (sym longer)),
        )

    -- the whole word leads to the form behind it
    whole_leads : (place : Option ℕ) → place_from 0 (G.words form) (take at (word_at G form index)) ≡ place → word_leads G form (take at (word_at G form index) ++ []) ≡ then_leads (or_bad place) (λ place. Ok (G.after_word form place))
    whole_leads place found =
        let front = take at (word_at G form index) in
        ap (word_leads G form) (append-nil front) ∙ (literal_leads form front is.no_number ∙ ap (λ o. then_leads (or_bad o) (λ place. Ok (G.after_word form place))) found)

    pub word_blank : (byte place : ℕ) → is_blank byte ≡ true → place_from 0 (G.words form) (take at (word_at G form index)) ≡ Some place → Leads G (Word form index at) (byte ∷ []) (Gap (G.after_word form place))
    word_blank byte place blank found rest =
        ap (says_from G (Word form index at)) (cut_blank byte rest blank) ∙ ap (λ r. then_leads r (λ next. says_words G next (words_of (cut rest)))) (whole_leads (Some place) found)

    pub word_early : (byte : ℕ) → is_blank byte ≡ true → place_from 0 (G.words form) (take at (word_at G form index)) ≡ None → (rest : List ℕ) → rest_says G (Word form index at) (byte ∷ rest) ≡ Err Bad
    word_early byte blank none rest =
        ap (says_from G (Word form index at)) (cut_blank byte rest blank) ∙ ap (λ r. then_leads r (λ next. says_words G next (words_of (cut rest)))) (whole_leads None none)

    pub word_ends : (place : ℕ) → place_from 0 (G.words form) (take at (word_at G form index)) ≡ Some place → rest_says G (Word form index at) [] ≡ rest_says G (Gap (G.after_word form place)) []
    word_ends place found = ap (λ r. then_leads r (λ next. says_words G next [])) (whole_leads (Some place) found)

    pub word_ends_early : place_from 0 (G.words form) (take at (word_at G form index)) ≡ None → rest_says G (Word form index at) [] ≡ Err Bad
    word_ends_early none = ap (λ r. then_leads r (λ next. says_words G next [])) (whole_leads None none)
