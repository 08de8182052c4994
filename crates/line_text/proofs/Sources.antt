-- A reading of a source, piece by piece.
use Rattle.std.proofs.Common.{◌≡◌, ℕ, ◌+◌, ◌-◌, ◌≤◌, ◌^◌, List, [], ◌∷◌, ◌++◌, Option, Some, None, Result, Ok, Err, IfOk, MatchResult, length, refl, ap, sym, ◌∙◌, arith, subst, inl, inr, ⊎_elim, append_assoc, append-nil, length-append}
use Rattle.std.specs.Io.KnownBytes.{Consumes, Keeps, IsAtEnd}
use Rattle.std.proofs.KnownBytes.{Consumes-nil, Consumes-trans, Consumes-kept}
use Rattle.shared_io.specs.Counts.{Rose}
use Rattle.line_text.specs.declared.bytes.Place.{Place}
use Rattle.line_text.specs.declared.faults.TextFault.{TextFault}
use Rattle.line_text.specs.declared.faults.TextFault.TheVariants.{BadLine, TooLarge, ReadFault, OutOfMemory}
use Rattle.line_text.specs.declared.states.State.TheVariants.{Lead}
use Rattle.line_text.specs.Readings.{Reading, HasCause, IsExcuse, IsRefusal, Stands, HasReached, IsFault}
use Rattle.line_text.specs.States.{IsPlaced}
use Rattle.line_text.specs.Texts.{Text, WasAskedFor, HasText, IsCause, IsRefused, standing}
use Rattle.line_text.proofs.Inputs.{means_one}
use Rattle.line_text.proofs.Standings.{open_nothing, text_longer, fault_longer}

pub placed_start : {Progress Form Line : Type 0} (T : Text Progress Form Line) (IsForm : Form → Type 0) (progress : Progress) → IsForm (T.rules.start progress) → IsPlaced T.grammar IsForm (T.rules.start progress) (Lead (T.rules.start progress))
placed_start T IsForm progress is = record { is_state = is; part = []; leads = λ rest. refl }

-- So many bytes have come of the source, and led to a place from which a text goes on.
pub record HasCome {Progress Form Line : Type 0} (T : Text Progress Form Line) (left_before left_now : Option (List ℕ)) (faults_before faults_now total : ℕ) (progress : Progress) (place : Place Form) : Type 0 where
  pub read : List ℕ
  pub consumed : Consumes left_before left_now read
  pub count : faults_now ≡ faults_before
  pub total_is : length read ≡ total
  pub short : total ≤ 2 ^ 30
  pub stands : Stands T read progress place

module _ {Progress Form Line : Type 0} (T : Text Progress Form Line) where
  pub come_nothing : (left : Option (List ℕ)) (faults : ℕ) (progress : Progress) (place : Place Form) → progress ≡ T.rules.opening → place ≡ record { state = Lead (T.rules.start progress); lines = 0; counted = 0 } → HasCome T left left faults faults 0 progress place
  come_nothing left faults progress place opening start = record {
    read = [];
    consumed = Consumes-nil left;
    count = refl;
    total_is = refl;
    short = omega arith;
    stands = subst (Stands T [] progress) (sym start) (record {
      part = [];
      at = ap (λ p. record { progress = p; part = []; lines = 0; counted = 0; size = 0 }) (sym opening);
      leads = λ rest. refl;
      opened = open_nothing T;
    });
  }

  -- memory is wanting before the first piece
  pub reading_nothing : (left : Option (List ℕ)) (faults : ℕ) (made : Progress) → Reading T left left faults faults (Err OutOfMemory) made
  reading_nothing left faults made = record {
    read = [];
    consumed = Consumes-nil left;
    asked = record { earlier = []; piece = []; parts = refl; opened = open_nothing T; bounded = omega arith };
    count = omega arith;
    steady = λ other. refl;
    means = tt;
  }

  pub fault_behind : (read within piece : List ℕ) (last : ℕ) (fault : TextFault) → piece ≡ within ++ last ∷ [] → IsFault T (read ++ within) ⊥ fault → IsFault T (read ++ piece) ⊥ fault
  fault_behind read within piece last fault parts refused =
      subst (λ (r : List ℕ). IsFault T r ⊥ fault) (append_assoc read within (last ∷ []) ∙ ap (λ (l : List ℕ). read ++ l) (sym parts)) (fault_longer T (read ++ within) (last ∷ []) ⊥ fault refused)

  -- what comes of the byte behind as many as there may be
  pub limit_led : (read within piece : List ℕ) (last : ℕ) (made : Progress) (answer : Result (Option (Place Form)) TextFault) → piece ≡ within ++ last ∷ [] → IfOk answer (λ next. next ≡ None)
      → MatchResult answer (λ next. HasText T ((read ++ within) ++ last ∷ []) ⊥ made) (IsFault T ((read ++ within) ++ last ∷ []) ⊥)
      → MatchResult answer (HasReached T (read ++ piece) made) (IsFault T (read ++ piece) ⊥)
  limit_led read within piece last made (Ok (Some next)) parts none led = absurd (not_some none)
    where
      not_some : Some next ≡ None → ⊥
      not_some is = cc
  limit_led read within piece last made (Ok None) parts none led =
      subst (λ (r : List ℕ). HasText T r ⊥ made) (append_assoc read within (last ∷ []) ∙ ap (λ (l : List ℕ). read ++ l) (sym parts)) led
  limit_led read within piece last made (Err fault) parts none led =
      subst (λ (r : List ℕ). IsFault T r ⊥ fault) (append_assoc read within (last ∷ []) ∙ ap (λ (l : List ℕ). read ++ l) (sym parts)) led

  ended_text : (read : List ℕ) (ended : Type 0) → ended → (made : Progress) → HasText T read (Unit {0}) made → HasText T read ended made
  ended_text read ended at made text = record {
    front = text.front;
    said = text.said;
    opened = text.opened;
    last = text.last;
    within = text.within;
    makes = text.makes;
    whole = ⊎_elim (λ end. inl (at, end.1, end.2)) (λ line. inr line) text.whole;
  }

  ended_refusal : (read : List ℕ) (ended : Type 0) → ended → (fault : TextFault) → IsRefused T read (Unit {0}) fault → IsRefused T read ended fault
  ended_refusal read ended at fault refused = record {
    front = refused.front;
    rest = refused.rest;
    parts = refused.parts;
    opened = refused.opened;
    cause = by refused.rest refused.cause;
    names_line = refused.names_line;
  }
    where
      by : (rest : List ℕ) → IsCause T (standing T refused.front) (Unit {0}) rest fault → IsCause T (standing T refused.front) ended rest fault
      by [] cause = (at, cause.1)
      by (byte ∷ rest) cause = cause

  module _ {left_before left_now : Option (List ℕ)} {faults_before faults_now total : ℕ} {progress : Progress} {place : Place Form} (come : HasCome T left_before left_now faults_before faults_now total progress place) where
    asked_last : WasAskedFor T come.read
    asked_last = record { earlier = come.read; piece = []; parts = sym (append-nil come.read); opened = come.stands.opened; bounded = omega arith }

    -- the source failed
    pub reading_failed : (left_after : Option (List ℕ)) (faults_after : ℕ) (made : Progress) → faults_now ≤ faults_after → Keeps left_now left_after → Rose faults_now faults_after → Reading T left_before left_after faults_before faults_after (Err ReadFault) made
    reading_failed left_after faults_after made rises same rose = record {
      read = come.read;
      consumed = Consumes-kept left_before left_now left_after come.read come.consumed same;
      asked = asked_last;
      count = omega (arith, come.count, rises);
      steady = λ other. absurd (other refl);
      means = (⊎_elim (λ more. inl (omega (arith, more, come.count))) inr rose, come.stands.opened);
    }

    module _ (left_after : Option (List ℕ)) (faults_after : ℕ) (kept : faults_after ≡ faults_now) where
      -- nothing more comes
      ended_cause : (fault : TextFault) → IsAtEnd left_after → IsFault T come.read (Unit {0}) fault → HasCause T come.read (IsAtEnd left_after) (Rose faults_before faults_after) fault
      ended_cause (BadLine line) ended refused = ended_refusal come.read (IsAtEnd left_after) ended (BadLine line) refused
      ended_cause (TooLarge kind line) ended refused = ended_refusal come.read (IsAtEnd left_after) ended (TooLarge kind line) refused
      ended_cause ReadFault ended never = absurd never
      ended_cause OutOfMemory ended free = tt

      ended_means : (answer : Result (Unit {0}) TextFault) (made : Progress) → IsAtEnd left_after → MatchResult answer (λ _. HasText T come.read (Unit {0}) made) (IsFault T come.read (Unit {0}))
          → MatchResult answer (λ _. HasText T come.read (IsAtEnd left_after) made) (HasCause T come.read (IsAtEnd left_after) (Rose faults_before faults_after))
      ended_means (Ok done) made ended text = ended_text come.read (IsAtEnd left_after) ended made text
      ended_means (Err fault) made ended refused = ended_cause fault ended refused

      pub reading_ended : (answer : Result (Unit {0}) TextFault) (made : Progress) → Consumes left_now left_after [] → IsAtEnd left_after → MatchResult answer (λ _. HasText T come.read (Unit {0}) made) (IsFault T come.read (Unit {0}))
          → Reading T left_before left_after faults_before faults_after answer made
      reading_ended answer made none ended means = record {
        read = come.read;
        consumed = subst (Consumes left_before left_after) (append-nil come.read) (Consumes-trans left_before left_now left_after come.read [] come.consumed none);
        asked = asked_last;
        count = omega (arith, come.count, kept);
        steady = λ other. kept ∙ come.count;
        means = ended_means answer made ended means;
      }

      module _ (piece : List ℕ) (consumed : Consumes left_now left_after piece) where
        -- the piece leads on
        pub come_piece : (new : Progress) (next : Place Form) → length piece ≤ 2 ^ 30 - total → Stands T (come.read ++ piece) new next → HasCome T left_before left_after faults_before faults_after (total + length piece) new next
        come_piece new next room stands = record {
          read = come.read ++ piece;
          consumed = Consumes-trans left_before left_now left_after come.read piece come.consumed consumed;
          count = kept ∙ come.count;
          total_is = omega (arith, length-append come.read piece, come.total_is);
          short = omega (arith, room, come.short);
          stands = stands;
        }

        asked_piece : length piece ≤ 2 ^ 16 → WasAskedFor T (come.read ++ piece)
        asked_piece bounded = record { earlier = come.read; piece = piece; parts = refl; opened = come.stands.opened; bounded = bounded }

        -- the text has ended in the piece
        pub reading_done : (made : Progress) → length piece ≤ 2 ^ 16 → HasText T (come.read ++ piece) ⊥ made → Reading T left_before left_after faults_before faults_after (Ok tt) made
        reading_done made bounded text = record {
          read = come.read ++ piece;
          consumed = Consumes-trans left_before left_now left_after come.read piece come.consumed consumed;
          asked = asked_piece bounded;
          count = omega (arith, come.count, kept);
          steady = λ other. kept ∙ come.count;
          means = subst (λ (r : List ℕ). HasText T r (IsAtEnd left_after) made) (append-nil (come.read ++ piece)) (text_longer T (come.read ++ piece) [] (IsAtEnd left_after) made text);
        }

        stopped_means : (fault : TextFault) → IsFault T (come.read ++ piece) ⊥ fault → HasCause T (come.read ++ piece) (IsAtEnd left_after) (Rose faults_before faults_after) fault
        stopped_means fault refused = by fault (subst (λ (r : List ℕ). IsFault T r (IsAtEnd left_after) fault) (append-nil (come.read ++ piece)) (fault_longer T (come.read ++ piece) [] (IsAtEnd left_after) fault refused))
          where
            by : (fault : TextFault) → IsFault T (come.read ++ piece) (IsAtEnd left_after) fault → HasCause T (come.read ++ piece) (IsAtEnd left_after) (Rose faults_before faults_after) fault
            by (BadLine line) refused = refused
            by (TooLarge kind line) refused = refused
            by ReadFault never = absurd never
            by OutOfMemory free = tt

        -- the piece has a byte that is refused, or memory is wanting
        pub reading_stopped : (fault : TextFault) (made : Progress) → length piece ≤ 2 ^ 16 → IsFault T (come.read ++ piece) ⊥ fault → Reading T left_before left_after faults_before faults_after (Err fault) made
        reading_stopped fault made bounded refused = record {
          read = come.read ++ piece;
          consumed = Consumes-trans left_before left_now left_after come.read piece come.consumed consumed;
          asked = asked_piece bounded;
          count = omega (arith, come.count, kept);
          steady = λ other. kept ∙ come.count;
          means = stopped_means fault refused;
        }

  -- ---- what an answer says of the whole input

  pub text_input : (input read : List ℕ) (made : Progress) (rest : List ℕ) → input ≡ read ++ rest → HasText T read (rest ≡ []) made → HasText T input (Unit {0}) made
  text_input input read made rest parts text = record {
    front = text.front;
    said = text.said;
    opened = text.opened;
    last = text.last;
    within = text.within;
    makes = text.makes;
    whole = ⊎_elim (λ end. inl (tt, parts ∙ (ap (λ (r : List ℕ). read ++ r) end.0 ∙ (append-nil read ∙ end.1)), end.2))
        (λ line. inr (line.0 ++ rest, parts ∙ (ap (λ (r : List ℕ). r ++ rest) line.1 ∙ append_assoc text.front (10 ∷ line.0) rest), line.2)) text.whole;
  }

  pub refusal_input : (input read rest : List ℕ) (fault : TextFault) → input ≡ read ++ rest → IsRefused T read (rest ≡ []) fault → IsRefused T input (Unit {0}) fault
  refusal_input input read rest fault parts refused = record {
    front = refused.front;
    rest = refused.rest ++ rest;
    parts = parts ∙ (ap (λ (r : List ℕ). r ++ rest) refused.parts ∙ append_assoc refused.front refused.rest rest);
    opened = refused.opened;
    cause = by refused.rest refused.cause;
    names_line = refused.names_line;
  }
    where
      by : (behind : List ℕ) → IsCause T (standing T refused.front) (rest ≡ []) behind fault → IsCause T (standing T refused.front) (Unit {0}) (behind ++ rest) fault
      by [] cause = subst (λ (r : List ℕ). IsCause T (standing T refused.front) (Unit {0}) r fault) (sym cause.0) (tt, cause.1)
      by (byte ∷ behind) cause = cause

  module _ (input read : List ℕ) (faults_before faults_after : ℕ) (made : Progress) where
    accepted_text : (rest : List ℕ) (answer : Result (Unit {0}) TextFault) (other : Progress) → input ≡ read ++ rest → MatchResult answer (λ _. HasText T read (rest ≡ []) made) (HasCause T read (rest ≡ []) (Rose faults_before faults_after)) → HasText T input (Unit {0}) other
        → MatchResult answer (λ _. made ≡ other) (IsExcuse (Rose faults_before faults_after))
    accepted_text rest (Ok done) other parts means text = (means_one T input).text made other (text_input input read made rest parts means) text
    accepted_text rest (Err (BadLine line)) other parts means text = (means_one T input).either other (BadLine line) text (refusal_input input read rest (BadLine line) parts means)
    accepted_text rest (Err (TooLarge kind line)) other parts means text = (means_one T input).either other (TooLarge kind line) text (refusal_input input read rest (TooLarge kind line) parts means)
    accepted_text rest (Err ReadFault) other parts means text = means.0
    accepted_text rest (Err OutOfMemory) other parts means text = tt

    refused_text : (rest : List ℕ) (answer : Result (Unit {0}) TextFault) (refusal : TextFault) → input ≡ read ++ rest → MatchResult answer (λ _. HasText T read (rest ≡ []) made) (HasCause T read (rest ≡ []) (Rose faults_before faults_after)) → IsRefused T input (Unit {0}) refusal
        → MatchResult answer (λ _. ⊥) (IsRefusal refusal (Rose faults_before faults_after))
    refused_text rest (Ok done) refusal parts means refused = (means_one T input).either made refusal (text_input input read made rest parts means) refused
    refused_text rest (Err (BadLine line)) refusal parts means refused = (means_one T input).refusal (BadLine line) refusal (refusal_input input read rest (BadLine line) parts means) refused
    refused_text rest (Err (TooLarge kind line)) refusal parts means refused = (means_one T input).refusal (TooLarge kind line) refusal (refusal_input input read rest (TooLarge kind line) parts means) refused
    refused_text rest (Err ReadFault) refusal parts means refused = means.0
    refused_text rest (Err OutOfMemory) refusal parts means refused = tt

  module _ (input : List ℕ) (before after : Option (List ℕ)) (faults_before faults_after : ℕ) (answer : Result (Unit {0}) TextFault) (made : Progress) (told : before ≡ Some input) (reading : Reading T before after faults_before faults_after answer made) where
    known : Consumes (Some input) after reading.read
    known = subst (λ (l : Option (List ℕ)). Consumes l after reading.read) told reading.consumed

    abbrev Means : Option (List ℕ) → Type 0
    Means left = MatchResult answer (λ _. HasText T reading.read (IsAtEnd left) made) (HasCause T reading.read (IsAtEnd left) (Rose faults_before faults_after))

    pub accepted_reading : (other : Progress) → HasText T input (Unit {0}) other → MatchResult answer (λ _. made ≡ other) (IsExcuse (Rose faults_before faults_after))
    accepted_reading other text = by after known reading.means
      where
        by : (left : Option (List ℕ)) → Consumes (Some input) left reading.read → Means left → MatchResult answer (λ _. made ≡ other) (IsExcuse (Rose faults_before faults_after))
        by None never means = absurd never
        by (Some rest) parts means = accepted_text input reading.read faults_before faults_after made rest answer other parts means text

    pub refused_reading : (refusal : TextFault) → IsRefused T input (Unit {0}) refusal → MatchResult answer (λ _. ⊥) (IsRefusal refusal (Rose faults_before faults_after))
    refused_reading refusal refused = by after known reading.means
      where
        by : (left : Option (List ℕ)) → Consumes (Some input) left reading.read → Means left → MatchResult answer (λ _. ⊥) (IsRefusal refusal (Rose faults_before faults_after))
        by None never means = absurd never
        by (Some rest) parts means = refused_text input reading.read faults_before faults_after made rest answer refusal parts means refused
