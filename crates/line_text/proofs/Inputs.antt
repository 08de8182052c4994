-- A reading of a source, piece by piece; and that an input means one thing.
use Rattle.std.proofs.Common.{◌≡◌, ◌≢◌, ◌⊎◌, ℕ, ◌+◌, ◌<◌, ◌^◌, true, false, List, [], ◌∷◌, ◌++◌, length, Option, Result, Ok, Err, MatchBool, refl, ap, ap₂, sym, ◌∙◌, arith, subst, inl, inr, ⊎_elim, append-nil}
use Rattle.std.proofs.lemmas.Bool.{false≢true, ne_eqb}
use Rattle.shared_io.specs.declared.limits.TooKind.{TooKind}
use Rattle.shared_io.specs.declared.limits.TooKind.TheVariants.{Bytes}
use Rattle.line_text.specs.declared.bytes.Place.{Place}
use Rattle.line_text.specs.declared.faults.TextFault.{TextFault}
use Rattle.line_text.specs.declared.faults.TextFault.TheVariants.{BadLine, TooLarge, ReadFault, OutOfMemory}
use Rattle.line_text.specs.declared.forms.Reject.{Reject}
use Rattle.line_text.specs.declared.forms.Reject.TheVariants.{Bad, TooLarge as TooLargeReject}
use Rattle.line_text.specs.Readings.{Stands, IsFault, IsTakeFault}
use Rattle.line_text.specs.States.{IsStopped, RejectsByte, rest_says}
use Rattle.line_text.specs.Texts.{Text, Standing, standing, said_at, rest_of, GoesOn, AddsLine, IsWithin, Passes, IsOpen, HasText, EndsText, IsTooMany, Exceeds, IsByteCause, IsEndCause, IsCause, NamesLine, IsRefused, MeansOne}
use Rattle.line_text.proofs.Standings.{lines_at, counted_at, size_at, rest_at}

same_Ok : {A : Type 0} (x y : A) → ◌≡◌ {A = Result A Reject} (Ok x) (Ok y) → x ≡ y
same_Ok x y is = cc

-- of two fronts of one list the one is shorter, or they are the same
fronts : (one other rest behind : List ℕ) → one ++ rest ≡ other ++ behind
    → ((byte : ℕ) × (more : List ℕ) × (other ≡ one ++ byte ∷ more) × (rest ≡ byte ∷ (more ++ behind))) ⊎ (((one ≡ other) × (rest ≡ behind)) ⊎ ((byte : ℕ) × (more : List ℕ) × (one ≡ other ++ byte ∷ more) × (behind ≡ byte ∷ (more ++ rest))))
fronts [] [] rest behind is = inr (inl (refl, is))
fronts [] (byte ∷ other) rest behind is = inl (byte, other, refl, is)
fronts (byte ∷ one) [] rest behind is = inr (inr (byte, one, refl, sym is))
fronts (byte ∷ one) (first ∷ other) rest behind is =
    let tails : one ++ rest ≡ other ++ behind = cc in
    let heads : byte ≡ first = cc in
    ⊎_elim (λ less. inl (less.0, less.1, cc, less.3)) (⊎_elim (λ same. inr (inl (cc, same.1))) (λ more. inr (inr (more.0, more.1, cc, more.3)))) (fronts one other rest behind tails)

module _ {Progress Form Line : Type 0} (T : Text Progress Form Line) where
  -- ---- the end of the input

  module _ (read : List ℕ) (progress : Progress) (place : Place Form) (stands : Stands T read progress place) where
    pub end_text : (new : Progress) (said : Option Line) → rest_says T.grammar place.state [] ≡ Ok said → T.rules.may_be_last said ≡ true → (T.rules.counts said ≡ true → place.counted < T.rules.most) → new ≡ T.rules.after progress said
        → HasText T read (Unit {0}) new
    end_text new said says last few makes = record {
      front = read;
      said = said;
      opened = stands.opened;
      last = rest_at T read progress place stands [] ∙ says;
      within = λ counts. omega (arith, few counts, counted_at T read progress place stands);
      makes = makes ∙ ap (λ (a : Standing Progress). T.rules.after a.progress said) (sym stands.at);
      whole = inl (tt, refl, last);
    }

    end_refused : (fault : TextFault) → IsEndCause T (standing T read) fault → NamesLine fault ((standing T read).lines + 1) → IsRefused T read (Unit {0}) fault
    end_refused fault cause names = record { front = read; rest = []; parts = sym (append-nil read); opened = stands.opened; cause = (tt, cause); names_line = names }

    same_said : (said other : Option Line) → rest_says T.grammar place.state [] ≡ Ok said → said_at T (standing T read) ≡ Ok other → said ≡ other
    same_said said other says is = same_Ok said other (sym says ∙ (sym (rest_at T read progress place stands []) ∙ is))

    pub end_bad : (reject : Reject) → rest_says T.grammar place.state [] ≡ Err reject → IsRefused T read (Unit {0}) (BadLine (place.lines + 1))
    end_bad reject says =
        end_refused (BadLine (place.lines + 1)) (λ may. not_ok may.0 (sym may.1 ∙ (rest_at T read progress place stands [] ∙ says))) (omega (arith, lines_at T read progress place stands))
      where
        not_ok : (said : Option Line) → Ok said ≡ Err reject → ⊥
        not_ok said is = cc

    pub end_not_last : (said : Option Line) → rest_says T.grammar place.state [] ≡ Ok said → T.rules.may_be_last said ≡ false → IsRefused T read (Unit {0}) (BadLine (place.lines + 1))
    end_not_last said says last =
        end_refused (BadLine (place.lines + 1)) (λ may. false≢true (sym last ∙ (ap T.rules.may_be_last (same_said said may.0 says may.1) ∙ may.2))) (omega (arith, lines_at T read progress place stands))

    pub end_fault : (said : Option Line) (fault : TextFault) → rest_says T.grammar place.state [] ≡ Ok said → T.rules.may_be_last said ≡ true → IsTakeFault T place.lines place.counted said fault → IsFault T read (Unit {0}) fault
    end_fault said fault says last (inl memory) = subst (IsFault T read (Unit {0})) (sym memory) tt
    end_fault said fault says last (inr many) =
        let is = rest_at T read progress place stands [] ∙ says in
        subst (IsFault T read (Unit {0})) (sym many.0)
        (end_refused (TooLarge T.rules.kind (place.lines + 1)) ((said, is, last), (refl, said, is, many.1, counted_at T read progress place stands ∙ many.2)) (omega (arith, lines_at T read progress place stands)))

    -- ---- behind as many bytes as there may be

    pub limit_text : (byte : ℕ) (new : Progress) (said : Option Line) → byte ≡ 10 → rest_says T.grammar place.state [] ≡ Ok said → T.rules.ends said ≡ true → (T.rules.counts said ≡ true → place.counted < T.rules.most) → new ≡ T.rules.after progress said
        → HasText T (read ++ byte ∷ []) ⊥ new
    limit_text byte new said end says ends few makes = record {
      front = read;
      said = said;
      opened = stands.opened;
      last = rest_at T read progress place stands [] ∙ says;
      within = λ counts. omega (arith, few counts, counted_at T read progress place stands);
      makes = makes ∙ ap (λ (a : Standing Progress). T.rules.after a.progress said) (sym stands.at);
      whole = inr ([], ap (λ b. read ++ b ∷ []) end, ends);
    }

    pub limit_refused : (byte : ℕ) → length read ≡ 2 ^ 30 → (EndsText T (standing T read) byte → ⊥) → IsRefused T (read ++ byte ∷ []) ⊥ (TooLarge Bytes (place.lines + 1))
    limit_refused byte long not = record {
      front = read;
      rest = byte ∷ [];
      parts = refl;
      opened = stands.opened;
      cause = inr (size_at T read progress place stands ∙ long, refl, not);
      names_line = omega (arith, lines_at T read progress place stands);
    }

    pub limit_no_end : (byte : ℕ) → length read ≡ 2 ^ 30 → (byte ≢ 10) → IsRefused T (read ++ byte ∷ []) ⊥ (TooLarge Bytes (place.lines + 1))
    limit_no_end byte long within = limit_refused byte long (λ ends. within ends.0)

    pub limit_bad : (byte : ℕ) (reject : Reject) → length read ≡ 2 ^ 30 → rest_says T.grammar place.state [] ≡ Err reject → IsRefused T (read ++ byte ∷ []) ⊥ (TooLarge Bytes (place.lines + 1))
    limit_bad byte reject long says = limit_refused byte long (λ ends. not_ok ends.1 (sym ends.2 ∙ (rest_at T read progress place stands [] ∙ says)))
      where
        not_ok : (said : Option Line) → Ok said ≡ Err reject → ⊥
        not_ok said is = cc

    pub limit_goes_on : (byte : ℕ) (said : Option Line) → length read ≡ 2 ^ 30 → rest_says T.grammar place.state [] ≡ Ok said → T.rules.ends said ≡ false → IsRefused T (read ++ byte ∷ []) ⊥ (TooLarge Bytes (place.lines + 1))
    limit_goes_on byte said long says goes = limit_refused byte long (λ ends. false≢true (sym goes ∙ (ap T.rules.ends (same_said said ends.1 says ends.2) ∙ ends.3)))

    pub limit_many : (byte : ℕ) (said : Option Line) → length read ≡ 2 ^ 30 → rest_says T.grammar place.state [] ≡ Ok said → T.rules.counts said ≡ true → place.counted ≡ T.rules.most → IsRefused T (read ++ byte ∷ []) ⊥ (TooLarge Bytes (place.lines + 1))
    limit_many byte said long says counts many =
        limit_refused byte long (λ ends. omega (arith, many, counted_at T read progress place stands, ends.4 (sym (ap T.rules.counts (same_said said ends.1 says ends.2)) ∙ counts)))

  -- ---- an input means one thing

  -- what was read passes up to here, and not on
  record Stop (input : List ℕ) : Type 0 where
    front : List ℕ
    rest : List ℕ
    whole : input ≡ front ++ rest
    opened : IsOpen T front
    stops : (byte : ℕ) (more : List ℕ) → rest ≡ byte ∷ more → Passes T (standing T front) byte → ⊥

  same_stop : (input : List ℕ) (one other : Stop input) → (one.front ≡ other.front) × (one.rest ≡ other.rest)
  same_stop input one other =
      ⊎_elim (λ less. absurd (one.stops less.0 (less.1 ++ other.rest) less.3 (other.opened one.front less.1 less.0 less.2)))
      (⊎_elim (λ same. same) (λ more. absurd (other.stops more.0 (more.1 ++ one.rest) more.3 (one.opened other.front more.1 more.0 more.2))))
      (fronts one.front other.front one.rest other.rest (sym one.whole ∙ other.whole))

  passes_line : (at : Standing Progress) → Passes T at 10 → AddsLine T at
  passes_line at passes = passes.1

  passes_byte : (at : Standing Progress) (byte : ℕ) → (byte ≢ 10) → Passes T at byte → GoesOn (λ rest. rest_of T at (byte ∷ rest))
  passes_byte at byte within passes = subst (λ b. MatchBool b (AddsLine T at) (GoesOn (λ rest. rest_of T at (byte ∷ rest)))) (ne_eqb byte 10 within) passes.1

  said_once : (at : Standing Progress) (said other : Option Line) → said_at T at ≡ Ok said → said_at T at ≡ Ok other → said ≡ other
  said_once at said other one two = same_Ok said other (sym one ∙ two)

  ok_err : (at : Result (Option Line) Reject) (said : Option Line) (reject : Reject) → at ≡ Ok said → at ≡ Err reject → ⊥
  ok_err at said reject ok err = cc

  bad_too : (at : Result (Option Line) Reject) (kind : TooKind) → at ≡ Err Bad → at ≡ Err (TooLargeReject kind) → ⊥
  bad_too at kind bad too = cc

  stops_passes : (at : Standing Progress) (byte : ℕ) (reject : Reject) → (byte ≢ 10) → IsStopped (λ rest. rest_of T at (byte ∷ rest)) reject → GoesOn (λ rest. rest_of T at (byte ∷ rest)) → ⊥
  stops_passes at byte Bad within stops goes = ok_err (rest_of T at (byte ∷ goes.0)) goes.1 Bad goes.2 (stops goes.0)
  stops_passes at byte (TooLargeReject kind) within stops goes =
      ⊎_elim (λ bad. ok_err (rest_of T at (byte ∷ goes.0)) goes.1 Bad goes.2 bad) (λ too. ok_err (rest_of T at (byte ∷ goes.0)) goes.1 (TooLargeReject kind) goes.2 too) (stops.0 goes.0)

  rejects_passes : (at : Standing Progress) (byte : ℕ) (reject : Reject) → RejectsByte (rest_of T at) byte reject → Passes T at byte → ⊥
  rejects_passes at byte Bad (inl ends) passes = let adds = passes_line at (subst (Passes T at) ends.0 passes) in ok_err (said_at T at) adds.0 Bad adds.1 ends.1
  rejects_passes at byte Bad (inr stops) passes = stops_passes at byte Bad stops.0 stops.1 (passes_byte at byte stops.0 passes)
  rejects_passes at byte (TooLargeReject kind) stops passes = stops_passes at byte (TooLargeReject kind) stops.0 stops.1 (passes_byte at byte stops.0 passes)

  many_passes : (at : Standing Progress) (kind : TooKind) → IsTooMany T at kind → Passes T at 10 → ⊥
  many_passes at kind many passes =
      let adds = passes_line at passes in
      omega (arith, many.4, adds.3 (sym (ap T.rules.counts (said_once at many.1 adds.0 many.2 adds.1)) ∙ many.3))

  cause_passes : (at : Standing Progress) (byte : ℕ) (fault : TextFault) → IsByteCause T at byte fault → Passes T at byte → ⊥
  cause_passes at byte (BadLine line) cause passes = rejects_passes at byte Bad cause.1 passes
  cause_passes at byte (TooLarge kind line) (inl cause) passes =
      ⊎_elim (λ rejects. rejects_passes at byte (TooLargeReject kind) rejects passes) (λ many. many_passes at kind many.1 (subst (Passes T at) many.0 passes)) cause.1
  cause_passes at byte (TooLarge kind line) (inr cause) passes = omega (arith, cause.0, passes.0)
  cause_passes at byte ReadFault cause passes = cause
  cause_passes at byte OutOfMemory cause passes = cause

  abbrev refusal_stop : (input : List ℕ) (fault : TextFault) → IsRefused T input (Unit {0}) fault → Stop input
  refusal_stop input fault refused = record {
    front = refused.front;
    rest = refused.rest;
    whole = refused.parts;
    opened = refused.opened;
    stops = λ byte more is. cause_passes (standing T refused.front) byte fault (subst (λ (r : List ℕ). IsCause T (standing T refused.front) (Unit {0}) r fault) is refused.cause);
  }

  abbrev HasWhole : List ℕ → List ℕ → Option Line → Type 0
  HasWhole input front said = (Unit {0} × (input ≡ front) × (T.rules.may_be_last said ≡ true)) ⊎ ((rest : List ℕ) × (input ≡ front ++ 10 ∷ rest) × (T.rules.ends said ≡ true))

  abbrev text_rest : (input front : List ℕ) (said : Option Line) → HasWhole input front said → List ℕ
  text_rest input front said (inl end) = []
  text_rest input front said (inr line) = 10 ∷ line.0

  text_whole : (input front : List ℕ) (said : Option Line) (whole : HasWhole input front said) → input ≡ front ++ text_rest input front said whole
  text_whole input front said (inl end) = end.1 ∙ sym (append-nil front)
  text_whole input front said (inr line) = line.1

  text_stops : (input front : List ℕ) (said : Option Line) (whole : HasWhole input front said) → said_at T (standing T front) ≡ Ok said → (byte : ℕ) (more : List ℕ) → text_rest input front said whole ≡ byte ∷ more → Passes T (standing T front) byte → ⊥
  text_stops input front said (inl end) last byte more is passes = omega (arith, ap length is)
  text_stops input front said (inr line) last byte more is passes =
      let end : 10 ≡ byte = cc in
      let adds = passes_line (standing T front) (subst (Passes T (standing T front)) (sym end) passes) in
      false≢true (sym adds.2 ∙ (ap T.rules.ends (said_once (standing T front) adds.0 said adds.1 last) ∙ line.2))

  abbrev text_stop : (input : List ℕ) (made : Progress) → HasText T input (Unit {0}) made → Stop input
  text_stop input made text = record {
    front = text.front;
    rest = text_rest input text.front text.said text.whole;
    whole = text_whole input text.front text.said text.whole;
    opened = text.opened;
    stops = text_stops input text.front text.said text.whole text.last;
  }

  one_made : (input : List ℕ) (made other : Progress) → HasText T input (Unit {0}) made → HasText T input (Unit {0}) other → made ≡ other
  one_made input made other one two =
      let same = same_stop input (text_stop input made one) (text_stop input other two) in
      let front : one.front ≡ two.front = same.0 in
      let said = said_once (standing T two.front) one.said two.said (subst (λ (f : List ℕ). said_at T (standing T f) ≡ Ok one.said) front one.last) two.last in
      one.makes ∙ (ap (λ (f : List ℕ). T.rules.after (standing T f).progress one.said) front ∙ (ap (T.rules.after (standing T two.front).progress) said ∙ sym two.makes))

  -- ---- one refusal

  one_kind : (at : Standing Progress) (byte : ℕ) (kind other : TooKind) → RejectsByte (rest_of T at) byte (TooLargeReject kind) → RejectsByte (rest_of T at) byte (TooLargeReject other) → kind ≡ other
  one_kind at byte kind other one two =
      ⊎_elim (λ bad. absurd (bad_too (rest_of T at (byte ∷ one.1.1.0)) kind bad one.1.1.1)) (λ too. same_kind kind other (sym one.1.1.1 ∙ too)) (two.1.0 one.1.1.0)
    where
      same_kind : (kind other : TooKind) → ◌≡◌ {A = Result (Option Line) Reject} (Err (TooLargeReject kind)) (Err (TooLargeReject other)) → kind ≡ other
      same_kind kind other is = cc

  bad_exceeds : (at : Standing Progress) (byte : ℕ) (kind : TooKind) → RejectsByte (rest_of T at) byte Bad → Exceeds T at byte kind → ⊥
  bad_exceeds at byte kind (inl ends) (inl rejects) = rejects.0 ends.0
  bad_exceeds at byte kind (inl ends) (inr many) = ok_err (said_at T at) many.1.1 Bad many.1.2 ends.1
  bad_exceeds at byte kind (inr stops) (inl rejects) = bad_too (rest_of T at (byte ∷ rejects.1.1.0)) kind (stops.1 rejects.1.1.0) rejects.1.1.1
  bad_exceeds at byte kind (inr stops) (inr many) = stops.0 many.0

  exceeds_once : (at : Standing Progress) (byte : ℕ) (kind other : TooKind) → Exceeds T at byte kind → Exceeds T at byte other → kind ≡ other
  exceeds_once at byte kind other (inl one) (inl two) = one_kind at byte kind other one two
  exceeds_once at byte kind other (inl one) (inr two) = absurd (one.0 two.0)
  exceeds_once at byte kind other (inr one) (inl two) = absurd (two.0 one.0)
  exceeds_once at byte kind other (inr one) (inr two) = one.1.0 ∙ sym two.1.0

  one_byte_cause : (at : Standing Progress) (byte number : ℕ) (fault other : TextFault) → IsByteCause T at byte fault → IsByteCause T at byte other → NamesLine fault number → NamesLine other number → fault ≡ other
  one_byte_cause at byte number (BadLine line) (BadLine another) one two names others = ap (λ n. BadLine n) (names ∙ sym others)
  one_byte_cause at byte number (BadLine line) (TooLarge kind another) one (inl two) names others = absurd (bad_exceeds at byte kind one.1 two.1)
  one_byte_cause at byte number (BadLine line) (TooLarge kind another) one (inr two) names others = absurd (omega (arith, one.0, two.0))
  one_byte_cause at byte number (TooLarge kind line) (BadLine another) (inl one) two names others = absurd (bad_exceeds at byte kind two.1 one.1)
  one_byte_cause at byte number (TooLarge kind line) (BadLine another) (inr one) two names others = absurd (omega (arith, one.0, two.0))
  one_byte_cause at byte number (TooLarge kind line) (TooLarge other another) (inl one) (inl two) names others = ap₂ (λ k n. TooLarge k n) (exceeds_once at byte kind other one.1 two.1) (names ∙ sym others)
  one_byte_cause at byte number (TooLarge kind line) (TooLarge other another) (inl one) (inr two) names others = absurd (omega (arith, one.0, two.0))
  one_byte_cause at byte number (TooLarge kind line) (TooLarge other another) (inr one) (inl two) names others = absurd (omega (arith, one.0, two.0))
  one_byte_cause at byte number (TooLarge kind line) (TooLarge other another) (inr one) (inr two) names others = ap₂ (λ k n. TooLarge k n) (one.1 ∙ sym two.1) (names ∙ sym others)
  one_byte_cause at byte number (BadLine line) ReadFault one two names others = absurd two
  one_byte_cause at byte number (BadLine line) OutOfMemory one two names others = absurd two
  one_byte_cause at byte number (TooLarge kind line) ReadFault one two names others = absurd two
  one_byte_cause at byte number (TooLarge kind line) OutOfMemory one two names others = absurd two
  one_byte_cause at byte number ReadFault other one two names others = absurd one
  one_byte_cause at byte number OutOfMemory other one two names others = absurd one

  one_end_cause : (at : Standing Progress) (number : ℕ) (fault other : TextFault) → IsEndCause T at fault → IsEndCause T at other → NamesLine fault number → NamesLine other number → fault ≡ other
  one_end_cause at number (BadLine line) (BadLine another) one two names others = ap (λ n. BadLine n) (names ∙ sym others)
  one_end_cause at number (BadLine line) (TooLarge kind another) one two names others = absurd (one two.0)
  one_end_cause at number (TooLarge kind line) (BadLine another) one two names others = absurd (two one.0)
  one_end_cause at number (TooLarge kind line) (TooLarge other another) one two names others = ap₂ (λ k n. TooLarge k n) (one.1.0 ∙ sym two.1.0) (names ∙ sym others)
  one_end_cause at number (BadLine line) ReadFault one two names others = absurd two
  one_end_cause at number (BadLine line) OutOfMemory one two names others = absurd two
  one_end_cause at number (TooLarge kind line) ReadFault one two names others = absurd two
  one_end_cause at number (TooLarge kind line) OutOfMemory one two names others = absurd two
  one_end_cause at number ReadFault other one two names others = absurd one
  one_end_cause at number OutOfMemory other one two names others = absurd one

  one_cause : (at : Standing Progress) (rest : List ℕ) (number : ℕ) (fault other : TextFault) → IsCause T at (Unit {0}) rest fault → IsCause T at (Unit {0}) rest other → NamesLine fault number → NamesLine other number → fault ≡ other
  one_cause at [] number fault other one two names others = one_end_cause at number fault other one.1 two.1 names others
  one_cause at (byte ∷ rest) number fault other one two names others = one_byte_cause at byte number fault other one two names others

  one_refusal : (input : List ℕ) (fault other : TextFault) → IsRefused T input (Unit {0}) fault → IsRefused T input (Unit {0}) other → fault ≡ other
  one_refusal input fault other one two =
      let same = same_stop input (refusal_stop input fault one) (refusal_stop input other two) in
      let front : one.front ≡ two.front = same.0 in
      let rest : one.rest ≡ two.rest = same.1 in
      one_cause (standing T two.front) two.rest ((standing T two.front).lines + 1) fault other
      (subst (λ (r : List ℕ). IsCause T (standing T two.front) (Unit {0}) r fault) rest (subst (λ (f : List ℕ). IsCause T (standing T f) (Unit {0}) one.rest fault) front one.cause)) two.cause
      (subst (λ (f : List ℕ). NamesLine fault ((standing T f).lines + 1)) front one.names_line) two.names_line

  -- ---- not both

  made_end : (at : Standing Progress) (said : Option Line) (fault : TextFault) → said_at T at ≡ Ok said → IsWithin T at said → T.rules.may_be_last said ≡ true → IsEndCause T at fault → ⊥
  made_end at said (BadLine line) last within may cause = cause (said, last, may)
  made_end at said (TooLarge kind line) last within may cause =
      let many = cause.1 in
      omega (arith, many.4, within (sym (ap T.rules.counts (said_once at many.1 said many.2 last)) ∙ many.3))
  made_end at said ReadFault last within may cause = cause
  made_end at said OutOfMemory last within may cause = cause

  made_line : (at : Standing Progress) (said : Option Line) (fault : TextFault) → said_at T at ≡ Ok said → IsWithin T at said → T.rules.ends said ≡ true → IsByteCause T at 10 fault → ⊥
  made_line at said (BadLine line) last within ends cause = ⊎_elim (λ end. ok_err (said_at T at) said Bad last end.1) (λ stops. stops.0 refl) cause.1
  made_line at said (TooLarge kind line) last within ends (inl cause) =
      ⊎_elim (λ rejects. rejects.0 refl)
      (λ many. omega (arith, many.1.4, within (sym (ap T.rules.counts (said_once at many.1.1 said many.1.2 last)) ∙ many.1.3))) cause.1
  made_line at said (TooLarge kind line) last within ends (inr cause) = cause.2 (refl, said, last, ends, within)
  made_line at said ReadFault last within ends cause = cause
  made_line at said OutOfMemory last within ends cause = cause

  not_both : (input : List ℕ) (made : Progress) (fault : TextFault) → HasText T input (Unit {0}) made → IsRefused T input (Unit {0}) fault → ⊥
  not_both input made fault text refused =
      let same = same_stop input (text_stop input made text) (refusal_stop input fault refused) in
      by text.whole (subst (λ (f : List ℕ). IsCause T (standing T f) (Unit {0}) refused.rest fault) (sym same.0) refused.cause) same.1
    where
      by : (whole : HasWhole input text.front text.said) → IsCause T (standing T text.front) (Unit {0}) refused.rest fault → text_rest input text.front text.said whole ≡ refused.rest → ⊥
      by (inl end) cause rest = made_end (standing T text.front) text.said fault text.last text.within end.2 (subst (λ (r : List ℕ). IsCause T (standing T text.front) (Unit {0}) r fault) (sym rest) cause).1
      by (inr line) cause rest = made_line (standing T text.front) text.said fault text.last text.within line.2 (subst (λ (r : List ℕ). IsCause T (standing T text.front) (Unit {0}) r fault) (sym rest) cause)

  pub means_one : (input : List ℕ) → MeansOne T input
  means_one input = record { text = one_made input; refusal = one_refusal input; either = not_both input }
