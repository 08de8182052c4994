-- Where bytes lead in a text.
use Rattle.std.proofs.Common.{◌≡◌, ◌≢◌, ◌⊎◌, ℕ, ◌+◌, ◌<◌, ◌≤◌, ◌^◌, true, ◌==◌, List, [], ◌∷◌, ◌++◌, length, take, Option, Some, None, Result, Ok, Err, MatchBool, MatchResult, refl, ap, sym, ◌∙◌, arith, subst, inl, inr, ⊎_elim, append_assoc, append-nil, length-append, add-zero}
use Rattle.std.specs.List.{AllByRecursion}
use Rattle.std.proofs.lemmas.Bool.{cond-false, ne_eqb}
use Rattle.std.proofs.lemmas.List.{length_push, length-take-le}
use Rattle.std.proofs.lemmas.List.Sums.{fold-append}
use Rattle.line_text.specs.declared.bytes.Place.{Place}
use Rattle.line_text.specs.declared.faults.TextFault.{TextFault}
use Rattle.line_text.specs.declared.faults.TextFault.TheVariants.{BadLine, TooLarge, ReadFault, OutOfMemory}
use Rattle.line_text.specs.declared.forms.Reject.{Reject}
use Rattle.line_text.specs.declared.forms.Reject.TheVariants.{Bad, TooLarge as TooLargeReject}
use Rattle.line_text.specs.declared.states.State.{State}
use Rattle.line_text.specs.declared.states.State.TheVariants.{Lead}
use Rattle.line_text.specs.Lines.{IsGrammar, line_says}
use Rattle.line_text.specs.Readings.{Stands, HasReached, HasTaken, IsTakeFault, next_place, IsFault, fault_of}
use Rattle.line_text.specs.Scans.{Goes}
use Rattle.line_text.specs.States.{IsState, Leads, RejectsByte, rest_says}
use Rattle.line_text.specs.Texts.{Text, Standing, rest_of, said_at, count_of, line_ended, longer, moved, beginning, standing, GoesOn, AddsLine, IsWithin, Passes, IsOpen, HasText, IsByteCause, IsCause, NamesLine, IsRefused}
use Rattle.line_text.proofs.Live.{live}

-- ---- one more byte at the end of a list

-- a place in a longer list is in the list, or is the end
pub push_split : (read front rest : List ℕ) (byte last : ℕ) → read ++ last ∷ [] ≡ front ++ byte ∷ rest → ((more : List ℕ) × (read ≡ front ++ byte ∷ more)) ⊎ ((read ≡ front) × (last ≡ byte))
push_split [] [] rest byte last is = inr (refl, cc)
push_split [] (first ∷ front) rest byte last is = absurd (omega (arith, ap length is, length-append front (byte ∷ rest)))
push_split (first ∷ read) [] rest byte last is = inl (read, cc)
push_split (first ∷ read) (other ∷ front) rest byte last is =
    let tails : read ++ last ∷ [] ≡ front ++ byte ∷ rest = cc in
    let heads : first ≡ other = cc in
    ⊎_elim (λ within. inl (within.0, cc)) (λ end. inr (cc, end.1)) (push_split read front rest byte last tails)

module _ {Progress Form Line : Type 0} (T : Text Progress Form Line) where
  pub standing_push : (read : List ℕ) (byte : ℕ) → standing T (read ++ byte ∷ []) ≡ moved T (standing T read) byte
  standing_push read byte = fold-append (moved T) (beginning T) read (byte ∷ [])

  pub moved_on : (at : Standing Progress) (byte : ℕ) → (byte ≢ 10) → moved T at byte ≡ longer at byte
  moved_on at byte within = cond-false (byte == 10) (line_ended T at (said_at T at)) (longer at byte) (ne_eqb byte 10 within)

  -- where bytes of one line lead
  pub standing_run : (bytes read : List ℕ) (progress : Progress) (part : List ℕ) (lines counted size : ℕ) → AllByRecursion (λ byte. byte ≢ 10) bytes
      → standing T read ≡ record { progress = progress; part = part; lines = lines; counted = counted; size = size }
      → standing T (read ++ bytes) ≡ record { progress = progress; part = part ++ bytes; lines = lines; counted = counted; size = size + length bytes }
  standing_run [] read progress part lines counted size line at =
      ap (standing T) (append-nil read) ∙ (at ∙ ap (λ (p : List ℕ). record { progress = progress; part = p; lines = lines; counted = counted; size = size }) (sym (append-nil part))
      ∙ ap (λ n. record { progress = progress; part = part ++ []; lines = lines; counted = counted; size = n }) (sym (add-zero size)))
  standing_run (byte ∷ bytes) read progress part lines counted size line at =
      ap (standing T) (sym (append_assoc read (byte ∷ []) bytes))
      ∙ (standing_run bytes (read ++ byte ∷ []) progress (part ++ byte ∷ []) lines counted (size + 1) line.1
      (standing_push read byte ∙ (moved_on (standing T read) byte line.0 ∙ ap (λ a. longer a byte) at))
      ∙ (ap (λ (p : List ℕ). record { progress = progress; part = p; lines = lines; counted = counted; size = size + 1 + length bytes }) (append_assoc part (byte ∷ []) bytes)
      ∙ ap (λ n. record { progress = progress; part = part ++ byte ∷ bytes; lines = lines; counted = counted; size = n }) (omega arith)))

  -- ---- what is open

  pub open_nothing : IsOpen T []
  open_nothing front rest byte is = absurd (omega (arith, ap length is, length-append front (byte ∷ rest)))

  pub open_push : (read : List ℕ) (byte : ℕ) → IsOpen T read → Passes T (standing T read) byte → IsOpen T (read ++ byte ∷ [])
  open_push read last opened passes front rest byte is =
      ⊎_elim (λ within. opened front within.0 byte within.1)
      (λ end. subst (Passes T (standing T front)) end.1 (subst (λ (r : List ℕ). Passes T (standing T r) last) end.0 passes))
      (push_split read front rest byte last is)

  pub open_front : (front rest : List ℕ) → IsOpen T (front ++ rest) → IsOpen T front
  open_front front rest opened before behind byte is =
      opened before (behind ++ rest) byte (ap (λ (r : List ℕ). r ++ rest) is ∙ append_assoc before (byte ∷ behind) rest)

  pub open_run : (bytes read : List ℕ) → IsOpen T read → ((front rest : List ℕ) (byte : ℕ) → bytes ≡ front ++ byte ∷ rest → Passes T (standing T (read ++ front)) byte) → IsOpen T (read ++ bytes)
  open_run [] read opened passes = subst (IsOpen T) (sym (append-nil read)) opened
  open_run (byte ∷ bytes) read opened passes =
      subst (IsOpen T) (append_assoc read (byte ∷ []) bytes)
      (open_run bytes (read ++ byte ∷ []) (open_push read byte opened (subst (λ (r : List ℕ). Passes T (standing T r) byte) (append-nil read) (passes [] bytes byte refl)))
      (λ front rest next is. subst (λ (r : List ℕ). Passes T (standing T r) next) (sym (append_assoc read (byte ∷ []) front)) (passes (byte ∷ front) rest next (ap (λ (b : List ℕ). byte ∷ b) is))))

  -- ---- bytes of one line

  pub all_front : (front rest : List ℕ) → AllByRecursion (λ byte. byte ≢ 10) (front ++ rest) → AllByRecursion (λ byte. byte ≢ 10) front × AllByRecursion (λ byte. byte ≢ 10) rest
  all_front [] rest all = (tt, all)
  all_front (byte ∷ front) rest all = let others = all_front front rest all.1 in ((all.0, others.0), others.1)

  pub passes_within : (at : Standing Progress) (byte : ℕ) → (byte ≢ 10) → at.size < 2 ^ 30 → GoesOn (λ rest. rest_of T at (byte ∷ rest)) → Passes T at byte
  passes_within at byte within size goes = (size, subst (λ b. MatchBool b (AddsLine T at) (GoesOn (λ rest. rest_of T at (byte ∷ rest)))) (sym (ne_eqb byte 10 within)) goes)

  module _ (IsForm : Form → Type 0) (sound : IsGrammar T.grammar IsForm) where
    pub stands_run : (read run : List ℕ) (progress : Progress) (place : Place Form) (next : State Form) → Stands T read progress place → AllByRecursion (λ byte. byte ≢ 10) run
        → ((rest : List ℕ) → rest_says T.grammar place.state (run ++ rest) ≡ rest_says T.grammar next rest) → IsState T.grammar IsForm next → length read + length run ≤ 2 ^ 30
        → Stands T (read ++ run) progress (record { state = next; lines = place.lines; counted = place.counted })
    stands_run read run progress place next stands line leads is_state short = record {
      part = stands.part ++ run;
      at = standing_run run read progress stands.part place.lines place.counted (length read) line stands.at ∙ ap (λ n. record { progress = progress; part = stands.part ++ run; lines = place.lines; counted = place.counted; size = n }) (sym (length-append read run));
      leads = λ rest. ap (line_says T.grammar (T.rules.start progress)) (append_assoc stands.part run rest) ∙ (stands.leads (run ++ rest) ∙ leads rest);
      opened = open_run run read stands.opened passes;
    }
      where
        passes : (front rest : List ℕ) (byte : ℕ) → run ≡ front ++ byte ∷ rest → Passes T (standing T (read ++ front)) byte
        passes front rest byte is =
            let all = all_front front (byte ∷ rest) (subst (AllByRecursion (λ byte. byte ≢ 10)) is line) in
            let at = standing_run front read progress stands.part place.lines place.counted (length read) all.0 stands.at in
            let ends = live T.grammar IsForm sound next is_state in
            subst (λ (a : Standing Progress). Passes T a byte) (sym at) (passes_within (record { progress = progress; part = stands.part ++ front; lines = place.lines; counted = place.counted; size = length read + length front }) byte all.1.0 (omega (arith, short, ap length is, length-append front (byte ∷ rest))) (
              rest ++ ends.0,
              ends.1,
              ap (line_says T.grammar (T.rules.start progress)) (append_assoc stands.part front (byte ∷ (rest ++ ends.0))
                  ∙ ap (λ (r : List ℕ). stands.part ++ r) (sym (append_assoc front (byte ∷ rest) ends.0) ∙ ap (λ (r : List ℕ). r ++ ends.0) (sym is)))
                  ∙ (stands.leads (run ++ ends.0) ∙ (leads ends.0 ∙ ends.2)),
            ))

    -- bytes that were gone over at once
    pub stands_scan : (read piece : List ℕ) (progress : Progress) (place : Place Form) (count : ℕ) (next : State Form) → Stands T read progress place → Goes T.grammar place.state piece count next → IsState T.grammar IsForm next
        → length read + count ≤ 2 ^ 30 → Stands T (read ++ take count piece) progress (record { state = next; lines = place.lines; counted = place.counted })
    stands_scan read piece progress place count next stands goes is_state short =
        stands_run read (take count piece) progress place next stands goes.line goes.leads is_state (omega (arith, short, length-take-le count piece goes.within))

    pub stands_byte : (read : List ℕ) (byte : ℕ) (progress : Progress) (place : Place Form) (next : State Form) → Stands T read progress place → (byte ≢ 10) → Leads T.grammar place.state (byte ∷ []) next → IsState T.grammar IsForm next
        → length read < 2 ^ 30 → Stands T (read ++ byte ∷ []) progress (record { state = next; lines = place.lines; counted = place.counted })
    stands_byte read byte progress place next stands within leads is_state short = stands_run read (byte ∷ []) progress place next stands (within, tt) leads is_state (omega (arith, short))

  -- ---- the end of a line

  module _ (read : List ℕ) (progress : Progress) (place : Place Form) (stands : Stands T read progress place) where
    pub lines_at : (standing T read).lines ≡ place.lines
    lines_at = ap (λ (a : Standing Progress). a.lines) stands.at

    pub counted_at : (standing T read).counted ≡ place.counted
    counted_at = ap (λ (a : Standing Progress). a.counted) stands.at

    pub size_at : (standing T read).size ≡ length read
    size_at = ap (λ (a : Standing Progress). a.size) stands.at

    pub rest_at : (rest : List ℕ) → rest_of T (standing T read) rest ≡ rest_says T.grammar place.state rest
    rest_at rest = ap (λ (a : Standing Progress). rest_of T a rest) stands.at ∙ stands.leads rest

    within_at : (said : Option Line) → (T.rules.counts said ≡ true → place.counted < T.rules.most) → IsWithin T (standing T read) said
    within_at said few counts = omega (arith, few counts, counted_at)

    pub stands_line : (new : Progress) (said : Option Line) (more : ℕ) → length read < 2 ^ 30 → rest_says T.grammar place.state [] ≡ Ok said → HasTaken T progress new place.counted said (Some more)
        → Stands T (read ++ 10 ∷ []) new (record { state = Lead (T.rules.start new); lines = place.lines + 1; counted = more })
    stands_line new said more short says taken =
        subst (λ n. Stands T (read ++ 10 ∷ []) new (record { state = Lead (T.rules.start new); lines = place.lines + 1; counted = n })) (sym taken.3) (record {
          part = [];
          at = standing_push read 10
              ∙ (ap (λ (a : Standing Progress). line_ended T a (said_at T a)) stands.at
              ∙ (ap (line_ended T (record { progress = progress; part = stands.part; lines = place.lines; counted = place.counted; size = length read })) (stands.leads [] ∙ says)
              ∙ (ap (λ p. record { progress = p; part = []; lines = place.lines + 1; counted = place.counted + count_of T said; size = length read + 1 }) (sym taken.2)
              ∙ ap (λ n. record { progress = new; part = []; lines = place.lines + 1; counted = place.counted + count_of T said; size = n }) (sym (length_push read 10)))));
          leads = λ rest. refl;
          opened = open_push read 10 stands.opened (omega (arith, short, size_at), (said, rest_at [] ∙ says, taken.0, within_at said taken.1));
        })

    pub text_ends : (new : Progress) (said : Option Line) → rest_says T.grammar place.state [] ≡ Ok said → HasTaken T progress new place.counted said None → HasText T (read ++ 10 ∷ []) ⊥ new
    text_ends new said says taken = record {
      front = read;
      said = said;
      opened = stands.opened;
      last = rest_at [] ∙ says;
      within = within_at said taken.1;
      makes = taken.2 ∙ ap (λ (a : Standing Progress). T.rules.after a.progress said) (sym stands.at);
      whole = inr ([], refl, taken.0);
    }

    -- ---- refusals

    rejects_at : (byte : ℕ) (reject : Reject) → RejectsByte (rest_says T.grammar place.state) byte reject → RejectsByte (rest_of T (standing T read)) byte reject
    rejects_at byte Bad (inl ends) = inl (ends.0, rest_at [] ∙ ends.1)
    rejects_at byte Bad (inr stops) = inr (stops.0, λ rest. rest_at (byte ∷ rest) ∙ stops.1 rest)
    rejects_at byte (TooLargeReject kind) stops = (
      stops.0,
      (
        λ rest. subst (λ (v : Result (Option Line) Reject). (v ≡ Err Bad) ⊎ (v ≡ Err (TooLargeReject kind))) (sym (rest_at (byte ∷ rest))) (stops.1.0 rest),
        (stops.1.1.0, rest_at (byte ∷ stops.1.1.0) ∙ stops.1.1.1),
      ),
    )

    byte_cause : (byte : ℕ) (reject : Reject) → length read < 2 ^ 30 → RejectsByte (rest_says T.grammar place.state) byte reject → IsByteCause T (standing T read) byte (fault_of reject (place.lines + 1))
    byte_cause byte Bad short rejects = (omega (arith, short, size_at), rejects_at byte Bad rejects)
    byte_cause byte (TooLargeReject kind) short rejects = inl (omega (arith, short, size_at), inl (rejects_at byte (TooLargeReject kind) rejects))

    names_line : (reject : Reject) → NamesLine (fault_of reject (place.lines + 1)) ((standing T read).lines + 1)
    names_line Bad = omega (arith, lines_at)
    names_line (TooLargeReject kind) = omega (arith, lines_at)

    pub refused_byte : (byte : ℕ) (reject : Reject) → length read < 2 ^ 30 → RejectsByte (rest_says T.grammar place.state) byte reject → IsRefused T (read ++ byte ∷ []) ⊥ (fault_of reject (place.lines + 1))
    refused_byte byte reject short rejects = record {
      front = read;
      rest = byte ∷ [];
      parts = refl;
      opened = stands.opened;
      cause = byte_cause byte reject short rejects;
      names_line = names_line reject;
    }

    pub fault_byte : (byte : ℕ) (reject : Reject) (fault : TextFault) → fault ≡ fault_of reject (place.lines + 1) → length read < 2 ^ 30 → RejectsByte (rest_says T.grammar place.state) byte reject → IsFault T (read ++ byte ∷ []) ⊥ fault
    fault_byte byte reject fault is short rejects = subst (IsFault T (read ++ byte ∷ []) ⊥) (sym is) (by reject rejects)
      where
        by : (reject : Reject) → RejectsByte (rest_says T.grammar place.state) byte reject → IsFault T (read ++ byte ∷ []) ⊥ (fault_of reject (place.lines + 1))
        by Bad rejects = refused_byte byte Bad short rejects
        by (TooLargeReject kind) rejects = refused_byte byte (TooLargeReject kind) short rejects

    pub fault_line : (said : Option Line) (fault : TextFault) → length read < 2 ^ 30 → rest_says T.grammar place.state [] ≡ Ok said → IsTakeFault T place.lines place.counted said fault → IsFault T (read ++ 10 ∷ []) ⊥ fault
    fault_line said fault short says (inl memory) = subst (IsFault T (read ++ 10 ∷ []) ⊥) (sym memory) tt
    fault_line said fault short says (inr many) = subst (IsFault T (read ++ 10 ∷ []) ⊥) (sym many.0) (record {
      front = read;
      rest = 10 ∷ [];
      parts = refl;
      opened = stands.opened;
      cause = inl (omega (arith, short, size_at), inr (refl, (refl, said, rest_at [] ∙ says, many.1, counted_at ∙ many.2)));
      names_line = omega (arith, lines_at);
    })

    -- what comes of a line that ends
    pub led_line : (byte : ℕ) (new : Progress) (said : Option Line) (answer : Result (Option ℕ) TextFault) → length read < 2 ^ 30 → byte ≡ 10 → rest_says T.grammar place.state [] ≡ Ok said
        → MatchResult answer (HasTaken T progress new place.counted said) (IsTakeFault T place.lines place.counted said)
        → MatchResult answer (λ next. HasReached T (read ++ byte ∷ []) new (next_place T new place.lines next)) (IsFault T (read ++ byte ∷ []) ⊥)
    led_line byte new said (Ok (Some more)) short end says taken =
        subst (λ b. Stands T (read ++ b ∷ []) new (record { state = Lead (T.rules.start new); lines = place.lines + 1; counted = more })) (sym end) (stands_line new said more short says taken)
    led_line byte new said (Ok None) short end says taken = subst (λ b. HasText T (read ++ b ∷ []) ⊥ new) (sym end) (text_ends new said says taken)
    led_line byte new said (Err fault) short end says taken = subst (λ b. IsFault T (read ++ b ∷ []) ⊥ fault) (sym end) (fault_line said fault short says taken)

  -- ---- more bytes behind

  longer_cause : (at : Standing Progress) (ended : Type 0) (rest more : List ℕ) (fault : TextFault) → IsCause T at ⊥ rest fault → IsCause T at ended (rest ++ more) fault
  longer_cause at ended [] more fault cause = absurd cause.0
  longer_cause at ended (byte ∷ rest) more fault cause = cause

  pub refused_longer : (read more : List ℕ) (ended : Type 0) (fault : TextFault) → IsRefused T read ⊥ fault → IsRefused T (read ++ more) ended fault
  refused_longer read more ended fault refused = record {
    front = refused.front;
    rest = refused.rest ++ more;
    parts = ap (λ (r : List ℕ). r ++ more) refused.parts ∙ append_assoc refused.front refused.rest more;
    opened = refused.opened;
    cause = longer_cause (standing T refused.front) ended refused.rest more fault refused.cause;
    names_line = refused.names_line;
  }

  pub text_longer : (read more : List ℕ) (ended : Type 0) (made : Progress) → HasText T read ⊥ made → HasText T (read ++ more) ended made
  text_longer read more ended made text = record {
    front = text.front;
    said = text.said;
    opened = text.opened;
    last = text.last;
    within = text.within;
    makes = text.makes;
    whole = ⊎_elim (λ end. absurd end.0) (λ line. inr (line.0 ++ more, ap (λ (r : List ℕ). r ++ more) line.1 ∙ append_assoc text.front (10 ∷ line.0) more, line.2)) text.whole;
  }

  pub fault_longer : (read more : List ℕ) (ended : Type 0) (fault : TextFault) → IsFault T read ⊥ fault → IsFault T (read ++ more) ended fault
  fault_longer read more ended (BadLine line) refused = refused_longer read more ended (BadLine line) refused
  fault_longer read more ended (TooLarge kind line) refused = refused_longer read more ended (TooLarge kind line) refused
  fault_longer read more ended ReadFault never = never
  fault_longer read more ended OutOfMemory free = free
