-- What is written reads as the same script.
use Rattle.std.proofs.Common.{◌≡◌, ℕ, ◌+◌, ◌<◌, ◌≤◌, ◌^◌, Bool, true, false, if◌then◌else◌, List, [], ◌∷◌, ◌++◌, length, replicate, sum_by, slice_set, All, Option, Some, None, refl, ap, sym, ◌∙◌, subst, arith, inr, append-nil, append_assoc, length-append}
use Rattle.std.specs.List.{flat_map}
use Rattle.std.proofs.lemmas.Bool.{false≢true}
use Rattle.std.proofs.lemmas.List.{length_push, set_at, get_or_at}
use Rattle.std.proofs.lemmas.List.Elements.{All-head, All-tail}
use Rattle.std.proofs.lemmas.List.Sums.{sum_by-cons}
use Rattle.line_text.specs.Texts.{Standing, standing, count_of, IsOpen as TextIsOpen}
use Rattle.line_text.specs.Words.{words_line}
use Rattle.line_text.proofs.Standings.{open_nothing}
use Rattle.line_text.proofs.Written.{front_stands, front_open, front_says, written_stands, written_open}
use Rattle.script_text.specs.declared.scripts.ObjectLine.{ObjectLine}
use Rattle.script_text.specs.declared.scripts.Call.{Call}
use Rattle.script_text.specs.declared.lines.Line.{Line}
use Rattle.script_text.specs.declared.lines.Line.TheVariants.{Pgas, Object, Callers, Caller, Round, Call as ACall, End}
use Rattle.script_text.specs.declared.lines.Stage.TheVariants.{InRound}
use Rattle.script_text.specs.Drafts.{Progress}
use Rattle.script_text.specs.Forms.{IsStage}
use Rattle.script_text.specs.Fronts.{some_callers}
use Rattle.script_text.specs.Lines.{IsObject, IsCallers, IsCallOf, MayCome}
use Rattle.script_text.specs.Rows.{line_words, written_line}
use Rattle.script_text.specs.Scripts.{PlainScript, written_head, written_calls, written_callers, written_rounds, written, IsRoundOf, counted_lines, IsValid}
use Rattle.script_text.specs.ScriptText.{beginning, with_call, line_after, after, is_counted, is_end, script_text, HasScript}
use Rattle.script_text.proofs.WrittenLines.{written_reads_line}

-- ---- texts that lead from one progress to another

-- what was read leads to the progress, at the front of a line
abbrev StandsAt : List ℕ → Progress → ℕ → ℕ → Type 0
StandsAt read at lines counted = (standing script_text read ≡ record { progress = at; part = []; lines = lines; counted = counted; size = length read }) × TextIsOpen script_text read

-- behind any such text, within the limits, with so many counted lines more
abbrev Led : Progress → List ℕ → Progress → ℕ → Type 0
Led from text to count =
    (read : List ℕ) (lines counted : ℕ) → counted + count ≤ 2 ^ 20 → length read + length text ≤ 2 ^ 30 → StandsAt read from lines counted → (more : ℕ) × StandsAt (read ++ text) to more (counted + count)

led_nothing : (at : Progress) → Led at [] at 0
led_nothing at read lines counted few short stands =
    (lines, subst (λ (r : List ℕ). StandsAt r at lines (counted + 0)) (sym (append-nil read)) (subst (λ n. StandsAt read at lines n) (omega arith) stands))

counted_so : (from : Progress) (text : List ℕ) (to : Progress) (count same : ℕ) → count ≡ same → Led from text to count → Led from text to same
counted_so from text to count same is led = subst (λ n. Led from text to n) is led

led_append : (from mid to : Progress) (first second : List ℕ) (one more : ℕ) → Led from first mid one → Led mid second to more → Led from (first ++ second) to (one + more)
led_append from mid to first second one more lead next read lines counted few short stands =
    let whole = length-append first second in
    let there = lead read lines counted (omega (arith, few)) (omega (arith, short, whole)) stands in
    let end = next (read ++ first) there.0 (counted + one) (omega (arith, few)) (omega (arith, short, whole, length-append read first)) there.1 in
    (end.0, subst (λ (r : List ℕ). StandsAt r to end.0 (counted + (one + more))) (append_assoc read first second) (subst (λ n. StandsAt ((read ++ first) ++ second) to end.0 n) (omega arith) end.1))

led_line : (at : Progress) (line : Line) → MayCome at.stage line → IsStage at.stage → is_end (Some line) ≡ false → Led at (written_line line) (line_after at line) (count_of script_text (Some line))
led_line at line may staged other read lines counted few short stands =
    let reads = written_reads_line at.stage line staged may in
    let bytes = words_line (line_words line) in
    let room : length read + length bytes < 2 ^ 30 = omega (arith, short, length_push bytes 10) in (
      lines + 1,
      (
        written_stands script_text read bytes at (Some line) lines counted stands.0 stands.1 reads.1 reads.0 (omega (arith, room)),
        written_open script_text read bytes at (Some line) lines counted stands.0 stands.1 reads.1 reads.0 (omega (arith, room)) other (within (is_counted (Some line)) refl) room,
      ),
    )
  where
    within : (b : Bool) → is_counted (Some line) ≡ b → b ≡ true → counted < 2 ^ 20
    within true is _ = omega (arith, few, ap {B = ℕ} (λ (b : Bool). if b then 1 else 0) is)
    within false is never = absurd (false≢true never)

few_callers : (object : ObjectLine) (callers : ℕ) → IsCallers object callers → (1 ≤ callers) × (callers < 2 ^ 32)
few_callers object callers few = (few.0, omega (arith, few.1, (some_callers object).1))

-- ---- a round

module _ (object : ObjectLine) (callers : ℕ) (few : IsCallers object callers) (before : List (List (List Call))) where
  abbrev speaking : Option ℕ → List (List Call) → Progress
  speaking caller lists = record { stage = InRound object callers caller; before = before; calls = lists }

  with_call_at : (done : List (List Call)) (calls : List Call) (rest : List (List Call)) (call : Call) → with_call (length done) call (done ++ calls ∷ rest) ≡ done ++ (calls ++ call ∷ []) ∷ rest
  with_call_at done calls rest call =
      ap (λ (old : List Call). slice_set (done ++ calls ∷ rest) (length done) (old ++ call ∷ [])) (get_or_at done calls rest [] (length done) refl) ∙ set_at done calls rest (calls ++ call ∷ []) (length done) refl

  calls_lead : (calls : List Call) (done : List (List Call)) (made : List Call) (rest : List (List Call)) → All (IsCallOf object callers) calls
      → Led (speaking (Some (length done)) (done ++ made ∷ rest)) (flat_map (λ call. written_line (ACall call)) calls) (speaking (Some (length done)) (done ++ (made ++ calls) ∷ rest)) (length calls)
  calls_lead [] done made rest all =
      subst (λ (m : List Call). Led (speaking (Some (length done)) (done ++ made ∷ rest)) [] (speaking (Some (length done)) (done ++ m ∷ rest)) 0) (sym (append-nil made)) (led_nothing (speaking (Some (length done)) (done ++ made ∷ rest)))
  calls_lead (call ∷ calls) done made rest all =
      let caller = length done in
      let from = speaking (Some caller) (done ++ made ∷ rest) in
      let mid = speaking (Some caller) (done ++ (made ++ call ∷ []) ∷ rest) in
      let is = All-head (IsCallOf object callers) call calls all in
      let one : Led from (written_line (ACall call)) mid 1 =
      subst (λ (lists : List (List Call)). Led from (written_line (ACall call)) (speaking (Some caller) lists) 1) (with_call_at done made rest call) (led_line from (ACall call) is (few_callers object callers few) refl) in
      let others : Led mid (flat_map (λ call. written_line (ACall call)) calls) (speaking (Some caller) (done ++ (made ++ (call ∷ calls)) ∷ rest)) (length calls) =
      subst (λ (m : List Call). Led mid (flat_map (λ call. written_line (ACall call)) calls) (speaking (Some caller) (done ++ m ∷ rest)) (length calls)) (append_assoc made (call ∷ []) calls)
      (calls_lead calls done (made ++ call ∷ []) rest (All-tail (IsCallOf object callers) call calls all)) in
      counted_so from (written_line (ACall call) ++ flat_map (λ call. written_line (ACall call)) calls) (speaking (Some caller) (done ++ (made ++ (call ∷ calls)) ∷ rest)) (1 + length calls) (length (call ∷ calls)) (omega arith)
      (led_append from mid (speaking (Some caller) (done ++ (made ++ (call ∷ calls)) ∷ rest)) (written_line (ACall call)) (flat_map (λ call. written_line (ACall call)) calls) 1 (length calls) one others)

  record RoundLed (caller : Option ℕ) (lists : List (List Call)) (text : List ℕ) (made : List (List Call)) (count : ℕ) : Type 0 where
    last : Option ℕ
    led : Led (speaking caller lists) text (speaking last made) count

  caller_led : (calls : List Call) (done rest : List (List Call)) (caller : Option ℕ) → length done < callers → All (IsCallOf object callers) calls
      → RoundLed caller (done ++ [] ∷ rest) (written_calls (length done) calls) (done ++ calls ∷ rest) (length calls)
  caller_led [] done rest caller below all = record { last = caller; led = led_nothing (speaking caller (done ++ [] ∷ rest)) }
  caller_led (call ∷ calls) done rest caller below all =
      let from = speaking caller (done ++ [] ∷ rest) in
      let mid = speaking (Some (length done)) (done ++ [] ∷ rest) in
      let to = speaking (Some (length done)) (done ++ (call ∷ calls) ∷ rest) in
      record {
        last = Some (length done);
        led = counted_so from (written_calls (length done) (call ∷ calls)) to (0 + length (call ∷ calls)) (length (call ∷ calls)) (omega arith)
            (led_append from mid to (written_line (Caller (length done))) (flat_map (λ call. written_line (ACall call)) (call ∷ calls)) 0 (length (call ∷ calls))
            (led_line from (Caller (length done)) below (few_callers object callers few) refl) (calls_lead (call ∷ calls) done [] rest all));
      }

  callers_led : (lists done : List (List Call)) (caller : Option ℕ) → length done + length lists ≤ callers → All (All (IsCallOf object callers)) lists
      → RoundLed caller (done ++ replicate (length lists) []) (written_callers (length done) lists) (done ++ lists) (sum_by length lists)
  callers_led [] done caller fits all = record { last = caller; led = led_nothing (speaking caller (done ++ [])) }
  callers_led (calls ∷ lists) done caller fits all =
      let silent = replicate {A = List Call} (length lists) [] in
      let first = caller_led calls done silent caller (omega (arith, fits)) (All-head (All (IsCallOf object callers)) calls lists all) in
      let longer : length (done ++ calls ∷ []) ≡ length done + 1 = length_push done calls in
      let others = callers_led lists (done ++ calls ∷ []) first.last (omega (arith, fits, longer)) (All-tail (All (IsCallOf object callers)) calls lists all) in
      let from = speaking caller (done ++ [] ∷ silent) in
      let mid = speaking first.last (done ++ calls ∷ silent) in
      let to = speaking others.last (done ++ calls ∷ lists) in
      let more : Led mid (written_callers (length done + 1) lists) to (sum_by length lists) =
      subst (λ (made : List (List Call)). Led mid (written_callers (length done + 1) lists) (speaking others.last made) (sum_by length lists)) (append_assoc done (calls ∷ []) lists)
      (subst (λ n. Led mid (written_callers n lists) (speaking others.last ((done ++ calls ∷ []) ++ lists)) (sum_by length lists)) longer
      (subst (λ (made : List (List Call)). Led (speaking first.last made) (written_callers (length (done ++ calls ∷ [])) lists) (speaking others.last ((done ++ calls ∷ []) ++ lists)) (sum_by length lists)) (append_assoc done (calls ∷ []) silent) others.led)) in
      record {
        last = others.last;
        led = counted_so from (written_calls (length done) calls ++ written_callers (length done + 1) lists) to (length calls + sum_by length lists) (sum_by length (calls ∷ lists)) (sym (sum_by-cons length calls lists))
            (led_append from mid to (written_calls (length done) calls) (written_callers (length done + 1) lists) (length calls) (sum_by length lists) first.led more);
      }

-- ---- the rounds

record RoundsLed (object : ObjectLine) (callers : ℕ) (caller : Option ℕ) (before : List (List (List Call))) (calls : List (List Call)) (text : List ℕ) (rounds : List (List (List Call))) (count : ℕ) : Type 0 where
  last : Option ℕ
  done : List (List (List Call))
  present : List (List Call)
  led : Led (record { stage = InRound object callers caller; before = before; calls = calls }) text (record { stage = InRound object callers last; before = done; calls = present }) count
  all : done ++ present ∷ [] ≡ before ++ calls ∷ rounds

rounds_led : (object : ObjectLine) (callers : ℕ) → IsCallers object callers → (rounds : List (List (List Call))) (caller : Option ℕ) (before : List (List (List Call))) (calls : List (List Call)) → length calls ≡ callers → All (IsRoundOf object callers) rounds
    → RoundsLed object callers caller before calls (flat_map (λ round. written_line Round ++ written_callers 0 round) rounds) rounds (sum_by (sum_by length) rounds + length rounds)
rounds_led object callers few [] caller before calls each all = record {
  last = caller;
  done = before;
  present = calls;
  led = led_nothing (record { stage = InRound object callers caller; before = before; calls = calls });
  all = refl;
}
rounds_led object callers few (round ∷ rounds) caller before calls each all =
    let is = All-head (IsRoundOf object callers) round rounds all in
    let from : Progress = record { stage = InRound object callers caller; before = before; calls = calls } in
    let silent : Progress = record { stage = InRound object callers None; before = before ++ calls ∷ []; calls = replicate (length round) [] } in
    let spoken = callers_led object callers few (before ++ calls ∷ []) round [] None (omega (arith, is.each)) is.calls in
    let mid : Progress = record { stage = InRound object callers spoken.last; before = before ++ calls ∷ []; calls = round } in
    let others = rounds_led object callers few rounds spoken.last (before ++ calls ∷ []) round is.each (All-tail (IsRoundOf object callers) round rounds all) in
    let to : Progress = record { stage = InRound object callers others.last; before = others.done; calls = others.present } in
    let line : Led from (written_line Round) silent 1 =
    subst (λ n. Led from (written_line Round) (record { stage = InRound object callers None; before = before ++ calls ∷ []; calls = replicate n [] }) 1) (each ∙ sym is.each) (led_line from Round tt (few_callers object callers few) refl) in
    let round_text = written_line Round ++ written_callers 0 round in
    record {
      last = others.last;
      done = others.done;
      present = others.present;
      led = counted_so from (round_text ++ flat_map (λ round. written_line Round ++ written_callers 0 round) rounds) to ((1 + sum_by length round) + (sum_by (sum_by length) rounds + length rounds)) (sum_by (sum_by length) (round ∷ rounds) + length (round ∷ rounds))
          (omega (arith, sum_by-cons (sum_by {X = List Call} length) round rounds))
          (led_append from mid to round_text (flat_map (λ round. written_line Round ++ written_callers 0 round) rounds) (1 + sum_by length round) (sum_by (sum_by length) rounds + length rounds)
          (led_append from silent mid (written_line Round) (written_callers 0 round) 1 (sum_by length round) line spoken.led) others.led);
      all = others.all ∙ append_assoc before (calls ∷ []) (round ∷ rounds);
    }

-- ---- the whole text

head_led : (object : ObjectLine) (callers : ℕ) → IsObject object → IsCallers object callers
    → Led beginning (written_head object callers) (record { stage = InRound object callers None; before = []; calls = replicate callers [] }) 0
head_led object callers is few =
    let first = line_after beginning Pgas in
    let second = line_after first (Object object) in
    let third = line_after second (Callers callers) in
    led_append beginning first third (written_line Pgas) (written_line (Object object) ++ written_line (Callers callers)) 0 0 (led_line beginning Pgas tt tt refl)
    (led_append first second third (written_line (Object object)) (written_line (Callers callers)) 0 0 (led_line first (Object object) is tt refl) (led_line second (Callers callers) few tt refl))

rounds_text_led : (object : ObjectLine) (callers : ℕ) → IsCallers object callers → (rounds : List (List (List Call))) → 0 < length rounds → All (IsRoundOf object callers) rounds → (last : Option ℕ) × (done : List (List (List Call))) × (present : List (List Call))
    × Led (record { stage = InRound object callers None; before = []; calls = replicate callers [] }) (written_rounds rounds) (record { stage = InRound object callers last; before = done; calls = present }) (counted_lines rounds) × (done ++ present ∷ [] ≡ rounds)
rounds_text_led object callers few [] some all = absurd (omega (arith, some))
rounds_text_led object callers few (round ∷ rounds) some all =
    let is = All-head (IsRoundOf object callers) round rounds all in
    let spoken = callers_led object callers few [] round [] None (omega (arith, is.each)) is.calls in
    let others = rounds_led object callers few rounds spoken.last [] round is.each (All-tail (IsRoundOf object callers) round rounds all) in
    let from : Progress = record { stage = InRound object callers None; before = []; calls = replicate callers [] } in
    let mid : Progress = record { stage = InRound object callers spoken.last; before = []; calls = round } in
    let to : Progress = record { stage = InRound object callers others.last; before = others.done; calls = others.present } in
    let first : Led from (written_callers 0 round) mid (sum_by length round) =
    subst (λ n. Led (record { stage = InRound object callers None; before = []; calls = replicate n [] }) (written_callers 0 round) mid (sum_by length round)) is.each spoken.led in (
      others.last,
      others.done,
      others.present,
      counted_so from (written_rounds (round ∷ rounds)) to (sum_by length round + (sum_by (sum_by length) rounds + length rounds)) (counted_lines (round ∷ rounds)) (omega (arith, sum_by-cons (sum_by {X = List Call} length) round rounds))
          (led_append from mid to (written_callers 0 round) (flat_map (λ round. written_line Round ++ written_callers 0 round) rounds) (sum_by length round) (sum_by (sum_by length) rounds + length rounds) first others.led),
      others.all,
    )

-- a text ends with its line `end`
end_read : (read : List ℕ) (object : ObjectLine) (callers : ℕ) (caller : Option ℕ) (before : List (List (List Call))) (calls : List (List Call)) (lines counted : ℕ) → IsCallers object callers → length read + 3 ≤ 2 ^ 30
    → StandsAt read (record { stage = InRound object callers caller; before = before; calls = calls }) lines counted → HasScript (read ++ written_line End) (Unit {0}) (record { object = object; callers = callers; rounds = before ++ calls ∷ [] })
end_read read object callers caller before calls lines counted few short stands =
    let at : Progress = record { stage = InRound object callers caller; before = before; calls = calls } in
    let bytes = words_line (line_words End) in
    let reads = written_reads_line at.stage End (few_callers object callers few) tt in
    let last = front_stands script_text read bytes at (Some End) lines counted stands.0 stands.1 reads.1 reads.0 short in (
      after at (Some End),
      record {
        front = read ++ bytes;
        said = Some End;
        opened = front_open script_text read bytes at (Some End) lines counted stands.0 stands.1 reads.1 reads.0 short;
        last = front_says script_text read bytes at (Some End) lines counted stands.0 stands.1 reads.1 reads.0 short;
        within = λ is. absurd (false≢true is);
        makes = ap (λ (s : Standing Progress). after s.progress (Some End)) (sym last);
        whole = inr ([], sym (append_assoc read bytes (10 ∷ [])), refl);
      },
      refl,
    )

-- the written script reads as this one
pub written_reads : (script : PlainScript) → IsValid script → HasScript (written script) (Unit {0}) script
written_reads script is =
    let head = written_head script.object script.callers in
    let body = written_rounds script.rounds in
    let rounds = rounds_text_led script.object script.callers is.callers script.rounds is.some is.rounds in
    let mid : Progress = record { stage = InRound script.object script.callers None; before = []; calls = replicate script.callers [] } in
    let to : Progress = record { stage = InRound script.object script.callers rounds.0; before = rounds.1; calls = rounds.2 } in
    let sizes : length (written script) ≡ length head + length body + 4 = omega (arith, length-append head (body ++ written_line End), length-append body (written_line End)) in
    let whole = length-append head body in
    let all =
    led_append beginning mid to head body 0 (counted_lines script.rounds) (head_led script.object script.callers is.object is.callers) rounds.3 [] 0 0 (omega (arith, is.few)) (omega (arith, is.short, sizes, whole)) (refl, open_nothing script_text) in
    subst (λ (s : PlainScript). HasScript (written script) (Unit {0}) s) (made_of script rounds.1 rounds.2 rounds.4)
    (subst (λ (t : List ℕ). HasScript t (Unit {0}) (record { object = script.object; callers = script.callers; rounds = rounds.1 ++ rounds.2 ∷ [] })) (append_assoc head body (written_line End))
    (end_read (head ++ body) script.object script.callers rounds.0 rounds.1 rounds.2 all.0 (0 + (0 + counted_lines script.rounds)) is.callers (omega (arith, is.short, sizes, whole)) all.1))
  where
    made_of : (script : PlainScript) (done : List (List (List Call))) (present : List (List Call)) → done ++ present ∷ [] ≡ script.rounds
        → record { object = script.object; callers = script.callers; rounds = done ++ present ∷ [] } ≡ script
    made_of script done present all = ap (λ (rounds : List (List (List Call))). record script { rounds = rounds }) all
