-- The script of a text is valid.
use Rattle.std.proofs.Common.{◌≡◌, ◌≢◌, ℕ, ◌+◌, ◌<◌, ◌≤◌, ◌^◌, zero, suc, Bool, true, false, if◌then◌else◌, List, [], ◌∷◌, ◌++◌, length, replicate, sum_by, slice_index_or, slice_set, All, Option, Some, None, Ok, refl, ap, sym, ◌∙◌, subst, arith, ⊎_elim, append-nil, length-append, length-set, add-zero, get_or-set_same}
use Rattle.std.specs.List.{flat_map}
use Rattle.std.proofs.lemmas.Bool.{false≢true}
use Rattle.std.proofs.lemmas.List.{length_push, length-replicate}
use Rattle.std.proofs.lemmas.List.Concat.{length-flat_map}
use Rattle.std.proofs.lemmas.List.Elements.{All-nil, All-push, All-set, All-get_or, All-replicate}
use Rattle.std.proofs.lemmas.List.Sums.{sum_by_push, sum_by-set, sum_by-cons}
use Rattle.line_text.specs.Lines.{line_says}
use Rattle.line_text.specs.Texts.{Standing, HasText, standing, count_of}
use Rattle.line_text.proofs.Kept.{text_keeps}
use Rattle.script_text.specs.declared.forms.Spot.TheVariants.{Start}
use Rattle.script_text.specs.declared.scripts.ObjectLine.{ObjectLine}
use Rattle.script_text.specs.declared.scripts.Call.{Call}
use Rattle.script_text.specs.declared.lines.Line.{Line}
use Rattle.script_text.specs.declared.lines.Line.TheVariants.{Pgas, Object, Callers, Caller, Round, Call as ACall, End}
use Rattle.script_text.specs.declared.lines.Stage.{Stage}
use Rattle.script_text.specs.declared.lines.Stage.TheVariants.{AtPgas, AtObject, AtCallers, InRound}
use Rattle.script_text.specs.Drafts.{Progress}
use Rattle.script_text.specs.Forms.{script_grammar, IsStage}
use Rattle.script_text.specs.Fronts.{some_callers}
use Rattle.script_text.specs.Lines.{IsObject, IsCallers, IsCallOf, MayCome, IsInRound, stage_after}
use Rattle.script_text.specs.Rows.{written_line}
use Rattle.script_text.specs.Scripts.{PlainScript, written_head, written_calls, written_callers, written_rounds, IsRoundOf, IsValid}
use Rattle.script_text.specs.ScriptText.{with_call, after, before_after, calls_after, is_counted, is_end, script_text, IsMadeAt, IsMade, HasScript}
use Rattle.script_text.proofs.Comes.{Comes, line_comes}

abbrev size : Line → ℕ
size line = length (written_line line)

-- ---- the size of what is written of rounds

abbrev cost : List (List Call) → ℕ
cost round = length (written_line Round ++ written_callers 0 round)

rounds_size : (before : List (List (List Call))) (calls : List (List Call)) → length (written_rounds (before ++ calls ∷ [])) ≡ sum_by cost before + length (written_callers 0 calls)
rounds_size [] calls = omega (arith, ap length (append-nil (written_callers 0 calls)))
rounds_size (round ∷ rounds) calls =
    let others = flat_map (λ (round : List (List Call)). written_line Round ++ written_callers 0 round) (rounds ++ calls ∷ []) in
    let whole : length (written_rounds ((round ∷ rounds) ++ calls ∷ [])) ≡ length (written_callers 0 round ++ others) = refl in
    let costs : length others ≡ sum_by cost (rounds ++ calls ∷ []) = length-flat_map (λ (round : List (List Call)). written_line Round ++ written_callers 0 round) (rounds ++ calls ∷ []) in
    omega (
      arith,
      whole,
      length-append (written_callers 0 round) others,
      costs,
      sum_by_push cost rounds calls,
      sum_by-cons cost round rounds,
      length-append (written_line Round) (written_callers 0 calls),
      length-append (written_line Round) (written_callers 0 round),
    )

-- the line of a caller that has no call yet
abbrev due : ℕ → List Call → ℕ
due caller [] = size (Caller caller)
due caller (call ∷ calls) = 0

calls_push : (caller : ℕ) (calls : List Call) (call : Call) → length (written_calls caller (calls ++ call ∷ [])) ≡ length (written_calls caller calls) + size (ACall call) + due caller calls
calls_push caller [] call =
    omega (arith, length-append (written_line (Caller caller)) (flat_map (λ call. written_line (ACall call)) (call ∷ [])), ap length (append-nil (written_line (ACall call))))
calls_push caller (first ∷ calls) call =
    omega (
      arith,
      length-append (written_line (Caller caller)) (flat_map (λ call. written_line (ACall call)) (first ∷ (calls ++ call ∷ []))),
      length-append (written_line (Caller caller)) (flat_map (λ call. written_line (ACall call)) (first ∷ calls)),
      length-flat_map (λ (call : Call). written_line (ACall call)) (first ∷ (calls ++ call ∷ [])),
      length-flat_map (λ (call : Call). written_line (ACall call)) (first ∷ calls),
      sum_by_push (λ (call : Call). size (ACall call)) (first ∷ calls) call,
    )

callers_push : (lists : List (List Call)) (at caller number : ℕ) (call : Call) → number ≡ at + caller → caller < length lists
    → length (written_callers at (slice_set lists caller (slice_index_or lists caller [] ++ call ∷ []))) ≡ length (written_callers at lists) + size (ACall call) + due number (slice_index_or lists caller [])
callers_push [] at caller number call is within = absurd (omega (arith, within))
callers_push (calls ∷ lists) at zero number call is within =
    omega (
      arith,
      length-append (written_calls at (calls ++ call ∷ [])) (written_callers (at + 1) lists),
      length-append (written_calls at calls) (written_callers (at + 1) lists),
      calls_push at calls call,
      ap (λ n. due n calls) (is ∙ add-zero at),
    )
callers_push (calls ∷ lists) at (suc caller) number call is within =
    omega (
      arith,
      length-append (written_calls at calls) (written_callers (at + 1) (slice_set lists caller (slice_index_or lists caller [] ++ call ∷ []))),
      length-append (written_calls at calls) (written_callers (at + 1) lists),
      callers_push lists (at + 1) caller number call (omega (arith, is)) (omega (arith, within)),
    )

no_calls : (at count : ℕ) → length (written_callers at (replicate {A = List Call} count [])) ≡ 0
no_calls at zero = refl
no_calls at (suc count) = no_calls (at + 1) count

no_lengths : (count : ℕ) → sum_by {X = List Call} length (replicate count []) ≡ 0
no_lengths zero = refl
no_lengths (suc count) = no_lengths count

-- ---- what holds line after line

-- the line of the caller that speaks, unless it is written already
abbrev owed : Option ℕ → List (List Call) → ℕ
owed None lists = 0
owed (Some caller) lists = due caller (slice_index_or lists caller [])

abbrev IsCallerOf : Option ℕ → ℕ → Type 0
IsCallerOf None callers = Unit {0}
IsCallerOf (Some caller) callers = caller < callers

-- in a round, behind so many bytes and counted lines
record HasRounds (object : ObjectLine) (callers : ℕ) (caller : Option ℕ) (before : List (List (List Call))) (calls : List (List Call)) (bytes counted : ℕ) : Type 0 where
  object_is : IsObject object
  callers_are : IsCallers object callers
  caller_is : IsCallerOf caller callers
  rounds : All (IsRoundOf object callers) before
  each : length calls ≡ callers
  calls_are : All (All (IsCallOf object callers)) calls
  counted_is : counted ≡ sum_by (sum_by length) before + sum_by length calls + length before
  size_is : size Pgas + size (Object object) + size (Callers callers) + sum_by cost before + length (written_callers 0 calls) + owed caller calls ≤ bytes

abbrev Holds : Stage → List (List (List Call)) → List (List Call) → ℕ → ℕ → Type 0
Holds AtPgas before calls bytes counted = (before ≡ []) × (counted ≡ 0)
Holds AtObject before calls bytes counted = (before ≡ []) × (counted ≡ 0) × (size Pgas ≤ bytes)
Holds (AtCallers object) before calls bytes counted = (before ≡ []) × (counted ≡ 0) × (size Pgas + size (Object object) ≤ bytes) × IsObject object
Holds (InRound object callers caller) before calls bytes counted = HasRounds object callers caller before calls bytes counted

more_bytes : (stage : Stage) (before : List (List (List Call))) (calls : List (List Call)) (bytes more counted : ℕ) → bytes ≤ more → Holds stage before calls bytes counted → Holds stage before calls more counted
more_bytes AtPgas before calls bytes more counted longer holds = holds
more_bytes AtObject before calls bytes more counted longer holds = (holds.0, holds.1, omega (arith, holds.2, longer))
more_bytes (AtCallers object) before calls bytes more counted longer holds = (holds.0, holds.1, omega (arith, holds.2, longer), holds.3)
more_bytes (InRound object callers caller) before calls bytes more counted longer holds = record {
  object_is = holds.object_is;
  callers_are = holds.callers_are;
  caller_is = holds.caller_is;
  rounds = holds.rounds;
  each = holds.each;
  calls_are = holds.calls_are;
  counted_is = holds.counted_is;
  size_is = omega (arith, holds.size_is, longer);
}

due_most : (caller : ℕ) (calls : List Call) → due caller calls ≤ size (Caller caller)
due_most caller [] = omega arith
due_most caller (call ∷ calls) = omega arith

-- a caller's line
caller_holds : (object : ObjectLine) (callers : ℕ) (old : Option ℕ) (caller : ℕ) (before : List (List (List Call))) (calls : List (List Call)) (bytes counted : ℕ) (line : List ℕ) → caller < callers → size (Caller caller) ≤ length line + 1
    → HasRounds object callers old before calls bytes counted → HasRounds object callers (Some caller) before calls (bytes + length line + 1) counted
caller_holds object callers old caller before calls bytes counted line below long holds = record {
  object_is = holds.object_is;
  callers_are = holds.callers_are;
  caller_is = below;
  rounds = holds.rounds;
  each = holds.each;
  calls_are = holds.calls_are;
  counted_is = holds.counted_is;
  size_is = omega (arith, holds.size_is, due_most caller (slice_index_or calls caller []), long);
}

-- a `round` line
round_holds : (object : ObjectLine) (callers : ℕ) (old : Option ℕ) (before : List (List (List Call))) (calls : List (List Call)) (bytes counted : ℕ) (line : List ℕ) → size Round ≤ length line + 1
    → HasRounds object callers old before calls bytes counted → HasRounds object callers None (before ++ calls ∷ []) (replicate (length calls) []) (bytes + length line + 1) (counted + 1)
round_holds object callers old before calls bytes counted line long holds = record {
  object_is = holds.object_is;
  callers_are = holds.callers_are;
  caller_is = tt;
  rounds = All-push (IsRoundOf object callers) before calls holds.rounds (record { each = holds.each; calls = holds.calls_are });
  each = length-replicate (length calls) [] ∙ holds.each;
  calls_are = All-replicate (All (IsCallOf object callers)) (length calls) [] (All-nil (IsCallOf object callers));
  counted_is = omega (arith, holds.counted_is, sum_by_push (sum_by {X = List Call} length) before calls, no_lengths (length calls), length_push before calls);
  size_is = omega (arith, holds.size_is, sum_by_push cost before calls, length-append (written_line Round) (written_callers 0 calls), no_calls 0 (length calls), long);
}

due_none : (caller : ℕ) (calls : List Call) (call : Call) → due caller (calls ++ call ∷ []) ≡ 0
due_none caller [] call = refl
due_none caller (first ∷ calls) call = refl

-- a call line
call_holds : (object : ObjectLine) (callers caller : ℕ) (before : List (List (List Call))) (calls : List (List Call)) (call : Call) (bytes counted : ℕ) (line : List ℕ) → IsCallOf object callers call → size (ACall call) ≤ length line + 1
    → HasRounds object callers (Some caller) before calls bytes counted → HasRounds object callers (Some caller) before (with_call caller call calls) (bytes + length line + 1) (counted + 1)
call_holds object callers caller before calls call bytes counted line is long holds =
    let within : caller < length calls = omega (arith, holds.caller_is, holds.each) in
    let old = slice_index_or calls caller [] in
    record {
      object_is = holds.object_is;
      callers_are = holds.callers_are;
      caller_is = holds.caller_is;
      rounds = holds.rounds;
      each = length-set calls caller (old ++ call ∷ []) ∙ holds.each;
      calls_are = All-set (All (IsCallOf object callers)) calls caller (old ++ call ∷ [])
          (All-push (IsCallOf object callers) old call (All-get_or (All (IsCallOf object callers)) calls caller [] within holds.calls_are) is) holds.calls_are;
      counted_is = omega (arith, holds.counted_is, sum_by-set {X = List Call} length calls caller (old ++ call ∷ []) [] within, length_push old call);
      size_is = omega (
        arith,
        holds.size_is,
        callers_push calls 0 caller caller call (omega arith) within,
        long,
        ap (due caller) (get_or-set_same calls caller (old ++ call ∷ []) [] within) ∙ due_none caller old call,
      );
    }

staged : (stage : Stage) (before : List (List (List Call))) (calls : List (List Call)) (bytes counted : ℕ) → Holds stage before calls bytes counted → IsStage stage
staged AtPgas before calls bytes counted holds = tt
staged AtObject before calls bytes counted holds = tt
staged (AtCallers object) before calls bytes counted holds = tt
staged (InRound object callers caller) before calls bytes counted holds = (holds.callers_are.0, omega (arith, holds.callers_are.1, (some_callers object).1))

line_holds : (at : Progress) (line : List ℕ) (says : Line) (bytes counted : ℕ) → Comes at.stage says line → says ≢ End → Holds at.stage at.before at.calls bytes counted
    → Holds (after at (Some says)).stage (after at (Some says)).before (after at (Some says)).calls (bytes + length line + 1) (counted + count_of script_text (Some says))
line_holds at line says bytes counted comes other holds = by at.stage says comes.may comes.long other holds
  where
    by : (stage : Stage) (says : Line) → MayCome stage says → size says ≤ length line + 1 → says ≢ End → Holds stage at.before at.calls bytes counted
        → Holds (stage_after stage says) (before_after says at.before at.calls) (calls_after stage says at.calls) (bytes + length line + 1) (counted + count_of script_text (Some says))
    by AtPgas Pgas may long other holds = (holds.0, omega (arith, holds.1), omega (arith, long))
    by AtObject (Object object) may long other holds = (holds.0, omega (arith, holds.1), omega (arith, holds.2, long), may)
    by (AtCallers object) (Callers callers) may long other holds = record {
      object_is = holds.3;
      callers_are = may;
      caller_is = tt;
      rounds = subst (λ (rounds : List (List (List Call))). All (IsRoundOf object callers) rounds) (sym holds.0) (All-nil (IsRoundOf object callers));
      each = length-replicate callers [];
      calls_are = All-replicate (All (IsCallOf object callers)) callers [] (All-nil (IsCallOf object callers));
      counted_is = omega (arith, holds.1, ap (sum_by (sum_by {X = List Call} length)) holds.0, ap length holds.0, no_lengths callers);
      size_is = omega (arith, holds.2, ap (sum_by cost) holds.0, no_calls 0 callers, long);
    }
    by (InRound object callers old) (Caller caller) may long other holds =
        subst (λ n. HasRounds object callers (Some caller) at.before at.calls (bytes + length line + 1) n) (sym (add-zero counted)) (caller_holds object callers old caller at.before at.calls bytes counted line may long holds)
    by (InRound object callers old) Round may long other holds = round_holds object callers old at.before at.calls bytes counted line long holds
    by (InRound object callers old) End may long other holds = absurd (other refl)
    by (InRound object callers (Some caller)) (ACall call) may long other holds = call_holds object callers caller at.before at.calls call bytes counted line may long holds
    by stage says may long other holds = absurd may

abbrev HoldsAt : Progress → ℕ → ℕ → Type 0
HoldsAt at counted bytes = Holds at.stage at.before at.calls bytes counted × (counted ≤ 2 ^ 20)

no_end : (line : Line) → is_end (Some line) ≡ false → line ≢ End
no_end line other is = false≢true (sym other ∙ ap (λ l. is_end (Some l)) is)

says_holds : (at : Progress) (counted bytes : ℕ) (line : List ℕ) (said : Option Line) → HoldsAt at counted bytes → line_says script_grammar (Start at.stage) line ≡ Ok said → is_end said ≡ false → (is_counted said ≡ true → counted < 2 ^ 20)
    → HoldsAt (after at said) (counted + count_of script_text said) (bytes + length line + 1)
says_holds at counted bytes line said holds says other few = (by said says other, within (is_counted said) refl)
  where
    by : (said : Option Line) → line_says script_grammar (Start at.stage) line ≡ Ok said → is_end said ≡ false → Holds (after at said).stage (after at said).before (after at said).calls (bytes + length line + 1) (counted + count_of script_text said)
    by None says other =
        subst (λ n. Holds at.stage at.before at.calls (bytes + length line + 1) n) (sym (add-zero counted)) (more_bytes at.stage at.before at.calls bytes (bytes + length line + 1) counted (omega arith) holds.0)
    by (Some line_is) says other =
        line_holds at line line_is bytes counted (line_comes at.stage line_is line (staged at.stage at.before at.calls bytes counted holds.0) says) (no_end line_is other) holds.0

    within : (b : Bool) → is_counted said ≡ b → counted + (if b then 1 else 0) ≤ 2 ^ 20
    within true is = omega (arith, few is)
    within false is = omega (arith, holds.1)

-- ---- validity

end_said : (said : Option Line) → is_end said ≡ true → said ≡ Some End
end_said (Some End) is = refl
end_said None is = absurd (false≢true is)
end_said (Some Pgas) is = absurd (false≢true is)
end_said (Some (Object object)) is = absurd (false≢true is)
end_said (Some (Callers callers)) is = absurd (false≢true is)
end_said (Some (Caller caller)) is = absurd (false≢true is)
end_said (Some Round) is = absurd (false≢true is)
end_said (Some (ACall call)) is = absurd (false≢true is)

made_valid : (object : ObjectLine) (callers : ℕ) (caller : Option ℕ) (before : List (List (List Call))) (calls : List (List Call)) (bytes counted : ℕ) (last : List ℕ)
    → HasRounds object callers caller before calls bytes counted → size End ≤ length last + 1 → counted ≤ 2 ^ 20 → bytes + length last ≤ 2 ^ 30
    → IsValid (record { object = object; callers = callers; rounds = before ++ calls ∷ [] })
made_valid object callers caller before calls bytes counted last holds long few short = record {
  object = holds.object_is;
  callers = holds.callers_are;
  some = omega (arith, length_push before calls);
  rounds = All-push (IsRoundOf object callers) before calls holds.rounds (record { each = holds.each; calls = holds.calls_are });
  few = omega (arith, few, holds.counted_is, sum_by_push (sum_by {X = List Call} length) before calls, length_push before calls);
  short = omega (
    arith,
    short,
    holds.size_is,
    rounds_size before calls,
    long,
    length-append (written_head object callers) (written_rounds (before ++ calls ∷ []) ++ written_line End),
    length-append (written_line Pgas) (written_line (Object object) ++ written_line (Callers callers)),
    length-append (written_line (Object object)) (written_line (Callers callers)),
    length-append (written_rounds (before ++ calls ∷ [])) (written_line End),
  );
}

-- where a text ends, with its line `end`
record IsLast (a : Standing Progress) (at : Progress) : Type 0 where
  bytes : ℕ
  holds : Holds a.progress.stage a.progress.before a.progress.calls bytes a.counted
  comes : Comes a.progress.stage End a.part
  made : at ≡ after a.progress (Some End)
  few : a.counted ≤ 2 ^ 20
  short : bytes + length a.part ≤ 2 ^ 30

last_line : (read : List ℕ) (ended : Type 0) (at : Progress) (text : HasText script_text read ended at) → IsLast (standing script_text text.front) at
last_line read ended at text =
    let a = standing script_text text.front in
    let kept = text_keeps script_text HoldsAt says_holds ((refl, refl), omega arith) text.front text.opened in
    let is : text.said ≡ Some End = end_said text.said (⊎_elim (λ end. end.2) (λ line. line.2) text.whole) in
    record {
      bytes = kept.size;
      holds = kept.holds.0;
      comes = line_comes a.progress.stage End a.part (staged a.progress.stage a.progress.before a.progress.calls kept.size a.counted kept.holds.0)
          (ap (line_says script_grammar (Start a.progress.stage)) (sym (append-nil a.part)) ∙ (text.last ∙ ap (λ s. Ok s) is));
      made = text.makes ∙ ap (after a.progress) is;
      few = kept.holds.1;
      short = omega (arith, kept.sizes, kept.short);
    }

may_end : (stage : Stage) → MayCome stage End → IsInRound (stage_after stage End)
may_end (InRound object callers caller) may = tt
may_end AtPgas may = absurd may
may_end AtObject may = absurd may
may_end (AtCallers object) may = absurd may

pub in_round : (read : List ℕ) (ended : Type 0) (at : Progress) → HasText script_text read ended at → IsInRound at.stage
in_round read ended at text =
    let last = last_line read ended at text in
    subst (λ (p : Progress). IsInRound p.stage) (sym last.made) (may_end (standing script_text text.front).progress.stage last.comes.may)

last_valid : (a : Standing Progress) (at : Progress) (script : PlainScript) → IsLast a at → IsMade at script → IsValid script
last_valid a at script last made = by a.progress.stage last.holds last.comes (subst (λ (p : Progress). IsMade p script) last.made made)
  where
    by : (stage : Stage) → Holds stage a.progress.before a.progress.calls last.bytes a.counted → Comes stage End a.part → IsMadeAt (stage_after stage End) (a.progress.before ++ a.progress.calls ∷ []) script → IsValid script
    by (InRound object callers caller) holds comes made =
        subst (λ (s : PlainScript). IsValid s) (sym made) (made_valid object callers caller a.progress.before a.progress.calls last.bytes a.counted a.part holds comes.long last.few last.short)
    by AtPgas holds comes made = absurd comes.may
    by AtObject holds comes made = absurd comes.may
    by (AtCallers object) holds comes made = absurd comes.may

pub script_valid : (read : List ℕ) (ended : Type 0) (script : PlainScript) → HasScript read ended script → IsValid script
script_valid read ended script is = last_valid (standing script_text is.1.front) is.0 script (last_line read ended is.0 is.1) is.2
