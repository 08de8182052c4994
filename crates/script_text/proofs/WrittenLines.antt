-- A line that is written is read as it stands.
use Rattle.std.proofs.Common.{◌≡◌, ◌≢◌, ℕ, ◌+◌, ◌*◌, ◌/◌, ◌<◌, ◌≤◌, ◌^◌, Bool, true, false, List, [], ◌∷◌, ◌++◌, length, map, All, Some, Ok, decimal, refl, ap, sym, ◌∙◌, subst, arith}
use Rattle.std.specs.List.{AllByRecursion}
use Rattle.std.proofs.lemmas.List.Elements.{All-nil, All-cons, All-head, All-tail}
use Rattle.std.proofs.lemmas.Nat.{mul-le, le-div}
use Rattle.line_text.specs.Letters.{are_words, words_from}
use Rattle.line_text.specs.Lines.{then_leads, says_words, says_line, line_says}
use Rattle.line_text.specs.Words.{AreLetters, words_line}
use Rattle.line_text.proofs.WrittenWords.{line_of, words_within, decimal_letters, decimal_leads}
use Rattle.seq_objects.specs.declared.lists.ListCall.TheVariants.{Read, Write, Swap, Add, Grow, Len}
use Rattle.seq_objects.specs.declared.bags.BagCall.{BagCall}
use Rattle.seq_objects.specs.declared.bags.BagCall.TheVariants.{Add as Put, Remove}
use Rattle.seq_objects.specs.declared.deques.DequeCall.{DequeCall}
use Rattle.seq_objects.specs.declared.deques.DequeCall.TheVariants.{PushBack, PushFront, PopBack, PopFront}
use Rattle.script_text.specs.declared.forms.Spot.TheVariants.{Start, Row as ARow}
use Rattle.script_text.specs.declared.lines.Kind.{Kind}
use Rattle.script_text.specs.declared.lines.Kind.TheVariants.{List as KList, Bag as KBag, Deque as KDeque}
use Rattle.script_text.specs.declared.lines.Line.{Line}
use Rattle.script_text.specs.declared.lines.Line.TheVariants.{Pgas, Object, Callers, Caller, Round, Call as ACall, End}
use Rattle.script_text.specs.declared.lines.Stage.{Stage}
use Rattle.script_text.specs.declared.lines.Stage.TheVariants.{AtPgas, AtObject, AtCallers, InRound}
use Rattle.script_text.specs.declared.rows.Numbers.{Numbers}
use Rattle.script_text.specs.declared.rows.Numbers.TheVariants.{Zero}
use Rattle.script_text.specs.declared.rows.Row.{Row}
use Rattle.script_text.specs.declared.rows.Row.TheVariants.{Object as ObjectRow, Callers as CallersRow, Caller as CallerRow, Call as CallRow}
use Rattle.script_text.specs.declared.scripts.ObjectLine.{ObjectLine}
use Rattle.script_text.specs.declared.scripts.ObjectLine.TheVariants.{List as AList, Bag as ABag, Deque as ADeque}
use Rattle.script_text.specs.declared.scripts.Call.{Call}
use Rattle.script_text.specs.declared.scripts.Call.TheVariants.{List as OfList, Bag as OfBag, Deque as OfDeque}
use Rattle.script_text.specs.Forms.{bounds_of, row_spot, script_grammar, In, count_of, IsSpot, IsStage}
use Rattle.script_text.specs.Fronts.{some_words, count_with, few_numbers, spot_whole, spot_row, some_callers}
use Rattle.script_text.specs.Lines.{IsObject, IsCallOf, MayCome}
use Rattle.script_text.specs.Rows.{listed, count, with_number, try_before, is_once, call_parts, words_of, numbers_of, line_words, made}
use Rattle.script_text.specs.Sound.{says_caller, says_round, says_end}

-- ---- the numbers of a row

abbrev Small : ℕ → Type 0
Small number = number < 2 ^ 64

-- each number lies in the bounds of its place
abbrev Fit : Row → Numbers → List ℕ → Type 0
Fit row from [] = Unit {0}
Fit row from (number ∷ rest) = In (bounds_of row from) number × Small number × Fit row (with_number from number) rest

abbrev with_all : Numbers → List ℕ → Numbers
with_all from [] = from
with_all from (number ∷ rest) = with_all (with_number from number) rest

-- a row with the rest of its numbers is the line
abbrev Says : Row → Numbers → List ℕ → Type 0
Says row from rest = (says_words script_grammar (row_spot row from) (map decimal rest) ≡ Ok (Some (made row (with_all from rest)))) × All Small rest

numbers_say : (rest : List ℕ) (row : Row) (from : Numbers) → count from + length rest ≡ count_of row → Fit row from rest → Says row from rest
numbers_say [] row from whole fit = (ap (λ spot. says_words script_grammar spot []) (spot_whole row from (omega (arith, whole))), All-nil Small)
numbers_say (number ∷ rest) row from whole fit =
    let others = numbers_say rest row (with_number from number) (omega (arith, whole, count_with from number (omega (arith, whole, few_numbers row)))) fit.2 in (
      ap (λ spot. says_words script_grammar spot (map decimal (number ∷ rest))) (spot_row row from (omega (arith, whole)))
          ∙ (ap (λ r. then_leads r (λ next. says_words script_grammar next (map decimal rest))) (decimal_leads script_grammar IsSpot (ARow row from) (bounds_of row from) number refl refl fit.0.0 fit.0.1 fit.1) ∙ others.0),
      All-cons Small number rest fit.1 others.1,
    )

-- any numbers fit a call
call_fits : (rest : List ℕ) (kind : Kind) (word : ℕ) (once : Bool) (from : Numbers) → All Small rest → Fit (CallRow kind word once) from rest
call_fits [] kind word once from small = tt
call_fits (number ∷ rest) kind word once from small =
    let own = All-head Small number rest small in
    ((omega arith, omega (arith, own)), own, call_fits rest kind word once (with_number from number) (All-tail Small number rest small))

call_says : (rest : List ℕ) (kind : Kind) (word : ℕ) (once : Bool) → length rest ≡ count_of (CallRow kind word once) → All Small rest → Says (CallRow kind word once) Zero rest
call_says rest kind word once whole small = numbers_say rest (CallRow kind word once) Zero (omega (arith, whole)) (call_fits rest kind word once Zero small)

-- ---- lines

-- the line is read as it is written, and its numbers are small
abbrev ReadsWords : Stage → Line → Type 0
ReadsWords stage line = (says_line script_grammar (Start stage) (line_words line) ≡ Ok (Some line)) × All Small (listed (numbers_of line))

bag_reads : (locales segments room callers caller : ℕ) (call : BagCall) (once : Bool) → (once ≡ true → callers ≡ 1) → All Small (listed (numbers_of (ACall (OfBag call once)))) → ReadsWords (InRound (ABag locales segments room) callers (Some caller)) (ACall (OfBag call once))
bag_reads locales segments room callers caller (Put item) false one small = call_says (item ∷ []) KBag 0 false refl small
bag_reads locales segments room callers caller Remove false one small = call_says [] KBag 1 false refl small
bag_reads locales segments room callers caller call true one small = subst (λ n. ReadsWords (InRound (ABag locales segments room) n (Some caller)) (ACall (OfBag call true))) (sym (one refl)) (tried call small)
  where
    tried : (call : BagCall) → All Small (listed (numbers_of (ACall (OfBag call true)))) → ReadsWords (InRound (ABag locales segments room) 1 (Some caller)) (ACall (OfBag call true))
    tried (Put item) small = call_says (item ∷ []) KBag 0 true refl small
    tried Remove small = call_says [] KBag 1 true refl small

deque_reads : (locales capacity callers caller : ℕ) (call : DequeCall) (once : Bool) → (once ≡ true → callers ≡ 1) → All Small (listed (numbers_of (ACall (OfDeque call once)))) → ReadsWords (InRound (ADeque locales capacity) callers (Some caller)) (ACall (OfDeque call once))
deque_reads locales capacity callers caller (PushBack item) false one small = call_says (item ∷ []) KDeque 0 false refl small
deque_reads locales capacity callers caller (PushFront item) false one small = call_says (item ∷ []) KDeque 1 false refl small
deque_reads locales capacity callers caller PopBack false one small = call_says [] KDeque 2 false refl small
deque_reads locales capacity callers caller PopFront false one small = call_says [] KDeque 3 false refl small
deque_reads locales capacity callers caller call true one small = subst (λ n. ReadsWords (InRound (ADeque locales capacity) n (Some caller)) (ACall (OfDeque call true))) (sym (one refl)) (tried call small)
  where
    tried : (call : DequeCall) → All Small (listed (numbers_of (ACall (OfDeque call true)))) → ReadsWords (InRound (ADeque locales capacity) 1 (Some caller)) (ACall (OfDeque call true))
    tried (PushBack item) small = call_says (item ∷ []) KDeque 0 true refl small
    tried (PushFront item) small = call_says (item ∷ []) KDeque 1 true refl small
    tried PopBack small = call_says [] KDeque 2 true refl small
    tried PopFront small = call_says [] KDeque 3 true refl small

call_reads : (object : ObjectLine) (callers caller : ℕ) (call : Call) → IsCallOf object callers call → ReadsWords (InRound object callers (Some caller)) (ACall call)
call_reads (AList locales objects width) callers caller (OfList (Read at)) is = call_says (at ∷ []) KList 0 false refl is.numbers
call_reads (AList locales objects width) callers caller (OfList (Write at value)) is = call_says (at ∷ value ∷ []) KList 1 false refl is.numbers
call_reads (AList locales objects width) callers caller (OfList (Swap at old new)) is = call_says (at ∷ old ∷ new ∷ []) KList 2 false refl is.numbers
call_reads (AList locales objects width) callers caller (OfList (Add at value)) is = call_says (at ∷ value ∷ []) KList 3 false refl is.numbers
call_reads (AList locales objects width) callers caller (OfList (Grow to)) is = call_says (to ∷ []) KList 4 false refl is.numbers
call_reads (AList locales objects width) callers caller (OfList Len) is = call_says [] KList 5 false refl is.numbers
call_reads (ABag locales segments room) callers caller (OfBag call once) is = bag_reads locales segments room callers caller call once is.once is.numbers
call_reads (ADeque locales capacity) callers caller (OfDeque call once) is = deque_reads locales capacity callers caller call once is.once is.numbers
call_reads object callers caller call is = absurd is.of_object

list_fits : (locales objects width : ℕ) → IsObject (AList locales objects width) → Fit (ObjectRow KList) Zero (locales ∷ objects ∷ width ∷ [])
list_fits locales objects width may =
    let four = mul-le (locales * objects) 4 (locales * objects) (width + 2) (omega arith) (omega (arith, may.0.3.0)) in
    let positive = mul-le 1 2 locales objects may.0.0.0 may.1 in
    let first : objects ≤ 2 ^ 25 / (4 * locales) = le-div objects (2 ^ 25) (4 * locales) (omega (arith, may.0.0.0)) (omega (arith, may.0.4, four)) in
    let second : width + 2 ≤ 2 ^ 25 / (locales * objects) = le-div (width + 2) (2 ^ 25) (locales * objects) (omega (arith, positive)) (omega (arith, may.0.4)) in
    (may.0.0, omega (arith, may.0.0.1), ((may.1, omega (arith, first, may.0.2.1)), omega (arith, may.0.2.1), ((may.0.3.0, omega (arith, second, may.0.3.1)), omega (arith, may.0.3.1), tt)))

line_reads : (stage : Stage) (line : Line) → IsStage stage → MayCome stage line → ReadsWords stage line
line_reads AtPgas Pgas staged may = (refl, All-nil Small)
line_reads AtObject (Object (AList locales objects width)) staged may = numbers_say (locales ∷ objects ∷ width ∷ []) (ObjectRow KList) Zero refl (list_fits locales objects width may)
line_reads AtObject (Object (ABag locales segments room)) staged may =
    numbers_say (locales ∷ segments ∷ room ∷ []) (ObjectRow KBag) Zero refl ((may.0, may.1), omega (arith, may.1), ((may.2, may.3), omega (arith, may.3), ((may.4, may.5), omega (arith, may.5), tt)))
line_reads AtObject (Object (ADeque locales capacity)) staged may = numbers_say (locales ∷ capacity ∷ []) (ObjectRow KDeque) Zero refl ((may.0, may.1), omega (arith, may.1), ((may.2, may.3), omega (arith, may.3), tt))
line_reads (AtCallers object) (Callers callers) staged may = numbers_say (callers ∷ []) (CallersRow object) Zero refl (may, omega (arith, may.1, (some_callers object).1), tt)
line_reads (InRound object callers caller) (Caller next) staged may =
    let says = numbers_say (next ∷ []) (CallerRow callers) Zero refl ((omega arith, omega (arith, may, staged.1)), omega (arith, may, staged.1), tt) in
    (says_caller object callers caller (decimal next ∷ []) ∙ says.0, says.1)
line_reads (InRound object callers caller) Round staged may = (says_round object callers caller, All-nil Small)
line_reads (InRound object callers caller) End staged may = (says_end object callers caller, All-nil Small)
line_reads (InRound object callers (Some caller)) (ACall call) staged may = call_reads object callers caller call may
line_reads stage line staged may = absurd may

-- ---- letters

call_letters : (call : Call) → are_words ((call_parts call).0 ∷ []) ≡ true
call_letters (OfList (Read at)) = refl
call_letters (OfList (Write at value)) = refl
call_letters (OfList (Swap at old new)) = refl
call_letters (OfList (Add at value)) = refl
call_letters (OfList (Grow to)) = refl
call_letters (OfList Len) = refl
call_letters (OfBag (Put item) once) = refl
call_letters (OfBag Remove once) = refl
call_letters (OfDeque (PushBack item) once) = refl
call_letters (OfDeque (PushFront item) once) = refl
call_letters (OfDeque PopBack once) = refl
call_letters (OfDeque PopFront once) = refl

line_letters : (line : Line) → are_words (words_of line) ≡ true
line_letters (ACall call) = by (is_once call)
  where
    by : (once : Bool) → are_words (try_before once ++ (call_parts call).0 ∷ []) ≡ true
    by true = call_letters call
    by false = call_letters call
line_letters (Object (AList locales objects width)) = refl
line_letters (Object (ABag locales segments room)) = refl
line_letters (Object (ADeque locales capacity)) = refl
line_letters (Callers callers) = refl
line_letters (Caller caller) = refl
line_letters Pgas = refl
line_letters Round = refl
line_letters End = refl

numbers_letters : (words : List (List ℕ)) (numbers : List ℕ) → AllByRecursion AreLetters words → All Small numbers → AllByRecursion AreLetters (words ++ map decimal numbers)
numbers_letters [] [] all small = tt
numbers_letters [] (number ∷ numbers) all small = (decimal_letters number (All-head Small number numbers small), numbers_letters [] numbers tt (All-tail Small number numbers small))
numbers_letters (word ∷ words) numbers all small = (all.0, numbers_letters words numbers all.1 small)

-- a written line reads as the line, and has no LF in it
abbrev pub Reads : Stage → Line → Type 0
Reads stage line = (line_says script_grammar (Start stage) (words_line (line_words line)) ≡ Ok (Some line)) × AllByRecursion (λ byte. byte ≢ 10) (words_line (line_words line))

pub written_reads_line : (stage : Stage) (line : Line) → IsStage stage → MayCome stage line → Reads stage line
written_reads_line stage line staged may =
    let reads = line_reads stage line staged may in
    by (words_of line) (map decimal (listed (numbers_of line))) (some_words line) (numbers_letters (words_of line) (listed (numbers_of line)) (words_from (words_of line) (line_letters line)) reads.1) reads.0
  where
    by : (words others : List (List ℕ)) → 0 < length words → AllByRecursion AreLetters (words ++ others) → says_line script_grammar (Start stage) (words ++ others) ≡ Ok (Some line)
        → (line_says script_grammar (Start stage) (words_line (words ++ others)) ≡ Ok (Some line)) × AllByRecursion (λ byte. byte ≢ 10) (words_line (words ++ others))
    by [] others none letters says = absurd (omega (arith, none))
    by (word ∷ words) others none letters says = (line_of script_grammar IsSpot (Start stage) word (words ++ others) letters ∙ says, words_within (word ∷ (words ++ others)) letters)
