-- The forms of a line of a script are a grammar.
use Rattle.std.proofs.Common.{◌≡◌, ℕ, zero, suc, ◌+◌, ◌-◌, ◌<◌, ◌≤◌, ◌==◌, nat_lt, Bool, true, false, if◌then◌else◌, List, [], ◌∷◌, ◌++◌, length, slice_index_or, Option, Some, None, is_some, Ok, codes, decimal, refl, ap, sym, ◌∙◌, arith, subst, length-append}
use Rattle.std.specs.List.{AllByRecursion}
use Rattle.std.proofs.lemmas.Bool.{eqb-true, eqb-false, ltb-true, ltb-false, false≢true}
use Rattle.std.proofs.lemmas.Option.{none-some, same_Some}
use Rattle.seq_objects.specs.declared.lists.ListCall.TheVariants.{Len}
use Rattle.seq_objects.specs.declared.bags.BagCall.TheVariants.{Remove}
use Rattle.seq_objects.specs.declared.deques.DequeCall.TheVariants.{PopFront}
use Rattle.line_text.specs.declared.forms.Bounds.{Bounds}
use Rattle.line_text.specs.Letters.{are_words, words_from, all_at}
use Rattle.line_text.specs.Lines.{IsGrammar, IsBounds, then_leads, or_bad, place_from, says_words, word_at, word_leads}
use Rattle.line_text.specs.Words.{cut, words_of as words_in, AreLetters, words_line}
use Rattle.line_text.proofs.WrittenWords.{words_cut, decimal_letters, decimal_leads}
use Rattle.script_text.specs.declared.forms.Spot.{Spot}
use Rattle.script_text.specs.declared.forms.Spot.TheVariants.{Start, Version, Kind as AKind, Try, Row as ARow, Whole}
use Rattle.script_text.specs.declared.lines.Kind.{Kind}
use Rattle.script_text.specs.declared.lines.Kind.TheVariants.{List as KList, Bag as KBag, Deque as KDeque}
use Rattle.script_text.specs.declared.lines.Line.{Line}
use Rattle.script_text.specs.declared.lines.Line.TheVariants.{Pgas as PgasLine, Object as ObjectLine, Round as RoundLine, Call as CallLine, End as EndLine}
use Rattle.script_text.specs.declared.lines.Stage.{Stage}
use Rattle.script_text.specs.declared.lines.Stage.TheVariants.{AtPgas, AtObject, AtCallers, InRound}
use Rattle.script_text.specs.declared.rows.Numbers.{Numbers}
use Rattle.script_text.specs.declared.rows.Numbers.TheVariants.{Zero}
use Rattle.script_text.specs.declared.rows.Row.{Row}
use Rattle.script_text.specs.declared.rows.Row.TheVariants.{Object, Callers, Caller, Call}
use Rattle.script_text.specs.declared.scripts.ObjectLine.{ObjectLine as AnObject}
use Rattle.script_text.specs.declared.scripts.ObjectLine.TheVariants.{Deque as ADeque}
use Rattle.script_text.specs.declared.scripts.Call.TheVariants.{List as OfList, Bag as OfBag, Deque as OfDeque}
use Rattle.script_text.specs.Forms.{call_words, calls_at, tries, round_words, round_start, words_at, row_spot, call_spot, behind_calls, round_leads, kind_at, after_word, bounds_of, bounds_at, after_number, script_grammar, IsFront, count_of, RowAt, IsAt, IsSpot}
use Rattle.script_text.specs.Fronts.{number_keeps, count_with, few_numbers, spot_whole, spot_row, bounds_sound, line_may}
use Rattle.script_text.specs.Lines.{MayCome}
use Rattle.script_text.specs.Rows.{count, with_number, kind_of, made, row_word}

-- ---- where words lead

row_spot_at : (stage : Stage) (row : Row) (n : Numbers) → RowAt stage row → IsFront row n → count n ≤ count_of row → IsAt stage (row_spot row n)
row_spot_at stage row n at front few = by (count n == count_of row) refl
  where
    by : (b : Bool) → (count n == count_of row) ≡ b → IsAt stage (row_spot row n)
    by true is = let whole = eqb-true (count n) (count_of row) is in subst (IsAt stage) (sym (spot_whole row n whole)) (λ staged. line_may stage row n at front whole staged)
    by false is =
        let other = eqb-false (count n) (count_of row) is in
        let some : count n < count_of row = omega (arith, few, other) in
        subst (IsAt stage) (sym (spot_row row n some)) (at, front, some)

pub length_call_words : (kind : Kind) (word more : ℕ) → length (call_words kind word more) ≡ more
length_call_words kind word zero = refl
length_call_words kind word (suc more) = omega (arith, length_call_words kind (word + 1) more)

call_words_at : (kind : Kind) (word more index : ℕ) → index < more → slice_index_or (call_words kind word more) index [] ≡ row_word (Call kind (word + index) false)
call_words_at kind word zero index within = absurd (omega (arith, within))
call_words_at kind word (suc more) zero within = ap (λ w. row_word (Call kind w false)) (omega arith)
call_words_at kind word (suc more) (suc index) within = call_words_at kind (word + 1) more index (omega (arith, within)) ∙ ap (λ w. row_word (Call kind w false)) (omega arith)

pub call_word_at : (kind : Kind) (more index : ℕ) → index < more → slice_index_or (call_words kind 0 more) index [] ≡ row_word (Call kind index false)
call_word_at kind more index within = call_words_at kind 0 more index within ∙ ap (λ w. row_word (Call kind w false)) (omega arith)

pub round_size : (spoken : Bool) (kind : Kind) (callers : ℕ) → length (round_start spoken kind callers) ≡ calls_at spoken kind + length (round_words (tries spoken kind callers))
round_size spoken kind callers = omega (arith, length-append (call_words kind 0 (calls_at spoken kind)) (round_words (tries spoken kind callers)), length_call_words kind 0 (calls_at spoken kind))

tries_one : (spoken : Bool) (kind : Kind) (callers : ℕ) → tries spoken kind callers ≡ true → (callers ≡ 1) × (spoken ≡ true)
tries_one true KBag callers is = (eqb-true callers 1 is, refl)
tries_one true KDeque callers is = (eqb-true callers 1 is, refl)
tries_one true KList callers is = absurd (false≢true is)
tries_one false kind callers is = absurd (false≢true is)

spoken_caller : (caller : Option ℕ) → is_some caller ≡ true → (spoken : ℕ) × (caller ≡ Some spoken)
spoken_caller None is = absurd (false≢true is)
spoken_caller (Some spoken) is = (spoken, refl)

behind_at : (object : AnObject) (callers : ℕ) (caller : Option ℕ) (index : ℕ) → index < length (round_words (tries (is_some caller) (kind_of object) callers))
    → IsAt (InRound object callers caller) (behind_calls (kind_of object) callers index)
behind_at object callers caller zero within = row_spot_at (InRound object callers caller) (Caller callers) Zero (object, caller, refl) tt (omega arith)
behind_at object callers caller (suc zero) within = λ staged. tt
behind_at object callers caller (suc (suc zero)) within = λ staged. tt
behind_at object callers caller (suc (suc (suc index))) within = by (tries (is_some caller) (kind_of object) callers) refl within
  where
    by : (b : Bool) → tries (is_some caller) (kind_of object) callers ≡ b → suc (suc (suc index)) < length (round_words b) → IsAt (InRound object callers caller) (Try (kind_of object))
    by false is within = absurd (omega (arith, within))
    by true is within =
        let one = tries_one (is_some caller) (kind_of object) callers is in
        let own = spoken_caller caller one.1 in
        (object, own.0, ap (λ n. InRound object n caller) one.0 ∙ ap (λ (c : Option ℕ). InRound object 1 c) own.1, refl)

called_at : (object : AnObject) (callers : ℕ) (caller : Option ℕ) (index : ℕ) → index < calls_at (is_some caller) (kind_of object) → IsAt (InRound object callers caller) (call_spot (kind_of object) index false)
called_at object callers None index within = absurd (omega (arith, within))
called_at object callers (Some caller) index within =
    row_spot_at (InRound object callers (Some caller)) (Call (kind_of object) index false) Zero (object, callers, caller, refl, refl, λ once. absurd (false≢true once)) tt (omega arith)

round_at : (object : AnObject) (callers : ℕ) (caller : Option ℕ) (index : ℕ) → index < length (round_start (is_some caller) (kind_of object) callers)
    → IsAt (InRound object callers caller) (round_leads (is_some caller) (kind_of object) callers index)
round_at object callers caller index within = by (nat_lt index calls) refl
  where
    calls : ℕ
    calls = calls_at (is_some caller) (kind_of object)

    by : (b : Bool) → nat_lt index calls ≡ b → IsAt (InRound object callers caller) (if b then call_spot (kind_of object) index false else behind_calls (kind_of object) callers (index - calls))
    by true is = called_at object callers caller index (ltb-true index calls is)
    by false is =
        let above = ltb-false index calls is in
        behind_at object callers caller (index - calls) (omega (arith, above, within, round_size (is_some caller) (kind_of object) callers))

start_at : (stage : Stage) (index : ℕ) → index < length (words_at (Start stage)) → IsAt stage (after_word (Start stage) index)
start_at AtPgas index within = refl
start_at AtObject index within = refl
start_at (AtCallers object) index within = row_spot_at (AtCallers object) (Callers object) Zero refl tt (omega arith)
start_at (InRound object callers caller) index within = round_at object callers caller index within

pub word_keeps : (stage : Stage) (spot : Spot) (index : ℕ) → IsAt stage spot → index < length (words_at spot) → IsAt stage (after_word spot index)
word_keeps stage (Start own) index is within = subst (λ (s : Stage). IsAt s (after_word (Start own) index)) is (start_at own index within)
word_keeps stage Version index is within = λ staged. subst (λ (s : Stage). MayCome s PgasLine) (sym is) tt
word_keeps stage AKind index is within = row_spot_at stage (Object (kind_at index)) Zero is tt (omega arith)
word_keeps stage (Try kind) index is within = row_spot_at stage (Call kind index true) Zero (is.0, 1, is.1, is.2, is.3, λ once. refl) tt (omega arith)
word_keeps stage (ARow row n) index is within = is
word_keeps stage (Whole line) index is within = is

-- ---- where numbers lead

-- a number stands in a row alone
pub record InRow (spot : Spot) (bounds : Bounds) : Type 0 where
  pub row : Row
  pub numbers : Numbers
  pub spot_is : spot ≡ ARow row numbers
  pub bounds_are : bounds_of row numbers ≡ bounds

pub in_row : (spot : Spot) (bounds : Bounds) → bounds_at spot ≡ Some bounds → InRow spot bounds
in_row (ARow row n) bounds own = record { row = row; numbers = n; spot_is = refl; bounds_are = same_Some (bounds_of row n) bounds own }
in_row spot bounds own = absurd (none-some bounds own)

pub number_keeps_at : (stage : Stage) (spot : Spot) (bounds : Bounds) (number : ℕ) → IsAt stage spot → bounds_at spot ≡ Some bounds → bounds.least ≤ number → number ≤ bounds.most → IsAt stage (after_number spot number)
number_keeps_at stage spot bounds number is own least most =
    let at = in_row spot bounds own in
    let here = subst (IsAt stage) at.spot_is is in
    let few : count at.numbers < 3 = omega (arith, here.2, few_numbers at.row) in
    subst (λ (s : Spot). IsAt stage (after_number s number)) (sym at.spot_is) (row_spot_at stage at.row (with_number at.numbers number) here.0
    (number_keeps at.row at.numbers number here.1 few (omega (arith, least, ap (λ (b : Bounds). b.least) at.bounds_are), omega (arith, most, ap (λ (b : Bounds). b.most) at.bounds_are))) (omega (arith, here.2, count_with at.numbers number few)))

bounds_sound_at : (stage : Stage) (spot : Spot) (bounds : Bounds) → IsAt stage spot → bounds_at spot ≡ Some bounds → IsBounds bounds
bounds_sound_at stage spot bounds is own =
    let at = in_row spot bounds own in
    let here = subst (IsAt stage) at.spot_is is in
    subst IsBounds at.bounds_are (bounds_sound stage at.row at.numbers here.0 here.1)

-- ---- letters

start_words : (spoken : Bool) (kind : Kind) (b : Bool) → are_words (call_words kind 0 (calls_at spoken kind) ++ round_words b) ≡ true
start_words false kind true = refl
start_words false kind false = refl
start_words true KList true = refl
start_words true KList false = refl
start_words true KBag true = refl
start_words true KBag false = refl
start_words true KDeque true = refl
start_words true KDeque false = refl

spot_words : (spot : Spot) → are_words (words_at spot) ≡ true
spot_words (Start AtPgas) = refl
spot_words (Start AtObject) = refl
spot_words (Start (AtCallers object)) = refl
spot_words (Start (InRound object callers caller)) = start_words (is_some caller) (kind_of object) (tries (is_some caller) (kind_of object) callers)
spot_words Version = refl
spot_words AKind = refl
spot_words (Try KList) = refl
spot_words (Try KBag) = refl
spot_words (Try KDeque) = refl
spot_words (ARow row n) = refl
spot_words (Whole line) = refl

letters : (spot : Spot) (index : ℕ) → index < length (words_at spot) → AreLetters (word_at script_grammar spot index)
letters spot index within = all_at AreLetters (words_at spot) index [] within (words_from (words_at spot) (spot_words spot))

-- ---- each spot goes on

-- words with which the line goes on
record Goes (spot : Spot) : Type 0 where
  words : List (List ℕ)
  line : Line
  letters : AllByRecursion AreLetters words
  says : says_words script_grammar spot words ≡ Ok (Some line)

word_goes : (spot next : Spot) (word : List ℕ) → AreLetters word → word_leads script_grammar spot word ≡ Ok next → Goes next → Goes spot
word_goes spot next word letters leads goes = record {
  words = word ∷ goes.words;
  line = goes.line;
  letters = (letters, goes.letters);
  says = ap (λ r. then_leads r (λ next. says_words script_grammar next goes.words)) leads ∙ goes.says;
}

closed : (words : List (List ℕ)) (spot : Spot) (line : Line) → are_words words ≡ true → says_words script_grammar spot words ≡ Ok (Some line) → Goes spot
closed words spot line letters says = record { words = words; line = line; letters = words_from words letters; says = says }

-- so many numbers are missing
row_goes : (missing : ℕ) (stage : Stage) (row : Row) (n : Numbers) → RowAt stage row → IsFront row n → count_of row ≡ count n + missing → Goes (row_spot row n)
row_goes zero stage row n at front whole = subst (λ (s : Spot). Goes s) (sym (spot_whole row n (omega (arith, whole)))) (closed [] (Whole (made row n)) (made row n) refl refl)
row_goes (suc missing) stage row n at front whole =
    subst (λ (s : Spot). Goes s) (sym (spot_row row n (omega (arith, whole))))
    (word_goes (ARow row n) (row_spot row (with_number n bounds.least)) (decimal bounds.least) (decimal_letters bounds.least (omega (arith, sound.digit)))
    (decimal_leads script_grammar IsSpot (ARow row n) bounds bounds.least refl refl (omega arith) sound.some (omega (arith, sound.digit)))
    (row_goes missing stage row (with_number n bounds.least) at (number_keeps row n bounds.least front few (omega arith, sound.some)) (omega (arith, whole, count_with n bounds.least few))))
  where
    bounds : Bounds
    bounds = bounds_of row n

    sound : IsBounds bounds
    sound = bounds_sound stage row n at front

    few : count n < 3
    few = omega (arith, whole, few_numbers row)

-- the words behind those of the calls, and where they lead
abbrev Leads : Bool → Kind → ℕ → Bool → List ℕ → ℕ → Spot → Type 0
Leads spoken kind callers b word place spot =
    (place_from 0 (call_words kind 0 (calls_at spoken kind) ++ round_words b) word ≡ Some (calls_at spoken kind + place)) × (round_leads spoken kind callers (calls_at spoken kind + place) ≡ spot)

abbrev AllLead : Bool → Kind → ℕ → Bool → Type 0
AllLead spoken kind callers b =
    Leads spoken kind callers b (codes "caller") 0 (row_spot (Caller callers) Zero) × Leads spoken kind callers b (codes "round") 1 (Whole RoundLine) × Leads spoken kind callers b (codes "end") 2 (Whole EndLine)

all_lead : (spoken : Bool) (kind : Kind) (callers : ℕ) (b : Bool) → AllLead spoken kind callers b
all_lead false kind callers true = ((refl, refl), (refl, refl), (refl, refl))
all_lead false kind callers false = ((refl, refl), (refl, refl), (refl, refl))
all_lead true KList callers true = ((refl, refl), (refl, refl), (refl, refl))
all_lead true KList callers false = ((refl, refl), (refl, refl), (refl, refl))
all_lead true KBag callers true = ((refl, refl), (refl, refl), (refl, refl))
all_lead true KBag callers false = ((refl, refl), (refl, refl), (refl, refl))
all_lead true KDeque callers true = ((refl, refl), (refl, refl), (refl, refl))
all_lead true KDeque callers false = ((refl, refl), (refl, refl), (refl, refl))

-- what such a word says in a line of a round
says_round_word : (spoken : Bool) (kind : Kind) (callers place : ℕ) (word : List ℕ) (words : List (List ℕ)) (spot : Spot) → Leads spoken kind callers (tries spoken kind callers) word place spot
    → then_leads (then_leads (or_bad (place_from 0 (round_start spoken kind callers) word)) (λ place. Ok (round_leads spoken kind callers place))) (λ next. says_words script_grammar next words) ≡ says_words script_grammar spot words
says_round_word spoken kind callers place word words spot is =
    ap (λ o. then_leads (then_leads (or_bad o) (λ place. Ok (round_leads spoken kind callers place))) (λ next. says_words script_grammar next words)) is.0 ∙ ap (λ s. says_words script_grammar s words) is.1

module _ (object : AnObject) (callers : ℕ) (caller : Option ℕ) where
  lead : AllLead (is_some caller) (kind_of object) callers (tries (is_some caller) (kind_of object) callers)
  lead = all_lead (is_some caller) (kind_of object) callers (tries (is_some caller) (kind_of object) callers)

  pub says_caller : (words : List (List ℕ)) → says_words script_grammar (Start (InRound object callers caller)) (codes "caller" ∷ words) ≡ says_words script_grammar (row_spot (Caller callers) Zero) words
  says_caller words = says_round_word (is_some caller) (kind_of object) callers 0 (codes "caller") words (row_spot (Caller callers) Zero) lead.0

  pub says_round : says_words script_grammar (Start (InRound object callers caller)) (codes "round" ∷ []) ≡ Ok (Some RoundLine)
  says_round = says_round_word (is_some caller) (kind_of object) callers 1 (codes "round") [] (Whole RoundLine) lead.1

  pub says_end : says_words script_grammar (Start (InRound object callers caller)) (codes "end" ∷ []) ≡ Ok (Some EndLine)
  says_end = says_round_word (is_some caller) (kind_of object) callers 2 (codes "end") [] (Whole EndLine) lead.2

spot_goes : (stage : Stage) (spot : Spot) → IsAt stage spot → Goes spot
spot_goes stage (Start AtPgas) is = closed (codes "pgas" ∷ codes "1" ∷ []) (Start AtPgas) PgasLine refl refl
spot_goes stage (Start AtObject) is = closed (codes "object" ∷ codes "deque" ∷ codes "1" ∷ codes "1" ∷ []) (Start AtObject) (ObjectLine (ADeque 1 1)) refl refl
spot_goes stage (Start (AtCallers object)) is =
    word_goes (Start (AtCallers object)) (row_spot (Callers object) Zero) (codes "callers") (words_from (codes "callers" ∷ []) refl).0 refl (row_goes 1 (AtCallers object) (Callers object) Zero refl tt refl)
spot_goes stage (Start (InRound object callers caller)) is = closed (codes "end" ∷ []) (Start (InRound object callers caller)) EndLine refl (says_end object callers caller)
spot_goes stage Version is = closed (codes "1" ∷ []) Version PgasLine refl refl
spot_goes stage AKind is = closed (codes "deque" ∷ codes "1" ∷ codes "1" ∷ []) AKind (ObjectLine (ADeque 1 1)) refl refl
spot_goes stage (Try KList) is = closed (codes "len" ∷ []) (Try KList) (CallLine (OfList Len)) refl refl
spot_goes stage (Try KBag) is = closed (codes "remove" ∷ []) (Try KBag) (CallLine (OfBag Remove true)) refl refl
spot_goes stage (Try KDeque) is = closed (codes "pop_front" ∷ []) (Try KDeque) (CallLine (OfDeque PopFront true)) refl refl
spot_goes stage (ARow row n) is =
    subst (λ (s : Spot). Goes s) (spot_row row n is.2) (row_goes (count_of row - count n) stage row n is.0 is.1 (omega (arith, is.2)))
spot_goes stage (Whole line) is = closed [] (Whole line) line refl refl

goes_on : (stage : Stage) (spot : Spot) → IsAt stage spot → (rest : List ℕ) × (line : Line) × (says_words script_grammar spot (words_in (cut rest)) ≡ Ok (Some line))
goes_on stage spot is =
    let goes = spot_goes stage spot is in
    (words_line goes.words, goes.line, ap (says_words script_grammar spot) (words_cut goes.words goes.letters) ∙ goes.says)

pub script_grammar_sound : IsGrammar script_grammar IsSpot
script_grammar_sound = record {
  word = λ spot index is within. (is.0, word_keeps is.0 spot index is.1 within);
  number = λ spot bounds number is own least most. (is.0, number_keeps_at is.0 spot bounds number is.1 own least most);
  indents = λ spot is. is;
  indents_once = λ spot. refl;
  letters = λ spot index is within. letters spot index within;
  bounds = λ spot bounds is own. bounds_sound_at is.0 spot bounds is.1 own;
  joins = λ spot bounds number is own least most joined. absurd (false≢true joined);
  goes_on = λ spot is. goes_on is.0 spot is.1;
}
