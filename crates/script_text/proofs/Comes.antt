-- A line that is read may come where it stands, and is no shorter than it is written.
use Rattle.std.proofs.Common.{◌≡◌, ℕ, zero, suc, ◌+◌, ◌-◌, ◌<◌, ◌≤◌, ◌^◌, ◌==◌, nat_lt, Bool, true, false, if◌then◌else◌, List, [], ◌∷◌, ◌++◌, length, map, slice_index_or, Some, is_some, Ok, decimal, refl, ap, sym, ◌∙◌, arith, subst, length-append, append_assoc}
use Rattle.std.proofs.lemmas.Bool.{eqb-true, eqb-false, ltb-true, ltb-false}
use Rattle.std.proofs.lemmas.List.{get_or_append_left, get_or-append_right, map-append, length_push}
use Rattle.std.proofs.lemmas.Option.{none-some, same_Some}
use Rattle.line_text.specs.declared.forms.Bounds.{Bounds}
use Rattle.line_text.specs.Lines.{line_says, word_at}
use Rattle.line_text.specs.Words.{number_behind, spaced, words_line}
use Rattle.line_text.proofs.Behind.{decimal_short, says_behind}
use Rattle.script_text.specs.declared.forms.Spot.{Spot}
use Rattle.script_text.specs.declared.forms.Spot.TheVariants.{Start, Version, Kind as AKind, Try, Row as ARow, Whole}
use Rattle.script_text.specs.declared.lines.Kind.{Kind}
use Rattle.script_text.specs.declared.lines.Kind.TheVariants.{List as KList, Bag as KBag, Deque as KDeque}
use Rattle.script_text.specs.declared.lines.Line.{Line}
use Rattle.script_text.specs.declared.lines.Stage.{Stage}
use Rattle.script_text.specs.declared.lines.Stage.TheVariants.{AtPgas, AtObject, AtCallers, InRound}
use Rattle.script_text.specs.declared.rows.Numbers.{Numbers}
use Rattle.script_text.specs.declared.rows.Numbers.TheVariants.{Zero}
use Rattle.script_text.specs.declared.rows.Row.{Row}
use Rattle.script_text.specs.declared.rows.Row.TheVariants.{Call}
use Rattle.script_text.specs.Forms.{calls_at, tries, round_words, round_start, call_words, words_at, row_spot, call_spot, behind_calls, round_leads, after_word, bounds_of, bounds_at, after_number, says_of, script_grammar, count_of, IsStage, IsAt}
use Rattle.script_text.specs.Fronts.{is_made, some_words, count_with, listed_with, few_numbers, listed_made, spot_whole, spot_row, bounds_sound}
use Rattle.script_text.specs.Sound.{in_row, length_call_words, call_word_at, round_size, word_keeps, number_keeps_at}
use Rattle.script_text.specs.Lines.{MayCome}
use Rattle.script_text.specs.Rows.{listed, count, with_number, kind_of, words_of, numbers_of, line_words, written_line, made, row_word}

-- ---- how long the words so far are written, with a space before each

abbrev row_cost : Row → Numbers → ℕ
row_cost row n = length (spaced (words_of (made row Zero) ++ map decimal (listed n)))

abbrev cost : Spot → ℕ
cost Version = 5
cost AKind = 7
cost (Try kind) = 4
cost (ARow row n) = row_cost row n
cost (Whole line) = length (spaced (line_words line))
cost spot = 0

spaced_append : (words others : List (List ℕ)) → length (spaced (words ++ others)) ≡ length (spaced words) + length (spaced others)
spaced_append [] others = omega arith
spaced_append (word ∷ words) others = omega (arith, length-append word (spaced (words ++ others)), length-append word (spaced words), spaced_append words others)

spot_cost : (row : Row) (n : Numbers) → count n ≤ count_of row → cost (row_spot row n) ≡ row_cost row n
spot_cost row n few = by (count n == count_of row) refl
  where
    by : (b : Bool) → (count n == count_of row) ≡ b → cost (row_spot row n) ≡ row_cost row n
    by true is =
        let whole = eqb-true (count n) (count_of row) is in
        ap cost (spot_whole row n whole)
        ∙ (ap (λ (words : List (List ℕ)). length (spaced (words ++ map decimal (listed (numbers_of (made row n)))))) (is_made row n).2
        ∙ ap (λ (l : List ℕ). length (spaced (words_of (made row Zero) ++ map decimal l))) (listed_made row n whole))
    by false is = let other = eqb-false (count n) (count_of row) is in ap cost (spot_row row n (omega (arith, few, other)))

-- a call, also behind the word `try`
call_costs : (kind : Kind) (word : ℕ) → (cost (call_spot kind word false) ≡ 1 + length (row_word (Call kind word false))) × (cost (call_spot kind word true) ≤ 5 + length (row_word (Call kind word false)))
call_costs KList word =
    let one = length-append (row_word (Call KList word false)) [] in
    (omega (arith, spot_cost (Call KList word false) Zero (omega arith), one), omega (arith, spot_cost (Call KList word true) Zero (omega arith), one))
call_costs KBag word =
    let one = length-append (row_word (Call KBag word false)) [] in
    (omega (arith, spot_cost (Call KBag word false) Zero (omega arith), one), omega (arith, spot_cost (Call KBag word true) Zero (omega arith), one))
call_costs KDeque word =
    let one = length-append (row_word (Call KDeque word false)) [] in
    (omega (arith, spot_cost (Call KDeque word false) Zero (omega arith), one), omega (arith, spot_cost (Call KDeque word true) Zero (omega arith), one))

behind_costs : (kind : Kind) (callers index : ℕ) (b : Bool) → index < length (round_words b) → cost (behind_calls kind callers index) ≤ 1 + length (slice_index_or (round_words b) index [])
behind_costs kind callers zero true within = omega arith
behind_costs kind callers zero false within = omega arith
behind_costs kind callers (suc zero) true within = omega arith
behind_costs kind callers (suc zero) false within = omega arith
behind_costs kind callers (suc (suc zero)) true within = omega arith
behind_costs kind callers (suc (suc zero)) false within = omega arith
behind_costs kind callers (suc (suc (suc zero))) true within = omega arith
behind_costs kind callers (suc (suc (suc (suc index)))) true within = absurd (omega (arith, within))
behind_costs kind callers (suc (suc (suc index))) false within = absurd (omega (arith, within))

round_costs : (spoken : Bool) (kind : Kind) (callers index : ℕ) → index < length (round_start spoken kind callers) → cost (round_leads spoken kind callers index) ≤ 1 + length (slice_index_or (round_start spoken kind callers) index [])
round_costs spoken kind callers index within = by (nat_lt index calls) refl
  where
    calls : ℕ
    calls = calls_at spoken kind

    words : List (List ℕ)
    words = call_words kind 0 calls

    behind : List (List ℕ)
    behind = round_words (tries spoken kind callers)

    size : length words ≡ calls
    size = length_call_words kind 0 calls

    by : (b : Bool) → nat_lt index calls ≡ b → cost (if b then call_spot kind index false else behind_calls kind callers (index - calls)) ≤ 1 + length (slice_index_or (words ++ behind) index [])
    by true is =
        let below = ltb-true index calls is in
        omega (arith, (call_costs kind index).0, ap length (get_or_append_left words behind [] index (omega (arith, below, size)) ∙ call_word_at kind calls index below))
    by false is =
        let above = ltb-false index calls is in
        omega (arith, behind_costs kind callers (index - calls) (tries spoken kind callers) (omega (arith, above, within, round_size spoken kind callers)), ap length (get_or-append_right words behind calls index [] size above))

word_costs : (stage : Stage) (spot : Spot) (index : ℕ) → IsAt stage spot → index < length (words_at spot) → cost (after_word spot index) ≤ cost spot + 1 + length (word_at script_grammar spot index)
word_costs stage (Start AtPgas) zero is within = omega arith
word_costs stage (Start AtObject) zero is within = omega arith
word_costs stage (Start (AtCallers object)) zero is within = omega arith
word_costs stage (Start (InRound object callers caller)) index is within = omega (arith, round_costs (is_some caller) (kind_of object) callers index within)
word_costs stage Version zero is within = omega arith
word_costs stage AKind zero is within = omega arith
word_costs stage AKind (suc zero) is within = omega arith
word_costs stage AKind (suc (suc zero)) is within = omega arith
word_costs stage (Try kind) index is within =
    let below : index < calls_at true kind = omega (arith, within, length_call_words kind 0 (calls_at true kind)) in
    omega (arith, (call_costs kind index).1, ap length (call_word_at kind (calls_at true kind) index below))
word_costs stage spot index is within = absurd (omega (arith, within))

number_costs : (stage : Stage) (spot : Spot) (bounds : Bounds) (number : ℕ) (digits : List ℕ) → IsAt stage spot → bounds_at spot ≡ Some bounds → number ≤ bounds.most → 0 < length digits → number_behind 0 digits ≡ Some number
    → cost (after_number spot number) ≤ cost spot + 1 + length digits
number_costs stage spot bounds number digits is own fits longer written =
    let at = in_row spot bounds own in
    let here = subst (IsAt stage) at.spot_is is in
    subst (λ (s : Spot). cost (after_number s number) ≤ cost s + 1 + length digits) (sym at.spot_is) (by at.row at.numbers here (ap (λ (b : Bounds). b.most) at.bounds_are))
  where
    by : (row : Row) (n : Numbers) → IsAt stage (ARow row n) → (bounds_of row n).most ≡ bounds.most → cost (row_spot row (with_number n number)) ≤ row_cost row n + 1 + length digits
    by row n is most =
        let few : count n < 3 = omega (arith, is.2, few_numbers row) in
        let small : number < 2 ^ 64 = omega (arith, fits, most, (bounds_sound stage row n is.0 is.1).fits) in
        let words : words_of (made row Zero) ++ map decimal (listed (with_number n number)) ≡ (words_of (made row Zero) ++ map decimal (listed n)) ++ decimal number ∷ [] =
        ap (λ (l : List ℕ). words_of (made row Zero) ++ map decimal l) (listed_with n number few)
        ∙ (ap (λ (l : List (List ℕ)). words_of (made row Zero) ++ l) (map-append decimal (listed n) (number ∷ [])) ∙ sym (append_assoc (words_of (made row Zero)) (map decimal (listed n)) (decimal number ∷ []))) in
        omega (
          arith,
          spot_cost row (with_number n number) (omega (arith, is.2, count_with n number few)),
          ap (λ (w : List (List ℕ)). length (spaced w)) words,
          spaced_append (words_of (made row Zero) ++ map decimal (listed n)) (decimal number ∷ []),
          length-append (decimal number) [],
          decimal_short digits number longer small written,
        )

-- ---- a whole line

said_whole : (spot : Spot) (line : Line) → says_of spot ≡ Some line → spot ≡ Whole line
said_whole (Whole own) line says = ap (λ l. Whole l) (same_Some own line says)
said_whole spot line says = absurd (none-some line says)

line_size : (line : Line) → length (written_line line) ≡ length (spaced (line_words line))
line_size line = by (words_of line) (some_words line)
  where
    by : (words : List (List ℕ)) → 0 < length words → length (words_line (words ++ map decimal (listed (numbers_of line))) ++ 10 ∷ []) ≡ length (spaced (words ++ map decimal (listed (numbers_of line))))
    by [] none = absurd (omega (arith, none))
    by (word ∷ words) none = omega (arith, length_push (word ++ spaced (words ++ map decimal (listed (numbers_of line)))) 10)

-- a line that is read
pub record Comes (stage : Stage) (line : Line) (bytes : List ℕ) : Type 0 where
  pub may : MayCome stage line
  pub long : length (written_line line) ≤ length bytes + 1

pub line_comes : (stage : Stage) (line : Line) (bytes : List ℕ) → IsStage stage → line_says script_grammar (Start stage) bytes ≡ Ok (Some line) → Comes stage line bytes
line_comes stage line bytes staged says =
    let behind =
    says_behind script_grammar (λ spot size. IsAt stage spot × (cost spot ≤ size)) (λ spot is. is)
    (λ spot size index is within. (word_keeps stage spot index is.0 within, omega (arith, is.1, word_costs stage spot index is.0 within)))
    (λ spot size bounds number digits is own least most longer written.
    (number_keeps_at stage spot bounds number is.0 own least most, omega (arith, is.1, number_costs stage spot bounds number digits is.0 own most longer written))) (Start stage) bytes line
    (refl, omega arith) says in
    let whole = said_whole behind.form line behind.says in
    record {
      may = subst (IsAt stage) whole behind.is.0 staged;
      long = omega (arith, line_size line, ap cost whole, behind.is.1, behind.short);
    }
