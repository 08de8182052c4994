-- The numbers of a row: each leaves those behind it some number, and with its last the row is a line that may come.
use Rattle.std.proofs.Common.{◌≡◌, ℕ, zero, suc, ◌+◌, ◌-◌, ◌*◌, ◌/◌, ◌<◌, ◌≤◌, ◌^◌, ◌==◌, min, Bool, true, List, [], ◌∷◌, ◌++◌, length, take, All, refl, ap, sym, ◌∙◌, arith, subst}
use Rattle.std.proofs.lemmas.Bool.{cond-true, cond-false, eq-eqb, ne_eqb, false≢true}
use Rattle.std.proofs.lemmas.List.{length_push}
use Rattle.std.proofs.lemmas.List.Elements.{All-nil, All-cons}
use Rattle.std.proofs.lemmas.Nat.{mul-le, le-div, div-add-mod'}
use Rattle.std.proofs.Math.Nat.{mul_comm}
use Rattle.line_text.specs.Lines.{IsBounds}
use Rattle.line_text.specs.Ranges.{between_sound}
use Rattle.script_text.specs.declared.forms.Spot.TheVariants.{Row as ARow, Whole}
use Rattle.script_text.specs.declared.lines.Kind.{Kind}
use Rattle.script_text.specs.declared.lines.Kind.TheVariants.{List as KList, Bag as KBag, Deque as KDeque}
use Rattle.script_text.specs.declared.lines.Line.{Line}
use Rattle.script_text.specs.declared.lines.Line.TheVariants.{Callers as CallersLine, Caller as CallerLine, Call as CallLine}
use Rattle.script_text.specs.declared.lines.Stage.{Stage}
use Rattle.script_text.specs.declared.lines.Stage.TheVariants.{AtObject}
use Rattle.script_text.specs.declared.rows.Numbers.{Numbers}
use Rattle.script_text.specs.declared.rows.Numbers.TheVariants.{Zero, One, Two, Three}
use Rattle.script_text.specs.declared.rows.Row.{Row}
use Rattle.script_text.specs.declared.rows.Row.TheVariants.{Object, Callers, Caller, Call}
use Rattle.script_text.specs.declared.scripts.ObjectLine.{ObjectLine as AnObject}
use Rattle.script_text.specs.declared.scripts.ObjectLine.TheVariants.{List as AList, Bag as ABag, Deque as ADeque}
use Rattle.script_text.specs.Forms.{bounds_of, count_of, row_spot, In, IsFront, RowAt, IsStage}
use Rattle.script_text.specs.Lines.{IsOfObject, IsCallOf, MayCome, most_callers}
use Rattle.script_text.specs.Rows.{count, listed, nth, with_number, kind_of, is_once, line_parts, fronts, words_of, call_made, numbers_of, made}

-- ---- a row and its line

abbrev three : Numbers → List ℕ
three n = nth n 0 ∷ nth n 1 ∷ nth n 2 ∷ []

-- the line that is made of a row has so many of these numbers, and the row's words
abbrev IsMade : Row → Numbers → Type 0
IsMade row n = (count (numbers_of (made row n)) ≡ count_of row) × (listed (numbers_of (made row n)) ≡ take (count_of row) (three n)) × (words_of (made row n) ≡ words_of (made row Zero))

pub is_made : (row : Row) (n : Numbers) → IsMade row n
is_made (Object KList) n = (refl, refl, refl)
is_made (Object KBag) n = (refl, refl, refl)
is_made (Object KDeque) n = (refl, refl, refl)
is_made (Callers object) n = (refl, refl, refl)
is_made (Caller callers) n = (refl, refl, refl)
is_made (Call KList zero once) n = (refl, refl, refl)
is_made (Call KList (suc zero) once) n = (refl, refl, refl)
is_made (Call KList (suc (suc zero)) once) n = (refl, refl, refl)
is_made (Call KList (suc (suc (suc zero))) once) n = (refl, refl, refl)
is_made (Call KList (suc (suc (suc (suc zero)))) once) n = (refl, refl, refl)
is_made (Call KList (suc (suc (suc (suc (suc word))))) once) n = (refl, refl, refl)
is_made (Call KBag zero once) n = (refl, refl, refl)
is_made (Call KBag (suc word) once) n = (refl, refl, refl)
is_made (Call KDeque zero once) n = (refl, refl, refl)
is_made (Call KDeque (suc zero) once) n = (refl, refl, refl)
is_made (Call KDeque (suc (suc zero)) once) n = (refl, refl, refl)
is_made (Call KDeque (suc (suc (suc word))) once) n = (refl, refl, refl)

count_most : (n : Numbers) → count n ≤ 3
count_most Zero = omega arith
count_most (One first) = omega arith
count_most (Two first second) = omega arith
count_most (Three first second third) = omega arith

-- no line has more numbers than there is room for
pub few_numbers : (row : Row) → count_of row ≤ 3
few_numbers row = count_most (numbers_of (made row Zero))

pub listed_made : (row : Row) (n : Numbers) → count n ≡ count_of row → listed (numbers_of (made row n)) ≡ listed n
listed_made row n whole = (is_made row n).1 ∙ (ap (λ c. take c (three n)) (sym whole) ∙ by n)
  where
    by : (n : Numbers) → take (count n) (three n) ≡ listed n
    by Zero = refl
    by (One first) = refl
    by (Two first second) = refl
    by (Three first second third) = refl

pub spot_whole : (row : Row) (n : Numbers) → count n ≡ count_of row → row_spot row n ≡ Whole (made row n)
spot_whole row n whole = cond-true (count (numbers_of (made row n)) == count n) (Whole (made row n)) (ARow row n) (eq-eqb (count (numbers_of (made row n))) (count n) (omega (arith, whole, (is_made row n).0)))

pub spot_row : (row : Row) (n : Numbers) → count n < count_of row → row_spot row n ≡ ARow row n
spot_row row n some = cond-false (count (numbers_of (made row n)) == count n) (Whole (made row n)) (ARow row n) (ne_eqb (count (numbers_of (made row n))) (count n) (λ is. omega (arith, is, some, (is_made row n).0)))

-- every line has a word
pub some_words : (line : Line) → 0 < length (words_of line)
some_words line = omega (arith, length_push (fronts line) (line_parts line).0)

-- ---- one more number

pub count_with : (n : Numbers) (number : ℕ) → count n < 3 → count (with_number n number) ≡ count n + 1
count_with Zero number few = refl
count_with (One first) number few = refl
count_with (Two first second) number few = refl
count_with (Three first second third) number few = absurd (omega (arith, few))

pub listed_with : (n : Numbers) (number : ℕ) → count n < 3 → listed (with_number n number) ≡ listed n ++ number ∷ []
listed_with Zero number few = refl
listed_with (One first) number few = refl
listed_with (Two first second) number few = refl
listed_with (Three first second third) number few = absurd (omega (arith, few))

pub number_keeps : (row : Row) (n : Numbers) (number : ℕ) → IsFront row n → count n < 3 → In (bounds_of row n) number → IsFront row (with_number n number)
number_keeps row Zero number front few is = is
number_keeps row (One first) number front few is = (front, is)
number_keeps row (Two first second) number front few is = (front.0, front.1, is)
number_keeps row (Three first second third) number front few is = absurd (omega (arith, few))

-- the numbers by their places
pub front_fields : (row : Row) (n : Numbers) → IsFront row n
    → (0 < count n → In (bounds_of row Zero) (nth n 0)) × (1 < count n → In (bounds_of row (One (nth n 0))) (nth n 1)) × (2 < count n → In (bounds_of row (Two (nth n 0) (nth n 1))) (nth n 2))
front_fields row Zero front = ((λ some. absurd (omega (arith, some))), (λ some. absurd (omega (arith, some))), (λ some. absurd (omega (arith, some))))
front_fields row (One first) front = ((λ some. front), (λ some. absurd (omega (arith, some))), (λ some. absurd (omega (arith, some))))
front_fields row (Two first second) front = ((λ some. front.0), (λ some. front.1), (λ some. absurd (omega (arith, some))))
front_fields row (Three first second third) front = ((λ some. front.0), (λ some. front.1), (λ some. front.2))

-- ---- bounds

-- a quotient keeps its bound
mul_quotient : (n m k : ℕ) → k ≤ n / m → m * k ≤ n
mul_quotient n m k below =
    let product = mul-le m k m (n / m) (omega arith) below in
    omega (arith, product, div-add-mod' n m, mul_comm m (n / m))

-- the objects of a list leave room for rows of two words
pub list_words : (locales objects : ℕ) → objects ≤ 2 ^ 25 / (4 * locales) → locales * objects * 4 ≤ 2 ^ 25
list_words locales objects below = omega (arith, mul_quotient (2 ^ 25) (4 * locales) objects below)

pub some_callers : (object : AnObject) → (1 ≤ most_callers object) × (most_callers object < 2 ^ 32)
some_callers (AList locales objects width) = (omega arith, omega arith)
some_callers (ABag locales segments room) = (omega arith, omega arith)
some_callers (ADeque locales capacity) = (omega arith, omega arith)

object_sound : (kind : Kind) (n : Numbers) → IsFront (Object kind) n → IsBounds (bounds_of (Object kind) n)
object_sound kind Zero front = between_sound 1 16 (omega arith) (omega arith) (omega arith)
object_sound KList (One locales) front =
    let room : 2 ≤ 2 ^ 25 / (4 * locales) = le-div 2 (2 ^ 25) (4 * locales) (omega (arith, front)) (omega (arith, front)) in
    between_sound 2 (min (2 ^ 25 / (4 * locales)) (2 ^ 20)) (omega arith) (omega (arith, room)) (omega arith)
object_sound KList (Two locales objects) front =
    let words = list_words locales objects (omega (arith, front.1)) in
    let positive = mul-le 1 2 locales objects front.0.0 front.1.0 in
    let room : 4 ≤ 2 ^ 25 / (locales * objects) = le-div 4 (2 ^ 25) (locales * objects) (omega (arith, positive)) (omega (arith, words)) in
    between_sound 2 (min (2 ^ 25 / (locales * objects) - 2) 4096) (omega arith) (omega (arith, room)) (omega arith)
object_sound KBag (One locales) front = between_sound 1 64 (omega arith) (omega arith) (omega arith)
object_sound kind n front = between_sound 1 (2 ^ 24) (omega arith) (omega arith) (omega arith)

pub bounds_sound : (stage : Stage) (row : Row) (n : Numbers) → RowAt stage row → IsFront row n → IsBounds (bounds_of row n)
bounds_sound stage (Object kind) n at front = object_sound kind n front
bounds_sound stage (Callers object) n at front = let some = some_callers object in between_sound 1 (most_callers object) (omega arith) some.0 (omega (arith, some.1))
bounds_sound stage (Caller callers) n at front = between_sound 0 (min (callers - 1) (2 ^ 32 - 1)) (omega arith) (omega arith) (omega arith)
bounds_sound stage (Call kind word once) n at front = between_sound 0 (2 ^ 64 - 1) (omega arith) (omega arith) (omega arith)

-- ---- the line of a row

object_may : (kind : Kind) (n : Numbers) → IsFront (Object kind) n → count n ≡ count_of (Object kind) → MayCome AtObject (made (Object kind) n)
object_may KList n front whole =
    let fields = front_fields (Object KList) n front in
    let first = fields.0 (omega (arith, whole)) in
    let second = fields.1 (omega (arith, whole)) in
    let third = fields.2 (omega (arith, whole)) in
    let below : nth n 2 + 2 ≤ 2 ^ 25 / (nth n 0 * nth n 1) = omega (arith, third) in
    ((first, (omega arith, omega arith), (omega (arith, second), omega (arith, second)), (omega (arith, third), omega (arith, third)), mul_quotient (2 ^ 25) (nth n 0 * nth n 1) (nth n 2 + 2) below), omega (arith, second))
object_may KBag n front whole =
    let fields = front_fields (Object KBag) n front in
    let first = fields.0 (omega (arith, whole)) in
    let second = fields.1 (omega (arith, whole)) in
    let third = fields.2 (omega (arith, whole)) in
    (first.0, first.1, second.0, second.1, third.0, third.1)
object_may KDeque n front whole =
    let fields = front_fields (Object KDeque) n front in
    let first = fields.0 (omega (arith, whole)) in
    let second = fields.1 (omega (arith, whole)) in
    (first.0, first.1, second.0, second.1)

of_kind : (object : AnObject) (word : ℕ) (once : Bool) (n : Numbers) → IsOfObject object (call_made (kind_of object) word once n) × (is_once (call_made (kind_of object) word once n) ≡ true → once ≡ true)
of_kind (AList locales objects width) word once n = (tt, λ is. absurd (false≢true is))
of_kind (ABag locales segments room) word once n = (tt, λ is. is)
of_kind (ADeque locales capacity) word once n = (tt, λ is. is)

abbrev Small : ℕ → Type 0
Small number = number < 2 ^ 64

small_numbers : (kind : Kind) (word : ℕ) (once : Bool) (n : Numbers) → IsFront (Call kind word once) n → All Small (listed n)
small_numbers kind word once Zero front = All-nil Small
small_numbers kind word once (One first) front = All-cons Small first [] (omega (arith, front)) (All-nil Small)
small_numbers kind word once (Two first second) front = All-cons Small first (second ∷ []) (omega (arith, front.0)) (All-cons Small second [] (omega (arith, front.1)) (All-nil Small))
small_numbers kind word once (Three first second third) front =
    All-cons Small first (second ∷ third ∷ []) (omega (arith, front.0)) (All-cons Small second (third ∷ []) (omega (arith, front.1)) (All-cons Small third [] (omega (arith, front.2)) (All-nil Small)))

call_may : (object : AnObject) (callers word : ℕ) (once : Bool) (n : Numbers) → (once ≡ true → callers ≡ 1) → IsFront (Call (kind_of object) word once) n → count n ≡ count_of (Call (kind_of object) word once)
    → IsCallOf object callers (call_made (kind_of object) word once n)
call_may object callers word once n one front whole = record {
  of_object = (of_kind object word once n).0;
  once = λ is. one ((of_kind object word once n).1 is);
  numbers = subst (λ (l : List ℕ). All (λ number. number < 2 ^ 64) l) (sym (listed_made (Call (kind_of object) word once) n whole)) (small_numbers (kind_of object) word once n front);
}

pub line_may : (stage : Stage) (row : Row) (n : Numbers) → RowAt stage row → IsFront row n → count n ≡ count_of row → IsStage stage → MayCome stage (made row n)
line_may stage (Object kind) n at front whole staged = subst (λ (s : Stage). MayCome s (made (Object kind) n)) (sym at) (object_may kind n front whole)
line_may stage (Callers object) n at front whole staged = subst (λ (s : Stage). MayCome s (CallersLine (nth n 0))) (sym at) ((front_fields (Callers object) n front).0 (omega (arith, whole)))
line_may stage (Caller callers) n at front whole staged =
    let some : 1 ≤ callers = (subst IsStage at.2 staged).0 in
    subst (λ (s : Stage). MayCome s (CallerLine (nth n 0))) (sym at.2) (omega (arith, (front_fields (Caller callers) n front).0 (omega (arith, whole)), some))
line_may stage (Call kind word once) n at front whole staged =
    subst (λ (s : Stage). MayCome s (CallLine (call_made kind word once n))) (sym at.3)
    (subst (λ (k : Kind). IsFront (Call k word once) n → count n ≡ count_of (Call k word once) → IsCallOf at.0 at.1 (call_made k word once n)) (sym at.4) (call_may at.0 at.1 word once n at.5) front whole)
