-- What a line of a script may be, word by word.
use Rattle.std.specs.Prelude.{◌≡◌, ℕ, zero, suc, ◌+◌, ◌-◌, ◌*◌, ◌/◌, ◌<◌, ◌≤◌, ◌^◌, ◌==◌, min, nat_lt, if◌then◌else◌, Bool, true, false, List, [], ◌∷◌, ◌++◌, Option, Some, None, is_some, codes}
use Rattle.line_text.specs.declared.forms.Bounds.{Bounds}
use Rattle.line_text.specs.Lines.{Grammar}
use Rattle.line_text.specs.Ranges.{between}
use Rattle.script_text.specs.declared.forms.Spot.{Spot}
use Rattle.script_text.specs.declared.forms.Spot.TheVariants.{Start, Version, Kind as AKind, Try, Row as ARow, Whole}
use Rattle.script_text.specs.declared.lines.Kind.{Kind}
use Rattle.script_text.specs.declared.lines.Kind.TheVariants.{List as KList, Bag as KBag, Deque as KDeque}
use Rattle.script_text.specs.declared.lines.Line.{Line}
use Rattle.script_text.specs.declared.lines.Line.TheVariants.{Pgas, Round, End}
use Rattle.script_text.specs.declared.lines.Stage.{Stage}
use Rattle.script_text.specs.declared.lines.Stage.TheVariants.{AtPgas, AtObject, AtCallers, InRound}
use Rattle.script_text.specs.declared.rows.Numbers.{Numbers}
use Rattle.script_text.specs.declared.rows.Numbers.TheVariants.{Zero, One, Two, Three}
use Rattle.script_text.specs.declared.rows.Row.{Row}
use Rattle.script_text.specs.declared.rows.Row.TheVariants.{Object, Callers, Caller, Call}
use Rattle.script_text.specs.declared.scripts.ObjectLine.{ObjectLine}
use Rattle.script_text.specs.Lines.{most_callers, MayCome}
use Rattle.script_text.specs.Rows.{count, with_number, kind_of, numbers_of, made, row_word}

-- ---- words

-- the words of so many calls, from that of this number on
abbrev pub call_words : Kind → ℕ → ℕ → List (List ℕ)
call_words kind word zero = []
call_words kind word (suc more) = row_word (Call kind word false) ∷ call_words kind (word + 1) more

-- how many calls may come, if a `caller` line stands before
abbrev pub calls_at : Bool → Kind → ℕ
calls_at false kind = 0
calls_at true KList = 6
calls_at true KBag = 2
calls_at true KDeque = 4

-- a call may be tried once by a caller that is alone
abbrev pub tries : Bool → Kind → ℕ → Bool
tries false kind callers = false
tries true KList callers = false
tries true kind callers = callers == 1

-- the words behind those of the calls
abbrev pub round_words : Bool → List (List ℕ)
round_words true = codes "caller" ∷ codes "round" ∷ codes "end" ∷ codes "try" ∷ []
round_words false = codes "caller" ∷ codes "round" ∷ codes "end" ∷ []

abbrev pub round_start : Bool → Kind → ℕ → List (List ℕ)
round_start spoken kind callers = call_words kind 0 (calls_at spoken kind) ++ round_words (tries spoken kind callers)

abbrev pub words_at : Spot → List (List ℕ)
words_at (Start AtPgas) = codes "pgas" ∷ []
words_at (Start AtObject) = codes "object" ∷ []
words_at (Start (AtCallers object)) = codes "callers" ∷ []
words_at (Start (InRound object callers caller)) = round_start (is_some caller) (kind_of object) callers
words_at Version = codes "1" ∷ []
words_at AKind = row_word (Object KList) ∷ row_word (Object KBag) ∷ row_word (Object KDeque) ∷ []
words_at (Try kind) = call_words kind 0 (calls_at true kind)
words_at spot = []

-- behind these numbers of a row
abbrev pub row_spot : Row → Numbers → Spot
row_spot row n = if count (numbers_of (made row n)) == count n then Whole (made row n) else ARow row n

abbrev pub call_spot : Kind → ℕ → Bool → Spot
call_spot kind word once = row_spot (Call kind word once) Zero

abbrev pub behind_calls : Kind → ℕ → ℕ → Spot
behind_calls kind callers zero = row_spot (Caller callers) Zero
behind_calls kind callers (suc zero) = Whole Round
behind_calls kind callers (suc (suc zero)) = Whole End
behind_calls kind callers index = Try kind

abbrev pub round_leads : Bool → Kind → ℕ → ℕ → Spot
round_leads spoken kind callers index =
    if nat_lt index (calls_at spoken kind) then call_spot kind index false else behind_calls kind callers (index - calls_at spoken kind)

abbrev pub kind_at : ℕ → Kind
kind_at zero = KList
kind_at (suc zero) = KBag
kind_at index = KDeque

abbrev pub after_word : Spot → ℕ → Spot
after_word (Start AtPgas) index = Version
after_word (Start AtObject) index = AKind
after_word (Start (AtCallers object)) index = row_spot (Callers object) Zero
after_word (Start (InRound object callers caller)) index = round_leads (is_some caller) (kind_of object) callers index
after_word Version index = Whole Pgas
after_word AKind index = row_spot (Object (kind_at index)) Zero
after_word (Try kind) index = call_spot kind index true
after_word spot index = spot

-- ---- numbers

-- the objects of a list leave room for rows of two words, and the width for all of them
abbrev pub object_bounds : Numbers → Kind → Bounds
object_bounds Zero kind = between 1 16
object_bounds (One locales) KList = between 2 (min (2 ^ 25 / (4 * locales)) (2 ^ 20))
object_bounds (Two locales objects) KList = between 2 (min (2 ^ 25 / (locales * objects) - 2) 4096)
object_bounds (One locales) KBag = between 1 64
object_bounds n kind = between 1 (2 ^ 24)

abbrev pub bounds_of : Row → Numbers → Bounds
bounds_of (Object kind) n = object_bounds n kind
bounds_of (Callers object) n = between 1 (most_callers object)
bounds_of (Caller callers) n = between 0 (min (callers - 1) (2 ^ 32 - 1))
bounds_of (Call kind word once) n = between 0 (2 ^ 64 - 1)

abbrev pub bounds_at : Spot → Option Bounds
bounds_at (ARow row n) = Some (bounds_of row n)
bounds_at spot = None

abbrev pub after_number : Spot → ℕ → Spot
after_number (ARow row n) number = row_spot row (with_number n number)
after_number spot number = spot

abbrev pub says_of : Spot → Option Line
says_of (Whole line) = Some line
says_of spot = None

abbrev pub script_grammar : Grammar Spot Line
script_grammar = record { words = words_at; after_word = after_word; bounds = bounds_at; after_number = after_number; says = says_of; indented = λ spot. spot; joined = λ spot. false }

-- ---- which spots there are

abbrev pub In : Bounds → ℕ → Type 0
In bounds number = (bounds.least ≤ number) × (number ≤ bounds.most)

-- each number lies in its bounds
abbrev pub IsFront : Row → Numbers → Type 0
IsFront row Zero = Unit {0}
IsFront row (One first) = In (bounds_of row Zero) first
IsFront row (Two first second) = In (bounds_of row Zero) first × In (bounds_of row (One first)) second
IsFront row (Three first second third) = In (bounds_of row Zero) first × In (bounds_of row (One first)) second × In (bounds_of row (Two first second)) third

abbrev pub count_of : Row → ℕ
count_of row = count (numbers_of (made row Zero))

-- a line of the row may come at the stage, if its numbers are in their bounds
abbrev pub RowAt : Stage → Row → Type 0
RowAt stage (Object kind) = stage ≡ AtObject
RowAt stage (Callers object) = stage ≡ AtCallers object
RowAt stage (Caller callers) = (object : ObjectLine) × (caller : Option ℕ) × (stage ≡ InRound object callers caller)
RowAt stage (Call kind word once) = (object : ObjectLine) × (callers : ℕ) × (caller : ℕ) × (stage ≡ InRound object callers (Some caller)) × (kind ≡ kind_of object) × (once ≡ true → callers ≡ 1)

-- a round has a caller
abbrev pub IsStage : Stage → Type 0
IsStage (InRound object callers caller) = (1 ≤ callers) × (callers < 2 ^ 32)
IsStage stage = Unit {0}

-- A line of the stage stands here.
abbrev pub IsAt : Stage → Spot → Type 0
IsAt stage (Start own) = own ≡ stage
IsAt stage Version = stage ≡ AtPgas
IsAt stage AKind = stage ≡ AtObject
IsAt stage (Try kind) = (object : ObjectLine) × (caller : ℕ) × (stage ≡ InRound object 1 (Some caller)) × (kind ≡ kind_of object)
IsAt stage (ARow row n) = RowAt stage row × IsFront row n × (count n < count_of row)
IsAt stage (Whole line) = IsStage stage → MayCome stage line

abbrev pub IsSpot : Spot → Type 0
IsSpot spot = (stage : Stage) × IsAt stage spot
