-- What a reading of a source promises, and where a reader stands before that.
use Rattle.std.specs.Prelude.{◌≡◌, ◌⊎◌, ℕ, ◌+◌, ◌<◌, ◌≤◌, true, false, List, ◌++◌, length, take, Option, Some, None, Result, Err, MatchResult}
use Rattle.std.specs.Io.KnownBytes.{Consumes, IsAtEnd}
use Rattle.shared_io.specs.Counts.{Rose}
use Rattle.line_text.specs.declared.bytes.Place.{Place}
use Rattle.line_text.specs.declared.faults.TextFault.{TextFault}
use Rattle.line_text.specs.declared.faults.TextFault.TheVariants.{BadLine, TooLarge, ReadFault, OutOfMemory}
use Rattle.line_text.specs.Lines.{line_says}
use Rattle.line_text.specs.declared.forms.Reject.{Reject}
use Rattle.line_text.specs.declared.forms.Reject.TheVariants.{Bad, TooLarge as TooLargeReject}
use Rattle.line_text.specs.declared.states.State.TheVariants.{Lead}
use Rattle.line_text.specs.States.{rest_says}
use Rattle.line_text.specs.Texts.{Rules, Text, standing, count_of, IsOpen, WasAskedFor, HasText, IsRefused}

-- Why there is no text. Want of memory needs no cause.
abbrev pub HasCause : {Progress Form Line : Type 0} → Text Progress Form Line → List ℕ → Type 0 → Type 0 → TextFault → Type 0
HasCause T read ended rose (BadLine line) = IsRefused T read ended (BadLine line)
HasCause T read ended rose (TooLarge kind line) = IsRefused T read ended (TooLarge kind line)
HasCause T read ended rose ReadFault = rose × IsOpen T read
HasCause T read ended rose OutOfMemory = Unit {0}

-- One reading of a source: what it told it had left before and after, its counts of failures, the answer, and what was made.
pub record Reading {Progress Form Line : Type 0} (T : Text Progress Form Line) (left_before left_after : Option (List ℕ)) (faults_before faults_after : ℕ) (answer : Result (Unit {0}) TextFault) (made : Progress) : Type 0 where
  pub read : List ℕ
  pub consumed : Consumes left_before left_after read
  pub asked : WasAskedFor T read
  pub count : faults_before ≤ faults_after
  -- no failed read is passed over
  pub steady : (answer ≡ Err ReadFault → ⊥) → faults_after ≡ faults_before
  pub means : MatchResult answer (λ _. HasText T read (IsAtEnd left_after) made) (HasCause T read (IsAtEnd left_after) (Rose faults_before faults_after))

-- The answers that may come in place of the text.
abbrev pub IsExcuse : Type 0 → TextFault → Type 0
IsExcuse rose (BadLine line) = ⊥
IsExcuse rose (TooLarge kind line) = ⊥
IsExcuse rose ReadFault = rose
IsExcuse rose OutOfMemory = Unit {0}

-- The answers to an input that is refused so.
abbrev pub IsRefusal : TextFault → Type 0 → TextFault → Type 0
IsRefusal refusal rose ReadFault = rose
IsRefusal refusal rose OutOfMemory = Unit {0}
IsRefusal refusal rose fault = fault ≡ refusal

-- ---- where a reader stands, for its private contracts

pub record Stands {Progress Form Line : Type 0} (T : Text Progress Form Line) (read : List ℕ) (progress : Progress) (place : Place Form) : Type 0 where
  pub part : List ℕ
  pub at : standing T read ≡ record { progress = progress; part = part; lines = place.lines; counted = place.counted; size = length read }
  pub leads : (rest : List ℕ) → line_says T.grammar (T.rules.start progress) (part ++ rest) ≡ rest_says T.grammar place.state rest
  pub opened : IsOpen T read

-- where bytes have led: on, or to the end of the text
abbrev pub HasReached : {Progress Form Line : Type 0} → Text Progress Form Line → List ℕ → Progress → Option (Place Form) → Type 0
HasReached T read progress (Some place) = Stands T read progress place
HasReached T read progress None = HasText T read ⊥ progress

-- where so many bytes of a piece have led
abbrev pub HasReachedAt : {Progress Form Line : Type 0} → Text Progress Form Line → List ℕ → List ℕ → Progress → Option (Place Form) → ℕ → Type 0
HasReachedAt T read piece progress (Some place) at = Stands T (read ++ take at piece) progress place
HasReachedAt T read piece progress None at = HasText T (read ++ piece) ⊥ progress

-- why bytes are not taken
abbrev pub IsFault : {Progress Form Line : Type 0} → Text Progress Form Line → List ℕ → Type 0 → TextFault → Type 0
IsFault T read ended (BadLine line) = IsRefused T read ended (BadLine line)
IsFault T read ended (TooLarge kind line) = IsRefused T read ended (TooLarge kind line)
IsFault T read ended ReadFault = ⊥
IsFault T read ended OutOfMemory = Unit {0}

-- the fault of a line that is refused for this reason
abbrev pub fault_of : Reject → ℕ → TextFault
fault_of Bad line = BadLine line
fault_of (TooLargeReject kind) line = TooLarge kind line

-- a line that says so was taken, behind so many that count: so many do then, or the text has ended
abbrev pub HasTaken : {Progress Form Line : Type 0} → Text Progress Form Line → Progress → Progress → ℕ → Option Line → Option ℕ → Type 0
HasTaken T old new counted said (Some more) =
    (T.rules.ends said ≡ false) × (T.rules.counts said ≡ true → counted < T.rules.most) × (new ≡ T.rules.after old said) × (more ≡ counted + count_of T said)
HasTaken T old new counted said None = (T.rules.ends said ≡ true) × (T.rules.counts said ≡ true → counted < T.rules.most) × (new ≡ T.rules.after old said)

-- where the next line begins behind so many and one more, if so many count then
abbrev pub next_place : {Progress Form Line : Type 0} → Text Progress Form Line → Progress → ℕ → Option ℕ → Option (Place Form)
next_place T progress lines (Some counted) = Some (record { state = Lead (T.rules.start progress); lines = lines + 1; counted = counted })
next_place T progress lines None = None

-- the line counts, behind as many as may
abbrev pub IsCountFault : {Progress Form Line : Type 0} → Text Progress Form Line → ℕ → ℕ → Option Line → TextFault → Type 0
IsCountFault T lines counted said fault = (fault ≡ TooLarge T.rules.kind (lines + 1)) × (T.rules.counts said ≡ true) × (counted ≡ T.rules.most)

abbrev pub IsTakeFault : {Progress Form Line : Type 0} → Text Progress Form Line → ℕ → ℕ → Option Line → TextFault → Type 0
IsTakeFault T lines counted said fault = (fault ≡ OutOfMemory) ⊎ IsCountFault T lines counted said fault

-- no more lines count than there are, or may
abbrev pub IsCounted : {Progress Form Line : Type 0} → Rules Progress Form Line → ℕ → ℕ → Type 0
IsCounted rules lines counted = (counted ≤ lines) × (counted ≤ rules.most)
