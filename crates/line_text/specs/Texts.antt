-- What a text of lines makes, and where it is refused.
use Rattle.std.specs.Prelude.{◌≡◌, ◌⊎◌, ℕ, ◌+◌, ◌<◌, ◌≤◌, ◌^◌, Bool, true, false, ◌==◌, if◌then◌else◌, List, [], ◌∷◌, ◌++◌, length, fold, Option, Result, Ok, Err, MatchBool}
use Rattle.shared_io.specs.declared.limits.TooKind.{TooKind}
use Rattle.shared_io.specs.declared.limits.TooKind.TheVariants.{Bytes}
use Rattle.line_text.specs.declared.faults.TextFault.{TextFault}
use Rattle.line_text.specs.declared.faults.TextFault.TheVariants.{BadLine, TooLarge}
use Rattle.line_text.specs.declared.forms.Reject.{Reject}
use Rattle.line_text.specs.declared.forms.Reject.TheVariants.{Bad, TooLarge as TooLargeReject}
use Rattle.line_text.specs.Lines.{Grammar, line_says}
use Rattle.line_text.specs.States.{RejectsByte}

-- What lines make of a text, and which come behind which.
pub record Rules (Progress Form Line : Type 0) : Type 0 where
  pub opening : Progress
  -- where the next line starts
  pub start : Progress → Form
  -- what a line adds that says so
  pub after : Progress → Option Line → Progress
  -- the line is one of those of which there may be so many
  pub counts : Option Line → Bool
  pub most : ℕ
  pub kind : TooKind
  -- the text ends with the LF of such a line
  pub ends : Option Line → Bool
  -- the text may end with such a line where the input does
  pub may_be_last : Option Line → Bool

-- a kind of text
pub record Text (Progress Form Line : Type 0) : Type 0 where
  pub grammar : Grammar Form Line
  pub rules : Rules Progress Form Line

abbrev pub text_of : {Progress Form Line : Type 0} → Grammar Form Line → Rules Progress Form Line → Text Progress Form Line
text_of grammar rules = record { grammar = grammar; rules = rules }

-- Where bytes lead: what the whole lines make, what has come of the next line, how many lines there were, how many of
-- them count, and how many bytes.
pub record Standing (Progress : Type 0) : Type 0 where
  pub progress : Progress
  pub part : List ℕ
  pub lines : ℕ
  pub counted : ℕ
  pub size : ℕ

-- what the line says with this rest
abbrev pub rest_of : {Progress Form Line : Type 0} → Text Progress Form Line → Standing Progress → List ℕ → Result (Option Line) Reject
rest_of T at rest = line_says T.grammar (T.rules.start at.progress) (at.part ++ rest)

-- what the line says if it ends here
abbrev pub said_at : {Progress Form Line : Type 0} → Text Progress Form Line → Standing Progress → Result (Option Line) Reject
said_at T at = rest_of T at []

abbrev pub count_of : {Progress Form Line : Type 0} → Text Progress Form Line → Option Line → ℕ
count_of T said = if T.rules.counts said then 1 else 0

-- a line that says nothing known adds nothing
abbrev pub line_ended : {Progress Form Line : Type 0} → Text Progress Form Line → Standing Progress → Result (Option Line) Reject → Standing Progress
line_ended T at (Ok said) = record { progress = T.rules.after at.progress said; part = []; lines = at.lines + 1; counted = at.counted + count_of T said; size = at.size + 1 }
line_ended T at (Err reject) = record { progress = at.progress; part = []; lines = at.lines + 1; counted = at.counted; size = at.size + 1 }

abbrev pub longer : {Progress : Type 0} → Standing Progress → ℕ → Standing Progress
longer at byte = record { progress = at.progress; part = at.part ++ byte ∷ []; lines = at.lines; counted = at.counted; size = at.size + 1 }

-- LF ends a line
abbrev pub moved : {Progress Form Line : Type 0} → Text Progress Form Line → Standing Progress → ℕ → Standing Progress
moved T at byte = if byte == 10 then line_ended T at (said_at T at) else longer at byte

abbrev pub beginning : {Progress Form Line : Type 0} → Text Progress Form Line → Standing Progress
beginning T = record { progress = T.rules.opening; part = []; lines = 0; counted = 0; size = 0 }

abbrev pub standing : {Progress Form Line : Type 0} → Text Progress Form Line → List ℕ → Standing Progress
standing T read = fold (moved T) (beginning T) read

-- ---- what may come

-- some rest makes it a line
abbrev pub GoesOn : {Line : Type 0} → (List ℕ → Result (Option Line) Reject) → Type 0
GoesOn {Line} says = (rest : List ℕ) × (said : Option Line) × (says rest ≡ Ok said)

-- a line that says so is within the limit of counted lines
abbrev pub IsWithin : {Progress Form Line : Type 0} → Text Progress Form Line → Standing Progress → Option Line → Type 0
IsWithin T at said = T.rules.counts said ≡ true → at.counted < T.rules.most

-- a line ends here that is within the limit, and doesn't end the text
abbrev pub AddsLine : {Progress Form Line : Type 0} → Text Progress Form Line → Standing Progress → Type 0
AddsLine {Progress} {Form} {Line} T at = (said : Option Line) × (said_at T at ≡ Ok said) × (T.rules.ends said ≡ false) × IsWithin T at said

-- The byte is not refused, and does not end the text.
abbrev pub Passes : {Progress Form Line : Type 0} → Text Progress Form Line → Standing Progress → ℕ → Type 0
Passes T at byte = (at.size < 2 ^ 30) × MatchBool (byte == 10) (AddsLine T at) (GoesOn (λ rest. rest_of T at (byte ∷ rest)))

-- No byte of these is refused, and none ends the text: so the text goes on.
abbrev pub IsOpen : {Progress Form Line : Type 0} → Text Progress Form Line → List ℕ → Type 0
IsOpen T read = (front rest : List ℕ) (byte : ℕ) → read ≡ front ++ byte ∷ rest → Passes T (standing T front) byte

-- Nothing was asked for behind a refusal or the end of the text: neither stands in any but the last piece.
pub record WasAskedFor {Progress Form Line : Type 0} (T : Text Progress Form Line) (read : List ℕ) : Type 0 where
  pub earlier : List ℕ
  pub piece : List ℕ
  pub parts : read ≡ earlier ++ piece
  pub opened : IsOpen T earlier
  pub bounded : length piece ≤ 2 ^ 16

-- ---- the text

-- What was read has a text at its front, which makes this. LF ends its last line, or the end of the input does.
pub record HasText {Progress Form Line : Type 0} (T : Text Progress Form Line) (read : List ℕ) (ended : Type 0) (made : Progress) : Type 0 where
  pub front : List ℕ
  pub said : Option Line
  pub opened : IsOpen T front
  pub last : said_at T (standing T front) ≡ Ok said
  pub within : IsWithin T (standing T front) said
  pub makes : made ≡ T.rules.after (standing T front).progress said
  pub whole : (ended × (read ≡ front) × (T.rules.may_be_last said ≡ true)) ⊎ ((rest : List ℕ) × (read ≡ front ++ 10 ∷ rest) × (T.rules.ends said ≡ true))

-- ---- refusals

-- the byte ends the text
abbrev pub EndsText : {Progress Form Line : Type 0} → Text Progress Form Line → Standing Progress → ℕ → Type 0
EndsText {Progress} {Form} {Line} T at byte = (byte ≡ 10) × (said : Option Line) × (said_at T at ≡ Ok said) × (T.rules.ends said ≡ true) × IsWithin T at said

-- the line that ends here counts, behind as many as there may be
abbrev pub IsTooMany : {Progress Form Line : Type 0} → Text Progress Form Line → Standing Progress → TooKind → Type 0
IsTooMany {Progress} {Form} {Line} T at kind = (kind ≡ T.rules.kind) × (said : Option Line) × (said_at T at ≡ Ok said) × (T.rules.counts said ≡ true) × (at.counted ≡ T.rules.most)

-- why a byte exceeds a limit of the line, or of the lines
abbrev pub Exceeds : {Progress Form Line : Type 0} → Text Progress Form Line → Standing Progress → ℕ → TooKind → Type 0
Exceeds T at byte kind = RejectsByte (rest_of T at) byte (TooLargeReject kind) ⊎ ((byte ≡ 10) × IsTooMany T at kind)

-- Why a byte is refused. The one behind as many as there may be exceeds that limit, unless it ends the text.
abbrev pub IsByteCause : {Progress Form Line : Type 0} → Text Progress Form Line → Standing Progress → ℕ → TextFault → Type 0
IsByteCause T at byte (BadLine line) = (at.size < 2 ^ 30) × RejectsByte (rest_of T at) byte Bad
IsByteCause T at byte (TooLarge kind line) =
    ((at.size < 2 ^ 30) × Exceeds T at byte kind) ⊎ ((at.size ≡ 2 ^ 30) × (kind ≡ Bytes) × (EndsText T at byte → ⊥))
IsByteCause T at byte fault = ⊥

-- the text may end where the input does
abbrev pub MayEnd : {Progress Form Line : Type 0} → Text Progress Form Line → Standing Progress → Type 0
MayEnd {Progress} {Form} {Line} T at = (said : Option Line) × (said_at T at ≡ Ok said) × (T.rules.may_be_last said ≡ true)

-- why the end of the input is refused
abbrev pub IsEndCause : {Progress Form Line : Type 0} → Text Progress Form Line → Standing Progress → TextFault → Type 0
IsEndCause T at (BadLine line) = MayEnd T at → ⊥
IsEndCause T at (TooLarge kind line) = MayEnd T at × IsTooMany T at kind
IsEndCause T at fault = ⊥

-- why this is refused, of which the first byte is the one that is, or the end of the input
abbrev pub IsCause : {Progress Form Line : Type 0} → Text Progress Form Line → Standing Progress → Type 0 → List ℕ → TextFault → Type 0
IsCause T at ended [] fault = ended × IsEndCause T at fault
IsCause T at ended (byte ∷ rest) fault = IsByteCause T at byte fault

-- the line that a fault names
abbrev pub NamesLine : TextFault → ℕ → Type 0
NamesLine (BadLine line) number = line ≡ number
NamesLine (TooLarge kind line) number = line ≡ number
NamesLine fault number = ⊥

-- The first refusal in what was read is this one, at the byte behind a front in which nothing is refused, or at the
-- end of the input.
pub record IsRefused {Progress Form Line : Type 0} (T : Text Progress Form Line) (read : List ℕ) (ended : Type 0) (fault : TextFault) : Type 0 where
  pub front : List ℕ
  pub rest : List ℕ
  pub parts : read ≡ front ++ rest
  pub opened : IsOpen T front
  pub cause : IsCause T (standing T front) ended rest fault
  pub names_line : NamesLine fault ((standing T front).lines + 1)

-- An input means one thing: it has one text at most, or one refusal at most, and not both.
pub record MeansOne {Progress Form Line : Type 0} (T : Text Progress Form Line) (input : List ℕ) : Type 0 where
  pub text : (made other : Progress) → HasText T input (Unit {0}) made → HasText T input (Unit {0}) other → made ≡ other
  pub refusal : (fault other : TextFault) → IsRefused T input (Unit {0}) fault → IsRefused T input (Unit {0}) other → fault ≡ other
  pub either : (made : Progress) (fault : TextFault) → HasText T input (Unit {0}) made → IsRefused T input (Unit {0}) fault → ⊥
