-- Where in a line a reader stands, by what the rest of the line says from there.
use Rattle.std.specs.Prelude.{◌≡◌, ◌≢◌, ◌⊎◌, ℕ, ◌*◌, ◌<◌, ◌≤◌, false, List, [], ◌∷◌, ◌++◌, length, take, Option, Some, None, Result, Ok, Err}
use Rattle.line_text.specs.declared.forms.Bounds.{Bounds}
use Rattle.line_text.specs.declared.forms.Reject.{Reject}
use Rattle.line_text.specs.declared.forms.Reject.TheVariants.{Bad, TooLarge}
use Rattle.line_text.specs.declared.states.State.{State}
use Rattle.line_text.specs.declared.states.State.TheVariants.{Lead, Comment, Gap, Word, Number, Joint}
use Rattle.line_text.specs.declared.states.Step.{Step}
use Rattle.line_text.specs.declared.states.Step.TheVariants.{Next, Ends, Rejects}
use Rattle.line_text.specs.Words.{Cut, cut, words_of}
use Rattle.line_text.specs.Lines.{Grammar, is_number, says_words, says_number, says_lead, line_says, word_at, MayJoin}

-- what a line says whose rest, from the state on, is cut so
abbrev pub says_from : {Form Line : Type 0} → Grammar Form Line → State Form → Cut → Result (Option Line) Reject
says_from G (Lead form) cut = says_lead G form cut.word cut.others
says_from G Comment cut = Ok None
says_from G (Gap form) cut = says_words G form (words_of cut)
says_from G (Word form index at) cut = says_words G form ((take at (word_at G form index) ++ cut.word) ∷ cut.others)
says_from G (Number form bounds value) cut = says_number G form (Some value) cut
says_from G (Joint form) cut = says_number G form None cut

-- the rest of a line says so from the state on
abbrev pub rest_says : {Form Line : Type 0} → Grammar Form Line → State Form → List ℕ → Result (Option Line) Reject
rest_says G state rest = says_from G state (cut rest)

-- the number is in the bounds, or may come to lie in them with more digits
abbrev pub IsOpen : Bounds → ℕ → Type 0
IsOpen bounds value = (value ≤ bounds.most) × ((value ≡ 0) ⊎ ((bounds.least ≤ value) ⊎ (value * 10 ≤ bounds.most)))

-- the front of a literal word, of one letter or more, and no number
pub record IsFront {Form Line : Type 0} (G : Grammar Form Line) (form : Form) (index at : ℕ) : Type 0 where
  pub within : index < length (G.words form)
  pub some : 0 < at
  pub front : at ≤ length (word_at G form index)
  pub no_number : is_number G form (take at (word_at G form index)) ≡ false

abbrev pub IsState : {Form Line : Type 0} → Grammar Form Line → (Form → Type 0) → State Form → Type 0
IsState G IsForm (Lead form) = IsForm form
IsState G IsForm Comment = Unit {0}
IsState G IsForm (Gap form) = IsForm form
IsState G IsForm (Word form index at) = IsForm form × IsFront G form index at
IsState G IsForm (Number form bounds value) = IsForm form × (G.bounds form ≡ Some bounds) × IsOpen bounds value
IsState G IsForm (Joint form) = IsForm form × MayJoin G form

-- However the line goes on, it says nothing and is no line: for this reason.
abbrev pub IsStopped : {Line : Type 0} → (List ℕ → Result (Option Line) Reject) → Reject → Type 0
IsStopped says Bad = (rest : List ℕ) → says rest ≡ Err Bad
IsStopped says (TooLarge kind) =
    ((rest : List ℕ) → (says rest ≡ Err Bad) ⊎ (says rest ≡ Err (TooLarge kind))) × ((rest : List ℕ) × (says rest ≡ Err (TooLarge kind)))

-- The byte is refused, where the rest of the line says so.
abbrev pub RejectsByte : {Line : Type 0} → (List ℕ → Result (Option Line) Reject) → ℕ → Reject → Type 0
RejectsByte says byte Bad = ((byte ≡ 10) × (says [] ≡ Err Bad)) ⊎ ((byte ≢ 10) × IsStopped (λ rest. says (byte ∷ rest)) Bad)
RejectsByte says byte (TooLarge kind) = (byte ≢ 10) × IsStopped (λ rest. says (byte ∷ rest)) (TooLarge kind)

-- the bytes lead from one state to another
abbrev pub Leads : {Form Line : Type 0} → Grammar Form Line → State Form → List ℕ → State Form → Type 0
Leads G state bytes next = (rest : List ℕ) → rest_says G state (bytes ++ rest) ≡ rest_says G next rest

-- what a byte of a line does
abbrev pub Takes : {Form Line : Type 0} → Grammar Form Line → (Form → Type 0) → State Form → ℕ → Step Form Line → Type 0
Takes G IsForm state byte (Next next) = (byte ≢ 10) × IsState G IsForm next × Leads G state (byte ∷ []) next
Takes G IsForm state byte (Ends said) = (byte ≡ 10) × (rest_says G state [] ≡ Ok said)
Takes G IsForm state byte (Rejects reject) = RejectsByte (rest_says G state) byte reject

-- what has come of a line of the form leads to the state
pub record IsPlaced {Form Line : Type 0} (G : Grammar Form Line) (IsForm : Form → Type 0) (form : Form) (state : State Form) : Type 0 where
  pub is_state : IsState G IsForm state
  pub part : List ℕ
  pub leads : (rest : List ℕ) → line_says G form (part ++ rest) ≡ rest_says G state rest
