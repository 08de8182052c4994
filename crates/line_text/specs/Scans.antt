-- Bytes that are gone over at once.
use Rattle.std.specs.Prelude.{◌≡◌, ◌≢◌, ◌⊎◌, ℕ, ◌<◌, ◌≤◌, true, List, [], ◌∷◌, length, take, slice_index, Some, Ok}
use Rattle.std.specs.List.{AllByRecursion}
use Rattle.line_text.specs.declared.states.State.{State}
use Rattle.line_text.specs.declared.states.State.TheVariants.{Lead, Gap, Joint}
use Rattle.line_text.specs.Lines.{Grammar}
use Rattle.line_text.specs.States.{IsState, Leads, rest_says}
use Rattle.line_text.specs.Words.{is_blank}

-- so many bytes at the front stand in the line, and lead there
pub record Goes {Form Line : Type 0} (G : Grammar Form Line) (state : State Form) (bytes : List ℕ) (count : ℕ) (next : State Form) : Type 0 where
  pub within : count ≤ length bytes
  pub line : AllByRecursion (λ byte. byte ≢ 10) (take count bytes)
  pub leads : Leads G state (take count bytes) next

-- the letters stand at the front, if any were gone over
abbrev pub StandsThere : List ℕ → List ℕ → ℕ → Type 0
StandsThere letters bytes count = (count ≡ 0) ⊎ ((count ≡ length letters) × (take count bytes ≡ letters))

-- a word of so many letters stands at the front, and leads to the next form
pub record StandsWord {Form Line : Type 0} (G : Grammar Form Line) (IsForm : Form → Type 0) (form : Form) (bytes : List ℕ) (next : Form) (count : ℕ) : Type 0 where
  pub state : State Form
  pub is_state : IsState G IsForm state
  pub is_form : IsForm next
  pub lead : Goes G (Lead form) bytes count state
  pub gap : Goes G (Gap form) bytes count state
  pub ends : rest_says G state [] ≡ rest_says G (Gap next) []
  pub blank : (byte : ℕ) → is_blank byte ≡ true → Leads G state (byte ∷ []) (Gap next)

-- a line that says so stands at the front, with so many bytes before its LF
pub record StandsLine {Form Line : Type 0} (G : Grammar Form Line) (IsForm : Form → Type 0) (form : Form) (bytes : List ℕ) (line : Line) (count : ℕ) : Type 0 where
  pub next : State Form
  pub is_state : IsState G IsForm next
  pub goes : Goes G (Lead form) bytes count next
  pub says : rest_says G next [] ≡ Ok (Some line)
  pub within : count < length bytes
  pub ends : slice_index bytes count ≡ 10

-- a line of a form has begun: nothing of it was read, or a gap behind its words
pub record HasBegun {Form Line : Type 0} (G : Grammar Form Line) (from : Form) (bytes : List ℕ) (at : ℕ) (form : Form) : Type 0 where
  pub state : State Form
  pub begun : (state ≡ Lead form) ⊎ (state ≡ Gap form)
  pub goes : Goes G (Lead from) bytes at state

-- Numbers of a word were gone over, each with the dot behind it, if there were any: the number of the form is next.
abbrev pub HasJoined : {Form Line : Type 0} → Grammar Form Line → Form → List ℕ → ℕ → Form → Type 0
HasJoined G from bytes at form =
    ((at ≡ 0) × (form ≡ from)) ⊎ (Goes G (Lead from) bytes at (Joint form) × Goes G (Gap from) bytes at (Joint form))
