-- Histories of any object: what each leaves, which are legal, and each caller's list.
use Rattle.std.specs.Prelude.{◌≡◌, ◌==◌, ℕ, ◌<◌, List, [], ◌∷◌, filter, All}
use Rattle.pass_book.specs.declared.entries.Entry.{Entry}

module _ {Call Reply State : Type 0} (opens : State → Type 0) (step : State → Call → Reply → State → Type 0) where
  -- the entries, each with its object's step from the state before it, lead from the one state to the other
  abbrev pub Leads : State → List (Entry Call Reply) → State → Type 0
  Leads from [] to = from ≡ to
  Leads from (e ∷ h) to = (next : State) × step from e.call e.reply next × Leads next h to

  -- the history begins with the opening state, and this state is left after it
  abbrev pub Leaves : State → List (Entry Call Reply) → State → Type 0
  Leaves start h left = opens start × Leads start h left

  -- every entry's reply is its object's step from the state before it, beginning with the opening state
  abbrev pub IsLegal : State → List (Entry Call Reply) → Type 0
  IsLegal start h = (left : State) × Leaves start h left

module _ {Call Reply : Type 0} where
  -- the sublist of the entries with this caller's number
  abbrev pub entries_of : ℕ → List (Entry Call Reply) → List (Entry Call Reply)
  entries_of caller h = filter (λ e. e.caller == caller) h

  -- none of the entries has this caller's number
  abbrev pub IsOfOthers : ℕ → List (Entry Call Reply) → Type 0
  IsOfOthers caller h = entries_of caller h ≡ []

  -- every caller number in the history is below the number of callers
  abbrev pub IsOfCallers : ℕ → List (Entry Call Reply) → Type 0
  IsOfCallers callers h = All (λ e. e.caller < callers) h
