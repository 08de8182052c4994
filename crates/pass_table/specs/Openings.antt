-- What an opening gives.
use Rattle.std.specs.Prelude.{◌≡◌, ℕ, List, [], length, slice_get, Some, All}
use Rattle.pass_table.specs.declared.passes.Pass.{Pass}
use Rattle.pass_table.specs.declared.tables.PassTable.{PassTable}
use Rattle.pass_table.specs.Terms.{Terms}
use Rattle.pass_table.specs.Views.{blank}
use Rattle.pass_table.specs.Passes.{table_of, plan_of, opening_of, pass_view, pass_opening, caller_of, page, looked}

-- of each place and what stands there this holds
abbrev pub AreInOrder : {A : Type 0} → (ℕ → A → Type 0) → List A → Type 0
AreInOrder {A} P xs = (k : ℕ) (x : A) → slice_get xs k ≡ Some x → P k x

module _ {C O Slot Plan Part Name Call Reply State : Type 0} (T : Terms Slot Call Reply State Plan Part Name)
    (d : PassTable C O Slot Plan Part Name Call Reply State) where
  -- a pass from the opening of this object, which has made no call and seen nothing
  pub record IsNewPass (caller : ℕ) (p : Pass Slot Call Reply Plan Part Name) : Type 0 where
    pub opening : pass_opening p ≡ opening_of d
    pub numbered : caller_of p ≡ caller
    pub empty : page p ≡ blank
    pub unread : looked p ≡ []
    pub part : (pass_view p).part ≡ T.first

  -- the passes come from the opening of this object
  abbrev pub AreOfOpening : List (Pass Slot Call Reply Plan Part Name) → Type 0
  AreOfOpening passes = All (λ p. pass_opening p ≡ opening_of d) passes

  -- the object was opened with this plan, and has a new pass for each caller, in order of number
  pub record IsOpened (plan : Plan) (words slots : ℕ) (passes : List (Pass Slot Call Reply Plan Part Name)) : Type 0 where
    pub planned : plan_of d ≡ plan
    pub words_are : (table_of d).words ≡ words
    pub slots_are : (table_of d).slots ≡ slots
    pub count : length passes ≡ T.callers plan
    pub each : AreInOrder IsNewPass passes
    pub opening : AreOfOpening passes
