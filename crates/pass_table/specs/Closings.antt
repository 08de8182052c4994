-- What a close gives.
use Rattle.std.specs.Prelude.{◌≡◌, ◌⊎◌, ℕ, ◌<◌, List, length, map, slice_get, Some, All, Contains, true}
use mathlib.Core.Option.{Option, some}
use lib.ListN.{get_elem?}
use Rattle.pass_book.specs.Pages.{Book, IsBook}
use Rattle.pass_table.specs.declared.views.Merged.{Merged}
use Rattle.pass_table.specs.declared.views.View.{View}
use Rattle.pass_table.specs.declared.passes.Pass.{Pass}
use Rattle.pass_table.specs.declared.tables.PassTable.{PassTable}
use Rattle.pass_table.specs.Terms.{Terms}
use Rattle.pass_table.specs.Views.{page_of, page_merged}
use Rattle.pass_table.specs.Passes.{plan_of, pass_view, caller_of, page}

module _ {Slot Call Reply Plan Part Name : Type 0} where
  -- a view has the page and the part of a pass: as its own, or as those of one that it took in
  abbrev pub Gathered : View Call Reply Plan Part Name → Pass Slot Call Reply Plan Part Name → Type 0
  Gathered v p =
      ((v.number ≡ caller_of p) × (page_of v ≡ page p) × (v.part ≡ (pass_view p).part) × (v.rests ≡ (pass_view p).rests))
      ⊎ ((k : ℕ) × (m : Merged Call Reply Part) × (slice_get v.merged k ≡ Some m) × (m.caller ≡ caller_of p) × (page_merged m ≡ page p) × (m.part ≡ (pass_view p).part) × (m.rests ≡ (pass_view p).rests))

-- each caller's pass is among them
abbrev pub AreOfAllCallers : {Slot Call Reply Plan Part Name : Type 0} → ℕ → List (Pass Slot Call Reply Plan Part Name) → Type 0
AreOfAllCallers {Slot} {Call} {Reply} {Plan} {Part} {Name} callers passes =
    (caller : ℕ) → caller < callers → Contains (map (λ (p : Pass Slot Call Reply Plan Part Name). caller_of p) passes) caller

module _ {C O Slot Plan Part Name Call Reply State : Type 0} (T : Terms Slot Call Reply State Plan Part Name) (opens : State → Type 0) (step : State → Call → Reply → State → Type 0) where
  -- There is the book of the object, legal by the plain object's steps, in which each pass has its page. The passes are those of all callers: no two
  -- are the same caller's. The object's rule holds of the words and of the slots, as of the history, where each caller is between two calls and knows what its pass does
  pub record ClosesWith (d : PassTable C O Slot Plan Part Name Call Reply State) (passes : List (Pass Slot Call Reply Plan Part Name)) (words : List ℕ) (slots : List Slot) : Type 0 where
    pub book : Book Call Reply State
    pub legal : IsBook opens step book
    pub start : book.start ≡ T.start (plan_of d)
    pub callers : length book.pages ≡ T.callers (plan_of d)
    pub each : All (λ p. slice_get book.pages (caller_of p) ≡ Some (page p)) passes
    pub all : AreOfAllCallers (T.callers (plan_of d)) passes
    pub homes : List (Option Slot)
    pub many : length homes ≡ length slots
    pub home : (k : ℕ) (y : Slot) → get_elem? homes k ≡ some (some y) → get_elem? slots k ≡ some y
    pub parts : ℕ → Part
    pub told : All (λ p. parts (caller_of p) ≡ (pass_view p).part) passes
    pub rest : (c : ℕ) → c < T.callers (plan_of d) → T.rests (parts c) ≡ true
    pub rule : T.holds (plan_of d) record { words = words; homes = homes; history = book.history; parts = parts }
