-- The rule of a table: there is one legal history with its book, of which each view has seen a beginning, and the object's own rule holds of the words.
use Rattle.std.specs.Prelude.{◌≡◌, ◌≢◌, ℕ, ◌<◌, ◌≤◌, Bool, List, length, slice_get, All, AllPairs, Some}
use mathlib.Core.Option.{some}
use mathlib.Core.List.{IsPrefix}
use lib.ListN.{get_elem?}
use Rattle.atomic_table.specs.Table.{State as Table}
use Rattle.pass_book.specs.Pages.{Book, IsBook}
use Rattle.pass_table.specs.declared.views.Role.{Role}
use Rattle.pass_table.specs.declared.views.Role.TheVariants.{Opener, Caller, Note, Spent}
use Rattle.pass_table.specs.declared.views.Merged.{Merged}
use Rattle.pass_table.specs.declared.views.View.{View}
use Rattle.pass_table.specs.Terms.{Terms}
use Rattle.pass_table.specs.Views.{blank, page_of, page_merged, numbers_of}

module _ {Call Reply State Part : Type 0} (rests : Part → Bool) (book : Book Call Reply State) (parts : ℕ → Part) (seat : ℕ → ℕ) (made k : ℕ) where
  -- what is known of a caller whose pass was taken in by the seat k
  pub record MergedFits (p : Merged Call Reply Part) : Type 0 where
    pub below : p.caller < made
    pub seated : seat p.caller ≡ k
    pub page : slice_get book.pages p.caller ≡ Some (page_merged p)
    pub part : parts p.caller ≡ p.part
    pub rested : p.rests ≡ rests p.part

  module _ {Plan Name : Type 0} where
    -- what is known of the caller in the seat k
    pub record CallerFits (v : View Call Reply Plan Part Name) : Type 0 where
      pub below : v.number < made
      pub seated : seat v.number ≡ k
      pub page : slice_get book.pages v.number ≡ Some (page_of v)
      pub part : parts v.number ≡ v.part
      pub rested : v.rests ≡ rests v.part
      pub pending : IsPrefix v.pending_note book.history
      pub merged : All MergedFits v.merged
      pub distinct : AllPairs (λ x y. x ≢ y) (numbers_of v)

    -- what is known of a view by its role
    abbrev pub FitsAs : View Call Reply Plan Part Name → Role → Type 0
    FitsAs v Opener = (k ≡ 0) × (v.number ≡ made)
    FitsAs v Caller = CallerFits v
    FitsAs v Note = IsPrefix v.seen book.history
    FitsAs v Spent = Unit {0}

    -- a view says what the object was opened with, unless it is spent
    abbrev pub KnowsPlan : Plan → View Call Reply Plan Part Name → Role → Type 0
    KnowsPlan plan v Opener = v.plan ≡ Some plan
    KnowsPlan plan v Caller = v.plan ≡ Some plan
    KnowsPlan plan v Note = v.plan ≡ Some plan
    KnowsPlan plan v Spent = Unit {0}

module _ {Slot Call Reply State Plan Part Name : Type 0} (T : Terms Slot Call Reply State Plan Part Name) (opens : State → Type 0) (step : State → Call → Reply → State → Type 0) (plan : Plan) where
  -- the history is legal, and its book has a page for each caller
  pub record HistoryFits (book : Book Call Reply State) : Type 0 where
    pub legal : IsBook opens step book
    pub start : book.start ≡ T.start plan
    pub pages : length book.pages ≡ T.callers plan

  -- So many passes were made, each in its seat. A caller without a pass has done nothing yet, and each view fits
  pub record SeatsFit (book : Book Call Reply State) (parts : ℕ → Part) (seat : ℕ → ℕ) (made : ℕ) (views : List (View Call Reply Plan Part Name)) : Type 0 where
    pub most : made ≤ T.callers plan
    pub unmade : (c : ℕ) → made ≤ c → (parts c ≡ T.first) × (c < T.callers plan → slice_get book.pages c ≡ Some blank)
    pub knows : (k : ℕ) (v : View Call Reply Plan Part Name) → get_elem? views k ≡ some v → KnowsPlan T.rests book parts seat made k plan v v.role
    pub fits : (k : ℕ) (v : View Call Reply Plan Part Name) → get_elem? views k ≡ some v → FitsAs T.rests book parts seat made k v v.role

  pub record TableInvariant (s : Table Slot (View Call Reply Plan Part Name)) : Type 0 where
    pub book : Book Call Reply State
    pub parts : ℕ → Part
    pub seat : ℕ → ℕ
    pub made : ℕ
    pub history : HistoryFits book
    pub words : T.holds plan record { words = s.words; homes = s.homes; history = book.history; parts = parts }
    pub seats : SeatsFit book parts seat made s.views
