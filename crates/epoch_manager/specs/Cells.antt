-- The client whose links are a row of cells: what it allows, what a pass knows of it, and its rule.
use Rattle.std.specs.Prelude.{◌≡◌, ◌⊎◌, ◌==◌, ℕ, ◌<◌, true, false, not, if◌then◌else◌, List, [], ◌∷◌, ◌++◌, length, replicate, filter, slice_index, All, Contains, Option, Some, None}
use Rattle.pass_book.specs.Histories.{Leaves}
use Rattle.pgas_base.specs.Pointers.{Pointer, IsPointer, word_of}
use Rattle.pgas_base.specs.declared.spots.Spot.TheVariants.{Own as OwnSpot, Row as RowSpot}
use Rattle.epoch_laws.specs.Places.{Place, place_of}
use Rattle.epoch_table.specs.Clients.{ClientTerms, Scene, Thing, thing, Live, Looks, Switches, Action, Takes, Shows, Returns, Defers, Frees, Fills, Holds, Steps}
use Rattle.epoch_manager.specs.declared.plain_cells.CellCall.{CellCall}
use Rattle.epoch_manager.specs.declared.plain_cells.CellCall.TheVariants.{Put, Look}
use Rattle.epoch_manager.specs.declared.cells.CellsView.{CellsView}
use Rattle.epoch_manager.specs.PlainCells.{CellsOpen, CellsStep}

-- the numbers but this one
abbrev pub but : ℕ → List ℕ → List ℕ
but word words = filter (λ w. not (w == word)) words

-- the pass has cut this object out of its cell, and not deferred it
pub record IsCut (view : CellsView) (q : Pointer) : Type 0 where
  pub is_pointer : IsPointer q
  pub among : Contains view.cut (word_of q)

-- Of what needs leave, a pass may fill and show what it owns, look at rows, switch a cell to empty or to what it has shown and nobody has put into a cell, and
-- defer what it has cut
abbrev pub MayDo : CellsView → Action → Type 0
MayDo view (Takes q) = Unit {0}
MayDo view (Shows q) = IsPointer q
MayDo view (Returns q) = Unit {0}
MayDo view (Defers q) = IsCut view q
MayDo view (Frees q) = Unit {0}
MayDo view (Fills q at value) = Unit {0}
MayDo view (Holds spot) = Unit {0}
MayDo view (Steps (OwnSpot word) (Switches value)) = (value ≡ 0) ⊎ Contains view.shown value
MayDo view (Steps (RowSpot q at) Looks) = Unit {0}
MayDo view (Steps spot change) = ⊥

-- what a pass knows once it has switched a cell to this value, where it found this number
abbrev pub after_switch : CellsView → ℕ → ℕ → CellsView
after_switch view value found = record { shown = but value view.shown; cut = if found == 0 then view.cut else view.cut ++ found ∷ [] }

-- what a pass knows once it has done so, where the step found this number
abbrev pub knows_after : CellsView → Action → ℕ → CellsView
knows_after view (Shows q) found = record view { shown = view.shown ++ word_of q ∷ [] }
knows_after view (Defers q) found = record view { cut = but (word_of q) view.cut }
knows_after view (Steps (OwnSpot word) (Switches value)) found = after_switch view value found
knows_after view action found = view

-- a hold is a look at its cell, and a switch puts its word there
abbrev pub call_made : CellsView → Action → ℕ → Option (CellCall × ℕ)
call_made view (Holds (OwnSpot word)) found = Some (Look word, found)
call_made view (Steps (OwnSpot word) (Switches value)) found = Some (Put word value, found)
call_made view action found = None

-- where a client knows an object to be: in a cell, or with the pass that has shown it or has cut it out
pub data Location : Type 0 where
  Nowhere : Location
  InCell ShownBy CutBy : ℕ → Location

-- the word names an object that is shown and not deferred, and that is there
pub record Names (things : Place → Option Thing) (at : Place → Location) (location : Location) (word : ℕ) : Type 0 where
  pub pointer : Pointer
  pub is_pointer : IsPointer pointer
  pub named : word ≡ word_of pointer
  pub row : ℕ → ℕ
  pub live : things (place_of pointer) ≡ thing pointer Live row
  pub there : at (place_of pointer) ≡ location

-- Each object is in one cell at most, or with one pass: each cell is empty or names one, and so do the words that a pass knows
pub record AreApart (cells : ℕ) (words : ℕ → ℕ) (views : ℕ → CellsView) (things : Place → Option Thing) : Type 0 where
  pub at : Place → Location
  pub linked : (w : ℕ) → w < cells → (words w ≡ 0) ⊎ Names things at (InCell w) (words w)
  pub shown : (c : ℕ) → All (Names things at (ShownBy c)) (views c).shown
  pub cut : (c : ℕ) → All (Names things at (CutBy c)) (views c).cut

-- the words are those of plain cells after the entries, and the objects are apart
pub record CellsRule (cells : ℕ) (x : Scene CellsView CellCall ℕ) : Type 0 where
  pub left : List ℕ
  pub leaves : Leaves CellsOpen CellsStep (replicate cells 0) x.entries left
  pub many : length left ≡ cells
  pub stand : (w : ℕ) → w < cells → slice_index left w ≡ x.words w
  pub apart : AreApart cells x.words x.views x.things

abbrev pub cells_terms : ClientTerms ℕ CellsView CellCall ℕ (List ℕ)
cells_terms = record {
  own = λ cells. cells;
  start = λ cells. replicate cells 0;
  first = record { shown = []; cut = [] };
  unpinned = λ view. view;
  is_own_link = λ word. true;
  is_row_link = λ at. false;
  may_take = λ view owned. Unit {0};
  may_reclaim = λ view owned. Unit {0};
  gives_back = Unit {0};
  may = MayDo;
  after = knows_after;
  enters = call_made;
  holds = λ cells shape x. CellsRule cells x;
}
