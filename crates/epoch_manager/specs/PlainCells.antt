-- A row of cells as one thread knows it.
use Rattle.std.specs.Prelude.{◌≡◌, ℕ, ◌<◌, List, length, replicate, slice_index, slice_set}
use Rattle.epoch_manager.specs.declared.plain_cells.CellCall.{CellCall}
use Rattle.epoch_manager.specs.declared.plain_cells.CellCall.TheVariants.{Put, Look}

-- each cell opens empty
abbrev pub CellsOpen : List ℕ → Type 0
CellsOpen words = words ≡ replicate (length words) 0

-- a call is on one of the cells and replies the word that stands there, and a Put stores its own
abbrev pub CellsStep : List ℕ → CellCall → ℕ → List ℕ → Type 0
CellsStep old (Put cell word) reply new = (cell < length old) × (reply ≡ slice_index old cell) × (new ≡ slice_set old cell word)
CellsStep old (Look cell) reply new = (cell < length old) × (reply ≡ slice_index old cell) × (new ≡ old)
