-- Passes in the order of their callers' numbers.
use Rattle.std.specs.Prelude.{◌≡◌, ℕ, ◌<◌, List, length, slice_index_or}

-- each pass is of the caller of its place
abbrev pub AreInOrder : {Pass : Type 0} → (Pass → ℕ) → List Pass → Type 0
AreInOrder {Pass} caller passes = (k : ℕ) (d : Pass) → k < length passes → caller (slice_index_or passes k d) ≡ k
