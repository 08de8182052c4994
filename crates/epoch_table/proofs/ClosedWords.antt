-- The words of a closed table.
use Rattle.std.proofs.Common.{◌≡◌, ℕ, zero, suc, List, [], ◌∷◌, slice_index, sym}
use mathlib.Core.Option.{some, some-injective, some-ne-none}
use lib.ListN.{get_elem?}

-- what stands at a place is what is read there
pub read_at : (words : List ℕ) (i word : ℕ) → get_elem? words i ≡ some word → slice_index words i ≡ word
read_at [] i word at = absurd (some-ne-none word (sym at))
read_at (x ∷ xs) zero word at = some-injective x word at
read_at (x ∷ xs) (suc i) word at = read_at xs i word at
