use Rattle.std.specs.Prelude.{◌≡◌, ℕ, ◌+◌, ◌*◌, ◌^◌, ◌≤◌, ◌<◌, List, Box, All, length}
use Rattle.std.specs.List.{flat_map}
use Rattle.std.specs.declared.alloc.Global.{Global}
use Rattle.segment_store.specs.declared.blocks.TheConstants.{PLACES}

-- a block, as code holds it
abbrev pub Block : Type 0
Block = Box (List ℕ) Global

-- a block has all its places
abbrev pub IsWhole : Block → Type 0
IsWhole block = length block.value ≡ PLACES

abbrev pub AreWhole : List Block → Type 0
AreWhole blocks = All IsWhole blocks

-- the places of one block after those of another
abbrev pub joined : List Block → List ℕ
joined blocks = flat_map (λ block. block.value) blocks

-- The items stand one after another, from a place of the first block on. There are at most 2^24.
pub record HoldItems (blocks : List Block) (start end : ℕ) : Type 0 where
  pub whole : AreWhole blocks
  pub first : start < PLACES
  pub ordered : start ≤ end
  pub inside : end ≤ PLACES * length blocks
  pub count : end ≤ start + 2 ^ 24
