-- Chains of places.
use Rattle.std.specs.Prelude.{◌≡◌, ◌≢◌, ℕ, ◌-◌, ◌≤◌, Bool, List, [], ◌∷◌, Contains, length, slice_index}

-- What contracts see: the heads, and for each place the link that it has, or will have once it is no longer pending.
pub record Linked : Type 0 where
  pub heads : List ℕ
  pub next : List ℕ
  pub pending : List Bool

-- the places from one on, in order, along their links; 0 is the end
abbrev pub Leads : List ℕ → ℕ → List ℕ → Type 0
Leads next from [] = from ≡ 0
Leads next from (place ∷ rest) = (from ≡ place) × (1 ≤ place) × Leads next (slice_index next (place - 1)) rest

-- the chain of a head
abbrev pub IsChain : Linked → ℕ → List ℕ → Type 0
IsChain c head chain = Leads c.next (slice_index c.heads head) chain

-- the place is in no chain of a head
abbrev pub IsOutside : Linked → ℕ → Type 0
IsOutside c place = (head : ℕ) (chain : List ℕ) → IsChain c head chain → Contains chain place → ⊥

-- the place is in no chain of another head
abbrev pub IsInNoOther : Linked → ℕ → ℕ → Type 0
IsInNoOther c but place = (head : ℕ) (chain : List ℕ) → head ≢ but → IsChain c head chain → Contains chain place → ⊥

-- every head has a chain, so none runs round
pub record AreChained (c : Linked) : Type 0 where
  pub marked : length c.pending ≡ length c.next
  pub chained : (head : ℕ) → (chain : List ℕ) × IsChain c head chain
