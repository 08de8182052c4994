use Rattle.std.specs.Prelude.{ℕ, List}

-- what contracts see of a segment: its items in order, and how many pushes it has room for
pub record Contents : Type 0 where
  pub items : List ℕ
  pub spare : ℕ
