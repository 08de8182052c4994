use Rattle.std.specs.Prelude.{ℕ, List}

-- numbers in a row, and how many free slots there are before and behind them
pub record Row : Type 0 where
  pub before : ℕ
  pub items : List ℕ
  pub behind : ℕ
