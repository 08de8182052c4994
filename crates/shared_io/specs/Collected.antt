use Rattle.std.specs.Prelude.{ℕ, List}

-- the bytes that a sink in memory took, and how often it has wanted memory
pub record Collected : Type 0 where
  pub bytes : List ℕ
  pub refusals : ℕ
