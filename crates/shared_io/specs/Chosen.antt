use Rattle.std.specs.Prelude.{ℕ, ◌==◌, Bool, List}
use Rattle.std.specs.List.{list_any}
use Rattle.shared_io.specs.Collected.{Collected}

-- a source in memory that fails at the calls of these numbers
pub record ChosenSource : Type 0 where
  pub left : List ℕ
  pub fails : List ℕ
  pub piece : ℕ
  pub calls : ℕ
  pub faults : ℕ

-- a sink in memory that fails at the calls of these numbers
pub record ChosenSink : Type 0 where
  pub taken : Collected
  pub fails : List ℕ
  pub piece : ℕ
  pub calls : ℕ
  pub faults : ℕ

-- the call is one of those that fail
abbrev pub is_chosen : List ℕ → ℕ → Bool
is_chosen fails call = list_any (λ number. number == call) fails
