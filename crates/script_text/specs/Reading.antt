-- What a reading of a source promises.
use Rattle.std.specs.Prelude.{◌≡◌, ℕ, ◌≤◌, ◌^◌, List, ◌++◌, length, Option, Result, Err, MatchResult}
use Rattle.std.specs.Io.KnownBytes.{Consumes, IsAtEnd}
use Rattle.shared_io.specs.Counts.{Rose}
use Rattle.line_text.specs.declared.faults.TextFault.{TextFault}
use Rattle.line_text.specs.declared.faults.TextFault.TheVariants.{BadLine, TooLarge, ReadFault, OutOfMemory}
use Rattle.script_text.specs.declared.scripts.Script.{Script}
use Rattle.script_text.specs.Scripts.{plain_script}
use Rattle.script_text.specs.ScriptText.{IsOpen, IsRefused, HasScript}

-- Why there is no script. Want of memory needs no cause.
abbrev pub HasCause : List ℕ → Type 0 → Type 0 → TextFault → Type 0
HasCause read ended rose (BadLine line) = IsRefused read ended (BadLine line)
HasCause read ended rose (TooLarge kind line) = IsRefused read ended (TooLarge kind line)
HasCause read ended rose ReadFault = rose × IsOpen read
HasCause read ended rose OutOfMemory = Unit {0}

-- Nothing was asked for behind the line `end` or a refusal: neither stands in any but the last piece.
pub record WasAskedFor (read : List ℕ) : Type 0 where
  pub earlier : List ℕ
  pub piece : List ℕ
  pub parts : read ≡ earlier ++ piece
  pub opened : IsOpen earlier
  pub bounded : length piece ≤ 2 ^ 16

-- One reading of a source: what it told it had left before and after, its counts of failures, and the answer.
pub record Reading (left_before left_after : Option (List ℕ)) (faults_before faults_after : ℕ) (answer : Result Script TextFault) : Type 0 where
  pub read : List ℕ
  pub consumed : Consumes left_before left_after read
  pub asked : WasAskedFor read
  pub count : faults_before ≤ faults_after
  -- no failed read is passed over
  pub steady : (answer ≡ Err ReadFault → ⊥) → faults_after ≡ faults_before
  pub means : MatchResult answer (λ script. HasScript read (IsAtEnd left_after) (plain_script script)) (HasCause read (IsAtEnd left_after) (Rose faults_before faults_after))
