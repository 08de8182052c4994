use Rattle.std.specs.Prelude.{◌≡◌, ℕ, ◌≤◌, ◌^◌, List, ◌++◌, length, Option, Result, Err, MatchResult}
use Rattle.std.specs.Io.KnownBytes.{Consumes, IsAtEnd}
use Rattle.shared_io.specs.Counts.{Rose}
use Rattle.line_text.specs.declared.faults.TextFault.{TextFault}
use Rattle.line_text.specs.declared.faults.TextFault.TheVariants.{BadLine, TooLarge, ReadFault, OutOfMemory}
use Rattle.run_text.specs.Runs.{PlainRun, plain_run}
use Rattle.run_text.specs.RunText.{HasRun, CanGoOn, IsRefused}
use Rattle.run_text.specs.declared.runs.RunText.{RunText}

-- Why there is no run. Want of memory needs no cause.
abbrev pub HasCause : List ℕ → Type 0 → Type 0 → TextFault → Type 0
HasCause read ended rose (BadLine line) = IsRefused read ended (BadLine line)
HasCause read ended rose (TooLarge kind line) = IsRefused read ended (TooLarge kind line)
HasCause read ended rose ReadFault = rose × CanGoOn read
HasCause read ended rose OutOfMemory = Unit {0}

-- The text of the run stands at the front, up to the line `end`.
abbrev pub HasRead : List ℕ → Type 0 → RunText → Type 0
HasRead read ended run = HasRun read ended (plain_run run)

-- Nothing was asked for behind a refusal or the line `end`: neither stands in any but the last piece.
pub record WasAskedFor (read : List ℕ) : Type 0 where
  pub earlier : List ℕ
  pub piece : List ℕ
  pub parts : read ≡ earlier ++ piece
  pub could_go_on : CanGoOn earlier
  pub bounded : length piece ≤ 2 ^ 16

-- One reading of a source: what it told it had left before and after, its counts of failures, and the answer.
pub record Reading (left_before left_after : Option (List ℕ)) (faults_before faults_after : ℕ) (answer : Result RunText TextFault) : Type 0 where
  pub read : List ℕ
  pub consumed : Consumes left_before left_after read
  pub asked : WasAskedFor read
  pub count : faults_before ≤ faults_after
  -- no failed read is passed over
  pub steady : (answer ≡ Err ReadFault → ⊥) → faults_after ≡ faults_before
  pub means : MatchResult answer (HasRead read (IsAtEnd left_after)) (HasCause read (IsAtEnd left_after) (Rose faults_before faults_after))

-- An input is the text of one run, or is refused for one cause, and never both.
pub record MeansOne (input : List ℕ) : Type 0 where
  pub run : (run other : PlainRun) → HasRun input (Unit {0}) run → HasRun input (Unit {0}) other → run ≡ other
  pub refusal : (fault other : TextFault) → IsRefused input (Unit {0}) fault → IsRefused input (Unit {0}) other → fault ≡ other
  pub either : (run : PlainRun) (fault : TextFault) → HasRun input (Unit {0}) run → IsRefused input (Unit {0}) fault → ⊥
