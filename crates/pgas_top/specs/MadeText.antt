-- What the making of a command's text promises, before any of it is written.
use Rattle.std.specs.Prelude.{◌≡◌, ℕ, ◌≤◌, List, Result, Ok, Err, Vec}
use Rattle.std.specs.Io.KnownBytes.{Consumes, IsAtEnd}
use Rattle.std.specs.declared.alloc.Global.{Global}
use Rattle.pgas_top.specs.Devices.{SourceChange, SourceFailed}
use Rattle.pgas_top.specs.Outcome.{Accepts, Admits, Completes, Exceeds, IsNeeded, Refuses}
use Rattle.pgas_top.specs.Commands.{Request}
use Rattle.pgas_top.specs.declared.statuses.Status.{Status}
use Rattle.pgas_top.specs.declared.statuses.Status.TheVariants.{BadInput, ReadFault, OutOfMemory, TooLarge}

-- what the answer says of the bytes that were read
abbrev pub Says : Request → SourceChange → List ℕ → Result (Vec ℕ Global) Status → Type 0
Says command source read (Ok text) = Completes command read (IsAtEnd source.left_after) text.items
Says command source read (Err (BadInput line)) = Refuses command read (IsAtEnd source.left_after) line
Says command source read (Err (TooLarge kind line)) = Exceeds command read (IsAtEnd source.left_after) kind line
Says command source read (Err ReadFault) = SourceFailed source × Admits command read
Says command source read (Err OutOfMemory) = Unit {0}
Says command source read (Err other) = ⊥

-- the answer is the text, or memory ran out
abbrev pub IsTextUnless : Result (Vec ℕ Global) Status → Type 0
IsTextUnless (Ok text) = Unit {0}
IsTextUnless (Err status) = status ≡ OutOfMemory

-- The text was made of what was read, or not, for this cause.
pub record IsMadeText (command : Request) (source : SourceChange) (answer : Result (Vec ℕ Global) Status) : Type 0 where
  pub read : List ℕ
  pub consumed : Consumes source.left_before source.left_after read
  pub says : Says command source read answer
  pub asked : IsNeeded command read
  pub complete : Accepts command source.left_before → (SourceFailed source → ⊥) → IsTextUnless answer
  pub steady : (answer ≡ Err ReadFault → ⊥) → source.faults_after ≡ source.faults_before
  pub count : source.faults_before ≤ source.faults_after
