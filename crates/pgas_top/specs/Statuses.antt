use Rattle.std.specs.Prelude.{◌≡◌, ℕ, ◌≤◌, List, [], ◌∷◌, ◌++◌, length, take, codes, ◌⊎◌}
use Rattle.std.specs.Fmt.{decimal}
use Rattle.std.specs.Io.KnownBytes.{Appends}
use Rattle.line_text.specs.declared.faults.TextFault.{TextFault}
use Rattle.line_text.specs.declared.faults.TextFault.TheVariants as text
use Rattle.shared_io.specs.declared.limits.TooKind.{TooKind}
use Rattle.shared_io.specs.declared.limits.TooKind.TheVariants.{Id, Edges, Bytes, Weight, Calls, Steps}
use Rattle.shared_io.specs.declared.sinks.SinkFault.{SinkFault}
use Rattle.shared_io.specs.declared.sinks.SinkFault.TheVariants as sink
use Rattle.pgas_top.specs.Devices.{SinkChange, SinkFailed, SinkRefused}
use Rattle.pgas_top.specs.declared.statuses.Status.{Status}
use Rattle.pgas_top.specs.declared.statuses.Status.TheVariants.{Done, BadWords, BadInput, ReadFault, WriteFault, OutOfMemory, TooLarge}

-- the program's exit status
abbrev pub number_of : Status → ℕ
number_of Done = 0
number_of BadWords = 2
number_of (BadInput line) = 3
number_of ReadFault = 4
number_of WriteFault = 5
number_of OutOfMemory = 6
number_of (TooLarge kind line) = 7

-- the limit's name
abbrev pub limit_name : TooKind → List ℕ
limit_name Id = codes "id"
limit_name Edges = codes "edges"
limit_name Bytes = codes "bytes"
limit_name Weight = codes "weight"
limit_name Calls = codes "calls"
limit_name Steps = codes "steps"

-- the line on the sink for faults
abbrev pub line_of : Status → List ℕ
line_of Done = []
line_of BadWords = codes "pgas: bad words\n"
line_of (BadInput line) = codes "pgas: bad line " ++ decimal line ++ 10 ∷ []
line_of ReadFault = codes "pgas: read failed\n"
line_of WriteFault = codes "pgas: write failed\n"
line_of OutOfMemory = codes "pgas: out of memory\n"
line_of (TooLarge kind line) = codes "pgas: too large at line " ++ decimal line ++ codes ": " ++ limit_name kind ++ 10 ∷ []

-- The line stands on the sink: whole, or cut where the sink failed or wanted memory.
pub record IsTold (faults : SinkChange) (line : List ℕ) : Type 0 where
  pub count : ℕ
  pub within : count ≤ length line
  pub taken : Appends faults.taken_before faults.taken_after (take count line)
  pub fault_count : faults.faults_before ≤ faults.faults_after
  pub refusal_count : faults.refusals_before ≤ faults.refusals_after
  pub whole : (count ≡ length line) ⊎ (SinkFailed faults ⊎ SinkRefused faults)

-- the status that a fault of a reader of texts comes out as
abbrev pub text_status : TextFault → Status
text_status (text.BadLine line) = BadInput line
text_status (text.TooLarge kind line) = TooLarge kind line
text_status text.ReadFault = ReadFault
text_status text.OutOfMemory = OutOfMemory

-- the status that a fault of the sink comes out as
abbrev pub sink_status : SinkFault → Status
sink_status sink.Failed = WriteFault
sink_status sink.Memory = OutOfMemory
