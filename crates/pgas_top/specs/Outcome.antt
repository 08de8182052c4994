use Rattle.std.specs.Prelude.{◌≡◌, ℕ, ◌≤◌, ◌^◌, List, [], ◌++◌, length, Option, Some, ◌⊎◌}
use Rattle.std.specs.Io.KnownBytes.{Appends, Consumes, IsAtEnd}
use Rattle.edge_text.specs.Edges.{PlainEdges}
use Rattle.edge_text.specs.Written.{edges_text}
use Rattle.edge_text.specs.EdgeText.{IsEdgeText, CanGoOn, IsRefused as EdgesAreRefused}
use Rattle.levels_engine.specs.Draws.{made_list}
use Rattle.line_text.specs.declared.faults.TextFault.TheVariants.{BadLine as BadText, TooLarge as TooLargeText}
use Rattle.run_text.specs.CheckText.{IsCheckText}
use Rattle.run_text.specs.RunText.{HasRun, CanGoOn as RunCanGoOn, IsRefused as RunIsRefused}
use Rattle.run_text.specs.Runs.{PlainRun}
use Rattle.script_engine.specs.Answers.{IsAnswer}
use Rattle.script_text.specs.declared.replies.Replies.{Replies}
use Rattle.script_text.specs.Replies.{replies_text}
use Rattle.script_text.specs.Scripts.{PlainScript}
use Rattle.script_text.specs.ScriptText.{HasScript, IsOpen, IsRefused as ScriptIsRefused}
use Rattle.shared_io.specs.declared.limits.TooKind.{TooKind}
use Rattle.pgas_top.specs.Commands.{Names, Request, Plain, Run, Check, Make}
use Rattle.pgas_top.specs.Devices.{SourceChange, SinkChange, SourceFailed, SinkFailed, SinkRefused, IsUnread, IsUnwritten, WasSteady}
use Rattle.pgas_top.specs.LevelsText.{IsLevelsText}
use Rattle.pgas_top.specs.Statuses.{line_of, IsTold}
use Rattle.pgas_top.specs.declared.statuses.Status.{Status}
use Rattle.pgas_top.specs.declared.statuses.Status.TheVariants.{Done, BadWords, BadInput, ReadFault, WriteFault, OutOfMemory, TooLarge}

-- the text of the replies to the script, for one of its answers
abbrev pub IsRepliesText : PlainScript → List ℕ → Type 0
IsRepliesText script text = (replies : Replies) × IsAnswer script replies × (text ≡ replies_text replies)

-- What is left of the source is whole and accepted. What stands behind the line `end` of a script or a run is no part of it. A command
-- that reads nothing accepts everything.
abbrev pub Accepts : Request → Option (List ℕ) → Type 0
Accepts (Plain sources) left = (input : List ℕ) × (left ≡ Some input) × ((list : PlainEdges) × IsEdgeText input list)
Accepts Run left = (input : List ℕ) × (left ≡ Some input) × ((script : PlainScript) × HasScript input (Unit {0}) script)
Accepts Check left = (input : List ℕ) × (left ≡ Some input) × ((run : PlainRun) × HasRun input (Unit {0}) run)
Accepts (Make seed vertices edges) left = Unit {0}

-- What was read is all that the command asks for: an edge list to the end of the input, a script or a run to its line `end`, or
-- nothing. The command gives the text for it.
abbrev pub Completes : Request → List ℕ → Type 0 → List ℕ → Type 0
Completes (Plain sources) read ended text = ended × ((list : PlainEdges) × IsEdgeText read list × IsLevelsText list sources text)
Completes Run read ended text = (script : PlainScript) × HasScript read ended script × IsRepliesText script text
Completes Check read ended text = (run : PlainRun) × HasRun read ended run × IsCheckText run text
Completes (Make seed vertices edges) read ended text = (read ≡ []) × (text ≡ edges_text (made_list seed vertices edges).edges)

-- what was read is refused at this line, at a byte of it or, where it ended, at its end
abbrev pub Refuses : Request → List ℕ → Type 0 → ℕ → Type 0
Refuses (Plain sources) read ended line = EdgesAreRefused read ended (BadText line)
Refuses Run read ended line = ScriptIsRefused read ended (BadText line)
Refuses Check read ended line = RunIsRefused read ended (BadText line)
Refuses (Make seed vertices edges) read ended line = ⊥

-- what was read exceeds this limit first, at this line
abbrev pub Exceeds : Request → List ℕ → Type 0 → TooKind → ℕ → Type 0
Exceeds (Plain sources) read ended kind line = EdgesAreRefused read ended (TooLargeText kind line)
Exceeds Run read ended kind line = ScriptIsRefused read ended (TooLargeText kind line)
Exceeds Check read ended kind line = RunIsRefused read ended (TooLargeText kind line)
Exceeds (Make seed vertices edges) read ended kind line = ⊥

-- the status is that of the refusal of the input, which is whole
abbrev pub Rejects : Request → List ℕ → Status → Type 0
Rejects command input (BadInput line) = Refuses command input (Unit {0}) line
Rejects command input (TooLarge kind line) = Exceeds command input (Unit {0}) kind line
Rejects command input status = ⊥

-- no refusal stands at a byte of what was read, and a script or a run has no line `end` in it
abbrev pub Admits : Request → List ℕ → Type 0
Admits (Plain sources) read = CanGoOn read
Admits Run read = IsOpen read
Admits Check read = RunCanGoOn read
Admits (Make seed vertices edges) read = ⊥

-- Nothing was asked for once a refusal or a line `end` stood: what was read but the last piece could go on.
pub record WasAskedFor (command : Request) (read : List ℕ) : Type 0 where
  pub earlier : List ℕ
  pub piece : List ℕ
  pub parts : read ≡ earlier ++ piece
  pub admitted : Admits command earlier
  pub bounded : length piece ≤ 2 ^ 16

-- no more was asked for than the command needs
abbrev pub IsNeeded : Request → List ℕ → Type 0
IsNeeded (Plain sources) read = WasAskedFor (Plain sources) read
IsNeeded Run read = WasAskedFor Run read
IsNeeded Check read = WasAskedFor Check read
IsNeeded (Make seed vertices edges) read = read ≡ []

-- the front of the text
abbrev pub IsFrontOf : List ℕ → List ℕ → Type 0
IsFrontOf front text = (rest : List ℕ) × (text ≡ front ++ rest)

-- what a status says of a command that has read this and written this
abbrev pub Ends : Request → SourceChange → SinkChange → List ℕ → List ℕ → Status → Type 0
Ends command source sink read written Done = Completes command read (IsAtEnd source.left_after) written × WasSteady sink
Ends command source sink read written BadWords = ⊥
Ends command source sink read written (BadInput line) = Refuses command read (IsAtEnd source.left_after) line × IsUnwritten sink
Ends command source sink read written (TooLarge kind line) = Exceeds command read (IsAtEnd source.left_after) kind line × IsUnwritten sink
Ends command source sink read written ReadFault = SourceFailed source × Admits command read × IsUnwritten sink
Ends command source sink read written WriteFault = SinkFailed sink × ((text : List ℕ) × Completes command read (IsAtEnd source.left_after) text × IsFrontOf written text)
Ends command source sink read written OutOfMemory = IsUnwritten sink ⊎ (SinkRefused sink × ((text : List ℕ) × Completes command read (IsAtEnd source.left_after) text × IsFrontOf written text))

-- A command ran: what it read and wrote, and what the status says of it.
pub record Ran (command : Request) (source : SourceChange) (sink : SinkChange) (status : Status) : Type 0 where
  pub read : List ℕ
  pub written : List ℕ
  pub consumed : Consumes source.left_before source.left_after read
  pub taken : Appends sink.taken_before sink.taken_after written
  pub ends : Ends command source sink read written status
  pub asked : IsNeeded command read
  -- An accepted input comes to its end: nothing but a failure or want of memory keeps its whole text from being written.
  pub complete : Accepts command source.left_before → (SourceFailed source → ⊥) → (SinkFailed sink → ⊥) → (status ≡ Done) ⊎ (status ≡ OutOfMemory)
  -- An input that isn't accepted ends in its refusal: nothing but a failure or want of memory comes before that.
  pub refused : (input : List ℕ) → source.left_before ≡ Some input → (Accepts command (Some input) → ⊥) → (SourceFailed source → ⊥) → (status ≡ OutOfMemory) ⊎ Rejects command input status
  -- No failed read is passed over.
  pub steady : (status ≡ ReadFault → ⊥) → source.faults_after ≡ source.faults_before
  -- No count falls.
  pub source_count : source.faults_before ≤ source.faults_after
  pub sink_count : sink.faults_before ≤ sink.faults_after
  pub refusal_count : sink.refusals_before ≤ sink.refusals_after

-- No command that is offered has these words. Nothing is read, and nothing is written.
pub record IsUnknown (offered : Request → Type 0) (words : List (List ℕ)) (source : SourceChange) (sink : SinkChange) : Type 0 where
  pub unknown : (command : Request) → offered command → Names words command → ⊥
  pub unread : IsUnread source
  pub unwritten : IsUnwritten sink

-- By the words: the outcome of the command that they name, or bad words. Where memory is wanted while the words are read, nothing is
-- read or written.
abbrev pub Answers : (Request → Type 0) → List (List ℕ) → SourceChange → SinkChange → Status → Type 0
Answers offered words source sink BadWords = IsUnknown offered words source sink
Answers offered words source sink OutOfMemory =
    (IsUnread source × IsUnwritten sink) ⊎ ((command : Request) × offered command × Names words command × Ran command source sink OutOfMemory)
Answers offered words source sink status = (command : Request) × offered command × Names words command × Ran command source sink status

-- The outcome of a run: words, what the source, the sink and the sink for faults tell before and after it, and the status.
pub record Outcome (offered : Request → Type 0) (words : List (List ℕ)) (source : SourceChange) (sink faults : SinkChange) (status : Status) : Type 0 where
  pub answers : Answers offered words source sink status
  pub told : IsTold faults (line_of status)
