-- How the text of a command is made of what was read, or why it isn't.
use Rattle.std.proofs.Common.{◌≡◌, ℕ, Result, List, Some, Ok, Err, Vec, refl, sym, subst}
use Rattle.std.specs.declared.alloc.Global.{Global}
use Rattle.std.specs.Io.KnownBytes.{IsAtEnd}
use Rattle.shared_io.specs.Counts.{Rose}
use Rattle.edge_text.specs.Edges.{PlainEdges, plain_edges}
use Rattle.edge_text.specs.declared.edges.EdgeList.{EdgeList}
use Rattle.line_text.specs.declared.faults.TextFault.{TextFault}
use Rattle.line_text.specs.declared.faults.TextFault.TheVariants as text
use Rattle.edge_text.specs.EdgeText.{IsEdgeText}
use Rattle.edge_text.specs.Reading.{Reading as EdgeReading, HasCause as EdgeCause, WasAskedFor as EdgesWereAskedFor}
use Rattle.line_text.specs.Readings.{IsExcuse}
use Rattle.run_text.specs.CheckText.{IsCheckText}
use Rattle.run_text.specs.Reading.{Reading as RunReading, HasCause as RunCause, WasAskedFor as RunWasAskedFor}
use Rattle.run_text.specs.RunText.{HasRun}
use Rattle.run_text.specs.Runs.{PlainRun, plain_run}
use Rattle.run_text.specs.declared.runs.RunText.{RunText}
use Rattle.script_engine.specs.Answers.{IsAnswer}
use Rattle.script_text.specs.declared.replies.Replies.{Replies}
use Rattle.script_text.specs.declared.scripts.Script.{Script}
use Rattle.script_text.specs.Reading.{Reading as ScriptReading, HasCause as ScriptCause, WasAskedFor as ScriptWasAskedFor}
use Rattle.script_text.specs.Replies.{replies_text}
use Rattle.script_text.specs.Scripts.{PlainScript, plain_script}
use Rattle.script_text.specs.ScriptText.{HasScript}
use Rattle.pgas_top.specs.Devices.{SourceChange, SourceFailed}
use Rattle.pgas_top.specs.LevelsText.{IsLevelsText}
use Rattle.pgas_top.specs.Outcome.{WasAskedFor}
use Rattle.pgas_top.specs.MadeText.{IsMadeText, Says}
use Rattle.pgas_top.specs.Statuses.{text_status}
use Rattle.pgas_top.specs.Commands.{Plain, Run, Check}
use Rattle.pgas_top.specs.declared.statuses.Status.{Status}
use Rattle.pgas_top.specs.declared.statuses.Status.TheVariants.{OutOfMemory, ReadFault}

-- ---- levels

asked : (sources : List ℕ) (read : List ℕ) → EdgesWereAskedFor read → WasAskedFor (Plain sources) read
asked sources read a = record { earlier = a.earlier; piece = a.piece; parts = a.parts; admitted = a.could_go_on; bounded = a.bounded }

-- the list was read, and the text was made of it
pub levels_made : (sources : List ℕ) (source : SourceChange) (list : EdgeList) (text : Vec ℕ Global)
    → EdgeReading source.left_before source.left_after source.faults_before source.faults_after (Ok list) → IsLevelsText (plain_edges list) sources text.items
    → IsMadeText (Plain sources) source (Ok text)
levels_made sources source list text reading is = record {
  read = reading.read;
  consumed = reading.consumed;
  asked = asked sources reading.read reading.asked;
  count = reading.count;
  steady = λ other. reading.steady (λ e. cc);
  says = (reading.means.0, (plain_edges list, reading.means.1, is));
  complete = λ accepted steady. tt;
}

-- what a fault of the reader says as a status, and why an accepted input excuses want of memory alone
levels_say : (sources : List ℕ) (source : SourceChange) (read : List ℕ) (fault : TextFault) → EdgeCause read (IsAtEnd source.left_after) (SourceFailed source) fault → Says (Plain sources) source read (Err (text_status fault))
levels_say sources source read (text.BadLine line) means = means
levels_say sources source read (text.TooLarge kind line) means = means
levels_say sources source read text.ReadFault means = means
levels_say sources source read text.OutOfMemory means = tt

fault_excused : (source : SourceChange) (fault : TextFault) → IsExcuse (SourceFailed source) fault → (SourceFailed source → ⊥) → text_status fault ≡ OutOfMemory
fault_excused source (text.BadLine line) excuse steady = absurd excuse
fault_excused source (text.TooLarge kind line) excuse steady = absurd excuse
fault_excused source text.ReadFault excuse steady = absurd (steady excuse)
fault_excused source text.OutOfMemory excuse steady = refl

fault_failed : {A : Type 0} (fault : TextFault) → ◌≡◌ {A = Result A TextFault} (Err fault) (Err text.ReadFault) → ◌≡◌ {A = Result (Vec ℕ Global) Status} (Err (text_status fault)) (Err ReadFault)
fault_failed (text.BadLine line) e = cc
fault_failed (text.TooLarge kind line) e = cc
fault_failed text.ReadFault e = refl
fault_failed text.OutOfMemory e = cc

-- the reader gave no list
pub levels_refused : (sources : List ℕ) (source : SourceChange) (fault : TextFault) (status : Status)
    → EdgeReading source.left_before source.left_after source.faults_before source.faults_after (Err fault)
    → ((input : List ℕ) (list : PlainEdges) → source.left_before ≡ Some input → IsEdgeText input list → IsExcuse (Rose source.faults_before source.faults_after) fault)
    → status ≡ text_status fault → IsMadeText (Plain sources) source (Err status)
levels_refused sources source fault status reading accepted is =
    let P : Status → Type 0 = λ s. IsMadeText (Plain sources) source (Err s) in
    subst P (sym is) (record {
      read = reading.read;
      consumed = reading.consumed;
      asked = asked sources reading.read reading.asked;
      count = reading.count;
      steady = λ other. reading.steady (λ e. other (fault_failed fault e));
      says = levels_say sources source reading.read fault reading.means;
      complete = λ is steady. fault_excused source fault (accepted is.0 is.2.0 is.1 is.2.1) steady;
    })

-- ---- runs

run_asked : (read : List ℕ) → RunWasAskedFor read → WasAskedFor Check read
run_asked read a = record { earlier = a.earlier; piece = a.piece; parts = a.parts; admitted = a.could_go_on; bounded = a.bounded }

-- the run was read and checked, and the text was made of that
pub check_made : (source : SourceChange) (run : RunText) (text : Vec ℕ Global)
    → RunReading source.left_before source.left_after source.faults_before source.faults_after (Ok run) → IsCheckText (plain_run run) text.items
    → IsMadeText Check source (Ok text)
check_made source run text reading is = record {
  read = reading.read;
  consumed = reading.consumed;
  asked = run_asked reading.read reading.asked;
  count = reading.count;
  steady = λ other. reading.steady (λ e. cc);
  says = (plain_run run, reading.means, is);
  complete = λ accepted steady. tt;
}

check_says : (source : SourceChange) (read : List ℕ) (fault : TextFault) → RunCause read (IsAtEnd source.left_after) (SourceFailed source) fault → Says Check source read (Err (text_status fault))
check_says source read (text.BadLine line) means = means
check_says source read (text.TooLarge kind line) means = means
check_says source read text.ReadFault means = means
check_says source read text.OutOfMemory means = tt

-- the reader gave no run
pub check_refused : (source : SourceChange) (fault : TextFault) (status : Status)
    → RunReading source.left_before source.left_after source.faults_before source.faults_after (Err fault)
    → ((input : List ℕ) (run : PlainRun) → source.left_before ≡ Some input → HasRun input (Unit {0}) run → IsExcuse (Rose source.faults_before source.faults_after) fault)
    → status ≡ text_status fault → IsMadeText Check source (Err status)
check_refused source fault status reading accepted is =
    let P : Status → Type 0 = λ s. IsMadeText Check source (Err s) in
    subst P (sym is) (record {
      read = reading.read;
      consumed = reading.consumed;
      asked = run_asked reading.read reading.asked;
      count = reading.count;
      steady = λ other. reading.steady (λ e. other (fault_failed fault e));
      says = check_says source reading.read fault reading.means;
      complete = λ is steady. fault_excused source fault (accepted is.0 is.2.0 is.1 is.2.1) steady;
    })

-- ---- replies

script_asked : (read : List ℕ) → ScriptWasAskedFor read → WasAskedFor Run read
script_asked read a = record { earlier = a.earlier; piece = a.piece; parts = a.parts; admitted = a.opened; bounded = a.bounded }

-- the script was read and run, and the text was made of its replies
pub replies_made : (source : SourceChange) (script : Script) (replies : Replies) (text : Vec ℕ Global)
    → ScriptReading source.left_before source.left_after source.faults_before source.faults_after (Ok script) → IsAnswer (plain_script script) replies → text.items ≡ replies_text replies
    → IsMadeText Run source (Ok text)
replies_made source script replies text reading answers is = record {
  read = reading.read;
  consumed = reading.consumed;
  asked = script_asked reading.read reading.asked;
  count = reading.count;
  steady = λ other. reading.steady (λ e. cc);
  says = (plain_script script, reading.means, (replies, answers, is));
  complete = λ accepted steady. tt;
}

-- the same of the reader of scripts
replies_say : (source : SourceChange) (read : List ℕ) (fault : TextFault) → ScriptCause read (IsAtEnd source.left_after) (SourceFailed source) fault → Says Run source read (Err (text_status fault))
replies_say source read (text.BadLine line) means = means
replies_say source read (text.TooLarge kind line) means = means
replies_say source read text.ReadFault means = means
replies_say source read text.OutOfMemory means = tt

-- the reader gave no script
pub replies_refused : (source : SourceChange) (fault : TextFault) (status : Status)
    → ScriptReading source.left_before source.left_after source.faults_before source.faults_after (Err fault)
    → ((input : List ℕ) (script : PlainScript) → source.left_before ≡ Some input → HasScript input (Unit {0}) script → IsExcuse (Rose source.faults_before source.faults_after) fault)
    → status ≡ text_status fault → IsMadeText Run source (Err status)
replies_refused source fault status reading accepted is =
    let P : Status → Type 0 = λ s. IsMadeText Run source (Err s) in
    subst P (sym is) (record {
      read = reading.read;
      consumed = reading.consumed;
      asked = script_asked reading.read reading.asked;
      count = reading.count;
      steady = λ other. reading.steady (λ e. other (fault_failed fault e));
      says = replies_say source reading.read fault reading.means;
      complete = λ is steady. fault_excused source fault (accepted is.0 is.2.0 is.1 is.2.1) steady;
    })
