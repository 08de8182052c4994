-- A reading of a script is one of its text.
use Rattle.std.proofs.Common.{◌≡◌, ℕ, ◌++◌, List, [], ◌∷◌, Option, Result, Ok, Err, ap, sym, ◌∙◌, subst}
use Rattle.std.specs.Io.KnownBytes.{IsAtEnd}
use Rattle.shared_io.specs.Counts.{Rose}
use Rattle.line_text.specs.declared.faults.TextFault.{TextFault}
use Rattle.line_text.specs.declared.faults.TextFault.TheVariants.{BadLine, TooLarge, ReadFault, OutOfMemory}
use Rattle.line_text.specs.Readings.{Reading as TextReading, HasCause as TextCause}
use Rattle.line_text.specs.Texts.{WasAskedFor as TextWasAskedFor}
use Rattle.line_text.proofs.Inputs.{means_one as text_means_one}
use Rattle.line_text.proofs.Sources.{text_input, refusal_input}
use Rattle.script_text.specs.declared.lines.Stage.{Stage}
use Rattle.script_text.specs.declared.lines.Stage.TheVariants.{InRound}
use Rattle.script_text.specs.declared.scripts.Call.{Call}
use Rattle.script_text.specs.declared.scripts.Script.{Script}
use Rattle.script_text.specs.Drafts.{Progress}
use Rattle.script_text.specs.Reading.{Reading, WasAskedFor, HasCause}
use Rattle.script_text.specs.Scripts.{PlainScript, plain_script}
use Rattle.script_text.specs.ScriptText.{script_text, IsMadeAt, IsMade, HasScript, IsRefused, MeansOne}

asked : (read : List ℕ) → TextWasAskedFor script_text read → WasAskedFor read
asked read a = record { earlier = a.earlier; piece = a.piece; parts = a.parts; opened = a.opened; bounded = a.bounded }

-- the script that a progress has made is one
pub same_script : (at other : Progress) (script second : PlainScript) → at ≡ other → IsMade at script → IsMade other second → script ≡ second
same_script at other script second same one two = by other.stage (other.before ++ other.calls ∷ []) (subst (λ (p : Progress). IsMade p script) same one) two
  where
    by : (stage : Stage) (rounds : List (List (List Call))) → IsMadeAt stage rounds script → IsMadeAt stage rounds second → script ≡ second
    by (InRound object callers caller) rounds one two = one ∙ sym two
    by stage rounds one two = absurd one

module _ (left_before left_after : Option (List ℕ)) (faults_before faults_after : ℕ) (at : Progress) where
  not_err : (fault : TextFault) → ◌≡◌ {A = Result (Unit {0}) TextFault} (Ok tt) (Err fault) → ⊥
  not_err fault is = cc

  -- of a text that was read
  pub script_reading : (script : Script) → IsMade at (plain_script script) → TextReading script_text left_before left_after faults_before faults_after (Ok tt) at → Reading left_before left_after faults_before faults_after (Ok script)
  script_reading script made reading = record {
    read = reading.read;
    consumed = reading.consumed;
    asked = asked reading.read reading.asked;
    count = reading.count;
    steady = λ other. reading.steady (not_err ReadFault);
    means = (at, reading.means, made);
  }

  -- and for which memory was wanted behind it
  pub no_memory : TextReading script_text left_before left_after faults_before faults_after (Ok tt) at → Reading left_before left_after faults_before faults_after (Err OutOfMemory)
  no_memory reading = record {
    read = reading.read;
    consumed = reading.consumed;
    asked = asked reading.read reading.asked;
    count = reading.count;
    steady = λ other. reading.steady (not_err ReadFault);
    means = tt;
  }

  fault_cause : (read : List ℕ) (ended rose : Type 0) (fault : TextFault) → TextCause script_text read ended rose fault → HasCause read ended rose fault
  fault_cause read ended rose (BadLine line) cause = cause
  fault_cause read ended rose (TooLarge kind line) cause = cause
  fault_cause read ended rose ReadFault cause = cause
  fault_cause read ended rose OutOfMemory cause = cause

  pub fault_reading : (fault : TextFault) → TextReading script_text left_before left_after faults_before faults_after (Err fault) at → Reading left_before left_after faults_before faults_after (Err fault)
  fault_reading fault reading = record {
    read = reading.read;
    consumed = reading.consumed;
    asked = asked reading.read reading.asked;
    count = reading.count;
    steady = λ other. reading.steady (λ is. other (ap (λ f. Err f) (same fault ReadFault is)));
    means = fault_cause reading.read (IsAtEnd left_after) (Rose faults_before faults_after) fault reading.means;
  }
    where
      same : (fault other : TextFault) → ◌≡◌ {A = Result (Unit {0}) TextFault} (Err fault) (Err other) → fault ≡ other
      same fault other is = cc

-- ---- whole inputs

pub means_one : (input : List ℕ) → MeansOne input
means_one input =
    let one = text_means_one script_text input in
    record {
      script = λ script other is are. same_script is.0 are.0 script other (one.text is.0 are.0 is.1 are.1) is.2 are.2;
      refusal = one.refusal;
      either = λ script fault is refused. one.either is.0 fault is.1 refused;
    }

-- what was read of an input has a script or is refused, so the input has or is
pub script_of_input : (input read rest : List ℕ) (script : PlainScript) → input ≡ read ++ rest → HasScript read (rest ≡ []) script → HasScript input (Unit {0}) script
script_of_input input read rest script parts is = (is.0, text_input script_text input read is.0 rest parts is.1, is.2)

pub refusal_of_input : (input read rest : List ℕ) (fault : TextFault) → input ≡ read ++ rest → IsRefused read (rest ≡ []) fault → IsRefused input (Unit {0}) fault
refusal_of_input = refusal_input script_text
