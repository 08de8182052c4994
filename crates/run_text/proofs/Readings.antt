-- A reading of a run is one of its text.
use Rattle.std.proofs.Common.{◌≡◌, ℕ, ◌++◌, List, [], ◌∷◌, Option, Result, Ok, Err, ap, sym, ◌∙◌, inr, ⊎_elim, append_assoc}
use Rattle.std.specs.Io.KnownBytes.{IsAtEnd}
use Rattle.std.proofs.lemmas.Bool.{false≢true}
use Rattle.shared_io.specs.Counts.{Rose}
use Rattle.line_text.specs.declared.faults.TextFault.{TextFault}
use Rattle.line_text.specs.declared.faults.TextFault.TheVariants.{BadLine, TooLarge, ReadFault, OutOfMemory}
use Rattle.line_text.specs.Readings.{Reading as TextReading, HasCause as TextCause}
use Rattle.line_text.specs.Texts.{WasAskedFor as TextWasAskedFor}
use Rattle.line_text.proofs.Inputs.{means_one as text_means_one}
use Rattle.line_text.proofs.Sources.{refusal_input}
use Rattle.run_text.specs.declared.runs.RunText.{RunText}
use Rattle.run_text.specs.Drawn.{Drawn}
use Rattle.run_text.specs.RunText.{run_text, plain_drawn, HasRun, IsRefused}
use Rattle.run_text.specs.Runs.{PlainRun, plain_run}
use Rattle.run_text.specs.Reading.{Reading, WasAskedFor, HasCause, MeansOne}

asked : (read : List ℕ) → TextWasAskedFor run_text read → WasAskedFor read
asked read a = record { earlier = a.earlier; piece = a.piece; parts = a.parts; could_go_on = a.opened; bounded = a.bounded }

module _ (left_before left_after : Option (List ℕ)) (faults_before faults_after : ℕ) (drawn : Drawn) where
  pub run_reading : (run : RunText) → plain_run run ≡ plain_drawn drawn → TextReading run_text left_before left_after faults_before faults_after (Ok tt) drawn → Reading left_before left_after faults_before faults_after (Ok run)
  run_reading run is reading = record {
    read = reading.read;
    consumed = reading.consumed;
    asked = asked reading.read reading.asked;
    count = reading.count;
    steady = λ other. reading.steady (λ never. not_err never);
    means = (drawn, reading.means, is);
  }
    where
      not_err : ◌≡◌ {A = Result (Unit {0}) TextFault} (Ok tt) (Err ReadFault) → ⊥
      not_err is = cc

  fault_cause : (read : List ℕ) (ended rose : Type 0) (fault : TextFault) → TextCause run_text read ended rose fault → HasCause read ended rose fault
  fault_cause read ended rose (BadLine line) cause = cause
  fault_cause read ended rose (TooLarge kind line) cause = cause
  fault_cause read ended rose ReadFault cause = cause
  fault_cause read ended rose OutOfMemory cause = cause

  pub fault_reading : (fault : TextFault) → TextReading run_text left_before left_after faults_before faults_after (Err fault) drawn → Reading left_before left_after faults_before faults_after (Err fault)
  fault_reading fault reading = record {
    read = reading.read;
    consumed = reading.consumed;
    asked = asked reading.read reading.asked;
    count = reading.count;
    steady = λ other. reading.steady (λ is. other (ap (λ f. Err f) (same fault ReadFault is)));
    means = fault_cause reading.read (IsAtEnd left_after) (Rose faults_before faults_after) fault reading.means;
  }
    where
      same : (fault other : TextFault) → ◌≡◌ {A = Result (Unit {0}) TextFault} (Err fault) (Err other) → fault ≡ other
      same fault other is = cc

-- ---- an input means one thing

pub means_one : (input : List ℕ) → MeansOne input
means_one input =
    let one = text_means_one run_text input in
    record {
      run = λ run other is are. is.2 ∙ (ap plain_drawn (one.text is.0 are.0 is.1 are.1) ∙ sym are.2);
      refusal = one.refusal;
      either = λ run fault is refused. one.either is.0 fault is.1 refused;
    }

-- what was read of an input is refused, so the input is
pub refusal_of_input : (input read rest : List ℕ) (fault : TextFault) → input ≡ read ++ rest → IsRefused read (rest ≡ []) fault → IsRefused input (Unit {0}) fault
refusal_of_input = refusal_input run_text

-- what was read of an input has a run at its front, so the input has
pub run_of_input : (input read rest : List ℕ) (run : PlainRun) → input ≡ read ++ rest → HasRun read (rest ≡ []) run → HasRun input (Unit {0}) run
run_of_input input read rest run parts is = (
  is.0,
  record {
    front = is.1.front;
    said = is.1.said;
    opened = is.1.opened;
    last = is.1.last;
    within = is.1.within;
    makes = is.1.makes;
    whole = ⊎_elim (λ end. absurd (false≢true end.2)) (λ line. inr (line.0 ++ rest, parts ∙ (ap (λ (l : List ℕ). l ++ rest) line.1 ∙ append_assoc is.1.front (10 ∷ line.0) rest), line.2)) is.1.whole;
  },
  is.2,
)
