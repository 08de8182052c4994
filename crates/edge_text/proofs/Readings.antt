-- A reading of an edge list is one of its text.
use Rattle.std.proofs.Common.{◌≡◌, ℕ, ◌++◌, List, [], Option, Result, Ok, Err, ap, sym, ◌∙◌, inl, ⊎_elim}
use Rattle.std.specs.Io.KnownBytes.{IsAtEnd}
use Rattle.std.proofs.lemmas.Bool.{false≢true}
use Rattle.shared_io.specs.Counts.{Rose}
use Rattle.line_text.specs.declared.faults.TextFault.{TextFault}
use Rattle.line_text.specs.declared.faults.TextFault.TheVariants.{BadLine, TooLarge, ReadFault, OutOfMemory}
use Rattle.line_text.specs.Readings.{Reading as TextReading, HasCause as TextCause}
use Rattle.line_text.specs.Texts.{HasText, WasAskedFor as TextWasAskedFor}
use Rattle.line_text.proofs.Inputs.{means_one as text_means_one}
use Rattle.line_text.proofs.Sources.{refusal_input}
use Rattle.edge_text.specs.declared.edges.EdgeList.{EdgeList}
use Rattle.edge_text.specs.Drawn.{Drawn}
use Rattle.edge_text.specs.EdgeText.{edge_text, plain_drawn, IsRefused}
use Rattle.edge_text.specs.Edges.{plain_edges}
use Rattle.edge_text.specs.Reading.{Reading, WasAskedFor, HasRead, HasCause, MeansOne}

-- a text ends where the input does
all_read : (read : List ℕ) (ended : Type 0) (drawn : Drawn) → HasText edge_text read ended drawn → ended × HasText edge_text read (Unit {0}) drawn
all_read read ended drawn text =
    ⊎_elim (λ end. (end.0, record { front = text.front; said = text.said; opened = text.opened; last = text.last; within = text.within; makes = text.makes; whole = inl (tt, end.1, end.2) }))
    (λ line. absurd (false≢true line.2)) text.whole

list_read : (read : List ℕ) (ended : Type 0) (drawn : Drawn) (list : EdgeList) → plain_edges list ≡ plain_drawn drawn → HasText edge_text read ended drawn → HasRead read ended list
list_read read ended drawn list is text = let all = all_read read ended drawn text in (all.0, (drawn, all.1, is))

asked : (read : List ℕ) → TextWasAskedFor edge_text read → WasAskedFor read
asked read a = record { earlier = a.earlier; piece = a.piece; parts = a.parts; could_go_on = a.opened; bounded = a.bounded }

module _ (left_before left_after : Option (List ℕ)) (faults_before faults_after : ℕ) (drawn : Drawn) where
  pub list_reading : (list : EdgeList) → plain_edges list ≡ plain_drawn drawn → TextReading edge_text left_before left_after faults_before faults_after (Ok tt) drawn → Reading left_before left_after faults_before faults_after (Ok list)
  list_reading list is reading = record {
    read = reading.read;
    consumed = reading.consumed;
    asked = asked reading.read reading.asked;
    count = reading.count;
    steady = λ other. reading.steady (λ never. not_err never);
    means = list_read reading.read (IsAtEnd left_after) drawn list is reading.means;
  }
    where
      not_err : ◌≡◌ {A = Result (Unit {0}) TextFault} (Ok tt) (Err ReadFault) → ⊥
      not_err is = cc

  fault_cause : (read : List ℕ) (ended rose : Type 0) (fault : TextFault) → TextCause edge_text read ended rose fault → HasCause read ended rose fault
  fault_cause read ended rose (BadLine line) cause = cause
  fault_cause read ended rose (TooLarge kind line) cause = cause
  fault_cause read ended rose ReadFault cause = cause
  fault_cause read ended rose OutOfMemory cause = cause

  pub fault_reading : (fault : TextFault) → TextReading edge_text left_before left_after faults_before faults_after (Err fault) drawn → Reading left_before left_after faults_before faults_after (Err fault)
  fault_reading fault reading = record {
    read = reading.read;
    consumed = reading.consumed;
    asked = asked reading.read reading.asked;
    count = reading.count;
    steady = λ other. reading.steady (λ is. other (ap (λ f. Err f) (same fault ReadFault is)));
    means = fault_cause reading.read (IsAtEnd left_after) (Rose faults_before faults_after) fault reading.means;
  }
    where
      same : (fault other : TextFault) → ◌≡◌ {A = Result (Unit {0}) TextFault} (Err fault) (Err other) → fault ≡ other
      same fault other is = cc

-- ---- an input means one thing

pub means_one : (input : List ℕ) → MeansOne input
means_one input =
    let one = text_means_one edge_text input in
    record {
      list = λ list other is are. is.2 ∙ (ap plain_drawn (one.text is.0 are.0 is.1 are.1) ∙ sym are.2);
      refusal = one.refusal;
      either = λ list fault is refused. one.either is.0 fault is.1 refused;
    }

-- what was read of an input is refused, so the input is
pub refusal_of_input : (input read rest : List ℕ) (fault : TextFault) → input ≡ read ++ rest → IsRefused read (rest ≡ []) fault → IsRefused input (Unit {0}) fault
refusal_of_input = refusal_input edge_text
