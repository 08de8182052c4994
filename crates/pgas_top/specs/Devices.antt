use Rattle.std.specs.Prelude.{◌≡◌, ℕ, List, Option}
use Rattle.shared_io.specs.Counts.{Rose}

-- what a source tells before and after a call: the bytes that are left, and how often it has failed
pub record SourceChange : Type 0 where
  pub left_before : Option (List ℕ)
  pub left_after : Option (List ℕ)
  pub faults_before : ℕ
  pub faults_after : ℕ

-- what a sink tells before and after a call: the bytes that it took, how often it has failed, and how often it has wanted memory
pub record SinkChange : Type 0 where
  pub taken_before : Option (List ℕ)
  pub taken_after : Option (List ℕ)
  pub faults_before : ℕ
  pub faults_after : ℕ
  pub refusals_before : ℕ
  pub refusals_after : ℕ

-- the change of a source in a call, by what it tells
abbrev pub source_change : {X : Type 0} → (X → Option (List ℕ)) → (X → ℕ) → X → X → SourceChange
source_change left faults before after = record {
  left_before = left before;
  left_after = left after;
  faults_before = faults before;
  faults_after = faults after;
}

-- the change of a sink in a call, by what it tells
abbrev pub sink_change : {X : Type 0} → (X → Option (List ℕ)) → (X → ℕ) → (X → ℕ) → X → X → SinkChange
sink_change taken faults refusals before after = record {
  taken_before = taken before;
  taken_after = taken after;
  faults_before = faults before;
  faults_after = faults after;
  refusals_before = refusals before;
  refusals_after = refusals after;
}

-- the source failed in the call
abbrev pub SourceFailed : SourceChange → Type 0
SourceFailed source = Rose source.faults_before source.faults_after

-- the sink failed in the call
abbrev pub SinkFailed : SinkChange → Type 0
SinkFailed sink = Rose sink.faults_before sink.faults_after

-- the sink wanted memory in the call
abbrev pub SinkRefused : SinkChange → Type 0
SinkRefused sink = Rose sink.refusals_before sink.refusals_after

-- nothing was read
pub record IsUnread (source : SourceChange) : Type 0 where
  pub left : source.left_after ≡ source.left_before
  pub faults : source.faults_after ≡ source.faults_before

-- the sink neither failed nor wanted memory in the call
pub record WasSteady (sink : SinkChange) : Type 0 where
  pub faults : sink.faults_after ≡ sink.faults_before
  pub refusals : sink.refusals_after ≡ sink.refusals_before

-- nothing was written
pub record IsUnwritten (sink : SinkChange) : Type 0 where
  pub taken : sink.taken_after ≡ sink.taken_before
  pub faults : sink.faults_after ≡ sink.faults_before
  pub refusals : sink.refusals_after ≡ sink.refusals_before
