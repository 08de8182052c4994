use Rattle.std.proofs.Common.{◌≡◌, ℕ, ◌≤◌, List, [], take, drop, Option, None, Some, Result, Ok, Err, Vec, refl, sym, inl, inr, ◌⊎◌, subst, append-nil, arith}
use Rattle.std.proofs.lemmas.List.{take-append-drop}
use Rattle.std.specs.Io.KnownBytes.{Appends, IsAtEnd}
use Rattle.std.specs.declared.alloc.Global.{Global}
use Rattle.shared_io.specs.declared.sinks.SinkFault.{SinkFault}
use Rattle.shared_io.specs.declared.sinks.SinkFault.TheVariants as lost
use Rattle.pgas_top.specs.Devices.{SourceChange, SinkChange, SinkFailed, SinkRefused, IsUnwritten, WasSteady}
use Rattle.pgas_top.specs.Outcome.{Completes, Ends, IsFrontOf, Ran}
use Rattle.pgas_top.specs.MadeText.{IsMadeText}
use Rattle.pgas_top.specs.Statuses.{sink_status}
use Rattle.pgas_top.specs.Commands.{Request}
use Rattle.pgas_top.proofs.WholeInputs.{refused}
use Rattle.pgas_top.specs.declared.statuses.Status.{Status}
use Rattle.pgas_top.specs.declared.statuses.Status.TheVariants.{Done, BadWords, BadInput, ReadFault, WriteFault, OutOfMemory, TooLarge}

-- what was not written to has taken nothing
pub Appends-nothing : (before after : Option (List ℕ)) → after ≡ before → Appends before after []
Appends-nothing None after same = tt
Appends-nothing (Some bytes) after same =
    let P : Option (List ℕ) → Type 0 = λ o. Appends (Some bytes) o [] in
    subst P (sym same) (sym (append-nil bytes))

-- why a status stands where no text was made
ends_unwritten : (command : Request) (source : SourceChange) (sink : SinkChange) (status : Status) → IsUnwritten sink → (made : IsMadeText command source (Err status)) → Ends command source sink made.read [] status
ends_unwritten command source sink Done unwritten made = absurd made.says
ends_unwritten command source sink BadWords unwritten made = absurd made.says
ends_unwritten command source sink (BadInput line) unwritten made = (made.says, unwritten)
ends_unwritten command source sink (TooLarge kind line) unwritten made = (made.says, unwritten)
ends_unwritten command source sink ReadFault unwritten made = (made.says.0, made.says.1, unwritten)
ends_unwritten command source sink WriteFault unwritten made = absurd made.says
ends_unwritten command source sink OutOfMemory unwritten made = inl unwritten

failed_status : (status : Status) → ◌≡◌ {A = Result (Vec ℕ Global) Status} (Err status) (Err ReadFault) → status ≡ ReadFault
failed_status status e = cc

-- no text was made, so nothing was written
pub ran_unwritten : (command : Request) (source : SourceChange) (sink : SinkChange) (status : Status) → IsUnwritten sink → IsMadeText command source (Err status) → Ran command source sink status
ran_unwritten command source sink status unwritten made =
    let ends = ends_unwritten command source sink status unwritten made in record {
      read = made.read;
      written = [];
      consumed = made.consumed;
      asked = made.asked;
      taken = Appends-nothing sink.taken_before sink.taken_after unwritten.taken;
      ends = ends;
      complete = λ accepted steady writes. inr (made.complete accepted steady);
      refused = refused command source sink made.read [] status made.consumed ends;
      steady = λ other. made.steady (λ e. other (failed_status status e));
      source_count = made.count;
      sink_count = omega (arith, unwritten.faults);
      refusal_count = omega (arith, unwritten.refusals);
    }

-- what stands where a text was made and so much of it written
ran_made : (command : Request) (source : SourceChange) (sink : SinkChange) (text : Vec ℕ Global) (written : List ℕ) (status : Status) → (made : IsMadeText command source (Ok text)) → Appends sink.taken_before sink.taken_after written
    → sink.faults_before ≤ sink.faults_after → sink.refusals_before ≤ sink.refusals_after → Ends command source sink made.read written status → ((SinkFailed sink → ⊥) → (status ≡ Done) ⊎ (status ≡ OutOfMemory)) → Ran command source sink status
ran_made command source sink text written status made taken faults refusals ends complete = record {
  read = made.read;
  written = written;
  consumed = made.consumed;
  asked = made.asked;
  taken = taken;
  ends = ends;
  complete = λ accepted steady writes. complete writes;
  refused = refused command source sink made.read written status made.consumed ends;
  steady = λ other. made.steady (λ e. cc);
  source_count = made.count;
  sink_count = faults;
  refusal_count = refusals;
}

-- the whole text was written
pub ran_done : (command : Request) (source : SourceChange) (sink : SinkChange) (text : Vec ℕ Global) → IsMadeText command source (Ok text)
    → Appends sink.taken_before sink.taken_after text.items → WasSteady sink → Ran command source sink Done
ran_done command source sink text made taken steady =
    ran_made command source sink text text.items Done made taken (omega (arith, steady.faults)) (omega (arith, steady.refusals)) (made.says, steady) (λ writes. inl refl)

-- the front of the text was written, and then the sink refused
pub ran_cut : (command : Request) (source : SourceChange) (sink : SinkChange) (text : Vec ℕ Global) (count : ℕ) (fault : SinkFault) (status : Status) → IsMadeText command source (Ok text)
    → Appends sink.taken_before sink.taken_after (take count text.items) → sink.faults_before ≤ sink.faults_after → sink.refusals_before ≤ sink.refusals_after
    → (fault ≡ lost.Failed → SinkFailed sink) → (fault ≡ lost.Memory → SinkRefused sink) → status ≡ sink_status fault → Ran command source sink status
ran_cut command source sink text count lost.Failed status made taken faults refusals failed wanted is =
    let front : (whole : List ℕ) × Completes command made.read (IsAtEnd source.left_after) whole × IsFrontOf (take count text.items) whole =
    (text.items, made.says, (drop count text.items, sym (take-append-drop count text.items))) in
    subst (Ran command source sink) (sym is) (ran_made command source sink text (take count text.items) WriteFault made taken faults refusals (failed refl, front) (λ writes. absurd (writes (failed refl))))
ran_cut command source sink text count lost.Memory status made taken faults refusals failed wanted is =
    let front : (whole : List ℕ) × Completes command made.read (IsAtEnd source.left_after) whole × IsFrontOf (take count text.items) whole =
    (text.items, made.says, (drop count text.items, sym (take-append-drop count text.items))) in
    subst (Ran command source sink) (sym is) (ran_made command source sink text (take count text.items) OutOfMemory made taken faults refusals (inr (wanted refl, front)) (λ writes. inr refl))
