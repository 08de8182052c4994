-- What a status says of the whole input, where the source tells it.
use Rattle.std.proofs.Common.{◌≡◌, ◌⊎◌, ℕ, List, [], ◌++◌, Option, None, Some, refl, sym, ap, inl, inr, ◌∙◌, subst, append-nil}
use Rattle.std.specs.Io.KnownBytes.{Consumes, IsAtEnd}
use Rattle.edge_text.proofs.Readings.{refusal_of_input as edges_of_input}
use Rattle.edge_text.specs.EdgeText.{IsEdgeText}
use Rattle.line_text.specs.declared.faults.TextFault.TheVariants.{BadLine as BadText, TooLarge as TooLargeText}
use Rattle.run_text.proofs.Readings.{run_of_input, refusal_of_input as run_refusal_of_input}
use Rattle.script_text.proofs.Readings.{script_of_input, refusal_of_input}
use Rattle.shared_io.specs.declared.limits.TooKind.{TooKind}
use Rattle.pgas_top.specs.Devices.{SourceChange, SinkChange, SourceFailed}
use Rattle.pgas_top.specs.Outcome.{Accepts, Completes, Refuses, Exceeds, Rejects, Ends}
use Rattle.pgas_top.specs.Commands.{Request, Plain, Run, Check, Make}
use Rattle.pgas_top.specs.declared.statuses.Status.{Status}
use Rattle.pgas_top.specs.declared.statuses.Status.TheVariants.{Done, BadWords, BadInput, ReadFault, WriteFault, OutOfMemory, TooLarge}

-- what was read completes the command, so the input is accepted
accepts_whole : (command : Request) (input read rest text : List ℕ) → input ≡ read ++ rest → Completes command read (rest ≡ []) text → Accepts command (Some input)
accepts_whole (Plain sources) input read rest text parts is =
    let whole : input ≡ read = parts ∙ (ap (λ (r : List ℕ). read ++ r) is.0 ∙ append-nil read) in
    (input, refl, (is.1.0, subst (λ (l : List ℕ). IsEdgeText l is.1.0) (sym whole) is.1.1))
accepts_whole Run input read rest text parts is = (input, refl, (is.0, script_of_input input read rest is.0 parts is.1))
accepts_whole Check input read rest text parts is = (input, refl, (is.0, run_of_input input read rest is.0 parts is.1))
accepts_whole (Make seed vertices edges) input read rest text parts is = tt

-- what was read is refused, so the input is
refuses_whole : (command : Request) (input read rest : List ℕ) (line : ℕ) → input ≡ read ++ rest → Refuses command read (rest ≡ []) line → Refuses command input (Unit {0}) line
refuses_whole (Plain sources) input read rest line parts is = edges_of_input input read rest (BadText line) parts is
refuses_whole Check input read rest line parts is = run_refusal_of_input input read rest (BadText line) parts is
refuses_whole Run input read rest line parts is = refusal_of_input input read rest (BadText line) parts is
refuses_whole (Make seed vertices edges) input read rest line parts is = is

exceeds_whole : (command : Request) (input read rest : List ℕ) (kind : TooKind) (line : ℕ) → input ≡ read ++ rest → Exceeds command read (rest ≡ []) kind line → Exceeds command input (Unit {0}) kind line
exceeds_whole (Plain sources) input read rest kind line parts is = edges_of_input input read rest (TooLargeText kind line) parts is
exceeds_whole Check input read rest kind line parts is = run_refusal_of_input input read rest (TooLargeText kind line) parts is
exceeds_whole Run input read rest kind line parts is = refusal_of_input input read rest (TooLargeText kind line) parts is
exceeds_whole (Make seed vertices edges) input read rest kind line parts is = is

module _ (command : Request) (source : SourceChange) (sink : SinkChange) (read written input : List ℕ) (isnt : Accepts command (Some input) → ⊥) (steady : SourceFailed source → ⊥) where
  by_status : (rest : List ℕ) (status : Status) → input ≡ read ++ rest → source.left_after ≡ Some rest → Ends command source sink read written status → (status ≡ OutOfMemory) ⊎ Rejects command input status
  by_status rest Done parts left ends = absurd (isnt (accepts_whole command input read rest written parts (subst (λ (l : Option (List ℕ)). Completes command read (IsAtEnd l) written) left ends.0)))
  by_status rest BadWords parts left ends = absurd ends
  by_status rest (BadInput line) parts left ends = inr (refuses_whole command input read rest line parts (subst (λ (l : Option (List ℕ)). Refuses command read (IsAtEnd l) line) left ends.0))
  by_status rest (TooLarge kind line) parts left ends = inr (exceeds_whole command input read rest kind line parts (subst (λ (l : Option (List ℕ)). Exceeds command read (IsAtEnd l) kind line) left ends.0))
  by_status rest ReadFault parts left ends = absurd (steady ends.0)
  by_status rest WriteFault parts left ends =
      absurd (isnt (accepts_whole command input read rest ends.1.0 parts (subst (λ (l : Option (List ℕ)). Completes command read (IsAtEnd l) ends.1.0) left ends.1.1)))
  by_status rest OutOfMemory parts left ends = inl refl

  by_left : (after : Option (List ℕ)) (status : Status) → source.left_after ≡ after → Consumes (Some input) after read → Ends command source sink read written status → (status ≡ OutOfMemory) ⊎ Rejects command input status
  by_left None status left consumed ends = absurd consumed
  by_left (Some rest) status left consumed ends = by_status rest status consumed left ends

-- the end of a run of an input that isn't accepted
pub refused : (command : Request) (source : SourceChange) (sink : SinkChange) (read written : List ℕ) (status : Status) → Consumes source.left_before source.left_after read → Ends command source sink read written status
    → (input : List ℕ) → source.left_before ≡ Some input → (Accepts command (Some input) → ⊥) → (SourceFailed source → ⊥) → (status ≡ OutOfMemory) ⊎ Rejects command input status
refused command source sink read written status consumed ends input told isnt steady =
    by_left command source sink read written input isnt steady source.left_after status refl (subst (λ (l : Option (List ℕ)). Consumes l source.left_after read) told consumed) ends
