-- What a command that ran, or words that name none, make of the outcome.
use Rattle.std.proofs.Common.{◌≡◌, ◌<◌, ◌^◌, ℕ, List, [], ◌∷◌, sym, subst, inl, inr}
use Rattle.std.specs.Prelude.{All}
use Rattle.std.proofs.lemmas.List.Elements.{All-nil, All-cons}
use Rattle.pgas_top.specs.Commands.{AreSources, Names, NeedsOneThread, Request, Plain, Run, Check, Make}
use Rattle.pgas_top.specs.Devices.{IsUnread, IsUnwritten, SourceChange, SinkChange}
use Rattle.pgas_top.specs.Outcome.{Answers, Outcome, Ran}
use Rattle.pgas_top.specs.Statuses.{IsTold, line_of}
use Rattle.pgas_top.specs.declared.statuses.Status.{Status}
use Rattle.pgas_top.specs.declared.statuses.Status.TheVariants.{Done, BadWords, BadInput, ReadFault, WriteFault, OutOfMemory, TooLarge}

answers_ran : (offered : Request → Type 0) (words : List (List ℕ)) (request : Request) (source : SourceChange) (sink : SinkChange) (status : Status) → offered request → Names words request → Ran request source sink status → Answers offered words source sink status
answers_ran offered words request source sink Done is named ran = (request, is, named, ran)
answers_ran offered words request source sink BadWords is named ran = absurd ran.ends
answers_ran offered words request source sink (BadInput line) is named ran = (request, is, named, ran)
answers_ran offered words request source sink ReadFault is named ran = (request, is, named, ran)
answers_ran offered words request source sink WriteFault is named ran = (request, is, named, ran)
answers_ran offered words request source sink OutOfMemory is named ran = inr (request, is, named, ran)
answers_ran offered words request source sink (TooLarge kind line) is named ran = (request, is, named, ran)

-- a command ran, and its status was told
pub outcome_ran : (offered : Request → Type 0) (words : List (List ℕ)) (request : Request) (source : SourceChange) (sink faults : SinkChange) (status answer : Status) → offered request → Names words request → Ran request source sink status → IsTold faults (line_of status) → answer ≡ status → Outcome offered words source sink faults answer
outcome_ran offered words request source sink faults status answer is named ran told same =
    subst (Outcome offered words source sink faults) (sym same) (record { answers = answers_ran offered words request source sink status is named ran; told = told })

answers_all : (words : List (List ℕ)) (source : SourceChange) (sink : SinkChange) (status : Status) → (Names words Run → ⊥) → Answers NeedsOneThread words source sink status → Answers (λ request. Unit {0}) words source sink status
answers_all words source sink Done other answers = (answers.0, tt, answers.2, answers.3)
answers_all words source sink BadWords other answers = record {
  unknown = none;
  unread = answers.unread;
  unwritten = answers.unwritten;
}
  where
    none : (request : Request) → Unit {0} → Names words request → ⊥
    none (Plain sources) is named = answers.unknown (Plain sources) tt named
    none Run is named = other named
    none Check is named = answers.unknown Check tt named
    none (Make seed vertices edges) is named = answers.unknown (Make seed vertices edges) tt named
answers_all words source sink (BadInput line) other answers = (answers.0, tt, answers.2, answers.3)
answers_all words source sink ReadFault other answers = (answers.0, tt, answers.2, answers.3)
answers_all words source sink WriteFault other answers = (answers.0, tt, answers.2, answers.3)
answers_all words source sink OutOfMemory other (inl none) = inl none
answers_all words source sink OutOfMemory other (inr ran) = inr (ran.0, tt, ran.2, ran.3)
answers_all words source sink (TooLarge kind line) other answers = (answers.0, tt, answers.2, answers.3)

-- memory was wanted before anything was read, and that was told
pub outcome_unread : (offered : Request → Type 0) (words : List (List ℕ)) (source : SourceChange) (sink faults : SinkChange) (answer : Status) → IsUnread source → IsUnwritten sink → IsTold faults (line_of OutOfMemory) → answer ≡ OutOfMemory → Outcome offered words source sink faults answer
outcome_unread offered words source sink faults answer unread unwritten told same =
    subst (Outcome offered words source sink faults) (sym same) (record { answers = inl (unread, unwritten); told = told })

-- words that aren't those of `run` have the outcome of the commands of one thread
pub outcome_all : (words : List (List ℕ)) (source : SourceChange) (sink faults : SinkChange) (status : Status) → (Names words Run → ⊥) → Outcome NeedsOneThread words source sink faults status → Outcome (λ request. Unit {0}) words source sink faults status
outcome_all words source sink faults status other outcome = record { answers = answers_all words source sink status other outcome.answers; told = outcome.told }

-- sources are vertex ids
pub are_ids : (words : List (List ℕ)) (sources : List ℕ) → AreSources words sources → All (λ source. source < 2 ^ 24) sources
are_ids [] [] h = All-nil (λ (source : ℕ). source < 2 ^ 24)
are_ids [] (source ∷ sources) h = absurd h
are_ids (word ∷ words) [] h = absurd h
are_ids (word ∷ words) (source ∷ sources) h = All-cons (λ (source : ℕ). source < 2 ^ 24) source sources h.1 (are_ids words sources h.2)
