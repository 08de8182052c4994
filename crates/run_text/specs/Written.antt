-- The text that is written of a run.
use Rattle.std.specs.Prelude.{◌<◌, ◌≤◌, ◌+◌, ◌^◌, ℕ, List, [], ◌∷◌, ◌++◌, All, codes, length}
use Rattle.std.specs.Fmt.{decimal}
use Rattle.std.specs.List.{flat_map}
use Rattle.pgas_base.specs.declared.shapes.Shape.{Shape}
use Rattle.pgas_base.specs.declared.starts.Start.{Start}
use Rattle.epoch_laws.specs.declared.steps.Kind.{Kind}
use Rattle.epoch_laws.specs.declared.steps.Kind.TheVariants.{Register, Unregister, PinLook, PinSet, Unpin, TakeLook, TakeTry, Show, Hold, Touch, Return, DeferLook, DeferSwap, DeferLink, ElectLocal, ElectGlobal, EpochLook, ScanToken, Advance, Spread, Collect, Walk, Release, Leave, StackLook, StackNext, StackPop, StackPut, HandLink, HomeSwap, HomeLink, HomeTake, HomeWalk}
use Rattle.epoch_laws.specs.declared.steps.Step.{Step}
use Rattle.run_text.specs.declared.runs.StepLine.{StepLine}
use Rattle.run_text.specs.Listing.{pointer_word}
use Rattle.run_text.specs.Runs.{PlainRun, IsOpening, IsStep}
use Rattle.run_text.specs.RunText.{HasRun}

-- a kind of step with its arguments, each behind a space
abbrev pub kind_text : Kind → List ℕ
kind_text (Register l n) = codes " register " ++ decimal l ++ 32 ∷ decimal n
kind_text Unregister = codes " unregister"
kind_text PinLook = codes " pin_look"
kind_text PinSet = codes " pin_set"
kind_text Unpin = codes " unpin"
kind_text (TakeLook l n) = codes " take_look " ++ decimal l ++ 32 ∷ decimal n
kind_text (TakeTry l n) = codes " take_try " ++ decimal l ++ 32 ∷ decimal n
kind_text (Show p) = codes " show " ++ pointer_word p
kind_text (Hold p) = codes " hold " ++ pointer_word p
kind_text (Touch p) = codes " touch " ++ pointer_word p
kind_text (Return p) = codes " return " ++ pointer_word p
kind_text (DeferLook p) = codes " defer_look " ++ pointer_word p
kind_text DeferSwap = codes " defer_swap"
kind_text DeferLink = codes " defer_link"
kind_text ElectLocal = codes " elect_local"
kind_text ElectGlobal = codes " elect_global"
kind_text EpochLook = codes " epoch_look"
kind_text ScanToken = codes " scan_token"
kind_text Advance = codes " advance"
kind_text Spread = codes " spread"
kind_text Collect = codes " collect"
kind_text Walk = codes " walk"
kind_text (Release p) = codes " release " ++ pointer_word p
kind_text Leave = codes " leave"
kind_text (StackLook l) = codes " stack_look " ++ decimal l
kind_text StackNext = codes " stack_next"
kind_text StackPop = codes " stack_pop"
kind_text (StackPut top tail) = codes " stack_put " ++ pointer_word top ++ 32 ∷ pointer_word tail
kind_text (HandLink p n) = codes " hand_link " ++ pointer_word p ++ 32 ∷ decimal n
kind_text (HomeSwap top tail) = codes " home_swap " ++ pointer_word top ++ 32 ∷ pointer_word tail
kind_text HomeLink = codes " home_link"
kind_text (HomeTake l) = codes " home_take " ++ decimal l
kind_text HomeWalk = codes " home_walk"

abbrev pub step_words : Step → List ℕ
step_words step = decimal step.seat ++ kind_text step.kind

abbrev pub step_line : Step → List ℕ
step_line step = step_words step ++ 10 ∷ []

abbrev pub steps_text : List StepLine → List ℕ
steps_text lines = flat_map (λ (l : StepLine). step_line l.step) lines

abbrev pub version_words : List ℕ
version_words = codes "pgas-run 1"

abbrev pub shape_words : Shape → List ℕ
shape_words shape = codes "shape " ++ (decimal shape.locales ++ 32 ∷ (decimal shape.tokens ++ 32 ∷ (decimal shape.objects ++ 32 ∷ decimal shape.width)))

abbrev pub start_words : Start → List ℕ
start_words start = codes "start " ++ (decimal start.epoch ++ 32 ∷ (decimal start.count ++ 32 ∷ decimal start.stack))

abbrev pub seats_words : ℕ → List ℕ
seats_words seats = codes "seats " ++ decimal seats

-- the lines before the steps
abbrev pub head_text : PlainRun → List ℕ
head_text run = (version_words ++ 10 ∷ []) ++ (shape_words run.shape ++ 10 ∷ []) ++ (start_words run.start ++ 10 ∷ []) ++ (seats_words run.seats ++ 10 ∷ [])

abbrev pub run_lines : PlainRun → List ℕ
run_lines run = head_text run ++ steps_text run.steps ++ codes "end" ++ 10 ∷ []

-- the same steps, each in the line behind that of the one before, from one on
abbrev pub numbered : ℕ → List StepLine → List StepLine
numbered line [] = []
numbered line (l ∷ lines) = record { line = line; step = l.step } ∷ numbered (line + 1) lines

-- what is written of the run is its text, with the k-th step in line k + 4
abbrev pub ReadBack : PlainRun → Type 0
ReadBack run =
    IsOpening run.shape run.start run.seats → run.start.count < 2 ^ 32 → All (λ (l : StepLine). IsStep l.step) run.steps → length run.steps ≤ 2 ^ 20
    → HasRun (run_lines run) (Unit {0}) (record run { steps = numbered 5 run.steps })
