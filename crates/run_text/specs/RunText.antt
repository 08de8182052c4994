-- Which text is that of a run, and where a text is refused.
use Rattle.std.specs.Prelude.{◌≡◌, ◌+◌, ◌^◌, ℕ, Bool, true, false, List, [], ◌∷◌, ◌++◌, Option, Some}
use Rattle.shared_io.specs.declared.limits.TooKind.TheVariants.{Steps as TooManySteps}
use Rattle.line_text.specs.declared.faults.TextFault.{TextFault}
use Rattle.line_text.specs.Texts.{Rules, Text, text_of, HasText, IsOpen, IsRefused as TextIsRefused}
use Rattle.run_text.specs.declared.drafts.Stage.{Stage}
use Rattle.run_text.specs.declared.drafts.Stage.TheVariants as stage
use Rattle.run_text.specs.declared.forms.RunLine.{RunLine}
use Rattle.run_text.specs.declared.forms.RunLine.TheVariants as line
use Rattle.run_text.specs.declared.forms.Spot.{Spot}
use Rattle.run_text.specs.declared.forms.Spot.TheVariants.{First, ShapeWord, StartWord, SeatsWord, Seat}
use Rattle.run_text.specs.Drawn.{Drawn}
use Rattle.run_text.specs.Forms.{run_grammar}
use Rattle.run_text.specs.Runs.{PlainRun}

abbrev pub opening : Drawn
opening = record {
  lines = 0;
  stage = stage.Version;
  shape = record { locales = 1; tokens = 1; objects = 1; width = 2 };
  start = record { epoch = 1; count = 0; stack = 0 };
  seats = 1;
  steps = [];
}

-- the lines of a text in their order: its version, the shape, the start, the seats, then steps
abbrev pub start_of : Stage → Spot
start_of stage.Version = First
start_of stage.Shape = ShapeWord
start_of stage.Start = StartWord
start_of stage.Seats = SeatsWord
start_of stage.Steps = Seat

abbrev pub drawn_after : Drawn → Option RunLine → Drawn
drawn_after d (Some line.Version) = record d { stage = stage.Shape }
drawn_after d (Some (line.Shape shape)) = record d { shape = shape; stage = stage.Start }
drawn_after d (Some (line.Start start)) = record d { start = start; stage = stage.Seats }
drawn_after d (Some (line.Seats seats)) = record d { seats = seats; stage = stage.Steps }
drawn_after d (Some (line.Step step)) = record d { steps = d.steps ++ record { line = d.lines + 1; step = step } ∷ [] }
drawn_after d said = d

abbrev pub is_step : Option RunLine → Bool
is_step (Some (line.Step step)) = true
is_step said = false

abbrev pub ends_run : Option RunLine → Bool
ends_run (Some line.End) = true
ends_run said = false

abbrev pub run_rules : Rules Drawn Spot RunLine
run_rules = record {
  opening = opening;
  start = λ d. start_of d.stage;
  after = λ d said. record (drawn_after d said) { lines = d.lines + 1 };
  counts = is_step;
  most = 2 ^ 20;
  kind = TooManySteps;
  ends = ends_run;
  may_be_last = λ said. false;
}

abbrev pub run_text : Text Drawn Spot RunLine
run_text = text_of run_grammar run_rules

abbrev pub plain_drawn : Drawn → PlainRun
plain_drawn d = record { shape = d.shape; start = d.start; seats = d.seats; steps = d.steps }

-- What was read has at its front the text of the run, up to the line `end`.
abbrev pub HasRun : List ℕ → Type 0 → PlainRun → Type 0
HasRun read ended run = (d : Drawn) × HasText run_text read ended d × (run ≡ plain_drawn d)

-- Nothing in what was read is refused, and no line `end` stands in it.
abbrev pub CanGoOn : List ℕ → Type 0
CanGoOn read = IsOpen run_text read

-- What was read is refused first for this, at a byte of it or, where it ended, at its end.
abbrev pub IsRefused : List ℕ → Type 0 → TextFault → Type 0
IsRefused read ended fault = TextIsRefused run_text read ended fault
