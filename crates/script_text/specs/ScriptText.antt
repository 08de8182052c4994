-- Which text is that of a script, and where a text is refused.
use Rattle.std.specs.Prelude.{◌≡◌, ℕ, ◌^◌, Bool, true, false, List, [], ◌∷◌, ◌++◌, length, replicate, slice_index_or, slice_set, Option, Some, None}
use Rattle.shared_io.specs.declared.limits.TooKind.TheVariants.{Calls}
use Rattle.line_text.specs.declared.faults.TextFault.{TextFault}
use Rattle.line_text.specs.Texts.{Rules, Text, text_of, HasText, IsOpen as TextIsOpen, IsRefused as TextIsRefused}
use Rattle.script_text.specs.declared.forms.Spot.{Spot}
use Rattle.script_text.specs.declared.forms.Spot.TheVariants.{Start}
use Rattle.script_text.specs.declared.scripts.Call.{Call}
use Rattle.script_text.specs.declared.lines.Line.{Line}
use Rattle.script_text.specs.declared.lines.Line.TheVariants.{Callers, Round, Call as ACall, End}
use Rattle.script_text.specs.declared.lines.Stage.{Stage}
use Rattle.script_text.specs.declared.lines.Stage.TheVariants.{AtPgas, InRound}
use Rattle.script_text.specs.Drafts.{Progress}
use Rattle.script_text.specs.Forms.{script_grammar}
use Rattle.script_text.specs.Lines.{stage_after, caller_at}
use Rattle.script_text.specs.Scripts.{PlainScript}

-- ---- what lines make

abbrev pub beginning : Progress
beginning = record { stage = AtPgas; before = []; calls = [] }

-- one more call of a caller
abbrev pub with_call : ℕ → Call → List (List Call) → List (List Call)
with_call caller call calls = slice_set calls caller (slice_index_or calls caller [] ++ call ∷ [])

abbrev pub before_after : Line → List (List (List Call)) → List (List Call) → List (List (List Call))
before_after Round before calls = before ++ calls ∷ []
before_after line before calls = before

abbrev pub calls_after : Stage → Line → List (List Call) → List (List Call)
calls_after stage (Callers callers) calls = replicate callers []
calls_after stage Round calls = replicate (length calls) []
calls_after stage (ACall call) calls = with_call (caller_at stage) call calls
calls_after stage line calls = calls

abbrev pub line_after : Progress → Line → Progress
line_after at line = record {
  stage = stage_after at.stage line;
  before = before_after line at.before at.calls;
  calls = calls_after at.stage line at.calls;
}

-- a line that says nothing makes nothing
abbrev pub after : Progress → Option Line → Progress
after at None = at
after at (Some line) = line_after at line

-- calls and `round` lines count
abbrev pub is_counted : Option Line → Bool
is_counted (Some Round) = true
is_counted (Some (ACall call)) = true
is_counted said = false

-- a text ends with its line `end`
abbrev pub is_end : Option Line → Bool
is_end (Some End) = true
is_end said = false

abbrev pub script_rules : Rules Progress Spot Line
script_rules = record {
  opening = beginning;
  start = λ at. Start at.stage;
  after = after;
  counts = is_counted;
  most = 2 ^ 20;
  kind = Calls;
  ends = is_end;
  may_be_last = is_end;
}

abbrev pub script_text : Text Progress Spot Line
script_text = text_of script_grammar script_rules

-- the script of these rounds, if its stage is in one
abbrev pub IsMadeAt : Stage → List (List (List Call)) → PlainScript → Type 0
IsMadeAt (InRound object callers caller) rounds script = script ≡ record { object = object; callers = callers; rounds = rounds }
IsMadeAt stage rounds script = ⊥

-- the script that lines have made, the last of them `end`
abbrev pub IsMade : Progress → PlainScript → Type 0
IsMade at script = IsMadeAt at.stage (at.before ++ at.calls ∷ []) script

-- ---- the text of a script

-- What was read has the script's text at its front. LF ends its line `end`, or the end of the input does.
abbrev pub HasScript : List ℕ → Type 0 → PlainScript → Type 0
HasScript read ended script = (at : Progress) × HasText script_text read ended at × IsMade at script

-- Nothing in what was read is refused, and the script goes on behind it.
abbrev pub IsOpen : List ℕ → Type 0
IsOpen read = TextIsOpen script_text read

-- What was read is refused first for this, at a byte of it or, where it ended, at its end.
abbrev pub IsRefused : List ℕ → Type 0 → TextFault → Type 0
IsRefused read ended fault = TextIsRefused script_text read ended fault

-- An input means one thing: it has one script at most, or one refusal at most, and not both.
pub record MeansOne (input : List ℕ) : Type 0 where
  pub script : (script other : PlainScript) → HasScript input (Unit {0}) script → HasScript input (Unit {0}) other → script ≡ other
  pub refusal : (fault other : TextFault) → IsRefused input (Unit {0}) fault → IsRefused input (Unit {0}) other → fault ≡ other
  pub either : (script : PlainScript) (fault : TextFault) → HasScript input (Unit {0}) script → IsRefused input (Unit {0}) fault → ⊥
