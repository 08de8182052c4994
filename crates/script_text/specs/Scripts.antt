-- Scripts as plain data, and when they are valid.
use Rattle.std.specs.Prelude.{◌≡◌, ℕ, ◌+◌, ◌-◌, ◌<◌, ◌≤◌, ◌^◌, List, [], ◌∷◌, ◌++◌, length, map, sum_by, All}
use Rattle.std.specs.List.{flat_map}
use Rattle.script_text.specs.declared.scripts.ObjectLine.{ObjectLine}
use Rattle.script_text.specs.declared.scripts.Call.{Call}
use Rattle.script_text.specs.declared.scripts.Round.{Round}
use Rattle.script_text.specs.declared.scripts.Script.{Script}
use Rattle.script_text.specs.declared.lines.Line.TheVariants.{Pgas, Object, Callers, Caller, Round as ARound, Call as ACall, End}
use Rattle.script_text.specs.Rows.{written_line}
use Rattle.script_text.specs.Lines.{IsObject, IsCallers, IsCallOf}

-- a script; a round is a list of calls for each caller
pub record PlainScript : Type 0 where
  pub object : ObjectLine
  pub callers : ℕ
  pub rounds : List (List (List Call))

abbrev pub plain_round : Round → List (List Call)
plain_round round = map (λ calls. calls.items) round.calls.items

abbrev pub plain_script : Script → PlainScript
plain_script script = record { object = script.object; callers = script.callers; rounds = map plain_round script.rounds.items }

-- ---- the written form

-- nothing for a caller that makes no call
abbrev pub written_calls : ℕ → List Call → List ℕ
written_calls caller [] = []
written_calls caller (call ∷ calls) = written_line (Caller caller) ++ flat_map (λ call. written_line (ACall call)) (call ∷ calls)

-- the calls of the callers from this one on
abbrev pub written_callers : ℕ → List (List Call) → List ℕ
written_callers caller [] = []
written_callers caller (calls ∷ rest) = written_calls caller calls ++ written_callers (caller + 1) rest

-- a `round` line stands between two rounds
abbrev pub written_rounds : List (List (List Call)) → List ℕ
written_rounds [] = []
written_rounds (round ∷ rounds) = written_callers 0 round ++ flat_map (λ round. written_line ARound ++ written_callers 0 round) rounds

-- the lines before the rounds
abbrev pub written_head : ObjectLine → ℕ → List ℕ
written_head object callers = written_line Pgas ++ (written_line (Object object) ++ written_line (Callers callers))

abbrev pub written : PlainScript → List ℕ
written script = written_head script.object script.callers ++ (written_rounds script.rounds ++ written_line End)

-- ---- validity

-- a list for each caller, with calls of the object alone
pub record IsRoundOf (object : ObjectLine) (callers : ℕ) (round : List (List Call)) : Type 0 where
  pub each : length round ≡ callers
  pub calls : All (All (IsCallOf object callers)) round

-- how many calls and `round` lines there are
abbrev pub counted_lines : List (List (List Call)) → ℕ
counted_lines rounds = sum_by (sum_by length) rounds + (length rounds - 1)

-- The numbers are in range, the calls are of the object, and the text keeps its limits. The LF at the end of
-- the last line doesn't count among the bytes.
pub record IsValid (script : PlainScript) : Type 0 where
  pub object : IsObject script.object
  pub callers : IsCallers script.object script.callers
  pub some : 0 < length script.rounds
  pub rounds : All (IsRoundOf script.object script.callers) script.rounds
  pub few : counted_lines script.rounds ≤ 2 ^ 20
  pub short : length (written script) ≤ 2 ^ 30 + 1
