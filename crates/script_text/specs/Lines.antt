-- Where each line of a script may stand.
use Rattle.std.specs.Prelude.{◌≡◌, ℕ, ◌<◌, ◌≤◌, ◌^◌, true, All, Some, None}
use Rattle.pgas_base.specs.Shapes.{IsShape}
use Rattle.script_text.specs.declared.scripts.ObjectLine.{ObjectLine}
use Rattle.script_text.specs.declared.scripts.ObjectLine.TheVariants.{List as AList, Bag as ABag, Deque as ADeque}
use Rattle.script_text.specs.declared.scripts.Call.{Call}
use Rattle.script_text.specs.declared.scripts.Call.TheVariants.{List as OfList, Bag as OfBag, Deque as OfDeque}
use Rattle.script_text.specs.declared.lines.Line.{Line}
use Rattle.script_text.specs.declared.lines.Line.TheVariants.{Pgas, Object, Callers, Caller, Round, Call as ACall, End}
use Rattle.script_text.specs.declared.lines.Stage.{Stage}
use Rattle.script_text.specs.declared.lines.Stage.TheVariants.{AtPgas, AtObject, AtCallers, InRound}
use Rattle.script_text.specs.Rows.{listed, call_numbers, is_once}

-- ---- the ranges

abbrev pub IsObject : ObjectLine → Type 0
IsObject (AList locales objects width) = IsShape (record { locales = locales; tokens = 64; objects = objects; width = width }) × (2 ≤ objects)
IsObject (ABag locales segments room) = (1 ≤ locales) × (locales ≤ 16) × (1 ≤ segments) × (segments ≤ 64) × (1 ≤ room) × (room ≤ 2 ^ 24)
IsObject (ADeque locales capacity) = (1 ≤ locales) × (locales ≤ 16) × (1 ≤ capacity) × (capacity ≤ 2 ^ 24)

-- the most callers of an object: a bag or a deque is shared
abbrev pub most_callers : ObjectLine → ℕ
most_callers (AList locales objects width) = 1
most_callers (ABag locales segments room) = 64
most_callers (ADeque locales capacity) = 64

abbrev pub IsCallers : ObjectLine → ℕ → Type 0
IsCallers object callers = (1 ≤ callers) × (callers ≤ most_callers object)

-- the call is one of this object
abbrev pub IsOfObject : ObjectLine → Call → Type 0
IsOfObject (AList locales objects width) (OfList call) = Unit {0}
IsOfObject (ABag locales segments room) (OfBag call once) = Unit {0}
IsOfObject (ADeque locales capacity) (OfDeque call once) = Unit {0}
IsOfObject object call = ⊥

-- the call is one of this object, and is tried once only where there is one caller
pub record IsCallOf (object : ObjectLine) (callers : ℕ) (call : Call) : Type 0 where
  pub of_object : IsOfObject object call
  pub once : is_once call ≡ true → callers ≡ 1
  pub numbers : All (λ number. number < 2 ^ 64) (listed (call_numbers call))

-- ---- the order of the lines

-- the line may come next
abbrev pub MayCome : Stage → Line → Type 0
MayCome AtPgas Pgas = Unit {0}
MayCome AtObject (Object object) = IsObject object
MayCome (AtCallers object) (Callers callers) = IsCallers object callers
MayCome (InRound object callers caller) (Caller next) = next < callers
MayCome (InRound object callers caller) Round = Unit {0}
MayCome (InRound object callers caller) End = Unit {0}
-- a call has its caller's line before it
MayCome (InRound object callers (Some caller)) (ACall call) = IsCallOf object callers call
MayCome stage line = ⊥

-- what may come after it
abbrev pub stage_after : Stage → Line → Stage
stage_after AtPgas line = AtObject
stage_after AtObject (Object object) = AtCallers object
stage_after (AtCallers object) (Callers callers) = InRound object callers None
stage_after (InRound object callers caller) (Caller next) = InRound object callers (Some next)
stage_after (InRound object callers caller) Round = InRound object callers None
stage_after stage line = stage

-- whose calls come
abbrev pub caller_at : Stage → ℕ
caller_at (InRound object callers (Some caller)) = caller
caller_at stage = 0

abbrev pub IsInRound : Stage → Type 0
IsInRound (InRound object callers caller) = Unit {0}
IsInRound stage = ⊥
