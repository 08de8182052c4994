-- What the opening of a manager gives.
use Rattle.std.specs.Prelude.{◌≡◌, ◌≤◌, ◌<◌, ℕ, false, List, [], length, All}
use Rattle.pgas_base.specs.declared.shapes.Shape.{Shape}
use Rattle.pgas_base.specs.declared.shapes.ShapeFault.{ShapeFault}
use Rattle.pgas_base.specs.declared.shapes.ShapeFault.TheVariants.{Locales, Tokens, Objects, Width, Words}
use Rattle.pgas_base.specs.Shapes.{LocalesInRange, TokensInRange, ObjectsInRange, WidthInRange, WordsInRange}
use Rattle.pgas_base.specs.declared.starts.Start.{Start}
use Rattle.epoch_laws.specs.States.{opening_seat}
use Rattle.epoch_laws.specs.Words.{WordName}
use Rattle.pass_table.specs.declared.passes.Pass.{Pass}
use Rattle.pass_table.specs.declared.tables.PassTable.{PassTable}
use Rattle.pass_table.specs.Openings.{AreInOrder}
use Rattle.pass_table.specs.Passes.{pass_view, pass_opening as table_pass_opening, opening_of as table_opening_of, plan_of as table_plan_of}
use Rattle.pass_table.specs.Views.{blank}
use Rattle.epoch_table.specs.declared.events.Happens.{Happens}
use Rattle.epoch_table.specs.declared.parts.Plan.{Plan}
use Rattle.epoch_table.specs.declared.parts.Part.{Part}
use Rattle.epoch_table.specs.Facts.{no_facts}
use Rattle.epoch_table.specs.Clients.{ClientTerms}
use Rattle.epoch_manager.specs.declared.phases.Phase.TheVariants.{Idle}
use Rattle.epoch_manager.specs.declared.managers.ClientPass.{ClientPass}
use Rattle.epoch_manager.specs.declared.managers.Manager.{Manager}
use Rattle.epoch_manager.specs.Managers.{plan_of, opening_of, pass_opening, phase_of, caller_of, page, looked, owned_by, held_by, knows}

-- a number in a range, its ends included
abbrev pub IsIn : ℕ → ℕ → ℕ → Type 0
IsIn least most n = (least ≤ n) × (n ≤ most)

-- this is the first limit that the shape breaks
abbrev pub Breaks : Shape → ShapeFault → Type 0
Breaks shape Locales = ¬ LocalesInRange shape
Breaks shape Tokens = LocalesInRange shape × (¬ TokensInRange shape)
Breaks shape Objects = LocalesInRange shape × TokensInRange shape × (¬ ObjectsInRange shape)
Breaks shape Width = LocalesInRange shape × TokensInRange shape × ObjectsInRange shape × (¬ WidthInRange shape)
Breaks shape Words = LocalesInRange shape × TokensInRange shape × ObjectsInRange shape × WidthInRange shape × (¬ WordsInRange shape)

module _ {Self View' Call Reply State' C O Slot' : Type 0} (K : ClientTerms Self View' Call Reply State')
    (d : PassTable C O (Unit {0}) (Plan Self) (Part View') WordName (Happens Call Reply) (Unit {0}) Slot') where
  -- a pass of the table's opening that has not stepped
  pub record IsNew (p : Pass (Unit {0}) (Happens Call Reply) (Unit {0}) (Plan Self) (Part View') WordName) : Type 0 where
    pub opening : table_pass_opening p ≡ table_opening_of d
    pub below : (pass_view p).number < (table_plan_of d).callers
    pub part : (pass_view p).part ≡ record { seat = opening_seat; facts = no_facts; won = false; client = K.first }

abbrev pub IsIdlePass : {C View' Call Reply : Type 0} → ClientPass C View' Call Reply → Type 0
IsIdlePass p = phase_of p ≡ Idle

module _ {C O View' Call Reply State' : Type 0} (K : ClientTerms C View' Call Reply State') (m : Manager C O View' Call Reply State') where
  -- a pass from the opening of this manager, which has made no call and seen nothing
  pub record IsNewPass (caller : ℕ) (p : ClientPass C View' Call Reply) : Type 0 where
    pub opening : pass_opening p ≡ opening_of m
    pub numbered : caller_of p ≡ caller
    pub empty : page p ≡ blank
    pub unread : looked p ≡ []
    pub idle : phase_of p ≡ Idle
    pub owns : owned_by p ≡ []
    pub holds : held_by p ≡ []
    pub told : knows p ≡ K.first

  -- a new pass for each caller, in order of number
  abbrev pub ArePassesOf : List (ClientPass C View' Call Reply) → Type 0
  ArePassesOf passes = AreInOrder IsNewPass passes

  -- the passes come from the opening of this manager
  abbrev pub AreOfOpening : List (ClientPass C View' Call Reply) → Type 0
  AreOfOpening passes = All (λ p. pass_opening p ≡ opening_of m) passes

-- the manager was opened with these, and has a new pass for each caller, in order of number
pub record IsOpenedWith {C O View' Call Reply State' : Type 0} (K : ClientTerms C View' Call Reply State') (shape : Shape) (start : Start) (callers : ℕ) (client : C) (m : Manager C O View' Call Reply State')
    (passes : List (ClientPass C View' Call Reply)) : Type 0 where
  pub planned : plan_of m ≡ record { shape = shape; start = start; callers = callers; client = client; own = K.own client }
  pub count : length passes ≡ callers
  pub each : ArePassesOf K m passes
  pub opening : AreOfOpening K m passes
  pub idle : All IsIdlePass passes
