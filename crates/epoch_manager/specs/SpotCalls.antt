-- What the calls on words of a client and of rows find, and what they enter.
use Rattle.std.specs.Prelude.{◌≡◌, ◌<◌, ℕ, List, ◌++◌, Option, Some, None, Contains}
use mathlib.Core.List.{IsPrefix}
use Rattle.pass_book.specs.declared.entries.Entry.{Entry}
use Rattle.pass_book.specs.Pages.{Enters, EntersNothing}
use Rattle.pgas_base.specs.Pointers.{Pointer}
use Rattle.pgas_base.specs.declared.spots.Spot.{Spot}
use Rattle.pgas_base.specs.declared.spots.Spot.TheVariants.{Own as OwnSpot, Row as RowSpot}
use Rattle.epoch_laws.specs.Words.{WordName}
use Rattle.pass_table.specs.Passes.{Change, pass_view}
use Rattle.epoch_table.specs.declared.events.Happens.{Happens}
use Rattle.epoch_table.specs.declared.events.Happens.TheVariants.{Enters as IsEntry}
use Rattle.epoch_table.specs.declared.parts.Plan.{Plan}
use Rattle.epoch_table.specs.Clients.{ClientTerms, Change as SpotChange, Looks}
use Rattle.epoch_table.specs.Events.{PastOpens, PastSteps}
use Rattle.epoch_table.specs.RowSteps.{FindsOwn}
use Rattle.epoch_table.specs.Rule.{manager_terms}
use Rattle.epoch_table.specs.Spots.{happened, FindsAt}
use Rattle.epoch_manager.specs.declared.managers.ClientPass.{ClientPass}
use Rattle.epoch_manager.specs.Managers.{phase_of, caller_of, page, looked, owned_by, held_by}

-- the spot is one of the client's words, or in the row of an object that is held
abbrev pub IsReached : {C : Type 0} → Plan C → List Pointer → Spot → Type 0
IsReached plan held (OwnSpot word) = word < plan.own
IsReached plan held (RowSpot q at) = (at < plan.shape.width) × Contains held q

module _ {C View' Call Reply : Type 0} where
  -- the caller stands where it did, owns and holds what it did, and has read no word of the machine
  abbrev pub StaysAsItWas : ClientPass C View' Call Reply → ClientPass C View' Call Reply → Type 0
  StaysAsItWas old new = (phase_of new ≡ phase_of old) × (owned_by new ≡ owned_by old) × (held_by new ≡ held_by old) × (looked new ≡ looked old)

module _ {C View' Call Reply State' : Type 0} (K : ClientTerms C View' Call Reply State') (opens : State' → Type 0) (step : State' → Call → Reply → State' → Type 0) (plan : Plan C) where
  -- the call enters this, at the end of what is then seen, or nothing
  abbrev pub EntersWhat : Change (Happens Call Reply) (Unit {0}) WordName → Option (Call × Reply) → Type 0
  EntersWhat change None = EntersNothing (PastOpens opens) (PastSteps step) ((manager_terms K).start plan) change.caller change.old change.new
  EntersWhat change (Some made) = Enters (PastOpens opens) (PastSteps step) ((manager_terms K).start plan) change.caller change.old change.new (IsEntry made.0 made.1) tt

module _ {C View' Call Reply State' : Type 0} (K : ClientTerms C View' Call Reply State') (plan : Plan C) (old new : ClientPass C View' Call Reply) where
  -- The number stood at the spot where this history was met, which is then seen with what the call enters, and the client's rule held
  pub record FoundAt (spot : Spot) (change : SpotChange) (told : ℕ) (made : Option (Call × Reply)) : Type 0 where
    pub met : List (Entry (Happens Call Reply) (Unit {0}))
    pub begins : IsPrefix (page old).seen met
    pub seen : (page new).seen ≡ met ++ happened (caller_of old) made
    pub finds : FindsAt K plan (caller_of old) met ((pass_view old.pass).part) spot change told

  -- the same of a word in the row of an object that is held, or owned
  pub record FoundIn (q : Pointer) (at found : ℕ) : Type 0 where
    pub held : Contains (held_by old) q → FindsAt K plan (caller_of old) (page new).seen ((pass_view old.pass).part) (RowSpot q at) Looks found
    pub owned : Contains (owned_by old) q → FindsOwn K plan (caller_of old) (page new).seen ((pass_view old.pass).part) q at found
