-- What contracts see of a manager and of its passes.
use Rattle.std.specs.Prelude.{◌≡◌, ℕ, not, List, map, filter, Some, unwrap_or}
use Rattle.pass_book.specs.declared.entries.Look.{Look}
use Rattle.pass_book.specs.Pages.{Page, Gains}
use Rattle.pgas_base.specs.declared.shapes.Shape.{Shape}
use Rattle.pgas_base.specs.Pointers.{Pointer}
use Rattle.epoch_laws.specs.declared.events.Item.{Item}
use Rattle.epoch_laws.specs.Places.{Place, place_of, pointer_at, same_place}
use Rattle.epoch_laws.specs.Words.{WordName}
use Rattle.pass_table.specs.Passes.{Opening, Change, table_of, plan_of as table_plan, pass_view, pass_opening as table_opening, page as table_page, looked as table_looked, caller_of as table_caller}
use Rattle.pass_table.specs.Calls.{Reads}
use Rattle.epoch_table.specs.declared.events.Happens.{Happens}
use Rattle.epoch_table.specs.declared.parts.Plan.{Plan}
use Rattle.epoch_table.specs.Facts.{Facts, count_of}
use Rattle.epoch_table.specs.Clients.{ClientTerms}
use Rattle.epoch_table.specs.Events.{PastOpens, PastSteps}
use Rattle.epoch_table.specs.Kinds.{entries_of_items}
use Rattle.epoch_table.specs.Rule.{Shows, manager_terms}
use Rattle.epoch_manager.specs.declared.phases.Phase.{Phase}
use Rattle.epoch_manager.specs.declared.managers.ClientPass.{ClientPass}
use Rattle.epoch_manager.specs.declared.managers.Manager.{Manager}

-- an object by the count that is known of it
abbrev pub pointer_of : Facts → Place → Pointer
pointer_of facts p = pointer_at p (unwrap_or (count_of facts p) 0)

abbrev pub pointers : Facts → List Place → List Pointer
pointers facts places = map (pointer_of facts) places

-- the pointers to other objects than this one
abbrev pub others : Pointer → List Pointer → List Pointer
others q pointers = filter (λ r. not (same_place (place_of r) (place_of q))) pointers

module _ {C O View' Call Reply State' : Type 0} where
  -- what a manager was opened with
  abbrev pub plan_of : Manager C O View' Call Reply State' → Plan C
  plan_of m = table_plan m.words.table

  -- the opening that it comes from
  abbrev pub opening_of : Manager C O View' Call Reply State' → Opening (Plan C)
  opening_of m = record { table = table_of m.words.table; plan = Some (plan_of m) }

  -- how much there is
  abbrev pub shape_of : Manager C O View' Call Reply State' → Shape
  shape_of m = (plan_of m).shape

  abbrev pub callers_of : Manager C O View' Call Reply State' → ℕ
  callers_of m = (plan_of m).callers

module _ {C View' Call Reply : Type 0} where
  abbrev pub pass_opening : ClientPass C View' Call Reply → Opening (Plan C)
  pass_opening p = table_opening p.pass

  abbrev pub phase_of : ClientPass C View' Call Reply → Phase
  phase_of p = p.phase

  abbrev pub caller_of : ClientPass C View' Call Reply → ℕ
  caller_of p = table_caller p.pass

  -- the items and entries of a pass, and what it has seen
  abbrev pub page : ClientPass C View' Call Reply → Page (Happens Call Reply) (Unit {0})
  page p = table_page p.pass

  -- the words that it has read
  abbrev pub looked : ClientPass C View' Call Reply → List (Look WordName)
  looked p = table_looked p.pass

  -- the objects that it owns, and those that it holds
  abbrev pub owned_by : ClientPass C View' Call Reply → List Pointer
  owned_by p = let part = (pass_view p.pass).part in pointers part.facts part.seat.owned

  abbrev pub held_by : ClientPass C View' Call Reply → List Pointer
  held_by p = let part = (pass_view p.pass).part in pointers part.facts part.seat.held

  -- what it knows of the client
  abbrev pub knows : ClientPass C View' Call Reply → View'
  knows p = (pass_view p.pass).part.client

  -- it is the same caller's pass from the same opening
  abbrev pub IsSamePass : ClientPass C View' Call Reply → ClientPass C View' Call Reply → Type 0
  IsSamePass old new = (pass_opening new ≡ pass_opening old) × (caller_of new ≡ caller_of old)

  -- it owns and holds what it did, and knows as much of the client
  abbrev pub HasTheSame : ClientPass C View' Call Reply → ClientPass C View' Call Reply → Type 0
  HasTheSame old new = (owned_by new ≡ owned_by old) × (held_by new ≡ held_by old) × (knows new ≡ knows old)

  -- what a call did to its caller's pass
  abbrev pub change : ClientPass C View' Call Reply → ClientPass C View' Call Reply → Change (Happens Call Reply) (Unit {0}) WordName
  change old new = record { caller = caller_of old; old = page old; new = page new; looked_old = looked old; looked_new = looked new }

module _ {C View' Call Reply State' : Type 0} (K : ClientTerms C View' Call Reply State') (opens : State' → Type 0) (step : State' → Call → Reply → State' → Type 0) (plan : Plan C)
    (change : Change (Happens Call Reply) (Unit {0}) WordName) where
  -- The call lists these items, in their order, among those of others: its caller's page gains just them, and what is then seen is a legal history
  abbrev pub ListsItems : List Item → Type 0
  ListsItems items = Gains (PastOpens opens) (PastSteps step) ((manager_terms K).start plan) change.caller change.old change.new (entries_of_items change.caller items)

  -- the words that the call read are a cause, and it met a history for each
  abbrev pub ReadsWords : (List (Look WordName) → Type 0) → Type 0
  ReadsWords IsCause = Reads (λ h name word. Shows plan.start h name word) change IsCause
