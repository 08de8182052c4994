-- Steps on a spot, which is a word of the client's own or one in a row: what each needs, finds and leaves its seat.
use Rattle.std.specs.Prelude.{◌≡◌, ◌<◌, ℕ, true, false, List, [], ◌∷◌, ◌++◌, Option, Some, None}
use mathlib.Core.List.{IsPrefix}
use Rattle.atomic_table.specs.Table.{Me}
use Rattle.pass_book.specs.declared.entries.Entry.{Entry}
use Rattle.pgas_base.specs.declared.spots.Spot.{Spot}
use Rattle.pgas_base.specs.declared.spots.Spot.TheVariants.{Own as OwnSpot, Row as RowSpot}
use Rattle.epoch_laws.specs.declared.steps.Kind.TheVariants.{Touch}
use Rattle.epoch_laws.specs.Places.{place_of, is_among}
use Rattle.epoch_laws.specs.Seats.{is_reclaiming}
use Rattle.epoch_laws.specs.Words.{WordName}
use Rattle.pass_table.specs.declared.views.View.{View}
use Rattle.pass_table.specs.Terms.{Effect, SeesSo, Permits}
use Rattle.pass_table.specs.Steps.{GoesTo}
use Rattle.epoch_table.specs.declared.events.Happens.{Happens}
use Rattle.epoch_table.specs.declared.events.Happens.TheVariants.{Enters}
use Rattle.epoch_table.specs.declared.parts.Plan.{Plan}
use Rattle.epoch_table.specs.declared.parts.Part.{Part}
use Rattle.epoch_table.specs.Events.{PastOpens, PastSteps, items_in, entries_in}
use Rattle.epoch_table.specs.Clients.{ClientTerms, Scene, Action, Steps, Change, answered, IsAt, AreInside, deferrals_in}
use Rattle.epoch_table.specs.Knowledge.{Row}
use Rattle.epoch_table.specs.Rule.{manager_terms}

module _ {Call Reply : Type 0} where
  -- a call of the client's object with its reply, as an entry of its caller
  abbrev pub happened : ℕ → Option (Call × Reply) → List (Entry (Happens Call Reply) (Unit {0}))
  happened caller None = []
  happened caller (Some both) = record { caller = caller; call = Enters both.0 both.1; reply = tt } ∷ []

module _ {Self View' Call Reply State' : Type 0} (K : ClientTerms Self View' Call Reply State') (plan : Plan Self) (caller : ℕ) where
  -- The client's rule held after this history, of a scene in which the pass knew so much and the number stood at the spot of which this is
  -- told
  pub record FindsAt (h : List (Entry (Happens Call Reply) (Unit {0}))) (part : Part View') (spot : Spot) (change : Change) (told : ℕ) : Type 0 where
    pub found : ℕ
    pub tells : told ≡ answered change found
    pub scene : Scene View' Call Reply
    pub holds : K.holds plan.client plan.shape scene
    pub entries : scene.entries ≡ entries_in h
    pub deferrals : scene.deferrals ≡ deferrals_in (items_in h)
    pub knows : scene.views caller ≡ part.client
    pub inside : AreInside plan.shape scene.things
    pub at : IsAt K plan.client plan.shape scene spot found

  -- the part after an action that finds this number, and what that enters
  abbrev pub acted : Part View' → Action → ℕ → Part View'
  acted part action found = record part { client = K.after part.client action found }

  abbrev pub entries_acted : Part View' → Action → ℕ → List (Entry (Happens Call Reply) (Unit {0}))
  entries_acted part action found = happened caller (K.enters part.client action found)

  -- what a step on a spot tells of the number found
  abbrev pub TellsAt : Spot → Change → Part View' → List (ℕ × Unit {0}) → ℕ → Effect (Unit {0}) (Happens Call Reply) (Unit {0}) (Part View') WordName → Type 0
  TellsAt spot change part carried told e =
      FindsAt e.history part spot change told × SeesSo e [] (entries_acted part (Steps spot change) told) (acted part (Steps spot change) told) carried

  -- the spot is one of the client's words, or in the row of an object that the pass holds, whose count it knows
  abbrev pub Reaches : Spot → Part View' → Type 0
  Reaches (OwnSpot word) part = word < plan.own
  Reaches (RowSpot q at) part = (at < plan.shape.width) × (is_among (place_of q) part.seat.held ≡ true) × Row plan.shape plan.callers caller part.seat part.facts (Touch q)

  -- the pass reaches the spot and isn't in a reclaim, and the client allows it
  pub record MayStep (spot : Spot) (change : Change) (part : Part View') : Type 0 where
    pub reaches : Reaches spot part
    pub allowed : K.may part.client (Steps spot change)
    pub rests : is_reclaiming part.seat.phase ≡ false

module _ {Self View' Call Reply State' : Type 0} (K : ClientTerms Self View' Call Reply State') where
  -- such a step is permitted on this word, which is then f of what it was
  abbrev pub PermittedAt : (State' → Type 0) → (State' → Call → Reply → State' → Type 0) → Plan Self → ℕ → Spot → Change → Me (Unit {0}) (View (Happens Call Reply) (Unit {0}) (Plan Self) (Part View') WordName) → ℕ → (ℕ → ℕ) → (ℕ → ℕ) → Type 0
  PermittedAt opens step plan slots spot change m word f said =
      Permits (manager_terms K) (PastOpens opens) (PastSteps step) plan slots m.0.number m.0.rests m.0.part m.1 word f (λ found e. TellsAt K plan m.0.number spot change m.0.part m.1 (said found) e)

  module _ (opens : State' → Type 0) (step : State' → Call → Reply → State' → Type 0) (plan : Plan Self) where
    -- A seat before and after such a step. The number was found after a history that begins with what was seen and that is seen then
    abbrev pub StepsAt : Spot → Change → Me (Unit {0}) (View (Happens Call Reply) (Unit {0}) (Plan Self) (Part View') WordName) → ℕ
        → Me (Unit {0}) (View (Happens Call Reply) (Unit {0}) (Plan Self) (Part View') WordName) → Type 0
    StepsAt spot change m found n =
        let part = m.0.part in
        let entries = entries_acted K plan m.0.number part (Steps spot change) found in
        ((h : List (Entry (Happens Call Reply) (Unit {0}))) × IsPrefix m.0.seen h × (n.0.seen ≡ h ++ entries) × FindsAt K plan m.0.number h part spot change found)
        × GoesTo (manager_terms K) (PastOpens opens) (PastSteps step) plan m n [] entries (acted K plan m.0.number part (Steps spot change) found) m.1
