-- Reads of the row of an object that a pass owns or holds, and fills of one that it owns: what each needs, finds and leaves its seat.
use Rattle.std.specs.Prelude.{◌≡◌, ◌<◌, ℕ, true, List, []}
use Rattle.atomic_table.specs.Table.{Me}
use Rattle.pass_book.specs.declared.entries.Entry.{Entry}
use Rattle.pgas_base.specs.Pointers.{Pointer}
use Rattle.pgas_base.specs.declared.spots.Spot.TheVariants.{Row as RowSpot}
use Rattle.epoch_laws.specs.declared.steps.Kind.TheVariants.{Touch}
use Rattle.epoch_laws.specs.Places.{place_of, is_among}
use Rattle.epoch_laws.specs.Words.{WordName}
use Rattle.pass_table.specs.declared.views.View.{View}
use Rattle.pass_table.specs.Terms.{Effect, SeesSo, Permits}
use Rattle.pass_table.specs.Steps.{GoesTo}
use Rattle.epoch_table.specs.declared.events.Happens.{Happens}
use Rattle.epoch_table.specs.declared.parts.Plan.{Plan}
use Rattle.epoch_table.specs.declared.parts.Part.{Part}
use Rattle.epoch_table.specs.Events.{PastOpens, PastSteps, items_in, entries_in}
use Rattle.epoch_table.specs.Clients.{ClientTerms, Scene, Fills, Looks, Owned, thing, AreInside, deferrals_in}
use Rattle.epoch_table.specs.Knowledge.{Row}
use Rattle.epoch_table.specs.Rule.{manager_terms}
use Rattle.epoch_table.specs.Spots.{FindsAt}

module _ {Self View' : Type 0} (plan : Plan Self) (caller : ℕ) where
  -- the row has such a word, and its object is one that the pass owns or holds, and whose count it knows
  pub record MayRead (q : Pointer) (at : ℕ) (part : Part View') : Type 0 where
    pub low : at < plan.shape.width
    pub row : Row plan.shape plan.callers caller part.seat part.facts (Touch q)

module _ {Self View' Call Reply State' : Type 0} (K : ClientTerms Self View' Call Reply State') (plan : Plan Self) (caller : ℕ) where
  -- the pass owns the object, and the client allows it
  pub record MayFill (q : Pointer) (at value : ℕ) (part : Part View') : Type 0 where
    pub read : MayRead plan caller q at part
    pub owned : is_among (place_of q) part.seat.owned ≡ true
    pub allowed : K.may part.client (Fills q at value)

  -- The client's rule held after this history, of a scene in which the pass knew and owned so much, and the number stood in the row of its own object
  pub record FindsOwn (h : List (Entry (Happens Call Reply) (Unit {0}))) (part : Part View') (q : Pointer) (at found : ℕ) : Type 0 where
    pub scene : Scene View' Call Reply
    pub holds : K.holds plan.client plan.shape scene
    pub entries : scene.entries ≡ entries_in h
    pub deferrals : scene.deferrals ≡ deferrals_in (items_in h)
    pub knows : scene.views caller ≡ part.client
    pub owns : scene.owned caller ≡ part.seat.owned
    pub inside : AreInside plan.shape scene.things
    pub row : ℕ → ℕ
    pub here : scene.things (place_of q) ≡ thing q Owned row
    pub says : row at ≡ found

  -- what a read finds after this history, in the row of an object that is held, or owned
  pub record FindsIn (h : List (Entry (Happens Call Reply) (Unit {0}))) (part : Part View') (q : Pointer) (at found : ℕ) : Type 0 where
    pub held : is_among (place_of q) part.seat.held ≡ true → FindsAt K plan caller h part (RowSpot q at) Looks found
    pub owned : is_among (place_of q) part.seat.owned ≡ true → FindsOwn h part q at found

  -- a read tells that, and leaves the part as it was
  abbrev pub TellsRead : Pointer → ℕ → Part View' → List (ℕ × Unit {0}) → ℕ → Effect (Unit {0}) (Happens Call Reply) (Unit {0}) (Part View') WordName → Type 0
  TellsRead q at part carried found e = FindsIn e.history part q at found × SeesSo e [] [] part carried

  -- the part after a fill, which enters nothing
  abbrev pub filled : Part View' → Pointer → ℕ → ℕ → Part View'
  filled part q at value = record part { client = K.after part.client (Fills q at value) 0 }

  abbrev pub TellsFill : Pointer → ℕ → ℕ → Part View' → List (ℕ × Unit {0}) → Effect (Unit {0}) (Happens Call Reply) (Unit {0}) (Part View') WordName → Type 0
  TellsFill q at value part carried e = SeesSo e [] [] (filled part q at value) carried

module _ {Self View' Call Reply State' : Type 0} (K : ClientTerms Self View' Call Reply State') (opens : State' → Type 0) (step : State' → Call → Reply → State' → Type 0) where
  -- a read is permitted on this word, and a fill
  abbrev pub PermittedRead : Plan Self → ℕ → Pointer → ℕ → Me (Unit {0}) (View (Happens Call Reply) (Unit {0}) (Plan Self) (Part View') WordName) → ℕ → Type 0
  PermittedRead plan slots q at m word =
      Permits (manager_terms K) (PastOpens opens) (PastSteps step) plan slots m.0.number m.0.rests m.0.part m.1 word (λ n. n) (λ found e. TellsRead K plan m.0.number q at m.0.part m.1 found e)

  abbrev pub PermittedFill : Plan Self → ℕ → Pointer → ℕ → ℕ → Me (Unit {0}) (View (Happens Call Reply) (Unit {0}) (Plan Self) (Part View') WordName) → ℕ → Type 0
  PermittedFill plan slots q at value m word =
      Permits (manager_terms K) (PastOpens opens) (PastSteps step) plan slots m.0.number m.0.rests m.0.part m.1 word (λ _. value) (λ _ e. TellsFill K plan m.0.number q at value m.0.part m.1 e)

  module _ (plan : Plan Self) where
    -- a seat before and after a read: the number was found after the history that is seen then
    abbrev pub Reads : Pointer → ℕ → Me (Unit {0}) (View (Happens Call Reply) (Unit {0}) (Plan Self) (Part View') WordName) → ℕ
        → Me (Unit {0}) (View (Happens Call Reply) (Unit {0}) (Plan Self) (Part View') WordName) → Type 0
    Reads q at m found n =
        FindsIn K plan m.0.number n.0.seen m.0.part q at found × GoesTo (manager_terms K) (PastOpens opens) (PastSteps step) plan m n [] [] m.0.part m.1

    -- and before and after a fill
    abbrev pub FillsRow : Pointer → ℕ → ℕ → Me (Unit {0}) (View (Happens Call Reply) (Unit {0}) (Plan Self) (Part View') WordName)
        → Me (Unit {0}) (View (Happens Call Reply) (Unit {0}) (Plan Self) (Part View') WordName) → Type 0
    FillsRow q at value m n = GoesTo (manager_terms K) (PastOpens opens) (PastSteps step) plan m n [] [] (filled K plan m.0.number m.0.part q at value) m.1
