-- Holds of links: what each needs, finds and leaves its seat.
use Rattle.std.specs.Prelude.{◌≡◌, ◌⊎◌, ◌==◌, ◌<◌, ℕ, true, if◌then◌else◌, List, [], ◌++◌, length, Some}
use mathlib.Core.List.{IsPrefix}
use Rattle.atomic_table.specs.Table.{Me}
use Rattle.pass_book.specs.declared.entries.Entry.{Entry}
use Rattle.pgas_base.specs.declared.shapes.Shape.{Shape}
use Rattle.pgas_base.specs.declared.spots.Spot.{Spot}
use Rattle.pgas_base.specs.Pointers.{Pointer, word_of}
use Rattle.epoch_laws.specs.declared.events.EpochEvent.TheVariants.{Held}
use Rattle.epoch_laws.specs.declared.events.Item.{Item}
use Rattle.epoch_laws.specs.declared.steps.Kind.TheVariants.{Hold}
use Rattle.epoch_laws.specs.Needs.{event}
use Rattle.epoch_laws.specs.Places.{place_in, pointer_at, joined_by}
use Rattle.epoch_laws.specs.Seats.{Seat, Pinned}
use Rattle.epoch_laws.specs.States.{IsPlace}
use Rattle.epoch_laws.specs.Words.{WordName}
use Rattle.pass_table.specs.declared.views.View.{View}
use Rattle.pass_table.specs.Terms.{Effect, SeesSo, Permits}
use Rattle.pass_table.specs.Steps.{GoesTo}
use Rattle.epoch_table.specs.declared.events.Happens.{Happens}
use Rattle.epoch_table.specs.declared.parts.Plan.{Plan}
use Rattle.epoch_table.specs.declared.parts.Part.{Part}
use Rattle.epoch_table.specs.Events.{PastOpens, PastSteps}
use Rattle.epoch_table.specs.Facts.{Facts, Keeps, count_of, facts_after}
use Rattle.epoch_table.specs.Numbers.{count_in}
use Rattle.epoch_table.specs.Clients.{ClientTerms, Looks, Holds, is_link}
use Rattle.epoch_table.specs.Kinds.{entries_of_items}
use Rattle.epoch_table.specs.Rule.{manager_terms}
use Rattle.epoch_table.specs.Spots.{FindsAt, Reaches, entries_acted}

-- the pointer with this word
abbrev pub pointer_in : ℕ → Pointer
pointer_in word = pointer_at (place_in word) (count_in word)

-- the word is that of a pointer to an object of the shape; if the seat has that already, with the count that is known
pub record LeadsTo (shape : Shape) (seat : Seat) (facts : Facts) (word : ℕ) : Type 0 where
  pub inside : IsPlace shape (place_in word)
  pub word_is : word_of (pointer_in word) ≡ word
  pub count : (n : ℕ) → Keeps seat (place_in word) → count_of facts (place_in word) ≡ Some n → count_in word ≡ n

-- what a hold learns of the link: it is 0, or leads to an object
abbrev pub IsLinkWord : Shape → Seat → Facts → ℕ → Type 0
IsLinkWord shape seat facts word = (word ≡ 0) ⊎ LeadsTo shape seat facts word

-- the seat once it holds what a link names, if that names anything, what it lists, and what is then known
abbrev pub seat_held : Seat → ℕ → Seat
seat_held seat found = if found == 0 then seat else record seat { held = joined_by (place_in found) seat.held }

abbrev pub items_held : ℕ → Seat → ℕ → List Item
items_held caller seat found = if found == 0 then [] else event caller (Held seat.token (pointer_in found))

abbrev pub facts_held : Seat → Facts → ℕ → Facts
facts_held seat facts found = if found == 0 then facts else facts_after seat (Hold (pointer_in found)) facts found

module _ {Self View' Call Reply State' : Type 0} (K : ClientTerms Self View' Call Reply State') (plan : Plan Self) (caller : ℕ) where
  -- the pass reaches the spot, which is a link, has pinned its token, and holds fewer than four objects
  pub record MayHold (spot : Spot) (part : Part View') : Type 0 where
    pub reaches : Reaches K plan caller spot part
    pub link : is_link K spot ≡ true
    pub pinned : part.seat.phase ≡ Pinned
    pub room : length part.seat.held < 4

  -- the part after a hold that finds this number
  abbrev pub part_held : Spot → Part View' → ℕ → Part View'
  part_held spot part found =
      record part { seat = seat_held part.seat found; facts = facts_held part.seat part.facts found; client = K.after part.client (Holds spot) found }

  -- that the object is held comes first, then what the client enters
  abbrev pub entries_held : Spot → Part View' → ℕ → List (Entry (Happens Call Reply) (Unit {0}))
  entries_held spot part found = entries_of_items caller (items_held caller part.seat found) ++ entries_acted K plan caller part (Holds spot) found

  -- what a hold tells of the number found
  abbrev pub TellsHold : Spot → Part View' → List (ℕ × Unit {0}) → ℕ → Effect (Unit {0}) (Happens Call Reply) (Unit {0}) (Part View') WordName → Type 0
  TellsHold spot part carried found e =
      IsLinkWord plan.shape part.seat part.facts found × FindsAt K plan caller e.history part spot Looks found × SeesSo e [] (entries_held spot part found) (part_held spot part found) carried

module _ {Self View' Call Reply State' : Type 0} (K : ClientTerms Self View' Call Reply State') (opens : State' → Type 0) (step : State' → Call → Reply → State' → Type 0) where
  -- such a hold is permitted on this word
  abbrev pub PermittedHold : Plan Self → ℕ → Spot → Me (Unit {0}) (View (Happens Call Reply) (Unit {0}) (Plan Self) (Part View') WordName) → ℕ → Type 0
  PermittedHold plan slots spot m word =
      Permits (manager_terms K) (PastOpens opens) (PastSteps step) plan slots m.0.number m.0.rests m.0.part m.1 word (λ n. n) (λ found e. TellsHold K plan m.0.number spot m.0.part m.1 found e)

  module _ (plan : Plan Self) where
    -- A seat before and after a hold. The number was found after a history that begins with what was seen and that is seen then
    abbrev pub HoldsAt : Spot → Me (Unit {0}) (View (Happens Call Reply) (Unit {0}) (Plan Self) (Part View') WordName) → ℕ
        → Me (Unit {0}) (View (Happens Call Reply) (Unit {0}) (Plan Self) (Part View') WordName) → Type 0
    HoldsAt spot m found n =
        let part = m.0.part in
        let entries = entries_held K plan m.0.number spot part found in
        IsLinkWord plan.shape part.seat part.facts found
        × ((h : List (Entry (Happens Call Reply) (Unit {0}))) × IsPrefix m.0.seen h × (n.0.seen ≡ h ++ entries) × FindsAt K plan m.0.number h part spot Looks found)
        × GoesTo (manager_terms K) (PastOpens opens) (PastSteps step) plan m n [] entries (part_held K plan m.0.number spot part found) m.1
