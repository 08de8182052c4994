-- The history of a manager: the items of its machine, and the entries of its client.
use Rattle.std.specs.Prelude.{◌≡◌, ℕ, List, [], ◌∷◌, ◌++◌}
use Rattle.pass_book.specs.declared.entries.Entry.{Entry}
use Rattle.epoch_laws.specs.declared.events.EpochEvent.TheVariants.{Returned}
use Rattle.epoch_laws.specs.declared.events.Item.{Item}
use Rattle.epoch_laws.specs.declared.events.Item.TheVariants.{Event, Advance, Claim, Leave}
use Rattle.epoch_laws.specs.Histories.{IsLegalHistory}
use Rattle.epoch_laws.specs.Items.{happenings, IsExactRelease}
use Rattle.epoch_table.specs.declared.events.Happens.{Happens}
use Rattle.epoch_table.specs.declared.events.Happens.TheVariants.{Lists, Enters}
use Rattle.epoch_table.specs.declared.events.Past.{Past}

-- no object was given back
unfoldable pub HasNoReturn : List Item → Type 0
HasNoReturn [] = Unit {0}
HasNoReturn (Event seat (Returned pointer) tag ∷ items) = ⊥
HasNoReturn (_ ∷ items) = HasNoReturn items

-- the seat of an item
abbrev pub seat_of : Item → ℕ
seat_of (Event seat event tag) = seat
seat_of (Advance seat epoch) = seat
seat_of (Claim seat global) = seat
seat_of (Leave seat global) = seat

-- each item is of this seat
abbrev pub AreOf : ℕ → List Item → Type 0
AreOf seat [] = Unit {0}
AreOf seat (item ∷ items) = (seat_of item ≡ seat) × AreOf seat items

module _ {Call Reply : Type 0} where
  -- the items among the entries of a history
  abbrev pub items_in : List (Entry (Happens Call Reply) (Unit {0})) → List Item
  items_in [] = []
  items_in (e ∷ h) = elim (e.call) [ Lists item ↦ item ∷ items_in h | Enters call reply ↦ items_in h ]

  -- the client's entries among them
  abbrev pub entries_in : List (Entry (Happens Call Reply) (Unit {0})) → List (Entry Call Reply)
  entries_in [] = []
  entries_in (e ∷ h) = elim (e.call) [ Lists item ↦ entries_in h | Enters call reply ↦ record { caller = e.caller; call = call; reply = reply } ∷ entries_in h ]

-- it opens without an item, and with the client's object as that opens
abbrev pub PastOpens : {State : Type 0} → (State → Type 0) → Past State → Type 0
PastOpens opens past = (past.items ≡ []) × opens past.object

module _ {Call Reply State : Type 0} where
  -- An item leaves a legal history of events and exact releases. An entry of the client is a step of its object
  abbrev pub PastSteps : (State → Call → Reply → State → Type 0) → Past State → Happens Call Reply → Unit {0} → Past State → Type 0
  PastSteps step old (Lists item) reply new =
      (new ≡ record old { items = old.items ++ item ∷ [] }) × IsLegalHistory old.count (happenings new.items) × IsExactRelease old.epoch old.count new.items
  PastSteps step old (Enters call answer) reply new = (object : State) × step old.object call answer object × (new ≡ record old { object = object })
