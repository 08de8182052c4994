-- What a step adds to the items of a run.
use Rattle.std.specs.Prelude.{◌≡◌, ◌<◌, ◌≤◌, ◌^◌, ◌+◌, ℕ, true, false, List, [], ◌∷◌, Option, Some, None, Result, Ok, Err}
use Rattle.pgas_base.specs.declared.shapes.Shape.{Shape}
use Rattle.pgas_base.specs.declared.starts.Start.{Start}
use Rattle.epoch_laws.specs.declared.events.EpochEvent.TheVariants.{Registered, Unregistered, Pinned, Unpinned, Given, Shown, Held, Deferred, Freed, Returned}
use Rattle.epoch_laws.specs.declared.events.Item.{Item}
use Rattle.epoch_laws.specs.declared.events.Item.TheVariants.{Event, Advance as AdvanceItem, Claim, Leave as LeaveItem}
use Rattle.epoch_laws.specs.declared.steps.Illegal.{Illegal}
use Rattle.epoch_laws.specs.declared.steps.Kind.{Kind}
use Rattle.epoch_laws.specs.declared.steps.Kind.TheVariants.{Register, Unregister, PinSet, Unpin, TakeTry, Show, Hold, Return, DeferLook, ElectLocal, ElectGlobal, Advance, Release, Leave}
use Rattle.epoch_laws.specs.declared.steps.Seen.{Seen}
use Rattle.epoch_laws.specs.declared.steps.Seen.TheVariants.{Word, Won}
use Rattle.epoch_laws.specs.declared.steps.Step.{Step}
use Rattle.epoch_laws.specs.ReclaimSteps.{has_global}
use Rattle.epoch_laws.specs.Runs.{outcome, state_after}
use Rattle.epoch_laws.specs.Seats.{Seat, Scanning}
use Rattle.epoch_laws.specs.States.{opening}
use Rattle.epoch_laws.specs.TakeSteps.{look_count}
use Rattle.epoch_core.specs.declared.items.Known.{Known}
use Rattle.epoch_core.specs.declared.items.Listed.{Listed}
use Rattle.epoch_core.specs.declared.machine.Machine.{Machine}
use Rattle.epoch_core.specs.Runs.{Goes}

abbrev pub listed : Option Item → List Item
listed None = []
listed (Some item) = item ∷ []

-- The step goes as the definition says, and the item is what it adds to those of the run
abbrev pub GoesListed : Shape → Start → ℕ → List Step → Step → Machine → Result Listed Illegal → Type 0
GoesListed shape start seats steps step after (Ok answer) =
    Goes shape start seats steps step after (Ok answer.seen)
    × (listed answer.item ≡ (outcome (state_after (opening shape start seats) steps) step).items)
GoesListed shape start seats steps step after (Err e) = Goes shape start seats steps step after (Err e)

-- what is known of a seat is so
pub record IsKnown (known : Known) (seat : Seat) : Type 0 where
  pub token : known.token ≡ seat.token
  pub announced : known.announced ≡ seat.announced
  pub count : known.count ≡ look_count seat.free_look
  pub global : known.has_global ≡ has_global seat.phase
  pub epoch : seat.phase ≡ Scanning → known.next_epoch ≡ seat.reclaim.epoch + 1

-- the object that a take is tried of has a pointer
abbrev pub NamesPointer : Kind → Type 0
NamesPointer kind = (locale index : ℕ) → kind ≡ TakeTry locale index → (locale < 16) × (1 ≤ index) × (index < 2 ^ 24)

abbrev pub if_won : Seen → Item → Option Item
if_won Won item = Some item
if_won seen item = None

abbrev pub with_word : Seen → (ℕ → Item) → Option Item
with_word (Word word) item = Some (item word)
with_word seen item = None

-- the item of an allowed step that told this
abbrev pub item_of : Known → ℕ → Kind → Seen → Option Item
item_of known c (Register locale number) seen = if_won seen (Event c (Registered (record { locale = locale; number = number })) 0)
item_of known c Unregister seen = Some (Event c (Unregistered known.token) 0)
item_of known c PinSet seen = Some (Event c (Pinned known.token) known.announced)
item_of known c Unpin seen = Some (Event c (Unpinned known.token) 0)
item_of known c (TakeTry locale index) seen = if_won seen (Event c (Given (record { locale = locale; index = index; count = known.count })) 0)
item_of known c (Show pointer) seen = Some (Event c (Shown pointer) 0)
item_of known c (Hold pointer) seen = Some (Event c (Held known.token pointer) 0)
item_of known c (Return pointer) seen = Some (Event c (Returned pointer) 0)
item_of known c (DeferLook pointer) seen = with_word seen (λ word. Event c (Deferred known.token pointer) word)
item_of known c ElectLocal seen = if_won seen (Claim c false)
item_of known c ElectGlobal seen = if_won seen (Claim c true)
item_of known c Advance seen = Some (AdvanceItem c known.next_epoch)
item_of known c (Release pointer) seen = Some (Event c (Freed pointer) 0)
item_of known c Leave seen = Some (LeaveItem c known.has_global)
item_of known c kind seen = None
