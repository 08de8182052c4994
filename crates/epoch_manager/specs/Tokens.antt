-- What the calls on tokens do, and the words that are the cause of their answers.
use Rattle.std.specs.Prelude.{◌≡◌, ◌≢◌, ◌<◌, ◌≤◌, ℕ, List, [], ◌∷◌, ◌++◌, length, slice_get, Option, Some, None, Result, Ok, Err}
use Rattle.atomic_table.specs.Table.{Me}
use Rattle.pass_book.specs.declared.entries.Look.{Look}
use Rattle.pgas_base.specs.declared.shapes.Shape.{Shape}
use Rattle.epoch_laws.specs.declared.tokens.Token.{Token}
use Rattle.epoch_laws.specs.declared.events.EpochEvent.TheVariants.{Registered as IsRegistered, Pinned as IsPinned}
use Rattle.epoch_laws.specs.declared.events.Item.{Item}
use Rattle.epoch_laws.specs.declared.events.Item.TheVariants.{Event}
use Rattle.epoch_laws.specs.Needs.{event}
use Rattle.epoch_laws.specs.ReclaimSteps.{last_epoch}
use Rattle.epoch_laws.specs.Seats.{Registered as RegisteredSeat, Pinned as PinnedSeat}
use Rattle.epoch_laws.specs.Words.{WordName, local_epoch, token}
use Rattle.pass_table.specs.declared.views.View.{View}
use Rattle.pass_table.specs.Passes.{Change}
use Rattle.pass_table.specs.Steps.{GoesTo}
use Rattle.epoch_table.specs.declared.events.Happens.{Happens}
use Rattle.epoch_table.specs.declared.parts.Plan.{Plan}
use Rattle.epoch_table.specs.declared.parts.Part.{Part}
use Rattle.epoch_table.specs.Clients.{ClientTerms}
use Rattle.epoch_table.specs.Events.{PastOpens, PastSteps}
use Rattle.epoch_table.specs.Kinds.{entries_of_items}
use Rattle.epoch_table.specs.Rule.{manager_terms}
use Rattle.epoch_manager.specs.declared.faults.TokensFull.{TokensFull}
use Rattle.epoch_manager.specs.declared.phases.Phase.{Phase}
use Rattle.epoch_manager.specs.declared.phases.Phase.TheVariants.{Idle, Registered, Pinned}
use Rattle.epoch_manager.specs.Managers.{ListsItems, ReadsWords}

-- the token's word was read as this
abbrev pub token_read : Token → ℕ → Look WordName
token_read t word = record { name = token t; word = word }

-- so many tokens of a locale, by rising number, were each read as somebody's
pub record AreOthers (locale many : ℕ) (words : List (Look WordName)) : Type 0 where
  pub count : length words ≡ many
  pub each : (k : ℕ) (look : Look WordName) → slice_get words k ≡ Some look → (look.name ≡ token (record { locale = locale; number = k })) × (look.word ≢ 0)

-- a token was read as nobody's, and all before it as somebody's
abbrev pub IsFirstFree : Token → List (Look WordName) → Type 0
IsFirstFree t words = (before : List (Look WordName)) × AreOthers t.locale t.number before × (words ≡ before ++ token_read t 0 ∷ [])

-- where a register leaves its caller, by its answer
abbrev pub RegistersAs : Shape → ℕ → Phase → Result Unit TokensFull → Type 0
RegistersAs shape locale phase (Ok u) = (number : ℕ) × (number < shape.tokens) × (phase ≡ Registered (record { locale = locale; number = number }))
RegistersAs shape locale phase (Err full) = phase ≡ Idle

-- the item that it lists
abbrev pub registered_items : ℕ → Phase → List Item
registered_items c Idle = []
registered_items c (Registered t) = event c (IsRegistered t)
registered_items c (Pinned t) = []

-- The words that it read: it stays without a token where each token of the locale was somebody's, and else has the first that was nobody's
abbrev pub RegisterCause : Shape → ℕ → Phase → List (Look WordName) → Type 0
RegisterCause shape locale Idle words = AreOthers locale shape.tokens words
RegisterCause shape locale (Registered t) words = IsFirstFree t words
RegisterCause shape locale (Pinned t) words = ⊥

module _ {C View' Call Reply State' : Type 0} (K : ClientTerms C View' Call Reply State') (opens : State' → Type 0) (step : State' → Call → Reply → State' → Type 0) (plan : Plan C) where
  -- a pin announces the epoch that it read as its locale's
  pub record Pins (change : Change (Happens Call Reply) (Unit {0}) WordName) (t : Token) : Type 0 where
    pub epoch : ℕ
    pub low : epoch ≤ last_epoch
    pub listed : ListsItems K opens step plan change (Event change.caller (IsPinned t) epoch ∷ [])
    pub read : ReadsWords K opens step plan change (λ words. words ≡ record { name = local_epoch t.locale; word = epoch } ∷ [])

  -- what taking a token does to its caller's seat
  abbrev pub TakesToken : ℕ → Me (Unit {0}) (View (Happens Call Reply) (Unit {0}) (Plan C) (Part View') WordName) → Me (Unit {0}) (View (Happens Call Reply) (Unit {0}) (Plan C) (Part View') WordName) → Option ℕ → Type 0
  TakesToken locale m n None =
      (words : List (Look WordName)) × AreOthers locale plan.shape.tokens words × GoesTo (manager_terms K) (PastOpens opens) (PastSteps step) plan m n words [] m.0.part m.1
  TakesToken locale m n (Some number) =
      let t : Token = record { locale = locale; number = number } in
      (words : List (Look WordName)) × IsFirstFree t words × (number < plan.shape.tokens)
      × GoesTo (manager_terms K) (PastOpens opens) (PastSteps step) plan m n words (entries_of_items m.0.number (event m.0.number (IsRegistered t)))
      (record m.0.part { seat = record m.0.part.seat { phase = RegisteredSeat; token = t } }) m.1

  -- what the two steps of a pin do to it
  abbrev pub PinsSeat : Token → Me (Unit {0}) (View (Happens Call Reply) (Unit {0}) (Plan C) (Part View') WordName) → ℕ → Me (Unit {0}) (View (Happens Call Reply) (Unit {0}) (Plan C) (Part View') WordName) → Type 0
  PinsSeat t m epoch n =
      (epoch ≤ last_epoch)
      × GoesTo (manager_terms K) (PastOpens opens) (PastSteps step) plan m n (record { name = local_epoch t.locale; word = epoch } ∷ []) (entries_of_items m.0.number (Event m.0.number (IsPinned t) epoch ∷ []))
      (record m.0.part { seat = record m.0.part.seat { phase = PinnedSeat; announced = epoch } }) m.1
