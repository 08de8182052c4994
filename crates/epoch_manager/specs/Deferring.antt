-- What a deferral does, and the words that it reads.
use Rattle.std.specs.Prelude.{◌≡◌, ◌≤◌, ℕ, ◌%◌, List, [], ◌∷◌, Some}
use Rattle.atomic_table.specs.Table.{Me}
use Rattle.pass_book.specs.declared.entries.Look.{Look}
use Rattle.pgas_base.specs.Pointers.{Pointer}
use Rattle.epoch_laws.specs.declared.tokens.Token.{Token}
use Rattle.epoch_laws.specs.declared.events.EpochEvent.TheVariants.{Deferred}
use Rattle.epoch_laws.specs.declared.events.Item.TheVariants.{Event}
use Rattle.epoch_laws.specs.Places.{place_of}
use Rattle.epoch_laws.specs.ReclaimSteps.{last_epoch}
use Rattle.epoch_laws.specs.Seats.{Pinned}
use Rattle.epoch_laws.specs.Words.{WordName, local_epoch, list}
use Rattle.pass_table.specs.declared.views.View.{View}
use Rattle.pass_table.specs.Passes.{Change}
use Rattle.pass_table.specs.Steps.{GoesAmongTo}
use Rattle.epoch_table.specs.declared.events.Happens.{Happens}
use Rattle.epoch_table.specs.declared.parts.Plan.{Plan}
use Rattle.epoch_table.specs.declared.parts.Part.{Part}
use Rattle.epoch_table.specs.Clients.{ClientTerms, Defers}
use Rattle.epoch_table.specs.Events.{PastOpens, PastSteps}
use Rattle.epoch_table.specs.Kinds.{entries_of_items}
use Rattle.epoch_table.specs.Rule.{manager_terms}
use Rattle.epoch_manager.specs.Managers.{ListsItems, ReadsWords}

-- the epoch of a locale was read as this tag, and then the head of the list there that the tag names
abbrev pub deferral_words : ℕ → ℕ → ℕ → List (Look WordName)
deferral_words locale tag old = record { name = local_epoch locale; word = tag } ∷ record { name = list locale (tag % 4); word = old } ∷ []

-- the words that a deferral of this tag reads
abbrev pub DeferralCause : ℕ → ℕ → List (Look WordName) → Type 0
DeferralCause locale tag words = (old : ℕ) × (words ≡ deferral_words locale tag old)

module _ {C View' Call Reply State' : Type 0} (K : ClientTerms C View' Call Reply State') where
  -- what a pass knows after a deferral
  abbrev pub part_deferred : Pointer → ℕ → ℕ → Part View' → Part View'
  part_deferred q tag old part = record part {
    seat = record part.seat { phase = Pinned; deferral = record { pointer = q; tag = tag; old = old } };
    facts = record part.facts { nexts = record { place = place_of q; number = Some old } ∷ part.facts.nexts };
    client = K.after part.client (Defers q) 0;
  }

module _ {C View' Call Reply State' : Type 0} (K : ClientTerms C View' Call Reply State') (opens : State' → Type 0) (step : State' → Call → Reply → State' → Type 0) (plan : Plan C) where
  -- the object is deferred, with the epoch that was read as that of the token's locale
  pub record DefersObject (change : Change (Happens Call Reply) (Unit {0}) WordName) (t : Token) (q : Pointer) : Type 0 where
    pub tag : ℕ
    pub low : tag ≤ last_epoch
    pub listed : ListsItems K opens step plan change (Event change.caller (Deferred t q) tag ∷ [])
    pub read : ReadsWords K opens step plan change (DeferralCause t.locale tag)

  -- what the three steps of a deferral do to its caller's seat
  abbrev pub DefersSeat : Pointer → Me (Unit {0}) (View (Happens Call Reply) (Unit {0}) (Plan C) (Part View') WordName) → ℕ → Me (Unit {0}) (View (Happens Call Reply) (Unit {0}) (Plan C) (Part View') WordName) → Type 0
  DefersSeat q m tag n =
      (tag ≤ last_epoch)
      × ((old : ℕ)
      × GoesAmongTo (manager_terms K) (PastOpens opens) (PastSteps step) plan m n (deferral_words m.0.part.seat.token.locale tag old)
      (entries_of_items m.0.number (Event m.0.number (Deferred m.0.part.seat.token q) tag ∷ [])) (part_deferred K q tag old m.0.part) m.1)
