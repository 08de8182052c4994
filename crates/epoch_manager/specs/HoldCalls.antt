-- What a hold of a link does, by its answer.
use Rattle.std.specs.Prelude.{◌≡◌, ◌⊎◌, ℕ, List, [], ◌∷◌, ◌++◌, Option, Some, None, Contains}
use mathlib.Core.List.{IsPrefix}
use Rattle.pass_book.specs.declared.entries.Entry.{Entry}
use Rattle.pass_book.specs.Pages.{Gains}
use Rattle.pgas_base.specs.Pointers.{Pointer, word_of}
use Rattle.pgas_base.specs.declared.spots.Spot.{Spot}
use Rattle.epoch_laws.specs.declared.events.EpochEvent.TheVariants.{Held}
use Rattle.epoch_laws.specs.declared.events.Item.{Item}
use Rattle.epoch_laws.specs.declared.tokens.Token.{Token}
use Rattle.epoch_laws.specs.Needs.{event}
use Rattle.pass_table.specs.Passes.{pass_view}
use Rattle.epoch_table.specs.declared.events.Happens.{Happens}
use Rattle.epoch_table.specs.declared.parts.Plan.{Plan}
use Rattle.epoch_table.specs.Clients.{ClientTerms, Looks, Holds}
use Rattle.epoch_table.specs.Events.{PastOpens, PastSteps}
use Rattle.epoch_table.specs.Kinds.{entries_of_items}
use Rattle.epoch_table.specs.Rule.{manager_terms}
use Rattle.epoch_table.specs.Spots.{happened, FindsAt}
use Rattle.epoch_manager.specs.declared.managers.ClientPass.{ClientPass}
use Rattle.epoch_manager.specs.Managers.{caller_of, page, knows}

-- the word that was read
abbrev pub link_word : Option Pointer → ℕ
link_word None = 0
link_word (Some q) = word_of q

-- the objects held, before and after: the one that was found is held once
abbrev pub HoldsThen : List Pointer → Option Pointer → List Pointer → Type 0
HoldsThen old None new = new ≡ old
HoldsThen old (Some q) new = (Contains old q × (new ≡ old)) ⊎ ((¬ Contains old q) × (new ≡ q ∷ old))

-- the item that is listed
abbrev pub held_items : ℕ → Token → Option Pointer → List Item
held_items c token None = []
held_items c token (Some q) = event c (Held token q)

module _ {C View' Call Reply State' : Type 0} (K : ClientTerms C View' Call Reply State') (opens : State' → Type 0) (step : State' → Call → Reply → State' → Type 0) (plan : Plan C) (old new : ClientPass C View' Call Reply) where
  -- the hold as an item, if an object was found, and then what the client enters
  abbrev pub entries_of_hold : Token → Spot → Option Pointer → List (Entry (Happens Call Reply) (Unit {0}))
  entries_of_hold token spot found = entries_of_items (caller_of old) (held_items (caller_of old) token found) ++ happened (caller_of old) (K.enters (knows old) (Holds spot) (link_word found))

  -- The caller's page gains just these entries, and what is then seen is a legal history. The word that was read stood at the link where the history
  -- before them was met, and the client's rule held
  pub record HeldAt (token : Token) (spot : Spot) (found : Option Pointer) : Type 0 where
    pub gains : Gains (PastOpens opens) (PastSteps step) ((manager_terms K).start plan) (caller_of old) (page old) (page new) (entries_of_hold token spot found)
    pub met : List (Entry (Happens Call Reply) (Unit {0}))
    pub begins : IsPrefix (page old).seen met
    pub seen : (page new).seen ≡ met ++ entries_of_hold token spot found
    pub finds : FindsAt K plan (caller_of old) met ((pass_view old.pass).part) spot Looks (link_word found)
