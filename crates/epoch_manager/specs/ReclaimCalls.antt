-- What a reclaim lists and reads.
use Rattle.std.specs.Prelude.{◌≡◌, ◌+◌, ◌*◌, ◌<◌, ◌++◌, ℕ, true, false, List, [], ◌∷◌, length, Result, Ok, Err}
use Rattle.pass_book.specs.declared.entries.Look.{Look}
use Rattle.pgas_base.specs.declared.shapes.Shape.{Shape}
use Rattle.pgas_base.specs.Pointers.{Pointer}
use Rattle.epoch_laws.specs.declared.events.Item.{Item}
use Rattle.epoch_laws.specs.declared.events.Item.TheVariants.{Claim, Leave}
use Rattle.epoch_laws.specs.ReclaimSteps.{last_epoch}
use Rattle.epoch_laws.specs.Words.{WordName}
use Rattle.pass_table.specs.Passes.{Change}
use Rattle.epoch_table.specs.declared.events.Happens.{Happens}
use Rattle.epoch_table.specs.declared.parts.Plan.{Plan}
use Rattle.epoch_table.specs.Clients.{ClientTerms}
use Rattle.epoch_manager.specs.declared.faults.NotNow.{NotNow}
use Rattle.epoch_manager.specs.declared.faults.NotNow.TheVariants.{LocalBusy, GlobalBusy}
use Rattle.epoch_manager.specs.declared.reclaims.Advanced.{Advanced}
use Rattle.epoch_manager.specs.Managers.{ListsItems}
use Rattle.epoch_manager.specs.Reclaiming.{ArePassed, local_read, global_read, epoch_read, IsRefusedBy}
use Rattle.epoch_manager.specs.Releasing.{reclaim_items, frees_after}

-- The words of a reclaim of a locale. One that is done has won both elections, read the epoch before, which wasn't the last, and then of every token a word
-- that doesn't stop it. One that is refused has read 1, another caller's mark, in an election, or the last epoch, or a word that stops it
abbrev pub ReclaimCause : Shape → ℕ → Result Advanced NotNow → List (Look WordName) → Type 0
ReclaimCause shape at (Ok reclaimed) words =
    (epoch : ℕ) × (reclaimed.epoch ≡ epoch + 1) × (epoch < last_epoch)
    × ((passed : List (Look WordName)) × (more : List (Look WordName)) × ArePassed shape.tokens epoch (shape.locales * shape.tokens) passed
    × (words ≡ local_read at 0 ∷ global_read 0 ∷ epoch_read epoch ∷ (passed ++ more)))
ReclaimCause shape at (Err LocalBusy) words = words ≡ local_read at 1 ∷ []
ReclaimCause shape at (Err GlobalBusy) words = words ≡ local_read at 0 ∷ global_read 1 ∷ []
ReclaimCause shape at (Err fault) words = (rest : List (Look WordName)) × IsRefusedBy shape fault rest × (words ≡ local_read at 0 ∷ global_read 0 ∷ rest)

-- a refused reclaim leaves the elections that it had won
abbrev pub refused_items : ℕ → NotNow → List Item
refused_items c LocalBusy = []
refused_items c GlobalBusy = Claim c false ∷ Leave c false ∷ []
refused_items c fault = Claim c false ∷ Claim c true ∷ Leave c true ∷ Leave c false ∷ []

module _ {C View' Call Reply State' : Type 0} (K : ClientTerms C View' Call Reply State') (opens : State' → Type 0) (step : State' → Call → Reply → State' → Type 0) (plan : Plan C) (change : Change (Happens Call Reply) (Unit {0}) WordName)
    (old new : View') where
  -- What it lists, and what its pass then knows of the client. One that is done lists its claims, the advance, the objects that it freed, as many as it says, and
  -- its leaves
  abbrev pub ListsReclaim : Result Advanced NotNow → Type 0
  ListsReclaim (Ok reclaimed) =
      (pointers : List Pointer) × (reclaimed.freed ≡ length pointers) × (new ≡ frees_after K old pointers) × ListsItems K opens step plan change (reclaim_items change.caller reclaimed.epoch pointers)
  ListsReclaim (Err fault) = (new ≡ old) × ListsItems K opens step plan change (refused_items change.caller fault)
