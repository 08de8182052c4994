-- The text that a run is answered by.
use Rattle.std.specs.Prelude.{◌≡◌, ℕ, List, length}
use Rattle.epoch_laws.specs.declared.events.Item.{Item}
use Rattle.run_text.specs.declared.checking.RunEnd.{RunEnd}
use Rattle.run_text.specs.Checks.{HasChecked, IsVerdict, IsLegalIn, IsExactIn}
use Rattle.run_text.specs.Listing.{checked_text}
use Rattle.run_text.specs.Runs.{PlainRun}

-- The items of the steps before the first that isn't allowed, and whether there is one. Their events are a legal history, and
-- their advances, elections, tags and releases are exact.
pub record IsCheckText (run : PlainRun) (text : List ℕ) : Type 0 where
  pub items : List Item
  pub end : RunEnd
  pub checked : HasChecked run items end
  pub verdict : IsVerdict run end
  pub legal : IsLegalIn run items
  pub exact : IsExactIn run items
  pub is : text ≡ checked_text items end (length run.steps)
