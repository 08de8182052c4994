-- The text of what a check answers.
use Rattle.std.specs.Prelude.{ℕ, true, false, List, [], ◌∷◌, ◌++◌, codes}
use Rattle.std.specs.Fmt.{decimal}
use Rattle.std.specs.List.{flat_map}
use Rattle.pgas_base.specs.Pointers.{Pointer}
use Rattle.epoch_laws.specs.declared.events.EpochEvent.{EpochEvent}
use Rattle.epoch_laws.specs.declared.events.EpochEvent.TheVariants.{Registered, Unregistered, Pinned, Unpinned, Given, Shown, Held, Deferred, Freed, Returned}
use Rattle.epoch_laws.specs.declared.events.Item.{Item}
use Rattle.epoch_laws.specs.declared.events.Item.TheVariants.{Event, Advance, Claim, Leave}
use Rattle.epoch_laws.specs.declared.tokens.Token.{Token}
use Rattle.run_text.specs.declared.checking.RunEnd.{RunEnd}
use Rattle.run_text.specs.declared.checking.RunEnd.TheVariants.{Run, NotRun}

-- locale.number
abbrev pub token_word : Token → List ℕ
token_word t = decimal t.locale ++ 46 ∷ decimal t.number

-- locale.index.count
abbrev pub pointer_word : Pointer → List ℕ
pointer_word p = decimal p.locale ++ 46 ∷ (decimal p.index ++ 46 ∷ decimal p.count)

-- the tag of a deferral alone is told
abbrev pub event_words : EpochEvent → ℕ → List ℕ
event_words (Registered t) tag = codes " registered " ++ token_word t
event_words (Unregistered t) tag = codes " unregistered " ++ token_word t
event_words (Pinned t) tag = codes " pinned " ++ token_word t
event_words (Unpinned t) tag = codes " unpinned " ++ token_word t
event_words (Given p) tag = codes " given " ++ pointer_word p
event_words (Shown p) tag = codes " shown " ++ pointer_word p
event_words (Returned p) tag = codes " returned " ++ pointer_word p
event_words (Freed p) tag = codes " freed " ++ pointer_word p
event_words (Held t p) tag = codes " held " ++ token_word t ++ 32 ∷ pointer_word p
event_words (Deferred t p) tag = codes " deferred " ++ token_word t ++ 32 ∷ pointer_word p ++ 32 ∷ decimal tag

-- the number of the seat, and the item
abbrev pub item_words : Item → List ℕ
item_words (Event c event tag) = decimal c ++ event_words event tag
item_words (Advance c epoch) = decimal c ++ codes " advance " ++ decimal epoch
item_words (Claim c false) = decimal c ++ codes " claim local"
item_words (Claim c true) = decimal c ++ codes " claim global"
item_words (Leave c false) = decimal c ++ codes " leave local"
item_words (Leave c true) = decimal c ++ codes " leave global"

abbrev pub item_line : Item → List ℕ
item_line item = item_words item ++ 10 ∷ []

abbrev pub items_text : List Item → List ℕ
items_text items = flat_map item_line items

-- how the list of so many steps ends
abbrev pub end_words : RunEnd → ℕ → List ℕ
end_words Run steps = codes "# run " ++ decimal steps
end_words (NotRun line need word) steps = codes "# not a run: line " ++ decimal line ++ codes " need " ++ decimal need ++ codes " word " ++ decimal word

abbrev pub end_line : RunEnd → ℕ → List ℕ
end_line end steps = end_words end steps ++ 10 ∷ []

abbrev pub checked_text : List Item → RunEnd → ℕ → List ℕ
checked_text items end steps = items_text items ++ end_line end steps
