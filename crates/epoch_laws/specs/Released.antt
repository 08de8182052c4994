-- What was released since the last advance.
use Rattle.std.specs.Prelude.{List, [], ◌∷◌, fold}
use Rattle.epoch_laws.specs.declared.events.EpochEvent.TheVariants.{Freed}
use Rattle.epoch_laws.specs.declared.events.Item.{Item}
use Rattle.epoch_laws.specs.declared.events.Item.TheVariants.{Event, Advance}
use Rattle.epoch_laws.specs.Places.{Place, place_of}

-- the objects that were freed since the last advance, once this is listed
abbrev pub freed_after : List Place → Item → List Place
freed_after places (Event c (Freed q) tag) = place_of q ∷ places
freed_after places (Advance c e) = []
freed_after places _ = places

-- the objects that were freed since the last advance, the last one first
unfoldable pub freed_since : List Item → List Place
freed_since items = fold freed_after [] items
