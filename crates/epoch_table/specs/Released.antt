-- What a caller has released since its last advance.
use Rattle.std.specs.Prelude.{◌==◌, ℕ, if◌then◌else◌, List, [], fold}
use Rattle.pass_book.specs.declared.entries.Entry.{Entry}
use Rattle.epoch_laws.specs.declared.steps.Kind.{Kind}
use Rattle.epoch_laws.specs.declared.steps.Kind.TheVariants.{Release}
use Rattle.epoch_laws.specs.Locations.{IsDistinct}
use Rattle.epoch_laws.specs.Places.{Place}
use Rattle.epoch_laws.specs.Released.{freed_after}
use Rattle.epoch_table.specs.declared.events.Happens.{Happens}
use Rattle.epoch_table.specs.declared.events.Happens.TheVariants.{Lists, Enters}

module _ {Call Reply : Type 0} where
  -- the objects that the caller c has freed since its last advance, once this stands in the history
  abbrev pub released_after : ℕ → List Place → Entry (Happens Call Reply) (Unit {0}) → List Place
  released_after c places e = elim (e.call) [ Lists item ↦ if e.caller == c then freed_after places item else places | Enters call reply ↦ places ]

  -- these objects, the last one first
  unfoldable pub released_by : ℕ → List (Entry (Happens Call Reply) (Unit {0})) → List Place
  released_by c h = fold (released_after c) [] h

  -- a release leaves no object among them twice
  abbrev pub ReleasesOnce : ℕ → Kind → List (Entry (Happens Call Reply) (Unit {0})) → Type 0
  ReleasesOnce c (Release pointer) history = IsDistinct (released_by c history)
  ReleasesOnce c _ history = Unit {0}
