-- The items of a run: its events, and what its advances and elections say of the release of objects.
use Rattle.std.specs.Prelude.{◌≡◌, ◌≢◌, ◌≤◌, ℕ, ◌+◌, true, if◌then◌else◌, List, [], ◌∷◌, ◌++◌, ◌⊎◌, Option, Some, None, fold}
use Rattle.epoch_laws.specs.declared.events.EpochEvent.TheVariants.{Deferred, Freed}
use Rattle.epoch_laws.specs.declared.events.Item.{Item}
use Rattle.epoch_laws.specs.declared.events.Item.TheVariants.{Event, Advance, Claim, Leave}
use Rattle.epoch_laws.specs.Places.{Place, place_of, same_place}
use Rattle.epoch_laws.specs.Histories.{Happening, standing, IsDeferredAt}

-- the events among the items, each with its seat as the caller
unfoldable pub happenings : List Item → List Happening
happenings [] = []
happenings (Event c event tag ∷ items) = record { caller = c; event = event } ∷ happenings items
happenings (_ ∷ items) = happenings items

unfoldable pub epoch_after : ℕ → Item → ℕ
epoch_after epoch (Advance c e) = epoch + 1
epoch_after epoch _ = epoch

-- the epoch of these first items of a run: the first epoch and one for each advance
unfoldable pub epoch_of : ℕ → List Item → ℕ
epoch_of first items = fold epoch_after first items

unfoldable pub advancer_after : Option ℕ → Item → Option ℕ
advancer_after by (Advance c e) = Some c
advancer_after by _ = by

-- the seat that made the last advance
unfoldable pub last_advancer : List Item → Option ℕ
last_advancer items = fold advancer_after None items

unfoldable pub claimant_after : Option ℕ → Item → Option ℕ
claimant_after by (Claim c true) = Some c
claimant_after by (Leave c true) = None
claimant_after by _ = by

-- the seat that has claimed the global election and not left it
unfoldable pub claimant : List Item → Option ℕ
claimant items = fold claimant_after None items

unfoldable pub releaser_after : Option ℕ → Item → Option ℕ
releaser_after by (Advance c e) = Some c
releaser_after by (Leave c true) = None
releaser_after by _ = by

-- the seat that made the last advance, until the global election is left
unfoldable pub releaser : List Item → Option ℕ
releaser items = fold releaser_after None items

unfoldable pub tag_after : Place → ℕ → Item → ℕ
tag_after p tag (Event c (Deferred t q) new) = if same_place p (place_of q) then new else tag
tag_after p tag _ = tag

-- the tag of the last deferral of the object there
unfoldable pub last_tag : Place → List Item → ℕ
last_tag p items = fold (tag_after p) 0 items

-- The tag of a deferral is the epoch of the items before it, or one less; it is the epoch itself where the last advance is by the same
-- seat, or there is none
abbrev pub IsTag : ℕ → List Item → ℕ → ℕ → Type 0
IsTag first items c tag =
    (tag ≡ epoch_of first items) ⊎ ((tag + 1 ≡ epoch_of first items) × ((d : ℕ) × (last_advancer items ≡ Some d) × (d ≢ c)))

-- Where no seat is between its advance and the leave that follows it, each object that was deferred with a tag three below the epoch, or less,
-- has been released: the deferred ones have greater tags
abbrev pub AllReleased : ℕ → ℕ → List Item → Type 0
AllReleased first count items =
    releaser items ≡ None
    → (p : Place) (i n : ℕ)
    → standing count p (happenings items) ≡ record { condition = IsDeferredAt i; count = n }
    → epoch_of first items ≤ last_tag p items + 2

-- what an item needs of those before it
abbrev pub IsExact : ℕ → List Item → Item → Type 0
IsExact first items (Advance c e) = (e ≡ epoch_of first items + 1) × (claimant items ≡ Some c)
IsExact first items (Claim c true) = claimant items ≡ None
IsExact first items (Leave c true) = claimant items ≡ Some c
IsExact first items (Event c (Deferred t q) tag) = IsTag first items c tag
IsExact first items (Event c (Freed q) tag) = (releaser items ≡ Some c) × (last_tag (place_of q) items + 3 ≡ epoch_of first items)
IsExact first items _ = Unit {0}

-- after the first items each of the second meets its need, and at each moment what has to be released is released
abbrev pub ReleasesFrom : ℕ → ℕ → List Item → List Item → Type 0
ReleasesFrom first count before [] = AllReleased first count before
ReleasesFrom first count before (x ∷ rest) =
    AllReleased first count before × IsExact first before x × ReleasesFrom first count (before ++ x ∷ []) rest

-- The k-th advance is to k more than the first epoch, by the seat that has claimed the global election. Each object is freed by the seat of the
-- last advance, which hasn't left that election, and was deferred with a tag three below the epoch. Once it is left, no object is still
-- deferred with such a tag
abbrev pub IsExactRelease : ℕ → ℕ → List Item → Type 0
IsExactRelease first count items = ReleasesFrom first count [] items
