-- When a running seat is between two lists, and when it may leave an election.
use Rattle.std.specs.Prelude.{◌≡◌, ℕ}
use Rattle.epoch_core.specs.declared.seats.Phase.{Phase}
use Rattle.epoch_core.specs.declared.seats.Phase.TheVariants.{LostGlobal, Stopped, Advanced, LeftGlobal}
use Rattle.epoch_core.specs.declared.seats.Reclaim.{Reclaim}

abbrev pub IsBetween : ℕ → Reclaim → Type 0
IsBetween locales reclaim = (reclaim.spread ≡ locales) × (reclaim.chain ≡ 0) × (reclaim.walked ≡ 0)

abbrev pub Leaves : ℕ → Phase → Reclaim → Type 0
Leaves locales LostGlobal reclaim = Unit {0}
Leaves locales Stopped reclaim = Unit {0}
Leaves locales LeftGlobal reclaim = Unit {0}
Leaves locales Advanced reclaim = IsBetween locales reclaim × (reclaim.collected ≡ locales)
Leaves locales _ reclaim = ⊥
