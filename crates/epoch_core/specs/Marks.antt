-- What the marks of objects say of the lists of the seats.
use Rattle.std.specs.Prelude.{◌≡◌, ◌<◌, ◌==◌, ◌&&◌, ◌*◌, ℕ, Bool, true, false, List, length, slice_index_or, count_by}
use Rattle.pgas_base.specs.declared.shapes.Shape.{Shape}
use Rattle.epoch_laws.specs.Places.{Place, is_among}
use Rattle.epoch_laws.specs.Seats.{Seat}
use Rattle.epoch_laws.specs.States.{IsPlace}
use Rattle.epoch_core.specs.declared.marks.Role.{Role}
use Rattle.epoch_core.specs.declared.marks.Role.TheVariants.{Owner, Hand, Walker}
use Rattle.epoch_core.specs.declared.marks.Keeper.{Keeper}
use Rattle.epoch_core.specs.declared.marks.Keeper.TheVariants.{Nobody, Kept}
use Rattle.epoch_core.specs.declared.seats.Seat.{Seat as RunningSeat}
use Rattle.epoch_core.specs.Tables.{place_number}

abbrev pub same_role : Role → Role → Bool
same_role Owner Owner = true
same_role Hand Hand = true
same_role Walker Walker = true
same_role _ _ = false

-- the mark says that this seat has the object for this
abbrev pub is_kept : Role → ℕ → Keeper → Bool
is_kept role seat Nobody = false
is_kept role seat (Kept role' seat') = same_role role role' && (seat == seat')

-- the seat's list of this kind
abbrev pub list_of : Role → Seat → List Place
list_of Owner seat = seat.owned
list_of Hand seat = seat.hand
list_of Walker seat = seat.reclaim.walked

-- how many objects of the list a running seat counts; those that it owns it doesn't count
abbrev pub AreCounted : RunningSeat → ℕ → List Keeper → Type 0
AreCounted r seat keepers = (r.hand ≡ count_by (is_kept Hand seat) keepers) × (r.reclaim.walked ≡ count_by (is_kept Walker seat) keepers)

pub record Marked (shape : Shape) (seats : ℕ) (keepers : List Keeper) (seat : ℕ → Seat) : Type 0 where
  pub len : length keepers ≡ shape.locales * shape.objects
  pub kept : (role : Role) (c : ℕ) (p : Place) (d : Keeper) → c < seats → IsPlace shape p
      → is_among p (list_of role (seat c)) ≡ is_kept role c (slice_index_or keepers (place_number shape p) d)
  pub inside : (role : Role) (c : ℕ) (p : Place) → c < seats → is_among p (list_of role (seat c)) ≡ true → IsPlace shape p
