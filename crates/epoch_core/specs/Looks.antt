-- What a look at a free header says.
use Rattle.pgas_base.specs.Pointers.{Pointer}
use Rattle.epoch_laws.specs.Places.{pointer_at}
use Rattle.epoch_core.specs.declared.seats.Looked.{Looked}
use Rattle.epoch_core.specs.Objects.{object_place}

abbrev pub looked_pointer : Looked → Pointer
looked_pointer look = pointer_at (object_place look.at) look.count
