-- Where a running object is.
use Rattle.epoch_laws.specs.Places.{Place}
use Rattle.epoch_core.specs.declared.objects.Object.{Object}

abbrev pub object_place : Object → Place
object_place at = record { locale = at.locale; index = at.index }
