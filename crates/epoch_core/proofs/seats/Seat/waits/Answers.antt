use Rattle.std.proofs.Common.{refl, ap}
use Rattle.std.specs.Option.{option_map}
use Rattle.epoch_laws.specs.Places.{place_of}
use Rattle.epoch_core.proofs.seats.Seat.waits.Goals as goal

pub returns-in-Some : goal.returns-in-Some
returns-in-Some c = (λ _. (_, ap (option_map place_of) c.in-Some.is), λ _. refl)
