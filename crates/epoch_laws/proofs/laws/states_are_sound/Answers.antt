use Rattle.epoch_laws.proofs.Theorem.{states_are_sound}
use Rattle.epoch_laws.proofs.laws.states_are_sound.Goals as goal

pub returns : goal.returns
returns c = states_are_sound
