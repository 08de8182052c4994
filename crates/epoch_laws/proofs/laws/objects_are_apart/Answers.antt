use Rattle.epoch_laws.proofs.SoundRuns.{objects_are_apart}
use Rattle.epoch_laws.proofs.laws.objects_are_apart.Goals as goal

pub returns : goal.returns
returns c = objects_are_apart
