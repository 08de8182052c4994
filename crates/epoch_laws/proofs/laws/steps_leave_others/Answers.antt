use Rattle.epoch_laws.proofs.Frames.{steps_leave_others}
use Rattle.epoch_laws.proofs.laws.steps_leave_others.Goals as goal

pub returns : goal.returns
returns c = steps_leave_others
