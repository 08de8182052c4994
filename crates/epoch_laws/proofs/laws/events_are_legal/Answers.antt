use Rattle.epoch_laws.proofs.Theorem.{events_are_legal}
use Rattle.epoch_laws.proofs.laws.events_are_legal.Goals as goal

pub returns : goal.returns
returns c = events_are_legal
