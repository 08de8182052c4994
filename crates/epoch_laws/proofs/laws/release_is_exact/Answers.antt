use Rattle.epoch_laws.proofs.Theorem.{release_is_exact}
use Rattle.epoch_laws.proofs.laws.release_is_exact.Goals as goal

pub returns : goal.returns
returns c = release_is_exact
