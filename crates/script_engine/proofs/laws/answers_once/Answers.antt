use Rattle.script_engine.proofs.Ordered.{once}
use Rattle.script_engine.proofs.laws.answers_once.Goals as goal

pub returns : goal.returns
returns c = once
