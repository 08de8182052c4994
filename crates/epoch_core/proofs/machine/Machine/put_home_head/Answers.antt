use Rattle.epoch_core.proofs.Stores.{home_head_stored}
use Rattle.epoch_core.proofs.machine.Machine.put_home_head.Goals as goal

pub returns-clause-shown : goal.returns-clause-shown
returns-clause-shown c s sh inside = home_head_stored _ s sh c.write.new.words c.args.locale c.args.word inside (c.write.ensures)
