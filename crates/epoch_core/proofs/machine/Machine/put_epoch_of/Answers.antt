use Rattle.epoch_core.proofs.Stores.{epoch_of_stored}
use Rattle.epoch_core.proofs.machine.Machine.put_epoch_of.Goals as goal

pub returns-clause-shown : goal.returns-clause-shown
returns-clause-shown c s sh inside low = epoch_of_stored _ s sh c.write.new.words c.args.locale c.args.word inside low c.write.ensures
