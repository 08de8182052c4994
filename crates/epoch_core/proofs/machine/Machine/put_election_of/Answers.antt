use Rattle.epoch_core.proofs.Stores.{election_of_stored}
use Rattle.epoch_core.proofs.machine.Machine.put_election_of.Goals as goal

pub returns-clause-shown : goal.returns-clause-shown
returns-clause-shown c s sh inside = election_of_stored _ s sh c.write.new.words c.args.locale c.args.word inside (c.write.ensures)
