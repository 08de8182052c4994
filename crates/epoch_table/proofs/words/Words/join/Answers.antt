use Rattle.epoch_table.proofs.MachineSteps.{first_shows}
use Rattle.epoch_table.proofs.words.Words.join.Goals as goal

pub learn-requires-clause-first : goal.learn-requires-clause-first
learn-requires-clause-first g c = first_shows g.C.Client.terms g.C.Object.Object.opens g.C.Object.Object.step _
