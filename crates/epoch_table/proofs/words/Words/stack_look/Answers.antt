use Rattle.epoch_table.proofs.words.Words.stack_look.Goals as goal

pub load-requires-clause-at : goal.load-requires-clause-at
load-requires-clause-at g c = (c.requires.locale, c.stack_at.ensures c.args.self.now.shape)
