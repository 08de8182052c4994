use Rattle.std.proofs.Common.{refl}
use Rattle.epoch_table.proofs.words.Words.home_take.Goals as goal

pub swap-requires-clause-at : goal.swap-requires-clause-at
swap-requires-clause-at g c = (c.requires.locale, c.home_at.ensures c.args.self.now.shape, refl)
