use Rattle.shared_bag.proofs.LastStates.{first_shows}
use Rattle.shared_bag.proofs.bags.Bag.learn.Goals as goal

pub learn-requires-clause-first : goal.learn-requires-clause-first
learn-requires-clause-first g c = first_shows g.K.Keeps.keeps _
