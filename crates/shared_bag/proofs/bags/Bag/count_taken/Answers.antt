use Rattle.shared_bag.proofs.HandSteps.{may_take_in}
use Rattle.shared_bag.proofs.bags.Bag.count_taken.Goals as goal

pub count_down-requires-clause-may : goal.count_down-requires-clause-may
count_down-requires-clause-may g c = let held = c.requires.held in may_take_in g.K.Keeps.keeps _ _ _ _ _ _ held.0 held.1 held.2 held.3
