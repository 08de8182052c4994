use Rattle.shared_bag.proofs.HandSteps.{may_put_in}
use Rattle.shared_bag.proofs.bags.Bag.count_put.Goals as goal

pub count_up-requires-clause-may : goal.count_up-requires-clause-may
count_up-requires-clause-may g c = let held = c.requires.held in may_put_in g.K.Keeps.keeps _ _ _ _ c.args.item _ _ held.0 held.1 held.2 held.3 held.4 c.requires.kept
