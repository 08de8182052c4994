use Rattle.shared_bag.proofs.KindSteps.{may_look}
use Rattle.shared_bag.proofs.bags.Bag.look_at_count.Goals as goal

pub load-requires-clause-may : goal.load-requires-clause-may
load-requires-clause-may g c = may_look g.K.Keeps.keeps _ _ _ _ _ _
