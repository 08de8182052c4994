use Rattle.std.proofs.Common.{[]}
use Rattle.shared_bag.proofs.bags.Bag.hand_kept_back.Goals as goal

pub hand_back-requires-clause-holds : goal.hand_back-requires-clause-holds
hand_back-requires-clause-holds g c = ([], [], (rw c.in-Some.is at c.requires.holds).0)

pub returns-in-Some-clause-rests : goal.returns-in-Some-clause-rests
returns-in-Some-clause-rests g c = let is = c.hand_back.ensures.leaves.holds [] [] (rw c.in-Some.is at c.requires.holds).0 in (is.0, is.1)
