use Rattle.std.proofs.Common.{[]}
use Rattle.shared_bag.proofs.bags.Bag.give_kept_back.Goals as goal

pub give_back-requires-clause-holds : goal.give_back-requires-clause-holds
give_back-requires-clause-holds g c = ([], [], (rw c.in-Some.is at c.requires.holds).0)

pub returns-in-Some-clause-rests : goal.returns-in-Some-clause-rests
returns-in-Some-clause-rests g c = let is = c.give_back.ensures.leaves.holds [] [] (rw c.in-Some.is at c.requires.holds).0 in (is.0, is.1)
