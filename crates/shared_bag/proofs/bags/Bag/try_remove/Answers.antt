use Rattle.shared_bag.proofs.PassClauses.{remove_history, remove_alone}
use Rattle.seq_objects.specs.Meanings.{BagOpens}
use Rattle.seq_objects.specs.BagSteps.{BagStep}
use Rattle.pass_table.proofs.Going.{goes_begins}
use Rattle.shared_bag.specs.Rule.{bag_terms}
use Rattle.shared_bag.proofs.bags.Bag.try_remove.Goals as goal

pub returns-clause-history : goal.returns-clause-history
returns-clause-history g c = remove_history g.K.Keeps.keeps _ _ _ _ _ c.remove_once.ensures.tries.goes

pub returns-clause-alone : goal.returns-clause-alone
returns-clause-alone g c = remove_alone g.K.Keeps.keeps _ _ _ _ c.remove_once.ensures.tries

pub returns-clause-grows : goal.returns-clause-grows
returns-clause-grows g c = goes_begins (bag_terms g.K.Keeps.keeps) BagOpens BagStep _ _ _ _ _ c.remove_once.ensures.tries.goes
