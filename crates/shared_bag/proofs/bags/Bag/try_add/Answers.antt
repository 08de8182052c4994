use Rattle.std.proofs.Common.{◌<◌, sym, subst, arith}
use Rattle.shared_bag.proofs.PassClauses.{add_history, add_alone, no_room}
use Rattle.seq_objects.specs.Meanings.{BagOpens}
use Rattle.seq_objects.specs.BagSteps.{BagStep}
use Rattle.pass_table.proofs.Going.{goes_begins}
use Rattle.shared_bag.specs.Rule.{bag_terms}
use Rattle.shared_bag.proofs.bags.Bag.try_add.Goals as goal

pub returns-clause-history : goal.returns-clause-history
returns-clause-history g c = add_history g.K.Keeps.keeps _ _ _ c.args.item _ _ c.add_once.ensures.tries.goes

pub returns-clause-alone : goal.returns-clause-alone
returns-clause-alone g c = add_alone g.K.Keeps.keeps _ _ _ c.args.item _ c.add_once.ensures.tries

pub returns-clause-room : goal.returns-clause-room
returns-clause-room g c =
    let b = c.args.self.now in
    no_room g.K.Keeps.keeps b.table.table.shared.key _ _ c.args.item _ (subst (λ s. 0 < s.segments) (sym b.planned) (omega (arith, b.shaped.segments.0))) c.add_once.ensures.tries

pub returns-clause-grows : goal.returns-clause-grows
returns-clause-grows g c = goes_begins (bag_terms g.K.Keeps.keeps) BagOpens BagStep _ _ _ _ _ c.add_once.ensures.tries.goes
