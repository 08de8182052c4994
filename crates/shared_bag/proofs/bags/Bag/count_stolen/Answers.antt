use Rattle.shared_bag.proofs.HandSteps.{may_steal_in, does_steal}
use Rattle.shared_bag.proofs.bags.Bag.count_stolen.Goals as goal

pub count_down-requires-clause-may : goal.count_down-requires-clause-may
count_down-requires-clause-may g c =
    let held = c.requires.held in
    may_steal_in g.K.Keeps.keeps _ _ _ _ _ c.args.own.now.items c.args.left.now.items c.args.item _ _ held.0 held.1 held.2 c.requires.kind held.3 held.4 held.5 held.6

pub returns-clause-does : goal.returns-clause-does
returns-clause-does g c =
    let held = c.requires.held in
    does_steal g.K.Keeps.keeps c.args.self.now.table.table.shared.key _ c.args.own.now.items c.args.left.now.items c.args.item c.count_down.result c.args.seat.now.seat.me _ held.0 held.1 held.2 c.requires.kind held.3 held.4 held.5 c.count_down.ensures.does
