use Rattle.shared_bag.proofs.Doings.{does_of}
use Rattle.shared_bag.proofs.bags.Bag.count_down.Goals as goal

pub returns-clause-does : goal.returns-clause-does
returns-clause-does g c = does_of g.K.Keeps.keeps c.args.self.now.table.table.shared.key g.W.Choice.kind c.args.seat.now.seat.me c.fetch_sub.result c.fetch_sub.new.seat.seat.me c.fetch_sub.ensures.steps
