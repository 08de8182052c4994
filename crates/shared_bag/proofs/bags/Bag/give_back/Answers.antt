use Rattle.shared_bag.proofs.TurnSteps.{is_back, leaves_found}
use Rattle.shared_bag.proofs.bags.Bag.give_back.Goals as goal

pub leave_found-requires-clause-back : goal.leave_found-requires-clause-back
leave_found-requires-clause-back g c = is_back g.K.Keeps.keeps c.args.self.now.table.table.shared.key c.args.segment c.args.moved c.args.seat.now.seat.me _ c.move_back.ensures.back c.requires.holds

pub returns-clause-leaves : goal.returns-clause-leaves
returns-clause-leaves g c = leaves_found g.K.Keeps.keeps _ c.args.segment c.args.moved c.args.seat.now.seat.me _ c.move_back.ensures.back c.requires.holds _ c.leave_found.ensures.does
