use Rattle.shared_bag.proofs.TurnSteps.{gets, misses}
use Rattle.shared_bag.proofs.bags.Bag.get.Goals as goal

pub returns-clause-some : goal.returns-clause-some
returns-clause-some g c = gets g.K.Keeps.keeps _ c.args.segment c.args.seat.now.seat.me _ c.claim.result c.claim.ensures.rested c.claim.ensures.does _ c.move_out.result c.if-claim-ne0.false c.move_out.ensures.segment c.move_out.ensures.left

pub returns-then-claim-ne0-clause-none : goal.returns-then-claim-ne0-clause-none
returns-then-claim-ne0-clause-none g c = misses g.K.Keeps.keeps _ c.args.segment c.args.seat.now.seat.me _ c.claim.result c.claim.ensures.rested c.claim.ensures.does c.if-claim-ne0.true
