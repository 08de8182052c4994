use Rattle.std.proofs.Common.{arith}
use Rattle.shared_bag.proofs.KindSteps.{may_claim_at}
use Rattle.shared_bag.proofs.bags.Bag.claim.Goals as goal

pub exchange-requires-clause-may : goal.exchange-requires-clause-may
exchange-requires-clause-may g c = may_claim_at g.K.Keeps.keeps _ _ _ _ c.args.segment _ _ _ _ c.requires.segment c.requires.away c.turn_at.ensures (omega arith)
