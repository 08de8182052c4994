use Rattle.std.proofs.Common.{arith}
use Rattle.shared_deque.proofs.KindSteps.{may_claim}
use Rattle.shared_deque.proofs.deques.Deque.claim.Goals as goal

pub exchange-requires-clause-may : goal.exchange-requires-clause-may
exchange-requires-clause-may g c =
    may_claim g.K.Keeps.keeps _ _ c.args.seat.now.seat.me c.args.aim c.args.ends c.args.cell _ _ c.requires.row.0 c.requires.cell.0 c.requires.cell.1 c.owner_at.ensures (omega arith)
