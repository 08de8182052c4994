use Rattle.shared_deque.proofs.KindSteps.{may_exchange}
use Rattle.shared_deque.proofs.deques.Deque.exchange_ends.Goals as goal

pub exchange-requires-clause-may : goal.exchange-requires-clause-may
exchange-requires-clause-may g c = may_exchange g.K.Keeps.keeps _ _ c.args.seat.now.seat.me c.args.aim c.args.ends c.args.value _ c.requires.row.0 c.requires.kept c.requires.next
