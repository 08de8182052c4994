use Rattle.shared_deque.proofs.KindSteps.{may_leave}
use Rattle.shared_deque.proofs.deques.Deque.leave.Goals as goal

pub store-requires-clause-may : goal.store-requires-clause-may
store-requires-clause-may g c = may_leave g.K.Keeps.keeps _ _ c.args.seat.now.seat.me c.args.cell _ c.requires.row.0 c.owner_at.ensures
