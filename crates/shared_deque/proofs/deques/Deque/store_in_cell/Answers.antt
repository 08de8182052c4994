use Rattle.shared_deque.proofs.KindSteps.{may_store}
use Rattle.shared_deque.proofs.deques.Deque.store_in_cell.Goals as goal

pub store-requires-clause-may : goal.store-requires-clause-may
store-requires-clause-may g c = may_store g.K.Keeps.keeps _ _ c.args.seat.now.seat.me c.args.cell c.args.item _ c.requires.row.0 c.value_at.ensures
