use Rattle.shared_deque.proofs.KindSteps.{may_look_at_cell}
use Rattle.shared_deque.proofs.deques.Deque.look_at_cell.Goals as goal

pub load-requires-clause-may : goal.load-requires-clause-may
load-requires-clause-may g c = may_look_at_cell g.K.Keeps.keeps _ _ c.args.seat.now.seat.me c.args.aim c.args.ends c.args.cell _ c.requires.row.0 c.requires.cell.0 c.value_at.ensures
