use Rattle.shared_deque.proofs.KindSteps.{may_look_at_ends}
use Rattle.shared_deque.proofs.deques.Deque.look_at_ends.Goals as goal

pub load-requires-clause-may : goal.load-requires-clause-may
load-requires-clause-may g c = may_look_at_ends g.K.Keeps.keeps _ _ c.args.seat.now.seat.me c.args.aim c.requires.row.0 c.requires.kept
