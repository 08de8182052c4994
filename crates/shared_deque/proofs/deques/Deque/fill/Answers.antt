use Rattle.shared_deque.proofs.deques.Deque.fill.Goals as goal

pub returns-clause-fills : goal.returns-clause-fills
returns-clause-fills g c = (c.store_in_cell.new.seat.seat.me, c.store_in_cell.ensures.does, c.leave.ensures.does)
