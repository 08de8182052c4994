use Rattle.seq_objects.specs.Meanings.{DequeOpens, DequeSteps}
use Rattle.pass_table.proofs.Going.{tried_none}
use Rattle.shared_deque.specs.declared.sides.Aim.TheVariants.{Pop}
use Rattle.shared_deque.specs.Aims.{call_of}
use Rattle.shared_deque.specs.Rule.{deque_terms}
use Rattle.shared_deque.specs.Answers.{IsBusyPop}
use Rattle.shared_deque.proofs.WaitSteps.{pop_waits, pop_tried}
use Rattle.shared_deque.proofs.deques.Deque.pop_until_done.Goals as goal

pub loop-init : goal.loop-init
loop-init g c = record { seat = c.requires.seat; rests = c.requires.rests; tried = tried_none (deque_terms g.K.Keeps.keeps) DequeOpens DequeSteps c.args.self.now.table.table.shared.key (IsBusyPop c.args.self.now.table.table.shared.key.capacity c.args.self.now.table.table.shared.key.callers c.args.seat.now.seat.me.0.number (call_of (Pop c.args.side))) c.args.seat.now.seat.me.0 }

pub returns-in-Ok-clause-waits : goal.returns-in-Ok-clause-waits
returns-in-Ok-clause-waits g c = pop_waits g.K.Keeps.keeps c.args.self.now.table.table.shared.key (call_of (Pop c.args.side)) c.args.seat.now.seat.me.0 c.loop.seat.seat.me.0 _ c.in-Ok.taken c.loop.invariant.tried c.in-Ok.ensures.tries

pub loop-preserved : goal.loop-preserved
loop-preserved g c = record {
  seat = c.in-Err.ensures.seat;
  rests = c.in-Err.ensures.rests;
  tried = pop_tried g.K.Keeps.keeps c.args.self.now.table.table.shared.key (call_of (Pop c.args.side)) c.args.seat.now.seat.me.0 c.loop.seat.seat.me.0 _ _ c.loop.invariant.tried c.in-Err.ensures.tries;
}
