use Rattle.std.proofs.Common.{Ok, Err, Result}
use Rattle.pass_table.proofs.Going.{tried_none}
use Rattle.seq_objects.specs.Meanings.{DequeOpens, DequeSteps}
use Rattle.shared_deque.specs.declared.faults.Full.{Full as FullDeque}
use Rattle.shared_deque.specs.declared.sides.Aim.TheVariants.{Push}
use Rattle.shared_deque.specs.Aims.{call_of}
use Rattle.shared_deque.specs.Rule.{deque_terms}
use Rattle.shared_deque.specs.Answers.{IsBusyPush}
use Rattle.shared_deque.proofs.WaitSteps.{push_waits, push_tried}
use Rattle.shared_deque.proofs.deques.Deque.push_until_done.Goals as goal

pub loop-init : goal.loop-init
loop-init g c = record { seat = c.requires.seat; rests = c.requires.rests; tried = tried_none (deque_terms g.K.Keeps.keeps) DequeOpens DequeSteps c.args.self.now.table.table.shared.key (IsBusyPush c.args.self.now.table.table.shared.key.capacity c.args.self.now.table.table.shared.key.callers c.args.seat.now.seat.me.0.number (call_of (Push c.args.side c.args.item))) c.args.seat.now.seat.me.0 }

pub returns-in-Ok-clause-waits : goal.returns-in-Ok-clause-waits
returns-in-Ok-clause-waits g c = push_waits g.K.Keeps.keeps c.args.self.now.table.table.shared.key (call_of (Push c.args.side c.args.item)) c.args.seat.now.seat.me.0 c.loop.seat.seat.me.0 _ (Ok tt) c.loop.invariant.tried c.in-Ok.ensures.tries

pub returns-in-Err-Full-clause-waits : goal.returns-in-Err-Full-clause-waits
returns-in-Err-Full-clause-waits g c =
    let full : Result Unit FullDeque = Err record {} in
    push_waits g.K.Keeps.keeps c.args.self.now.table.table.shared.key (call_of (Push c.args.side c.args.item)) c.args.seat.now.seat.me.0 c.loop.seat.seat.me.0 _ full c.loop.invariant.tried (rw c.in-Err-Full.field-0-is at c.in-Err-Full.ensures.tries)

pub loop-preserved : goal.loop-preserved
loop-preserved g c = record {
  seat = c.in-Err-Busy.ensures.seat;
  rests = c.in-Err-Busy.ensures.rests;
  tried = push_tried g.K.Keeps.keeps c.args.self.now.table.table.shared.key (call_of (Push c.args.side c.args.item)) c.args.seat.now.seat.me.0 c.loop.seat.seat.me.0 _ _ c.loop.invariant.tried (rw c.in-Err-Busy.field-0-is at c.in-Err-Busy.ensures.tries);
}
