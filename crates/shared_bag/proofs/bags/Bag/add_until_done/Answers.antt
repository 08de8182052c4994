use Rattle.std.proofs.Common.{Ok, Err}
use Rattle.pass_table.proofs.Going.{tried_none}
use Rattle.seq_objects.specs.BagSteps.{BagStep}
use Rattle.seq_objects.specs.Meanings.{BagOpens}
use Rattle.shared_bag.specs.declared.faults.AddFault.TheVariants.{Full, OutOfMemory}
use Rattle.shared_bag.specs.Rule.{bag_terms}
use Rattle.shared_bag.specs.Answers.{IsBusyAdd}
use Rattle.shared_bag.proofs.WaitSteps.{add_waits, add_tried}
use Rattle.shared_bag.proofs.bags.Bag.add_until_done.Goals as goal

pub loop-init : goal.loop-init
loop-init g c =
    let plan = c.args.self.now.table.table.shared.key in
    let v = c.args.seat.now.seat.me.0 in
    record { seat = c.requires.seat; rests = c.requires.rests; tried = tried_none (bag_terms g.K.Keeps.keeps) BagOpens BagStep plan (IsBusyAdd plan.shape v.number) v }

pub returns-in-Ok-clause-waits : goal.returns-in-Ok-clause-waits
returns-in-Ok-clause-waits g c = add_waits g.K.Keeps.keeps c.args.self.now.table.table.shared.key c.args.seat.now.seat.me.0 c.loop.seat.seat.me.0 _ c.args.item (Ok tt) (λ busy. busy) c.loop.invariant.tried c.in-Ok.ensures.tries

pub returns-in-Err-Full-clause-waits : goal.returns-in-Err-Full-clause-waits
returns-in-Err-Full-clause-waits g c =
    add_waits g.K.Keeps.keeps c.args.self.now.table.table.shared.key c.args.seat.now.seat.me.0 c.loop.seat.seat.me.0 _ c.args.item (Err Full) (λ busy. busy) c.loop.invariant.tried (rw c.in-Err-Full.field-0-is at c.in-Err-Full.ensures.tries)

pub returns-in-Err-OutOfMemory-clause-waits : goal.returns-in-Err-OutOfMemory-clause-waits
returns-in-Err-OutOfMemory-clause-waits g c =
    add_waits g.K.Keeps.keeps c.args.self.now.table.table.shared.key c.args.seat.now.seat.me.0 c.loop.seat.seat.me.0 _ c.args.item (Err OutOfMemory) (λ busy. busy) c.loop.invariant.tried (rw c.in-Err-OutOfMemory.field-0-is at c.in-Err-OutOfMemory.ensures.tries)

pub loop-preserved : goal.loop-preserved
loop-preserved g c = record {
  seat = c.in-Err-Busy.ensures.seat;
  rests = c.in-Err-Busy.ensures.rests;
  tried = add_tried g.K.Keeps.keeps c.args.self.now.table.table.shared.key c.args.seat.now.seat.me.0 c.loop.seat.seat.me.0 _ c.args.item c.loop.invariant.tried (rw c.in-Err-Busy.field-0-is at c.in-Err-Busy.ensures.tries);
}
