use Rattle.seq_objects.specs.BagSteps.{BagStep}
use Rattle.seq_objects.specs.Meanings.{BagOpens}
use Rattle.pass_table.proofs.Going.{tried_none}
use Rattle.shared_bag.specs.Rule.{bag_terms}
use Rattle.shared_bag.specs.Answers.{IsBusyRemove}
use Rattle.shared_bag.proofs.WaitSteps.{remove_waits, remove_tried}
use Rattle.shared_bag.proofs.bags.Bag.remove_until_done.Goals as goal

pub loop-init : goal.loop-init
loop-init g c =
    let plan = c.args.self.now.table.table.shared.key in
    let v = c.args.seat.now.seat.me.0 in
    record { seat = c.requires.seat; rests = c.requires.rests; tried = tried_none (bag_terms g.K.Keeps.keeps) BagOpens BagStep plan (IsBusyRemove plan.shape v.number) v }

pub returns-in-Ok-clause-waits : goal.returns-in-Ok-clause-waits
returns-in-Ok-clause-waits g c = remove_waits g.K.Keeps.keeps c.args.self.now.table.table.shared.key c.args.seat.now.seat.me.0 c.loop.seat.seat.me.0 _ c.in-Ok.taken c.loop.invariant.tried c.in-Ok.ensures.tries

pub loop-preserved : goal.loop-preserved
loop-preserved g c = record {
  seat = c.in-Err.ensures.seat;
  rests = c.in-Err.ensures.rests;
  tried = remove_tried g.K.Keeps.keeps c.args.self.now.table.table.shared.key c.args.seat.now.seat.me.0 c.loop.seat.seat.me.0 _ _ c.loop.invariant.tried c.in-Err.ensures.tries;
}
