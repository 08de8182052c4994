use Rattle.seq_objects.specs.BagSteps.{BagStep}
use Rattle.seq_objects.specs.Meanings.{BagOpens}
use Rattle.pass_table.specs.Passes.{IsSeatOf, IsResting, view_of, plan_of}
use Rattle.pass_table.specs.Steps.{HasTried}
use Rattle.shared_bag.specs.Rule.{bag_terms}
use Rattle.shared_bag.specs.Answers.{IsBusyAdd}
use Rattle.shared_bag.proofs.bags.Bag.add_until_done.Given as goal

abbrev pub invariant-loop : goal.invariant-loop
invariant-loop g l =
    let plan = plan_of l.self.table in record {
      seat : IsSeatOf l.self.table l.seat;
      rests : IsResting l.seat;
      tried : HasTried (bag_terms g.K.Keeps.keeps) BagOpens BagStep plan (IsBusyAdd plan.shape (view_of l.fn.seat).number) (view_of l.fn.seat) (view_of l.seat);
    }
