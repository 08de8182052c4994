use Rattle.seq_objects.specs.Meanings.{DequeOpens, DequeSteps}
use Rattle.pass_table.specs.Passes.{IsSeatOf, IsResting, view_of, plan_of}
use Rattle.pass_table.specs.Steps.{HasTried}
use Rattle.shared_deque.specs.declared.sides.Aim.TheVariants.{Pop}
use Rattle.shared_deque.specs.Aims.{call_of}
use Rattle.shared_deque.specs.Rule.{deque_terms}
use Rattle.shared_deque.specs.Answers.{IsBusyPop}
use Rattle.shared_deque.proofs.deques.Deque.pop_until_done.Given as goal

abbrev pub invariant-loop : goal.invariant-loop
invariant-loop g l =
    let plan = plan_of l.self.table in record {
      seat : IsSeatOf l.self.table l.seat;
      rests : IsResting l.seat;
      tried : HasTried (deque_terms g.K.Keeps.keeps) DequeOpens DequeSteps plan (IsBusyPop plan.capacity plan.callers (view_of l.fn.seat).number (call_of (Pop l.side))) (view_of l.fn.seat) (view_of l.seat);
    }
