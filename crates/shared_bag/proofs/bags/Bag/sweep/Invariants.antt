use Rattle.pass_table.specs.Passes.{IsSeatOf, me_of, view_of, plan_of}
use Rattle.shared_bag.specs.Turns.{IsKeeping}
use Rattle.shared_bag.proofs.SoFar.{SweepsSoFar}
use Rattle.shared_bag.proofs.bags.Bag.sweep.Given as goal

abbrev pub invariant-loop-place : goal.invariant-loop-place
invariant-loop-place g l = record {
  seat : IsSeatOf l.self.table l.seat;
  keeping : IsKeeping (plan_of l.self.table).shape l.kept (me_of l.seat);
  so_far : SweepsSoFar g.K.Keeps.keeps (plan_of l.self.table) (view_of l.fn.seat) (view_of l.seat) l.place l.kept;
}
