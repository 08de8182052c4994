use Rattle.pass_table.specs.Passes.{IsSeatOf, IsResting, view_of, plan_of}
use Rattle.shared_bag.proofs.SoFar.{AddsSoFar}
use Rattle.shared_bag.proofs.bags.Bag.add_once.Given as goal

abbrev pub invariant-loop-place : goal.invariant-loop-place
invariant-loop-place g l = record {
  seat : IsSeatOf l.self.table l.seat;
  rests : IsResting l.seat;
  so_far : AddsSoFar g.K.Keeps.keeps (plan_of l.self.table) (view_of l.fn.seat) (view_of l.seat) l.place l.some_held;
}
