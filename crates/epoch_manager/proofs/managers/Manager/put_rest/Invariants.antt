use Rattle.std.proofs.Common.{ℕ, Option}
use Rattle.pass_table.specs.Passes.{IsSeatOf, me_of}
use Rattle.epoch_manager.specs.Managers.{plan_of, shape_of}
use Rattle.epoch_manager.specs.TakeSeats.{HoldsRest, Reads}
use Rattle.epoch_manager.proofs.managers.Manager.put_rest.Given as goal

abbrev pub invariant-loop : goal.invariant-loop
invariant-loop g l = record {
  seat : IsSeatOf l.self.words.table l.seat;
  reads : (head : Option ℕ) × Reads g.C.Client.terms g.C.Object.Object.opens g.C.Object.Object.step (plan_of l.self) l.fn.first.locale (me_of l.fn.seat) (me_of l.seat) head;
  holds : HoldsRest (shape_of l.self) (me_of l.seat).0.part l.fn.first l.fn.top l.fn.tail;
}
