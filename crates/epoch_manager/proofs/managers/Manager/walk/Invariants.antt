use Rattle.pass_table.specs.Passes.{IsSeatOf, me_of}
use Rattle.epoch_manager.specs.Managers.{plan_of}
use Rattle.epoch_manager.specs.TakeSeats.{Waits}
use Rattle.epoch_manager.proofs.managers.Manager.walk.Given as goal

abbrev pub invariant-loop : goal.invariant-loop
invariant-loop g l = record {
  seat : IsSeatOf l.self.words.table l.seat;
  waits : Waits g.C.Client.terms g.C.Object.Object.opens g.C.Object.Object.step (plan_of l.self) (me_of l.fn.seat) (me_of l.seat) l.fn.ptr;
}
