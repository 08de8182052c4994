use Rattle.pass_table.specs.Passes.{IsSeatOf, me_of}
use Rattle.epoch_manager.specs.Managers.{plan_of}
use Rattle.epoch_manager.specs.TakeSeats.{Scans}
use Rattle.epoch_manager.proofs.managers.Manager.scan.Given as goal

abbrev pub invariant-loop-number : goal.invariant-loop-number
invariant-loop-number g l = record {
  seat : IsSeatOf l.self.words.table l.seat;
  scans : Scans g.C.Client.terms g.C.Object.Object.opens g.C.Object.Object.step (plan_of l.self) l.locale l.number (me_of l.fn.seat) (me_of l.seat) l.free;
}
