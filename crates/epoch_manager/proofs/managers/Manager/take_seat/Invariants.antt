use Rattle.pass_table.specs.Passes.{IsSeatOf, me_of}
use Rattle.epoch_manager.specs.Managers.{plan_of}
use Rattle.epoch_manager.proofs.Rounds.{HasGone}
use Rattle.epoch_manager.proofs.managers.Manager.take_seat.Given as goal

abbrev pub invariant-loop : goal.invariant-loop
invariant-loop g l = record {
  seat : IsSeatOf l.self.words.table l.seat;
  gone : HasGone g.C.Client.terms g.C.Object.Object.opens g.C.Object.Object.step (plan_of l.self) l.locale (me_of l.fn.seat) (me_of l.seat);
}
