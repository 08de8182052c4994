use Rattle.std.proofs.Common.{◌-◌}
use Rattle.std.specs.List.{range_with_len}
use Rattle.pass_table.specs.Passes.{IsSeatOf, me_of}
use Rattle.epoch_manager.specs.Managers.{plan_of}
use Rattle.epoch_manager.specs.TakeSeats.{Misses}
use Rattle.epoch_manager.proofs.managers.Manager.try_range.Given as goal

abbrev pub invariant-loop-locale : goal.invariant-loop-locale
invariant-loop-locale g l = record {
  seat : IsSeatOf l.self.words.table l.seat;
  misses : Misses g.C.Client.terms g.C.Object.Object.opens g.C.Object.Object.step (plan_of l.self) (range_with_len l.from (l.locale - l.from)) (me_of l.fn.seat) (me_of l.seat) l.spent l.free;
}
