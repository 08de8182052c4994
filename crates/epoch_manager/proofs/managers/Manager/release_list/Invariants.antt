use Rattle.std.proofs.Common.{◌≡◌, ◌+◌}
use Rattle.pass_table.specs.Passes.{IsSeatOf, me_of}
use Rattle.epoch_manager.specs.HomeChains.{chain_of}
use Rattle.epoch_manager.specs.Managers.{plan_of}
use Rattle.epoch_manager.specs.Releasing.{ReleasesList}
use Rattle.epoch_manager.proofs.managers.Manager.release_list.Given as goal

abbrev pub invariant-loop : goal.invariant-loop
invariant-loop g l = record {
  seat : IsSeatOf l.self.words.table l.seat;
  steps : l.count ≡ l.freed + l.counter;
  releases : ReleasesList g.C.Client.terms g.C.Object.Object.opens g.C.Object.Object.step (plan_of l.self) l.epoch l.locale l.freed l.word l.count (chain_of l.homes.chains) (me_of l.fn.seat) (me_of l.seat);
}
