use Rattle.std.proofs.Common.{◌≡◌, ◌<◌, ℕ, None}
use Rattle.pass_table.specs.Passes.{IsSeatOf, me_of}
use Rattle.epoch_manager.specs.Gathering.{GathersOn}
use Rattle.epoch_manager.specs.HomeChains.{chain_of}
use Rattle.epoch_manager.specs.Managers.{plan_of}
use Rattle.epoch_manager.proofs.managers.Manager.hand_over_all.Given as goal

abbrev pub invariant-loop-locale : goal.invariant-loop-locale
invariant-loop-locale g l = record {
  seat : IsSeatOf l.self.words.table l.seat;
  gathers : GathersOn g.C.Client.terms g.C.Object.Object.opens g.C.Object.Object.step (plan_of l.self) (chain_of l.homes.chains) (me_of l.fn.seat) (me_of l.seat);
  gone : (k : ℕ) → k < l.locale → chain_of l.homes.chains k ≡ None;
}
