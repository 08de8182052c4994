use Rattle.std.proofs.Common.{◌≡◌, ◌≤◌}
use Rattle.epoch_manager.specs.Managers.{pass_opening}
use Rattle.epoch_tests.proofs.managers.homes.take_freed.Given as goal

abbrev pub invariant-loop : goal.invariant-loop
invariant-loop g l = record {
  opening : pass_opening l.pass ≡ pass_opening l.fn.pass;
  freed : l.freed ≤ l.counter;
}
