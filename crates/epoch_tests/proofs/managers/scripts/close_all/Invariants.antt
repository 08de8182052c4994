use Rattle.std.proofs.Common.{◌≡◌, ◌+◌, length, vec_len}
use Rattle.std.specs.List.{All}
use Rattle.epoch_tests.specs.Carrying.{Carries}
use Rattle.epoch_manager.specs.Cells.{cells_terms}
use Rattle.epoch_manager.specs.Opened.{AreOfOpening}
use Rattle.epoch_tests.proofs.managers.scripts.close_all.Given as goal

abbrev pub invariant-loop-caller : goal.invariant-loop-caller
invariant-loop-caller l = record {
  made : AreOfOpening cells_terms l.fn.manager l.passes.items;
  left : All (λ c. Carries l.fn.manager c.cells c.pass c.hand c.cut c.held) l.callers.items;
  count : length l.callers.items + length l.passes.items ≡ length l.fn.callers.items;
}

abbrev pub decreases-loop-caller : goal.decreases-loop-caller
decreases-loop-caller l = vec_len l.callers
