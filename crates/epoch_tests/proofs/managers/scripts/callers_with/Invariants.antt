use Rattle.std.proofs.Common.{◌≡◌, ◌+◌, length, vec_len}
use Rattle.std.specs.Prelude.{reverse}
use Rattle.std.specs.List.{All}
use Rattle.epoch_tests.specs.Carrying.{Carries}
use Rattle.epoch_manager.specs.Cells.{cells_terms}
use Rattle.epoch_manager.specs.Opened.{AreOfOpening}
use Rattle.epoch_tests.proofs.managers.scripts.callers_with.Given as goal

abbrev pub invariant-loop-pass : goal.invariant-loop-pass
invariant-loop-pass l = record {
  made : All (λ c. Carries l.manager c.cells c.pass c.hand c.cut c.held) (reverse l.callers.items);
  left : AreOfOpening cells_terms l.manager l.passes.items;
  count : length l.passes.items + length l.callers.items ≡ length l.fn.passes.items;
}

abbrev pub decreases-loop-pass : goal.decreases-loop-pass
decreases-loop-pass l = vec_len l.passes
