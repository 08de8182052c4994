use Rattle.std.proofs.Common.{sym, subst}
use Rattle.epoch_table.specs.Clients.{Steps, Switches}
use Rattle.epoch_manager.specs.Cells.{MayDo}
use Rattle.epoch_manager.specs.Managers.{knows}
use Rattle.epoch_manager.proofs.CellCalls.{shown_may_be_put}
use Rattle.epoch_tests.proofs.managers.one_cell.put_into_a_cell.Goals as goal

pub switch-requires-clause-allowed : goal.switch-requires-clause-allowed
switch-requires-clause-allowed c =
    let may = shown_may_be_put (knows c.args.pass.now) _ c.args.ptr 0 c.word-word.result c.show.ensures.knows c.word-word.ensures.value in
    subst (λ a. MayDo (knows c.show.new.pass) (Steps a (Switches c.word-word.result))) (sym c.first_cell.ensures) may
