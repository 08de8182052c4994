use Rattle.std.proofs.Common.{◌≡◌, Some, subst}
use Rattle.epoch_table.specs.Clients.{Steps, Switches}
use Rattle.epoch_manager.specs.Cells.{knows_after}
use Rattle.epoch_manager.specs.Managers.{knows}
use Rattle.epoch_manager.proofs.CellCalls.{found_is_cut}
use Rattle.epoch_tests.proofs.managers.one_cell.defer_what_a_cell_names.Goals as goal

pub defer_delete-requires-clause-may : goal.defer_delete-requires-clause-may
defer_delete-requires-clause-may c =
    let knows_it = subst (λ a. knows c.switch-word.new.pass ≡ knows_after (knows c.args.pass.now) (Steps a (Switches 0)) c.switch-word.result) c.first_cell.ensures c.switch-word.ensures.knows in
    found_is_cut (knows c.args.pass.now) _ (Some c.in-Some.ptr) 0 _ knows_it c.in-Some.ensures.some c.in-Some.ensures.pointer
