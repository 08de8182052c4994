use Rattle.std.proofs.Common.{sym, ◌∙◌}
use Rattle.epoch_core.specs.declared.marks.Role.TheVariants.{Hand}
use Rattle.epoch_core.proofs.Decided.{tested_as}
use Rattle.epoch_core.proofs.Empties.{empty_if_none, none_if_empty, leaves_as, leaves_so}
use Rattle.epoch_core.proofs.SeatStores.{seat_read, counts_read, low_read}
use Rattle.epoch_core.proofs.machine.Machine.is_done.Goals as goal

pub returns : goal.returns
returns c s sh =
    let low = low_read _ s sh c.args.seat c.requires in
    let own = seat_read _ s sh c.args.seat c.index.result.now low c.index.ensures in
    let counts = counts_read _ s sh c.args.seat c.index.result.now low c.index.ensures in
    tested_as _ _ _ _ _ _ c.may_leave-met.ensures
    (λ h. (leaves_as _ s sh c.args.seat c.index.result.now low own counts h.0, empty_if_none _ s sh c.args.seat Hand low (sym counts.0 ∙ h.1)))
    (λ h. (leaves_so _ s sh c.args.seat c.index.result.now low own counts h.0, counts.0 ∙ none_if_empty _ s sh c.args.seat Hand low h.1))
    (c.reclaims.ensures s sh)
