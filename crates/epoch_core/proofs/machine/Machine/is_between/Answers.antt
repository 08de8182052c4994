use Rattle.std.proofs.Common.{◌<◌, ap, sym, subst, ◌∙◌}
use Rattle.epoch_laws.specs.Seats.{Seat}
use Rattle.epoch_core.proofs.Decided.{tested_as}
use Rattle.epoch_core.proofs.Empties.{between_as, between_so}
use Rattle.epoch_core.proofs.SeatStores.{seat_read, counts_read, low_read}
use Rattle.epoch_core.proofs.machine.Machine.is_between.Goals as goal

pub returns : goal.returns
returns c s sh =
    let low = low_read _ s sh c.args.seat c.requires in
    let own = seat_read _ s sh c.args.seat c.index.result.now low c.index.ensures in
    let counts = counts_read _ s sh c.args.seat c.index.result.now low c.index.ensures in
    tested_as _ _ _ _ _ _ c.may_collect-met.ensures
    (λ h. (ap (λ (q : Seat). q.phase) own.same ∙ h.0, between_as _ s sh c.args.seat c.index.result.now low own counts h.1, subst (λ n. (s.seat c.args.seat).reclaim.collected < n) (sym (ap (λ d. d.locales) sh.shape)) (subst (λ n. n < c.args.self.now.shape.locales) (sym (ap (λ (q : Seat). q.reclaim.collected) own.same)) h.2)))
    (λ h. (sym (ap (λ (q : Seat). q.phase) own.same) ∙ h.0, between_so _ s sh c.args.seat c.index.result.now low own counts h.1, subst (λ n. n < c.args.self.now.shape.locales) (ap (λ (q : Seat). q.reclaim.collected) own.same) (subst (λ n. (s.seat c.args.seat).reclaim.collected < n) (ap (λ d. d.locales) sh.shape) h.2)))
    (c.reclaims.ensures s sh)
