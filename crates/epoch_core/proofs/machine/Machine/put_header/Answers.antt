use Rattle.std.proofs.Common.{slice_set, ap}
use Rattle.epoch_core.proofs.Stores.{header_stored}
use Rattle.epoch_core.proofs.machine.Machine.put_header.Goals as goal

pub returns-then-at-len-clause-shown : goal.returns-then-at-len-clause-shown
returns-then-at-len-clause-shown c s sh inside = header_stored _ s sh _ _ _ inside (ap (λ n. slice_set c.args.self.now.headers.items n (record { count = c.args.count; state = c.args.state })) c.object_at-at.ensures)
