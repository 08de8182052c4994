use Rattle.std.proofs.Common.{slice_set, ap}
use Rattle.epoch_core.proofs.Stores.{tag_stored}
use Rattle.epoch_core.proofs.machine.Machine.put_tag.Goals as goal

pub returns-then-at-len-clause-shown : goal.returns-then-at-len-clause-shown
returns-then-at-len-clause-shown c s sh inside = tag_stored _ s sh _ _ _ inside (ap (λ n. slice_set c.args.self.now.tags.items n (c.args.tag)) c.object_at-at.ensures)
