use Rattle.std.proofs.Common.{slice_set, ap, ◌∙◌}
use Rattle.epoch_core.proofs.Stores.{next_stored}
use Rattle.epoch_core.proofs.machine.Machine.put_next.Goals as goal

pub returns-clause-shown : goal.returns-clause-shown
returns-clause-shown c s sh inside = next_stored _ s sh c.write.new.words _ c.args.word inside (c.write.ensures ∙ ap (λ n. slice_set c.args.self.now.next.items n c.args.word) c.object_at-at.ensures)
