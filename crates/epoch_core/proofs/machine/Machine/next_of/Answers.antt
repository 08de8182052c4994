use Rattle.std.proofs.Common.{ap, ◌∙◌, slice_index}
use Rattle.epoch_core.proofs.machine.Machine.next_of.Goals as goal

pub returns : goal.returns
returns c s sh inside = c.read.ensures ∙ ap (λ n. slice_index c.args.self.now.next.items n) c.object_at.ensures ∙ sh.words.next.at _ 0 inside
