use Rattle.std.proofs.Common.{ℕ, List, Option, ap, ◌∙◌, slice_index_or}
use Rattle.epoch_core.proofs.machine.Machine.tag_of.Goals as goal

pub returns-in-Some : goal.returns-in-Some
returns-in-Some c s sh inside =
    c.in-Some.ensures.lookup.1 ∙ ap (λ (l : List (Option ℕ)). slice_index_or l c.object_at.result c.in-Some.tag.now) c.deref.ensures.value
    ∙ ap (λ n. slice_index_or c.args.self.now.tags.items n c.in-Some.tag.now) c.object_at.ensures ∙ sh.tags.at _ _ inside
