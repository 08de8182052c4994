use Rattle.std.proofs.Common.{List, ap, ◌∙◌, slice_index_or}
use Rattle.pool_core.specs.declared.headers.Header.{Header}
use Rattle.epoch_core.proofs.machine.Machine.header_at.Goals as goal

pub returns-in-Some : goal.returns-in-Some
returns-in-Some c s sh inside =
    c.in-Some.ensures.lookup.1 ∙ ap (λ (l : List Header). slice_index_or l c.object_at.result c.in-Some.header.now) c.deref.ensures.value
    ∙ ap (λ n. slice_index_or c.args.self.now.headers.items n c.in-Some.header.now) c.object_at.ensures ∙ sh.words.headers.at _ _ inside
