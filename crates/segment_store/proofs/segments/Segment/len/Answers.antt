use Rattle.std.proofs.Common.{length, ap, sym, ◌∙◌}
use Rattle.segment_store.specs.Contents.{Contents}
use Rattle.segment_store.proofs.Halves.{length-held}
use Rattle.segment_store.proofs.segments.Segment.len.Goals as goal

pub returns-clause-count : goal.returns-clause-count
returns-clause-count c = sym (length-held _ _ _ c.self.invariant) ∙ ap (λ (v : Contents). length v.items) c.self.view_is
