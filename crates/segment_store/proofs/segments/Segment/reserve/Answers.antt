use Rattle.std.proofs.Common.{[], ◌∷◌, ap, ◌∙◌}
use Rattle.segment_store.specs.Contents.{Contents}
use Rattle.segment_store.proofs.Halves.{longer_held}
use Rattle.segment_store.proofs.segments.Segment.reserve.Goals as goal

pub returns-in_ok-push-clause-items : goal.returns-in_ok-push-clause-items
returns-in_ok-push-clause-items c =
    rw c.in_ok-push.ensures.items (longer_held _ (c.in_ok-block.block ∷ []) _ _ c.self.invariant ∙ ap (λ (v : Contents). v.items) c.self.view_is)
