use Rattle.std.proofs.Common.{ap, arith}
use Rattle.segment_store.specs.Contents.{Contents}
use Rattle.segment_store.proofs.Halves.{front_half, rest_half}
use Rattle.segment_store.proofs.segments.Segment.split_half.Goals as goal

pub returns-clause-front : goal.returns-clause-front
returns-clause-front c =
    front_half c.self.inside.blocks.items _ _ _ _ c.self.invariant
    (ap (λ (v : Contents). v.items) c.self.view_is) c.len-half.ensures.count c.in_ok-blocks.blocks.items c.in_ok-blocks.ensures.front

pub returns-clause-rest : goal.returns-clause-rest
returns-clause-rest c =
    rest_half c.self.inside.blocks.items _ _ _ _ c.self.invariant
    (ap (λ (v : Contents). v.items) c.self.view_is) c.len-half.ensures.count _ c.div_ceil-used.result (omega arith) c.in_ok-blocks.ensures.rest
