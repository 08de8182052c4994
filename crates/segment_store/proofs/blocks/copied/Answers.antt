use Rattle.std.proofs.Common.{◌≡◌, ◌+◌, ◌++◌, drop, slice_range, arith, append_assoc}
use Rattle.segment_store.specs.Blocks.{joined}
use Rattle.segment_store.proofs.Joined.{joined_more}
use Rattle.segment_store.proofs.blocks.copied.Goals as goal

pub loop-block-preserved : goal.loop-block-preserved
loop-block-preserved c =
    let l = c.loop-block in
    let blocks = c.args.blocks.now in
    let parts = joined_more blocks l.block-index l.start l.end c.block-item.result c.requires.whole (omega arith) l.invariant.ordered c.block-item.is in
    let part = slice_range c.deref.result.now c.min.result c.min-in-loop-block.result in
    let rest = slice_range (joined (drop (l.block-index + 1) blocks)) c.saturating_sub-start.result c.saturating_sub-end.result in
    let regrouped = append_assoc l.items.items part rest in
    let added : c.extend_from_slice.new.self.items ≡ l.items.items ++ part = c.in_ok-extend_from_slice.ensures.items in
    record {
      ordered = omega arith;
      told = cc (parts, regrouped, added);
    }
