use Rattle.std.proofs.Common.{◌≡◌, ◌≤◌, ◌++◌, drop, slice_range}
use Rattle.segment_store.specs.Blocks.{joined}
use Rattle.segment_store.proofs.blocks.copied.Given as goal

-- the items so far and those of the blocks to come are all of them
abbrev pub invariant-loop-block : goal.invariant-loop-block
invariant-loop-block l = record {
  ordered : l.start ≤ l.end;
  told : l.items.items ++ slice_range (joined (drop l.block-index l.blocks)) l.start l.end ≡ slice_range (joined l.blocks) l.initial.start l.initial.end;
}
