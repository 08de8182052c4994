use Rattle.std.proofs.Common.{◌+◌, ◌≤◌, length}
use Rattle.object_tests.proofs.segments.push_range.Given as goal

abbrev pub invariant-loop-item : goal.invariant-loop-item
invariant-loop-item l = length l.segment.items + l.from ≤ length l.initial.segment.items + l.item
