use Rattle.std.proofs.Common.{◌-◌, ◌+◌, ◌≤◌, ◌<◌, length}
use Rattle.std.specs.List.{AllWithin}
use Rattle.graph_store.proofs.rows.row_end.Given as goal

abbrev pub invariant-loop-end : goal.invariant-loop-end
invariant-loop-end l = record {
  within : l.end ≤ length l.pairs;
  passed : AllWithin (λ pair. pair.from < l.vertex + 1) l.pairs 0 l.end;
}

abbrev pub decreases-loop-end : goal.decreases-loop-end
decreases-loop-end l = length l.pairs - l.end
