use Rattle.std.proofs.Common.{◌≡◌, drop, map, ◌++◌, ◌==◌}
use Rattle.std.specs.List.{dedup_from}
use Rattle.graph_store.specs.declared.pairs.Pair.{Pair}
use Rattle.graph_store.proofs.rows.push_targets.Given as goal

-- what was added so far, and what the rest of the row adds behind the last target, are the whole
abbrev pub invariant-loop-pair : goal.invariant-loop-pair
invariant-loop-pair l = l.targets.items ++ dedup_from ◌==◌ l.last (map (λ (pair : Pair). pair.to) (drop l.pair-index l.rest)) ≡ l.fn.targets.items ++ dedup_from ◌==◌ l.initial.last (map (λ (pair : Pair). pair.to) l.rest)
