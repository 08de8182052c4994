use Rattle.std.proofs.Common.{◌≡◌, drop, ◌++◌}
use Rattle.std.specs.List.{filter}
use Rattle.graph_store.specs.Pairs.{leaves_between, pairs_of}
use Rattle.graph_store.proofs.pairs.pairs_between.Given as goal

-- what was taken so far, and what is taken of the edges that are left, are the whole
abbrev pub invariant-loop-edge : goal.invariant-loop-edge
invariant-loop-edge l = l.pairs.items ++ filter (leaves_between l.first l.end) (pairs_of l.both (drop l.edge-index l.list.edges.items)) ≡ filter (leaves_between l.first l.end) (pairs_of l.both l.list.edges.items)
