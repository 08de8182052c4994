use Rattle.std.proofs.Common.{◌≡◌, drop, ◌++◌}
use Rattle.graph_store.specs.Pairs.{pairs_of}
use Rattle.graph_store.proofs.pairs.take_pairs.Given as goal

-- what was made so far, and what the edges that are left make, are the whole
abbrev pub invariant-loop-edge : goal.invariant-loop-edge
invariant-loop-edge l = l.pairs.items ++ pairs_of l.both (drop l.edge-index l.edges) ≡ pairs_of l.both l.edges
