use Rattle.std.proofs.Common.{◌≡◌, [], ◌^◌, ◌≤◌, drop, max}
use Rattle.graph_store.specs.Vertices.{vertex_count}
use Rattle.graph_store.proofs.vertices.count_of_sources.Given as goal

-- with the sources that are left the count is that of all
abbrev pub invariant-loop-source : goal.invariant-loop-source
invariant-loop-source l = record {
  high : l.vertices ≤ 2 ^ 24;
  left : max l.vertices (vertex_count [] (drop l.source-index l.sources)) ≡ vertex_count [] l.sources;
}
