use Rattle.std.proofs.Common.{◌≡◌, [], ◌^◌, ◌≤◌, drop, max}
use Rattle.graph_store.specs.Vertices.{vertex_count}
use Rattle.graph_store.proofs.vertices.count_vertices.Given as goal

-- with the edges that are left the count is that of all
abbrev pub invariant-loop-edge : goal.invariant-loop-edge
invariant-loop-edge l = record {
  high : l.vertices ≤ 2 ^ 24;
  left : max l.vertices (vertex_count (drop l.edge-index l.edges) l.sources) ≡ vertex_count l.edges l.sources;
  low : vertex_count [] l.sources ≤ l.vertices;
}
