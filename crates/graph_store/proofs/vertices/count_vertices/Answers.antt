use Rattle.std.proofs.Common.{arith}
use Rattle.graph_store.proofs.PairLemmas.{vertex_count-sources}
use Rattle.graph_store.proofs.vertices.count_vertices.Goals as goal

pub loop-edge-init : goal.loop-edge-init
loop-edge-init c =
    let more = vertex_count-sources c.args.edges.now c.args.sources.now in
    record { high = c.count_of_sources-vertices.ensures.within; left = omega arith; low = omega arith }
