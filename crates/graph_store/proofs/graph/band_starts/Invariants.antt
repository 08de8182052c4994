use Rattle.std.proofs.Common.{◌<◌, ◌-◌, All}
use Rattle.graph_store.specs.Bands.{StepsTo}
use Rattle.graph_store.proofs.graph.band_starts.Given as goal

abbrev pub invariant-loop-first : goal.invariant-loop-first
invariant-loop-first l = record {
  steps : StepsTo l.width 0 l.starts.items l.first;
  within : All (λ start. start < l.vertices) l.starts.items;
}

abbrev pub decreases-loop-first : goal.decreases-loop-first
decreases-loop-first l = l.vertices - l.first
