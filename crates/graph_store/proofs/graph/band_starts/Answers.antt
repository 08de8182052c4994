use Rattle.std.proofs.Common.{◌<◌, ℕ}
use Rattle.std.proofs.lemmas.List.Elements.{All-push}
use Rattle.graph_store.proofs.Joined.{StepsTo-push}
use Rattle.graph_store.proofs.graph.band_starts.Goals as goal

pub loop-first-preserved : goal.loop-first-preserved
loop-first-preserved c =
    let starts = c.loop-first.starts.items in
    record {
      steps = rw c.in_ok-push.ensures.items (StepsTo-push c.args.width 0 starts c.loop-first.first c.loop-first.invariant.steps);
      within = rw c.in_ok-push.ensures.items (All-push (λ (start : ℕ). start < c.args.vertices) starts c.loop-first.first c.loop-first.invariant.within c.loop-first-test.true);
    }
