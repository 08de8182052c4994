use Rattle.graph_store.proofs.Starts.{BeginsRow-next}
use Rattle.graph_store.proofs.rows.row_end.Goals as goal

pub returns-else-pairs-end : goal.returns-else-pairs-end
returns-else-pairs-end c =
    BeginsRow-next c.args.pairs.now c.args.vertex c.loop-end.end _ c.requires.sorted c.loop-end-test.true c.loop-end.invariant.passed c.if-pairs-end.false
