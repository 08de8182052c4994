use Rattle.std.proofs.Common.{length, ap, arith}
use Rattle.graph_store.proofs.Cuts.{length-rows_of}
use Rattle.graph_store.proofs.rows.Rows.count.Goals as goal

pub returns : goal.returns
returns c =
    let rows = c.self.inside in
    omega (arith, c.len.ensures, ap length c.self.view_is, length-rows_of rows.targets.items rows.starts.items _ c.self.invariant)
