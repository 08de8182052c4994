use Rattle.std.proofs.Common.{rules}
use Rattle.std.proofs.lemmas.List.Sorted.{IsNonDecreasingBy-from_sort_by_key}
use Rattle.std.proofs.lemmas.Result.{IfOk-weaker}
use Rattle.edge_text.specs.Edges.{HasEdge}
use Rattle.graph_store.specs.Pairs.{HasPair, rank}
use Rattle.graph_store.specs.Rows.{AreRowsAlong}
use Rattle.graph_store.proofs.Leaving.{AreFrom-band, AreRowsAlong-same, HasPair-band}
use Rattle.graph_store.proofs.bands.band.Goals as goal

pub cut_rows-requires-clause-sorted : goal.cut_rows-requires-clause-sorted
cut_rows-requires-clause-sorted c =
    rw c.deref.ensures.value (IsNonDecreasingBy-from_sort_by_key rank _ c.sort_unstable_by_key.ensures.sorted (λ a r q k. search rules))

pub cut_rows-requires-clause-from : goal.cut_rows-requires-clause-from
cut_rows-requires-clause-from c =
    let permuted = rw c.in_ok-pairs.ensures at c.sort_unstable_by_key.ensures.permutation in
    rw c.deref.ensures.value (AreFrom-band c.args.both c.args.list.now.edges.items c.args.first c.args.end _ permuted c.requires.ids)

pub returns : goal.returns
returns c =
    let edges = c.args.list.now.edges.items in
    let permuted = rw c.in_ok-pairs.ensures at c.sort_unstable_by_key.ensures.permutation in
    let sorted = c.sort_unstable_by_key.new.self.items in
    let cut = rw c.deref.ensures.value at c.cut_rows.ensures in
    IfOk-weaker c.cut_rows.result (AreRowsAlong (HasPair sorted) c.args.first c.args.end)
    (AreRowsAlong (HasEdge (record { edges = edges; both = c.args.both })) c.args.first c.args.end)
    (λ rows are. AreRowsAlong-same rows (HasPair-band c.args.both edges c.args.first c.args.end sorted permuted) are) cut
