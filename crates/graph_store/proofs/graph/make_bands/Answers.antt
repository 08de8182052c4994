use Rattle.std.proofs.Common.{◌+◌, ◌∙◌, List, Result, ℕ, min}
use Rattle.std.specs.Prelude.{IfOk}
use Rattle.std.specs.declared.alloc.AllocError.{AllocError}
use Rattle.rayon.proofs.ToStd.{slice-AllZip}
use Rattle.edge_text.specs.Edges.{HasEdge}
use Rattle.graph_store.specs.Rows.{AreRowsAlong}
use Rattle.graph_store.proofs.Joined.{bands_made}
use Rattle.graph_store.proofs.graph.make_bands.Goals as goal

pub returns : goal.returns
returns g c =
    let IsMade : ℕ → List (List ℕ) → Type 0 = λ start rows. AreRowsAlong (HasEdge (record { edges = c.args.list.now.edges.items; both = c.args.both })) start (min (start + c.args.width) c.args.vertices) rows in
    let told = c.in_ok-collect.ensures in
    let chain = rw (c.map.ensures.base, c.map.ensures.f, c.with_min_len.ensures.base) at told.1 in
    let made = slice-AllZip chain.0 c.args.starts.now (chain.1 ∙ c.par_iter.ensures) (λ (start : ℕ) (result : Result (List (List ℕ)) AllocError). IfOk result (IsMade start)) told.0 chain.2 in
    bands_made IsMade c.args.starts.now told.0 c.in_ok-collect.field-0 made told.2
