use Rattle.std.proofs.Common.{◌≡◌, ◌<◌, ◌||◌, ℕ, length, min, subst, arith}
use Rattle.std.specs.Prelude.{All}
use Rattle.edge_text.specs.Edges.{HasEdge}
use Rattle.graph_store.specs.Bands.{joined}
use Rattle.graph_store.specs.Rows.{AreRowsAlong}
use Rattle.graph_store.specs.Vertices.{vertex_count}
use Rattle.graph_store.proofs.Joined.{AreFull-bands, AreRowsAlong-joined}
use Rattle.graph_store.proofs.PairLemmas.{AreWithin-sources}
use Rattle.graph_store.proofs.graph.build.Goals as goal

pub invariant_of-result : goal.invariant_of-result
invariant_of-result g c =
    let Leads = HasEdge (record { edges = c.args.edges.now.edges.items; both = c.args.both || c.args.edges.now.both }) in
    let width = c.band_width-width.result in
    let vertices = c.count_vertices-vertices.result in
    let starts = c.in_ok-starts.starts.items in
    let bands = c.in_ok-bands.bands.items in
    let end = c.in_ok-starts.ensures.steps in
    let within = c.in_ok-starts.ensures.within in
    let made = rw c.deref-2.ensures.value at c.in_ok-bands.ensures in
    let rows = AreRowsAlong-joined Leads width vertices end.0 end.2 0 starts bands end.1 within made in
    record {
      some = c.band_width-width.ensures.some;
      full = AreFull-bands Leads width vertices end.0 end.2 0 starts bands end.1 within made;
      count = omega (arith, rows.count);
      rising = rows.rising;
    }

pub returns-clause-rows : goal.returns-clause-rows
returns-clause-rows g c =
    let Leads = HasEdge (record { edges = c.args.edges.now.edges.items; both = c.args.both || c.args.edges.now.both }) in
    let width = c.band_width-width.result in
    let vertices = c.count_vertices-vertices.result in
    let starts = c.in_ok-starts.starts.items in
    let bands = c.in_ok-bands.bands.items in
    let end = c.in_ok-starts.ensures.steps in
    let within = c.in_ok-starts.ensures.within in
    let made = rw c.deref-2.ensures.value at c.in_ok-bands.ensures in
    let rows = AreRowsAlong-joined Leads width vertices end.0 end.2 0 starts bands end.1 within made in
    let count : vertices ≡ vertex_count c.args.edges.now.edges.items c.args.sources.now = rw c.deref.ensures.value at c.count_vertices-vertices.ensures.count in
    let low : min 0 vertices ≡ 0 = omega arith in
    subst (λ (n : ℕ). AreRowsAlong Leads 0 n (joined bands)) count (subst (λ (n : ℕ). AreRowsAlong Leads n vertices (joined bands)) low rows)

pub returns-clause-sources : goal.returns-clause-sources
returns-clause-sources g c =
    let edges = c.args.edges.now.edges.items in
    let sources = c.args.sources.now in
    let rows = returns-clause-rows g c in
    let count : vertex_count edges sources ≡ length (joined c.in_ok-bands.bands.items) = omega (arith, rows.count) in
    subst (λ (n : ℕ). All (λ (source : ℕ). source < n) sources) count (AreWithin-sources edges sources)
