use Rattle.std.proofs.Common.{◌∙◌, ◌/◌, ◌%◌, ◌<◌, ℕ, List, length, [], ap, sym, subst, arith, rules}
use Rattle.std.specs.List.Sorted.{IsStrictlyIncreasing}
use Rattle.graph_store.specs.Bands.{joined}
use Rattle.graph_store.specs.Rows.{row_of}
use Rattle.graph_store.proofs.Joined.{StandsAt-read, stands_at}
use Rattle.graph_store.proofs.graph.Graph.row.Goals as goal

pub index-band-requires : goal.index-band-requires
index-band-requires c =
    let graph = c.self.inside in
    let bands = graph.bands.items in
    let within : c.args.vertex < length (joined bands) = omega (arith, c.requires, ap length c.self.view_is) in
    let there = stands_at graph.width bands c.args.vertex (c.args.vertex / graph.width) (c.args.vertex % graph.width) c.self.invariant.full (omega (arith, c.self.invariant.some)) (omega (arith, c.self.invariant.some)) within in
    let inside : c.args.vertex / graph.width < length bands = there.band_within in
    search rules

pub row-requires : goal.row-requires
row-requires c =
    let graph = c.self.inside in
    let bands = graph.bands.items in
    let within : c.args.vertex < length (joined bands) = omega (arith, c.requires, ap length c.self.view_is) in
    let there = stands_at graph.width bands c.args.vertex (c.args.vertex / graph.width) (c.args.vertex % graph.width) c.self.invariant.full (omega (arith, c.self.invariant.some)) (omega (arith, c.self.invariant.some)) within in
    (StandsAt-read bands c.args.vertex _ _ c.index-band.result.now there c.index-band.ensures).0

pub returns-clause-row : goal.returns-clause-row
returns-clause-row c =
    let graph = c.self.inside in
    let bands = graph.bands.items in
    let within : c.args.vertex < length (joined bands) = omega (arith, c.requires, ap length c.self.view_is) in
    let there = stands_at graph.width bands c.args.vertex (c.args.vertex / graph.width) (c.args.vertex % graph.width) c.self.invariant.full (omega (arith, c.self.invariant.some)) (omega (arith, c.self.invariant.some)) within in
    c.row.ensures ∙ (sym (StandsAt-read bands c.args.vertex _ _ c.index-band.result.now there c.index-band.ensures).1 ∙ ap (λ (l : List (List ℕ)). row_of l c.args.vertex) c.self.view_is)

pub returns-clause-rising : goal.returns-clause-rising
returns-clause-rising c =
    let graph = c.self.inside in
    let bands = graph.bands.items in
    let within : c.args.vertex < length (joined bands) = omega (arith, c.requires, ap length c.self.view_is) in
    let there = stands_at graph.width bands c.args.vertex (c.args.vertex / graph.width) (c.args.vertex % graph.width) c.self.invariant.full (omega (arith, c.self.invariant.some)) (omega (arith, c.self.invariant.some)) within in
    subst IsStrictlyIncreasing (sym (c.row.ensures ∙ sym (StandsAt-read bands c.args.vertex _ _ c.index-band.result.now there c.index-band.ensures).1)) (c.self.invariant.rising c.args.vertex [] within)
