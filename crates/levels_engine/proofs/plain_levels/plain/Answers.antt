use Rattle.std.proofs.Common.{◌<◌, ℕ, subst, sym}
use Rattle.std.specs.Prelude.{MatchOption, slice_get}
use Rattle.std.proofs.lemmas.Result.{IfOk-weaker}
use Rattle.edge_text.specs.Edges.{HasEdge, plain_edges}
use Rattle.graph_store.specs.Rows.{HasTarget}
use Rattle.levels_engine.specs.Levels.{HasNoLevel, IsLevelNumber}
use Rattle.levels_engine.specs.Marks.{level_of}
use Rattle.levels_engine.proofs.Walks.{IsLevelNumber-same, levels_at}
use Rattle.levels_engine.proofs.plain_levels.plain.Goals as goal

pub search-requires-clause-targets : goal.search-requires-clause-targets
search-requires-clause-targets c = λ from to h.
    subst (λ (n : ℕ). to < n) (sym c.in_ok-rows.ensures.rows.count) (c.in_ok-rows.ensures.rows.within from to h)

pub returns-clause-levels : goal.returns-clause-levels
returns-clause-levels c =
    let list = plain_edges c.args.edges.now in
    let rows = c.in_ok-rows.rows in
    let sources = c.args.sources.now in
    let same = c.in_ok-rows.ensures.rows.targets in
    IfOk-weaker c.search.result
    (λ levels. (vertex : ℕ) → IsLevelNumber (HasTarget rows) sources vertex (level_of levels.items vertex))
    (λ levels. (vertex : ℕ) → MatchOption (slice_get levels.items vertex) (HasNoLevel (HasEdge list) sources vertex) (IsLevelNumber (HasEdge list) sources vertex))
    (λ levels right. levels_at (HasEdge list) sources levels.items (λ vertex. IsLevelNumber-same (HasTarget rows) (HasEdge list) (λ from to. (same from to).0) (λ from to. (same from to).1) sources vertex (level_of levels.items vertex) (right vertex)))
    c.search.ensures.levels
