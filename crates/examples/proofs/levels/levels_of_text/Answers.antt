use Rattle.std.proofs.Common.{[], ◌∷◌, subst}
use Rattle.std.specs.Prelude.{MatchOption, slice_get}
use Rattle.edge_text.specs.Edges.{HasEdge, PlainEdges}
use Rattle.levels_engine.specs.Levels.{HasNoLevel, IsLevelNumber}
use Rattle.examples.proofs.levels.levels_of_text.Goals as goal

pub returns : goal.returns
returns g c input list left text vertex =
    let LevelIs = λ (l : PlainEdges). MatchOption (slice_get c.in_ok-plain.field-0.items vertex) (HasNoLevel (HasEdge l) (0 ∷ []) vertex) (IsLevelNumber (HasEdge l) (0 ∷ []) vertex) in
    subst LevelIs (c.in_ok-list.ensures.accepted input list left text) (c.in_ok-plain.ensures.levels vertex)
