use Rattle.std.specs.Prelude.{List}
use Rattle.edge_text.specs.declared.drafts.Version.{Version}
use Rattle.edge_text.specs.declared.edges.Edge.{Edge}

-- what lines make of an edge list
pub record Drawn : Type 0 where
  pub edges : List Edge
  pub version : Version
