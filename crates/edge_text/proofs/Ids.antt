-- The ids that a line says keep their limit.
use Rattle.std.proofs.Common.{◌≡◌, Some, subst}
use Rattle.std.proofs.lemmas.Option.{none-some}
use Rattle.line_text.specs.Lines.{IsSaid}
use Rattle.edge_text.specs.declared.edges.Edge.{Edge}
use Rattle.edge_text.specs.declared.forms.EdgeLine.TheVariants.{Head as HeadLine, Edge as AnEdge}
use Rattle.edge_text.specs.declared.forms.Spot.{Spot}
use Rattle.edge_text.specs.declared.forms.Spot.TheVariants.{First, Version, Direction, Head, From, To, Ends, Whole}
use Rattle.edge_text.specs.Edges.{HasIds}
use Rattle.edge_text.specs.Forms.{says_of, edge_grammar, IsSpot}

same_edge : (edge other : Edge) → Some (AnEdge edge) ≡ Some (AnEdge other) → edge ≡ other
same_edge edge other is = cc

no_head : (both : _) (edge : Edge) → Some (HeadLine both) ≡ Some (AnEdge edge) → ⊥
no_head both edge is = cc

of_spot : (spot : Spot) (edge : Edge) → IsSpot spot → says_of spot ≡ Some (AnEdge edge) → HasIds edge
of_spot (Ends weighted from to) edge is says = subst HasIds (same_edge (record { from = from; to = to; weight = 1 }) edge says) is
of_spot (Whole own) edge is says = subst HasIds (same_edge own edge says) is
of_spot (Head both) edge is says = absurd (no_head both edge says)
of_spot First edge is says = absurd (none-some (AnEdge edge) says)
of_spot Version edge is says = absurd (none-some (AnEdge edge) says)
of_spot Direction edge is says = absurd (none-some (AnEdge edge) says)
of_spot (From weighted) edge is says = absurd (none-some (AnEdge edge) says)
of_spot (To weighted from) edge is says = absurd (none-some (AnEdge edge) says)

pub said_ids : (edge : Edge) → IsSaid edge_grammar IsSpot (Some (AnEdge edge)) → HasIds edge
said_ids edge said = of_spot said.0 edge said.1 said.2
