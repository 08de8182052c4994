-- Which text is that of an edge list, and where a text is refused.
use Rattle.std.specs.Prelude.{◌≡◌, ℕ, ◌^◌, Bool, true, false, List, [], ◌∷◌, ◌++◌, Option, Some}
use Rattle.shared_io.specs.declared.limits.TooKind.TheVariants.{Edges as TooManyEdges}
use Rattle.line_text.specs.declared.faults.TextFault.{TextFault}
use Rattle.line_text.specs.Texts.{Rules, Text, text_of, HasText, IsOpen, IsRefused as TextIsRefused}
use Rattle.edge_text.specs.declared.drafts.Version.{Version}
use Rattle.edge_text.specs.declared.drafts.Version.TheVariants.{Open, One, Two}
use Rattle.edge_text.specs.declared.edges.Edge.{Edge}
use Rattle.edge_text.specs.declared.forms.EdgeLine.{EdgeLine}
use Rattle.edge_text.specs.declared.forms.EdgeLine.TheVariants.{Head as HeadLine, Edge as AnEdge}
use Rattle.edge_text.specs.declared.forms.Spot.{Spot}
use Rattle.edge_text.specs.declared.forms.Spot.TheVariants.{First, From}
use Rattle.edge_text.specs.Drawn.{Drawn}
use Rattle.edge_text.specs.Edges.{PlainEdges}
use Rattle.edge_text.specs.Forms.{edge_grammar}

abbrev pub opening : Drawn
opening = record { edges = []; version = Open }

-- a head line may stand first alone
abbrev pub start_of : Version → Spot
start_of Open = First
start_of One = From false
start_of (Two both) = From true

abbrev pub version_after : Version → Option EdgeLine → Version
version_after version (Some (HeadLine both)) = Two both
version_after Open said = One
version_after version said = version

abbrev pub edges_after : List Edge → Option EdgeLine → List Edge
edges_after edges (Some (AnEdge edge)) = edges ++ edge ∷ []
edges_after edges said = edges

abbrev pub is_edge : Option EdgeLine → Bool
is_edge (Some (AnEdge edge)) = true
is_edge said = false

abbrev pub edge_rules : Rules Drawn Spot EdgeLine
edge_rules = record {
  opening = opening;
  start = λ drawn. start_of drawn.version;
  after = λ drawn said. record { edges = edges_after drawn.edges said; version = version_after drawn.version said };
  counts = is_edge;
  most = 2 ^ 25;
  kind = TooManyEdges;
  ends = λ said. false;
  may_be_last = λ said. true;
}

abbrev pub edge_text : Text Drawn Spot EdgeLine
edge_text = text_of edge_grammar edge_rules

abbrev pub leads_both : Version → Bool
leads_both (Two both) = both
leads_both version = false

abbrev pub plain_drawn : Drawn → PlainEdges
plain_drawn drawn = record { edges = drawn.edges; both = leads_both drawn.version }

-- The text is that of the list.
abbrev pub IsEdgeText : List ℕ → PlainEdges → Type 0
IsEdgeText text list = (drawn : Drawn) × HasText edge_text text (Unit {0}) drawn × (list ≡ plain_drawn drawn)

-- Nothing in what was read is refused.
abbrev pub CanGoOn : List ℕ → Type 0
CanGoOn read = IsOpen edge_text read

-- What was read is refused first for this, at a byte of it or, where it ended, at its end.
abbrev pub IsRefused : List ℕ → Type 0 → TextFault → Type 0
IsRefused read ended fault = TextIsRefused edge_text read ended fault
