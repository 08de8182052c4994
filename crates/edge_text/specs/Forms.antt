-- What a line of an edge list may be, word by word.
use Rattle.std.specs.Prelude.{ℕ, ◌-◌, ◌<◌, ◌^◌, ◌==◌, true, false, List, [], ◌∷◌, Option, Some, None, codes}
use Rattle.shared_io.specs.declared.limits.TooKind.TheVariants.{Id, Weight}
use Rattle.line_text.specs.declared.forms.Bounds.{Bounds}
use Rattle.line_text.specs.declared.forms.Reject.TheVariants.{TooLarge}
use Rattle.line_text.specs.Lines.{Grammar}
use Rattle.edge_text.specs.declared.forms.EdgeLine.{EdgeLine}
use Rattle.edge_text.specs.declared.forms.EdgeLine.TheVariants.{Head as HeadLine, Edge as AnEdge}
use Rattle.edge_text.specs.declared.forms.Spot.{Spot}
use Rattle.edge_text.specs.declared.forms.Spot.TheVariants.{First, Version, Direction, Head, From, To, Ends, Whole}
use Rattle.edge_text.specs.Edges.{HasIds}

-- a head line is `%pgas 2 directed` or `%pgas 2 both`
abbrev pub words_of : Spot → List (List ℕ)
words_of First = codes "%pgas" ∷ []
words_of Version = codes "2" ∷ []
words_of Direction = codes "directed" ∷ codes "both" ∷ []
words_of spot = []

abbrev pub after_word : Spot → ℕ → Spot
after_word First index = Version
after_word Version index = Direction
after_word Direction index = Head (index == 1)
after_word spot index = spot

abbrev pub id_bounds : Bounds
id_bounds = record { least = 0; most = 2 ^ 24 - 1; above = TooLarge Id }

abbrev pub weight_bounds : Bounds
weight_bounds = record { least = 0; most = 2 ^ 32 - 1; above = TooLarge Weight }

-- an edge is two ids, and in a text of version 2 there may be a weight
abbrev pub bounds_of : Spot → Option Bounds
bounds_of First = Some id_bounds
bounds_of (From weighted) = Some id_bounds
bounds_of (To weighted from) = Some id_bounds
bounds_of (Ends true from to) = Some weight_bounds
bounds_of spot = None

abbrev pub after_number : Spot → ℕ → Spot
after_number First number = To false number
after_number (From weighted) number = To weighted number
after_number (To weighted from) number = Ends weighted from number
after_number (Ends true from to) number = Whole (record { from = from; to = to; weight = number })
after_number spot number = spot

-- a weight that isn't written is 1
abbrev pub says_of : Spot → Option EdgeLine
says_of (Head both) = Some (HeadLine both)
says_of (Ends weighted from to) = Some (AnEdge (record { from = from; to = to; weight = 1 }))
says_of (Whole edge) = Some (AnEdge edge)
says_of spot = None

-- the number sign of a head line is the first byte
abbrev pub indented : Spot → Spot
indented First = From false
indented spot = spot

abbrev pub edge_grammar : Grammar Spot EdgeLine
edge_grammar = record { words = words_of; after_word = after_word; bounds = bounds_of; after_number = after_number; says = says_of; indented = indented; joined = λ spot. false }

-- what was read keeps the limits
abbrev pub IsSpot : Spot → Type 0
IsSpot (To weighted from) = from < 2 ^ 24
IsSpot (Ends weighted from to) = (from < 2 ^ 24) × (to < 2 ^ 24)
IsSpot (Whole edge) = HasIds edge
IsSpot spot = Unit {0}
