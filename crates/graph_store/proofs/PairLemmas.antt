-- The pairs of an edge list are its edges, and lie between its vertices.
use Rattle.std.proofs.Common.{◌≡◌, ℕ, zero, suc, ◌<◌, ◌≤◌, Bool, true, false, List, [], ◌∷◌, length, get_or, refl, sym, ap, subst, inl, inr, ⊎_elim, arith}
use Rattle.std.specs.Prelude.{All}
use Rattle.std.proofs.lemmas.List.Elements.{All-nil, All-cons, All-append, All-weaker, Contains-append_cases, Contains-append_left, Contains-append_right}
use Rattle.edge_text.specs.declared.edges.Edge.{Edge}
use Rattle.edge_text.specs.Edges.{HasEdge, IsWritten}
use Rattle.graph_store.specs.declared.pairs.Pair.{Pair}
use Rattle.graph_store.specs.Pairs.{AreBetween, HasPair, edge_pairs, pairs_of}
use Rattle.graph_store.specs.Vertices.{vertex_count}

written_here : (edge : Edge) (edges : List Edge) (from to : ℕ) → edge.from ≡ from → edge.to ≡ to → IsWritten (edge ∷ edges) from to
written_here edge edges from to at there = (0, edge, omega arith, refl, (at, there))

written_behind : (edge : Edge) (edges : List Edge) (from to : ℕ) → IsWritten edges from to → IsWritten (edge ∷ edges) from to
written_behind edge edges from to h = (suc h.0, h.1, omega (arith, h.2), h.3, h.4)

edge_behind : (both : Bool) (edge : Edge) (edges : List Edge) (from to : ℕ) → HasEdge (record { edges = edges; both = both }) from to → HasEdge (record { edges = edge ∷ edges; both = both }) from to
edge_behind both edge edges from to h = ⊎_elim (λ one. inl (written_behind edge edges from to one)) (λ other. inr (other.0, written_behind edge edges to from other.1)) h

-- the pairs of one edge
edge_here : (both : Bool) (edge : Edge) (edges : List Edge) (from to : ℕ) → HasPair (edge_pairs both edge) from to → HasEdge (record { edges = edge ∷ edges; both = both }) from to
edge_here true edge edges from to (zero, within, is) = inl (written_here edge edges from to (ap (λ (p : Pair). p.from) is) (ap (λ (p : Pair). p.to) is))
edge_here true edge edges from to (suc zero, within, is) = inr (refl, written_here edge edges to from (ap (λ (p : Pair). p.to) is) (ap (λ (p : Pair). p.from) is))
edge_here true edge edges from to (suc (suc place), within, is) = absurd (omega arith)
edge_here false edge edges from to (zero, within, is) = inl (written_here edge edges from to (ap (λ (p : Pair). p.from) is) (ap (λ (p : Pair). p.to) is))
edge_here false edge edges from to (suc place, within, is) = absurd (omega arith)

pair_forwards : (both : Bool) (edge : Edge) → HasPair (edge_pairs both edge) edge.from edge.to
pair_forwards true edge = (0, omega arith, refl)
pair_forwards false edge = (0, omega arith, refl)

pair_backwards : (both : Bool) (edge : Edge) → both ≡ true → HasPair (edge_pairs both edge) edge.to edge.from
pair_backwards true edge is = (1, omega arith, refl)
pair_backwards false edge is = cc

-- a pair is an edge
pub HasEdge-pair : (both : Bool) (edges : List Edge) (from to : ℕ) → HasPair (pairs_of both edges) from to → HasEdge (record { edges = edges; both = both }) from to
HasEdge-pair both [] from to h = absurd (omega (arith, h.1))
HasEdge-pair both (edge ∷ edges) from to h =
    ⊎_elim (λ here. edge_here both edge edges from to here) (λ rest. edge_behind both edge edges from to (HasEdge-pair both edges from to rest))
    (Contains-append_cases (edge_pairs both edge) (pairs_of both edges) _ h)

-- an edge that is written is a pair, and where the direction is both so is the reversed one
module _ (both : Bool) where
  written : (edges : List Edge) (place : ℕ) (edge : Edge) → place < length edges → get_or edges place edge ≡ edge → (from to : ℕ) → HasPair (edge_pairs both edge) from to → HasPair (pairs_of both edges) from to
  written [] place edge within at from to h = absurd (omega arith)
  written (first ∷ edges) zero edge within at from to h = Contains-append_left (edge_pairs both first) (pairs_of both edges) _ (subst (λ (e : Edge). HasPair (edge_pairs both e) from to) (sym at) h)
  written (first ∷ edges) (suc place) edge within at from to h = Contains-append_right (edge_pairs both first) (pairs_of both edges) _ (written edges place edge (omega arith) at from to h)

  pub HasPair-edge : (edges : List Edge) (from to : ℕ) → HasEdge (record { edges = edges; both = both }) from to → HasPair (pairs_of both edges) from to
  HasPair-edge edges from to h = ⊎_elim
      (λ one. subst (λ (v : ℕ). HasPair (pairs_of both edges) v to) one.4.0 (subst (HasPair (pairs_of both edges) one.1.from) one.4.1 (written edges one.0 one.1 one.2 one.3 one.1.from one.1.to (pair_forwards both one.1))))
      (λ other.
      let edge = other.1.1 in
      subst (λ (v : ℕ). HasPair (pairs_of both edges) v to) other.1.4.1 (subst (HasPair (pairs_of both edges) edge.to) other.1.4.0 (written edges other.1.0 edge other.1.2 other.1.3 edge.to edge.from (pair_backwards both edge other.0))))
      h

-- ---- vertices

-- edges make no fewer vertices
pub vertex_count-sources : (edges : List Edge) (sources : List ℕ) → vertex_count [] sources ≤ vertex_count edges sources
vertex_count-sources [] sources = omega arith
vertex_count-sources (edge ∷ edges) sources = omega (arith, vertex_count-sources edges sources)

IsBetween : ℕ → Pair → Type 0
IsBetween vertices pair = (pair.from < vertices) × (pair.to < vertices)

between_edge : (both : Bool) (edge : Edge) (vertices : ℕ) → edge.from < vertices → edge.to < vertices → AreBetween (edge_pairs both edge) vertices
unfolding IsBetween
between_edge true edge vertices from to =
    let back : Pair = record { from = edge.to; to = edge.from } in
    All-cons (IsBetween vertices) (record { from = edge.from; to = edge.to }) (back ∷ []) (from, to) (All-cons (IsBetween vertices) back [] (to, from) (All-nil (IsBetween vertices)))
between_edge false edge vertices from to = All-cons (IsBetween vertices) (record { from = edge.from; to = edge.to }) [] (from, to) (All-nil (IsBetween vertices))

-- each pair lies between the vertices of the list
pub AreBetween-pairs : (both : Bool) (edges : List Edge) (sources : List ℕ) → AreBetween (pairs_of both edges) (vertex_count edges sources)
unfolding IsBetween
AreBetween-pairs both [] sources = All-nil (IsBetween (vertex_count [] sources))
AreBetween-pairs both (edge ∷ edges) sources =
    let all = vertex_count (edge ∷ edges) sources in
    let few = vertex_count edges sources in
    All-append (IsBetween all) (edge_pairs both edge) (pairs_of both edges) (between_edge both edge all (omega arith) (omega arith))
    (All-weaker (IsBetween few) (IsBetween all) (λ pair h. (omega (arith, h.0), omega (arith, h.1))) (pairs_of both edges) (AreBetween-pairs both edges sources))

sources_within : (sources : List ℕ) → All (λ source. source < vertex_count [] sources) sources
sources_within [] = All-nil (λ (source : ℕ). source < vertex_count [] [])
sources_within (first ∷ sources) =
    let few = vertex_count [] sources in
    let all = vertex_count [] (first ∷ sources) in
    All-cons (λ (source : ℕ). source < all) first sources (omega arith)
    (All-weaker (λ (source : ℕ). source < few) (λ (source : ℕ). source < all) (λ source h. omega (arith, h)) sources (sources_within sources))

-- and so does each source
pub AreWithin-sources : (edges : List Edge) (sources : List ℕ) → All (λ source. source < vertex_count edges sources) sources
AreWithin-sources [] sources = sources_within sources
AreWithin-sources (edge ∷ edges) sources =
    let few = vertex_count edges sources in
    let all = vertex_count (edge ∷ edges) sources in
    All-weaker (λ (source : ℕ). source < few) (λ (source : ℕ). source < all) (λ source h. omega (arith, h)) sources (AreWithin-sources edges sources)
