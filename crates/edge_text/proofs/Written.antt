-- The lines that are written of edges are the text of their list.
use Rattle.std.proofs.Common.{◌≡◌, ◌≢◌, ℕ, suc, ◌+◌, ◌*◌, ◌<◌, ◌≤◌, ◌^◌, false, List, [], ◌∷◌, ◌++◌, length, Some, None, Ok, decimal, refl, ap, sym, ◌∙◌, arith, subst, inl, append_assoc, append-nil, length-append}
use Rattle.std.specs.List.{AllByRecursion}
use Rattle.std.proofs.lemmas.Bool.{false≢true}
use Rattle.std.proofs.lemmas.Fmt.{length-decimal-le}
use Rattle.std.proofs.lemmas.List.Elements.{All-head, All-tail}
use Rattle.line_text.specs.Lines.{line_says}
use Rattle.line_text.specs.States.{rest_says}
use Rattle.line_text.specs.declared.states.State.TheVariants.{Gap}
use Rattle.line_text.specs.Texts.{Standing, said_at, standing, IsOpen}
use Rattle.line_text.proofs.Runs.{digits_within, all_append, lead_leads, first_leads}
use Rattle.line_text.proofs.Standings.{open_nothing}
use Rattle.line_text.proofs.Steps.{ends_in, number_blank, number_ends}
use Rattle.line_text.proofs.Written.{decimal_digits, written_stands, written_open}
use Rattle.edge_text.specs.declared.drafts.Version.{Version}
use Rattle.edge_text.specs.declared.drafts.Version.TheVariants.{Open, One}
use Rattle.edge_text.specs.declared.edges.Edge.{Edge}
use Rattle.edge_text.specs.declared.forms.EdgeLine.TheVariants.{Edge as AnEdge}
use Rattle.edge_text.specs.declared.forms.Spot.{Spot}
use Rattle.edge_text.specs.declared.forms.Spot.TheVariants.{First, From, To, Ends}
use Rattle.edge_text.specs.Drawn.{Drawn}
use Rattle.edge_text.specs.Edges.{HasIds, HaveIds}
use Rattle.edge_text.specs.EdgeText.{edge_rules, edge_text, plain_drawn, IsEdgeText}
use Rattle.edge_text.specs.Forms.{bounds_of, id_bounds, after_number, edge_grammar, IsSpot}
use Rattle.edge_text.specs.Written.{edge_line, edges_text, WeighOne, ReadBack}

abbrev letters_of : Edge → List ℕ
letters_of edge = decimal edge.from ++ 32 ∷ decimal edge.to

whole_line : (edge : Edge) → edge_line edge ≡ letters_of edge ++ 10 ∷ []
whole_line edge = refl

abbrev one_of : Edge → Edge
one_of edge = record { from = edge.from; to = edge.to; weight = 1 }

says_ids : (spot : Spot) (weighted : _) (edge : Edge) → bounds_of spot ≡ Some id_bounds → after_number spot edge.from ≡ To weighted edge.from → HasIds edge → line_says edge_grammar spot (letters_of edge) ≡ Ok (Some (AnEdge (one_of edge)))
says_ids spot weighted edge own next ids =
    let one = decimal_digits edge.from (omega (arith, ids.0)) in
    let two = decimal_digits edge.to (omega (arith, ids.1)) in
    lead_leads edge_grammar IsSpot spot id_bounds own (decimal edge.from) edge.from one.0 one.1 one.2 (32 ∷ decimal edge.to)
    ∙ (number_blank edge_grammar IsSpot spot id_bounds own edge.from 32 (after_number spot edge.from) refl (ends_in edge_grammar IsSpot spot id_bounds own edge.from refl (omega arith) (omega (arith, ids.0))) (decimal edge.to)
    ∙ (ap (λ f. rest_says edge_grammar (Gap f) (decimal edge.to)) next
    ∙ (ap (λ (b : List ℕ). rest_says edge_grammar (Gap (To weighted edge.from)) b) (sym (append-nil (decimal edge.to)))
    ∙ (first_leads edge_grammar IsSpot (To weighted edge.from) id_bounds refl (decimal edge.to) edge.to two.0 two.1 two.2 []
    ∙ number_ends edge_grammar IsSpot (To weighted edge.from) id_bounds refl edge.to (Ends weighted edge.from edge.to)
    (ends_in edge_grammar IsSpot (To weighted edge.from) id_bounds refl edge.to refl (omega arith) (omega (arith, ids.1)))))))

same_edge : (edge : Edge) → edge.weight ≡ 1 → one_of edge ≡ edge
same_edge edge one = ap (λ w. record { from = edge.from; to = edge.to; weight = w }) (sym one)

letters_within : (edge : Edge) → HasIds edge → AllByRecursion (λ byte. byte ≢ 10) (letters_of edge)
letters_within edge ids =
    all_append (decimal edge.from) (32 ∷ decimal edge.to) (digits_within (decimal edge.from) (decimal_digits edge.from (omega (arith, ids.0))).1)
    ((λ is. omega (arith, is)), digits_within (decimal edge.to) (decimal_digits edge.to (omega (arith, ids.1))).1)

letters_short : (edge : Edge) → HasIds edge → length (letters_of edge) ≤ 17
letters_short edge ids =
    omega (arith, length-append (decimal edge.from) (32 ∷ decimal edge.to), length-decimal-le 8 edge.from (omega arith) (omega (arith, ids.0)) (omega (arith, ids.0)), length-decimal-le 8 edge.to (omega arith) (omega (arith, ids.1)) (omega (arith, ids.1)))

-- where lines of edges have led
abbrev Stood : List ℕ → List Edge → Version → ℕ → Type 0
Stood read done version count = (standing edge_text read ≡ record { progress = record { edges = done; version = version }; part = []; lines = count; counted = count; size = length read }) × IsOpen edge_text read

module _ (read : List ℕ) (done : List Edge) (count : ℕ) (edge : Edge) (ids : HasIds edge) (one : edge.weight ≡ 1) (few : count < 2 ^ 25) (short : length read + 18 ≤ 2 ^ 30) where
  says_edge : (spot : Spot) → bounds_of spot ≡ Some id_bounds → after_number spot edge.from ≡ To false edge.from → line_says edge_grammar spot (letters_of edge) ≡ Ok (Some (AnEdge edge))
  says_edge spot own next = says_ids spot false edge own next ids ∙ ap (λ e. Ok (Some (AnEdge e))) (same_edge edge one)

  room : length read + length (letters_of edge) < 2 ^ 30
  room = omega (arith, short, letters_short edge ids)

  first_line : Stood read done Open count → Stood (read ++ edge_line edge) (done ++ edge ∷ []) One (count + 1)
  first_line stood =
      let drawn : Drawn = record { edges = done; version = Open } in
      let says = says_edge First refl refl in
      subst (λ (l : List ℕ). Stood (read ++ l) (done ++ edge ∷ []) One (count + 1)) (sym (whole_line edge)) (
        written_stands edge_text read (letters_of edge) drawn (Some (AnEdge edge)) count count stood.0 stood.1 (letters_within edge ids) says (omega (arith, room)),
        written_open edge_text read (letters_of edge) drawn (Some (AnEdge edge)) count count stood.0 stood.1 (letters_within edge ids) says (omega (arith, room)) refl (λ is. few) room,
      )

  next_line : Stood read done One count → Stood (read ++ edge_line edge) (done ++ edge ∷ []) One (count + 1)
  next_line stood =
      let drawn : Drawn = record { edges = done; version = One } in
      let says = says_edge (From false) refl refl in
      subst (λ (l : List ℕ). Stood (read ++ l) (done ++ edge ∷ []) One (count + 1)) (sym (whole_line edge)) (
        written_stands edge_text read (letters_of edge) drawn (Some (AnEdge edge)) count count stood.0 stood.1 (letters_within edge ids) says (omega (arith, room)),
        written_open edge_text read (letters_of edge) drawn (Some (AnEdge edge)) count count stood.0 stood.1 (letters_within edge ids) says (omega (arith, room)) refl (λ is. few) room,
      )

line_short : (edge : Edge) → HasIds edge → length (edge_line edge) ≤ 18
line_short edge ids = omega (arith, ap length (whole_line edge), length-append (letters_of edge) (10 ∷ []), letters_short edge ids)

next_lines : (edges done : List Edge) (read : List ℕ) (count : ℕ) → HaveIds edges → WeighOne edges → count + length edges ≤ 2 ^ 25 → length read ≤ 18 * count → Stood read done One count
    → Stood (read ++ edges_text edges) (done ++ edges) One (count + length edges)
next_lines [] done read count ids ones few short stood =
    subst (λ (r : List ℕ). Stood r (done ++ []) One (count + 0)) (sym (append-nil read))
    (subst (λ (d : List Edge). Stood read d One (count + 0)) (sym (append-nil done)) (subst (λ n. Stood read done One n) (omega arith) stood))
next_lines (edge ∷ edges) done read count ids ones few short stood =
    let own = All-head (λ e. HasIds e) edge edges ids in
    let next = next_line read done count edge own (All-head (λ e. e.weight ≡ 1) edge edges ones) (omega (arith, few)) (omega (arith, few, short)) stood in
    subst (λ (r : List ℕ). Stood r (done ++ edge ∷ edges) One (count + suc (length edges))) (append_assoc read (edge_line edge) (edges_text edges))
    (subst (λ (d : List Edge). Stood ((read ++ edge_line edge) ++ edges_text edges) d One (count + suc (length edges))) (append_assoc done (edge ∷ []) edges)
    (subst (λ n. Stood ((read ++ edge_line edge) ++ edges_text edges) ((done ++ edge ∷ []) ++ edges) One n) (omega arith)
    (next_lines edges (done ++ edge ∷ []) (read ++ edge_line edge) (count + 1) (All-tail (λ e. HasIds e) edge edges ids) (All-tail (λ e. e.weight ≡ 1) edge edges ones) (omega (arith, few))
    (omega (arith, short, length-append read (edge_line edge), line_short edge own)) next)))

-- a text ends behind its last line
text_stood : (text : List ℕ) (edges : List Edge) (version : Version) (count : ℕ) → plain_drawn (edge_rules.after (record { edges = edges; version = version }) None) ≡ record { edges = edges; both = false }
    → said_at edge_text (record { progress = record { edges = edges; version = version }; part = []; lines = count; counted = count; size = length text }) ≡ Ok None
    → Stood text edges version count → IsEdgeText text (record { edges = edges; both = false })
text_stood text edges version count plain says stood = (
  edge_rules.after (standing edge_text text).progress None,
  record {
    front = text;
    said = None;
    opened = stood.1;
    last = ap (said_at edge_text) stood.0 ∙ says;
    within = λ is. absurd (false≢true is);
    makes = refl;
    whole = inl (tt, refl, refl);
  },
  sym plain ∙ ap (λ (a : Standing Drawn). plain_drawn (edge_rules.after a.progress None)) (sym stood.0),
)

pub edges_read_back : (edges : List Edge) → ReadBack edges
edges_read_back [] ids ones few = text_stood [] [] Open 0 refl refl (refl, open_nothing edge_text)
edges_read_back (edge ∷ edges) ids ones few =
    let own = All-head (λ e. HasIds e) edge edges ids in
    let first = first_line [] [] 0 edge own (All-head (λ e. e.weight ≡ 1) edge edges ones) (omega arith) (omega arith) (refl, open_nothing edge_text) in
    text_stood (edge_line edge ++ edges_text edges) (edge ∷ edges) One (1 + length edges) refl refl
    (next_lines edges (edge ∷ []) (edge_line edge) 1 (All-tail (λ e. HasIds e) edge edges ids) (All-tail (λ e. e.weight ≡ 1) edge edges ones) (omega (arith, few))
    (omega (arith, line_short edge own)) first)
