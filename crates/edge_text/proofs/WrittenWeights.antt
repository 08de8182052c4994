-- A head line and the lines of edges with their weights are the text of their list.
use Rattle.std.proofs.Common.{◌≡◌, ◌≢◌, ℕ, suc, ◌+◌, ◌*◌, ◌<◌, ◌≤◌, ◌^◌, Bool, true, false, List, [], ◌∷◌, ◌++◌, length, Some, None, Ok, decimal, refl, ap, sym, ◌∙◌, arith, subst, inl, append_assoc, append-nil, length-append}
use Rattle.std.specs.Prelude.{codes}
use Rattle.std.specs.List.{AllByRecursion, flat_map}
use Rattle.std.proofs.lemmas.Bool.{false≢true}
use Rattle.std.proofs.lemmas.Fmt.{length-decimal-le}
use Rattle.std.proofs.lemmas.List.Elements.{All-head, All-tail}
use Rattle.line_text.specs.Lines.{line_says}
use Rattle.line_text.specs.States.{rest_says}
use Rattle.line_text.specs.declared.states.State.TheVariants.{Gap}
use Rattle.line_text.specs.Texts.{Standing, said_at, standing, IsOpen}
use Rattle.line_text.proofs.Runs.{digits_within, all_append, lead_leads, first_leads}
use Rattle.line_text.proofs.Standings.{open_nothing}
use Rattle.line_text.proofs.Steps.{ends_in, number_blank, number_ends}
use Rattle.line_text.proofs.Written.{decimal_digits, written_stands, written_open}
use Rattle.edge_text.specs.declared.drafts.Version.TheVariants.{Open, Two}
use Rattle.edge_text.specs.declared.edges.Edge.{Edge}
use Rattle.edge_text.specs.declared.forms.EdgeLine.TheVariants.{Head as HeadLine, Edge as AnEdge}
use Rattle.edge_text.specs.declared.forms.Spot.TheVariants.{From, To, Ends, Whole}
use Rattle.edge_text.specs.Drawn.{Drawn}
use Rattle.edge_text.specs.Edges.{HasIds, HaveIds, PlainEdges}
use Rattle.edge_text.specs.EdgeText.{edge_rules, edge_text, plain_drawn}
use Rattle.edge_text.specs.Forms.{id_bounds, weight_bounds, edge_grammar, IsSpot}
use Rattle.edge_text.specs.Written.{weighted_line, head_line, HaveWeights, WeightedReadBack}

abbrev letters_of : Edge → List ℕ
letters_of edge = decimal edge.from ++ 32 ∷ decimal edge.to ++ 32 ∷ decimal edge.weight

-- what a line of an edge with its weight says
says_weight : (edge : Edge) → HasIds edge → edge.weight < 2 ^ 32 → line_says edge_grammar (From true) (letters_of edge) ≡ Ok (Some (AnEdge edge))
says_weight edge ids small =
    let one = decimal_digits edge.from (omega (arith, ids.0)) in
    let two = decimal_digits edge.to (omega (arith, ids.1)) in
    let three = decimal_digits edge.weight (omega (arith, small)) in
    let rest = 32 ∷ decimal edge.weight in
    let to = To true edge.from in
    let ends = Ends true edge.from edge.to in
    ap (line_says edge_grammar (From true)) (append_assoc (decimal edge.from) (32 ∷ decimal edge.to) rest)
    ∙ (lead_leads edge_grammar IsSpot (From true) id_bounds refl (decimal edge.from) edge.from one.0 one.1 one.2 (32 ∷ (decimal edge.to ++ rest))
    ∙ (number_blank edge_grammar IsSpot (From true) id_bounds refl edge.from 32 to refl (ends_in edge_grammar IsSpot (From true) id_bounds refl edge.from refl (omega arith) (omega (arith, ids.0))) (decimal edge.to ++ rest)
    ∙ (first_leads edge_grammar IsSpot to id_bounds refl (decimal edge.to) edge.to two.0 two.1 two.2 rest
    ∙ (number_blank edge_grammar IsSpot to id_bounds refl edge.to 32 ends refl (ends_in edge_grammar IsSpot to id_bounds refl edge.to refl (omega arith) (omega (arith, ids.1))) (decimal edge.weight)
    ∙ (ap (λ (b : List ℕ). rest_says edge_grammar (Gap ends) b) (sym (append-nil (decimal edge.weight)))
    ∙ (first_leads edge_grammar IsSpot ends weight_bounds refl (decimal edge.weight) edge.weight three.0 three.1 three.2 []
    ∙ number_ends edge_grammar IsSpot ends weight_bounds refl edge.weight (Whole edge)
    (ends_in edge_grammar IsSpot ends weight_bounds refl edge.weight refl (omega arith) (omega (arith, small)))))))))

letters_within : (edge : Edge) → HasIds edge → edge.weight < 2 ^ 32 → AllByRecursion (λ byte. byte ≢ 10) (letters_of edge)
letters_within edge ids small =
    let digits : (number : ℕ) → number < 2 ^ 32 → AllByRecursion (λ byte. byte ≢ 10) (decimal number) = λ number low. digits_within (decimal number) (decimal_digits number (omega (arith, low))).1 in
    all_append (decimal edge.from ++ 32 ∷ decimal edge.to) (32 ∷ decimal edge.weight)
    (all_append (decimal edge.from) (32 ∷ decimal edge.to) (digits edge.from (omega (arith, ids.0))) ((λ is. omega (arith, is)), digits edge.to (omega (arith, ids.1))))
    ((λ is. omega (arith, is)), digits edge.weight small)

letters_short : (edge : Edge) → HasIds edge → edge.weight < 2 ^ 32 → length (letters_of edge) ≤ 28
letters_short edge ids small =
    omega (arith, length-append (decimal edge.from ++ 32 ∷ decimal edge.to) (32 ∷ decimal edge.weight), length-append (decimal edge.from) (32 ∷ decimal edge.to), length-decimal-le 8 edge.from (omega arith) (omega (arith, ids.0)) (omega (arith, ids.0)), length-decimal-le 8 edge.to (omega arith) (omega (arith, ids.1)) (omega (arith, ids.1)), length-decimal-le 10 edge.weight (omega arith) (omega (arith, small)) (omega (arith, small)))

whole_line : (edge : Edge) → weighted_line edge ≡ letters_of edge ++ 10 ∷ []
whole_line edge = refl

line_short : (edge : Edge) → HasIds edge → edge.weight < 2 ^ 32 → length (weighted_line edge) ≤ 29
line_short edge ids small = omega (arith, ap length (whole_line edge), length-append (letters_of edge) (10 ∷ []), letters_short edge ids small)

-- where a head line and lines of edges behind it have led
abbrev Stood : List ℕ → List Edge → Bool → ℕ → Type 0
Stood read done both count = (standing edge_text read ≡ record { progress = record { edges = done; version = Two both }; part = []; lines = count + 1; counted = count; size = length read }) × IsOpen edge_text read

head_letters : Bool → List ℕ
head_letters true = codes "%pgas 2 both"
head_letters false = codes "%pgas 2 directed"

head_stood : (both : Bool) → Stood (head_line both) [] both 0
unfolding head_letters
head_stood true =
    let drawn : Drawn = record { edges = []; version = Open } in
    let within : AllByRecursion (λ byte. byte ≢ 10) (head_letters true) = search arith in (
      written_stands edge_text [] (head_letters true) drawn (Some (HeadLine true)) 0 0 refl (open_nothing edge_text) within refl (omega arith),
      written_open edge_text [] (head_letters true) drawn (Some (HeadLine true)) 0 0 refl (open_nothing edge_text) within refl (omega arith) refl (λ is. omega arith) (omega arith),
    )
head_stood false =
    let drawn : Drawn = record { edges = []; version = Open } in
    let within : AllByRecursion (λ byte. byte ≢ 10) (head_letters false) = search arith in (
      written_stands edge_text [] (head_letters false) drawn (Some (HeadLine false)) 0 0 refl (open_nothing edge_text) within refl (omega arith),
      written_open edge_text [] (head_letters false) drawn (Some (HeadLine false)) 0 0 refl (open_nothing edge_text) within refl (omega arith) refl (λ is. omega arith) (omega arith),
    )

next_line : (read : List ℕ) (done : List Edge) (both : Bool) (count : ℕ) (edge : Edge) → HasIds edge → edge.weight < 2 ^ 32 → count < 2 ^ 25 → length read + 29 ≤ 2 ^ 30 → Stood read done both count → Stood (read ++ weighted_line edge) (done ++ edge ∷ []) both (count + 1)
next_line read done both count edge ids small few short stood =
    let drawn : Drawn = record { edges = done; version = Two both } in
    let says = says_weight edge ids small in
    let within = letters_within edge ids small in
    let room : length read + length (letters_of edge) < 2 ^ 30 = omega (arith, short, letters_short edge ids small) in
    subst (λ (l : List ℕ). Stood (read ++ l) (done ++ edge ∷ []) both (count + 1)) (sym (whole_line edge)) (
      written_stands edge_text read (letters_of edge) drawn (Some (AnEdge edge)) (count + 1) count stood.0 stood.1 within says (omega (arith, room)),
      written_open edge_text read (letters_of edge) drawn (Some (AnEdge edge)) (count + 1) count stood.0 stood.1 within says (omega (arith, room)) refl (λ is. few) room,
    )

next_lines : (edges done : List Edge) (read : List ℕ) (both : Bool) (count : ℕ) → HaveIds edges → HaveWeights edges → count + length edges ≤ 2 ^ 25 → length read ≤ 17 + 29 * count → Stood read done both count
    → Stood (read ++ flat_map weighted_line edges) (done ++ edges) both (count + length edges)
next_lines [] done read both count ids small few short stood =
    subst (λ (r : List ℕ). Stood r (done ++ []) both (count + 0)) (sym (append-nil read))
    (subst (λ (d : List Edge). Stood read d both (count + 0)) (sym (append-nil done)) (subst (λ n. Stood read done both n) (omega arith) stood))
next_lines (edge ∷ edges) done read both count ids small few short stood =
    let IsSmall = λ (e : Edge). e.weight < 2 ^ 32 in
    let own = All-head (λ e. HasIds e) edge edges ids in
    let light = All-head IsSmall edge edges small in
    let text = flat_map weighted_line edges in
    let next = next_line read done both count edge own light (omega (arith, few)) (omega (arith, few, short)) stood in
    subst (λ (r : List ℕ). Stood r (done ++ edge ∷ edges) both (count + suc (length edges))) (append_assoc read (weighted_line edge) text)
    (subst (λ (d : List Edge). Stood ((read ++ weighted_line edge) ++ text) d both (count + suc (length edges))) (append_assoc done (edge ∷ []) edges)
    (subst (λ n. Stood ((read ++ weighted_line edge) ++ text) ((done ++ edge ∷ []) ++ edges) both n) (omega arith)
    (next_lines edges (done ++ edge ∷ []) (read ++ weighted_line edge) both (count + 1) (All-tail (λ e. HasIds e) edge edges ids) (All-tail IsSmall edge edges small) (omega (arith, few))
    (omega (arith, short, length-append read (weighted_line edge), line_short edge own light)) next)))

head_short : (both : Bool) → length (head_line both) ≤ 17
head_short true = omega arith
head_short false = omega arith

pub weighted_read_back : (list : PlainEdges) → WeightedReadBack list
weighted_read_back list ids small few =
    let stood = next_lines list.edges [] (head_line list.both) list.both 0 ids small (omega (arith, few)) (omega (arith, head_short list.both)) (head_stood list.both) in
    let text = head_line list.both ++ flat_map weighted_line list.edges in (
      edge_rules.after (standing edge_text text).progress None,
      record {
        front = text;
        said = None;
        opened = stood.1;
        last = ap (said_at edge_text) stood.0 ∙ refl;
        within = λ is. absurd (false≢true is);
        makes = refl;
        whole = inl (tt, refl, refl);
      },
      sym (ap (λ (a : Standing Drawn). plain_drawn (edge_rules.after a.progress None)) stood.0),
    )
