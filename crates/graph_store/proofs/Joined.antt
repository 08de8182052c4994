-- Rows in bands, one band after another.
use Rattle.std.proofs.Common.{◌≡◌, ℕ, zero, suc, ◌+◌, ◌-◌, ◌*◌, ◌<◌, ◌≤◌, ◌↔◌, List, [], ◌∷◌, ◌++◌, length, get_or, map, min, Result, Ok, Err, Vec, ap, sym, subst, refl, ◌∙◌, inl, inr, arith, length-append}
use native.Mathlib.Numerals.{unary_clauses}
use Rattle.std.specs.Prelude.{All, Contains, IfOk, MatchResult}
use Rattle.std.specs.declared.alloc.AllocError.{AllocError}
use Rattle.std.specs.declared.alloc.Global.{Global}
use Rattle.std.specs.List.{AllZip}
use Rattle.std.specs.List.Sorted.{IsStrictlyIncreasing}
use Rattle.std.proofs.lemmas.Bool.{cases_lt}
use Rattle.std.proofs.lemmas.List.{get_or_append_left, get_or-append_right, get_or_default}
use Rattle.std.proofs.lemmas.List.Elements.{All-nil, All-head, All-tail, All-append}
use Rattle.graph_store.specs.Bands.{AreFull, StepsTo, joined}
use Rattle.graph_store.specs.Rows.{AreRowsAlong, row_of}

-- one start more
pub StepsTo-push : (width first : ℕ) (starts : List ℕ) (end : ℕ) → StepsTo width first starts end → StepsTo width first (starts ++ end ∷ []) (end + width)
StepsTo-push width first [] end steps = (sym steps, ap (λ (n : ℕ). n + width) steps)
StepsTo-push width first (start ∷ starts) end steps = (steps.0, StepsTo-push width (first + width) starts end steps.1)

more_than : (width band place : ℕ) → width * suc band + place ≡ width + (width * band + place)
more_than width band place = simp unary_clauses (omega arith)

-- Where a vertex's row stands: in the band that its number divided by the width names, at the rest.
pub record StandsAt (bands : List (List (List ℕ))) (vertex band place : ℕ) : Type 0 where
  pub band_within : band < length bands
  pub place_within : place < length (get_or bands band [])
  pub row : row_of (joined bands) vertex ≡ row_of (get_or bands band []) place

pub stands_at : (width : ℕ) (bands : List (List (List ℕ))) (vertex band place : ℕ) → AreFull width bands → vertex ≡ width * band + place → place < width → vertex < length (joined bands) → StandsAt bands vertex band place
stands_at width [] vertex band place full is small within = absurd (omega (arith, within))
stands_at width (first ∷ []) vertex zero place full is small within =
    let same : vertex ≡ place = omega arith in
    let inside : vertex < length first = omega (arith, within, length-append first []) in
    record {
      band_within = omega arith;
      place_within = omega arith;
      row = get_or_append_left first [] [] vertex inside ∙ ap (row_of first) same;
    }
stands_at width (first ∷ []) vertex (suc band) place full is small within =
    absurd (omega (arith, within, full, length-append first [], is, more_than width band place))
stands_at width (first ∷ next ∷ rest) vertex zero place full is small within =
    let same : vertex ≡ place = omega arith in
    let inside : vertex < length first = omega (arith, full.0) in
    record {
      band_within = omega arith;
      place_within = omega arith;
      row = get_or_append_left first (joined (next ∷ rest)) [] vertex inside ∙ ap (row_of first) same;
    }
stands_at width (first ∷ next ∷ rest) vertex (suc band) place full is small within =
    let behind : vertex - length first ≡ width * band + place = omega (arith, full.0, is, more_than width band place) in
    let far : length first ≤ vertex = omega (arith, full.0, is, more_than width band place) in
    let there = stands_at width (next ∷ rest) (vertex - length first) band place full.1 behind small (omega (arith, within, far, length-append first (joined (next ∷ rest)))) in
    record {
      band_within = omega (arith, there.band_within);
      place_within = there.place_within;
      row = get_or-append_right first (joined (next ∷ rest)) (length first) vertex [] refl far ∙ there.row;
    }

-- it is a row of the band that is read there
pub StandsAt-read : (bands : List (List (List ℕ))) (vertex band place : ℕ) (rows : List (List ℕ)) → StandsAt bands vertex band place → rows ≡ get_or bands band rows → (place < length rows) × (row_of (joined bands) vertex ≡ row_of rows place)
StandsAt-read bands vertex band place rows there read =
    let is : get_or bands band [] ≡ rows = get_or_default bands band [] rows there.band_within ∙ sym read in
    (subst (λ (l : List (List ℕ)). place < length l) is there.place_within, there.row ∙ ap (λ (l : List (List ℕ)). row_of l place) is)

-- rows behind rows
pub AreRowsAlong-append : {Leads : ℕ → ℕ → Type 0} {first mid end : ℕ} (rows more : List (List ℕ)) → AreRowsAlong Leads first mid rows → AreRowsAlong Leads mid end more → AreRowsAlong Leads first end (rows ++ more)
AreRowsAlong-append {Leads} {first} {mid} {end} rows more are also = record {
  count = omega (arith, are.count, also.count, length-append rows more);
  rising = All-append IsStrictlyIncreasing rows more are.rising also.rising;
  targets = λ vertex to low high. elim (cases_lt vertex mid) [
    | inl before ↦
        subst (λ (l : List ℕ). Contains l to ↔ Leads vertex to) (sym (get_or_append_left rows more [] (vertex - first) (omega (arith, are.count)))) (are.targets vertex to low before)
    | inr after ↦
        let rest : vertex - first - length rows ≡ vertex - mid = omega (arith, are.count) in
        let read : row_of (rows ++ more) (vertex - first) ≡ row_of more (vertex - mid) = get_or-append_right rows more (length rows) (vertex - first) [] refl (omega (arith, are.count)) ∙ ap (row_of more) rest in
        subst (λ (l : List ℕ). Contains l to ↔ Leads vertex to) (sym read) (also.targets vertex to after high)
  ];
}

AreRowsAlong-none : {Leads : ℕ → ℕ → Type 0} (end : ℕ) → AreRowsAlong Leads end end []
AreRowsAlong-none end = record {
  count = omega arith;
  rising = All-nil IsStrictlyIncreasing;
  targets = λ vertex to low high. absurd (omega (arith, low, high));
}

-- Bands whose rows are those of the vertices from their starts on.
module _ (Leads : ℕ → ℕ → Type 0) (width vertices end : ℕ) (whole : vertices ≤ end) where
  pub AreRowsAlong-joined : (first : ℕ) (starts : List ℕ) (bands : List (List (List ℕ))) → StepsTo width first starts end → All (λ start. start < vertices) starts → AllZip (λ start rows. AreRowsAlong Leads start (min (start + width) vertices) rows) starts bands → AreRowsAlong Leads (min first vertices) vertices (joined bands)
  AreRowsAlong-joined first [] [] steps within are =
      let is : vertices ≡ min first vertices = omega (arith, steps) in
      subst (λ (n : ℕ). AreRowsAlong Leads n vertices []) is (AreRowsAlong-none {Leads = Leads} vertices)
  AreRowsAlong-joined first [] (band ∷ bands) steps within are = absurd are
  AreRowsAlong-joined first (start ∷ starts) [] steps within are = absurd are
  AreRowsAlong-joined first (start ∷ starts) (band ∷ bands) steps within are =
      let low : start < vertices = All-head (λ (s : ℕ). s < vertices) start starts within in
      let is : start ≡ min first vertices = omega (arith, steps.0) in
      let next : min (start + width) vertices ≡ min (first + width) vertices = ap (λ (n : ℕ). min (n + width) vertices) steps.0 in
      let rest = AreRowsAlong-joined (first + width) starts bands steps.1 (All-tail (λ (s : ℕ). s < vertices) start starts within) are.1 in
      AreRowsAlong-append band (joined bands) (subst (λ (n : ℕ). AreRowsAlong Leads n (min (first + width) vertices) band) is (subst (λ (n : ℕ). AreRowsAlong Leads start n band) next are.0)) rest

  pub AreFull-bands : (first : ℕ) (starts : List ℕ) (bands : List (List (List ℕ))) → StepsTo width first starts end → All (λ start. start < vertices) starts → AllZip (λ start rows. AreRowsAlong Leads start (min (start + width) vertices) rows) starts bands → AreFull width bands
  AreFull-bands first starts [] steps within are = tt
  AreFull-bands first [] (band ∷ bands) steps within are = absurd are
  AreFull-bands first (start ∷ []) (band ∷ []) steps within are = omega (arith, are.0.count)
  AreFull-bands first (start ∷ []) (band ∷ next ∷ bands) steps within are = absurd are.1
  AreFull-bands first (start ∷ also ∷ starts) (band ∷ []) steps within are = absurd are.1
  AreFull-bands first (start ∷ also ∷ starts) (band ∷ next ∷ bands) steps within are =
      let rest = All-tail (λ (s : ℕ). s < vertices) start (also ∷ starts) within in
      let low = All-head (λ (s : ℕ). s < vertices) also starts rest in
      (omega (arith, are.0.count, steps.0, steps.1.0, low), AreFull-bands (first + width) (also ∷ starts) (next ∷ bands) steps.1 rest are.1)

-- What was made of each start, if all could be made.
pub all_made : (IsMade : ℕ → List (List ℕ) → Type 0) (starts : List ℕ) (results : List (Result (List (List ℕ)) AllocError)) (rows : List (List (List ℕ))) → AllZip (λ start made. IfOk made (IsMade start)) starts results → results ≡ map Ok rows → AllZip IsMade starts rows
all_made IsMade [] [] [] made is = made
all_made IsMade [] [] (row ∷ rows) made is = cc
all_made IsMade [] (result ∷ results) rows made is = absurd made
all_made IsMade (start ∷ starts) [] rows made is = absurd made
all_made IsMade (start ∷ starts) (result ∷ results) [] made is = cc
all_made IsMade (start ∷ starts) (result ∷ results) (row ∷ rows) made is =
    let here : result ≡ Ok row = cc in
    let behind : results ≡ map Ok rows = cc in
    (subst (λ (r : Result (List (List ℕ)) AllocError). IfOk r (IsMade start)) here made.0, all_made IsMade starts results rows made.1 behind)

pub bands_made : (IsMade : ℕ → List (List ℕ) → Type 0) (starts : List ℕ) (results : List (Result (List (List ℕ)) AllocError)) (outcome : Result (Vec (List (List ℕ)) Global) AllocError) → AllZip (λ start made. IfOk made (IsMade start)) starts results
    → MatchResult outcome (λ bands. (rows : List (List (List ℕ))) × (results ≡ map Ok rows) × (bands.items ≡ rows)) (λ e. Contains results (Err e)) → IfOk outcome (λ bands. AllZip IsMade starts bands.items)
bands_made IsMade starts results (Ok bands) made told = subst (AllZip IsMade starts) (sym told.2) (all_made IsMade starts results told.0 made told.1)
bands_made IsMade starts results (Err e) made told = tt
