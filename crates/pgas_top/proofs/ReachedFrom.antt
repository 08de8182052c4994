use Rattle.std.proofs.Common.{◌≡◌, ℕ, zero, suc, ◌+◌, ◌<◌, ◌≤◌, ◌==◌, Bool, true, false, cond, List, [], ◌∷◌, Option, Some, None, refl, sym, ap, ◌∙◌, arith, subst, MatchOption, MatchBool}
use Rattle.std.specs.List.{slice_get}
use Rattle.std.proofs.lemmas.Option.{slice_get-get_or, slice_get_within, get_or_from_slice_get}
use Rattle.levels_engine.specs.Levels.{IsLevel, HasNoLevel, IsLevelNumber}
use Rattle.levels_engine.specs.declared.plain_levels.TheConstants.{NOT_REACHED}
use Rattle.pgas_top.specs.LevelsText.{Reached, Rises, AreReached, reached_from}

-- the number at a place is a level, which is that of a vertex so far behind the first
pub record IsNumbered (vertex : ℕ) (numbers : List ℕ) (reached : Reached) : Type 0 where
  pub place : ℕ
  pub id : reached.vertex ≡ vertex + place
  pub number : slice_get numbers place ≡ Some reached.level
  pub level : (reached.level == NOT_REACHED) ≡ false

-- one number more in front
numbered_behind : (vertex number : ℕ) (numbers : List ℕ) (reached : Reached) → IsNumbered (vertex + 1) numbers reached → IsNumbered vertex (number ∷ numbers) reached
numbered_behind vertex number numbers reached h = record { place = suc h.place; id = omega (arith, h.id); number = h.number; level = h.level }

numbered_step : (skip : Bool) (vertex number : ℕ) (numbers : List ℕ) → (number == NOT_REACHED) ≡ skip
    → ((k : ℕ) (reached : Reached) → slice_get (reached_from (vertex + 1) numbers) k ≡ Some reached → IsNumbered (vertex + 1) numbers reached)
    → (k : ℕ) (reached : Reached) → slice_get (cond skip (reached_from (vertex + 1) numbers) (record { vertex = vertex; level = number } ∷ reached_from (vertex + 1) numbers)) k ≡ Some reached
    → IsNumbered vertex (number ∷ numbers) reached
numbered_step true vertex number numbers is rest k reached h = numbered_behind vertex number numbers reached (rest k reached h)
numbered_step false vertex number numbers is rest zero reached h =
    let same : record { vertex = vertex; level = number } ≡ reached = cc in
    let P : Reached → Type 0 = λ r. IsNumbered vertex (number ∷ numbers) r in
    subst P same (record { place = 0; id = omega arith; number = refl; level = is })
numbered_step false vertex number numbers is rest (suc k) reached h = numbered_behind vertex number numbers reached (rest k reached h)

-- what is listed is numbered
pub numbered : (vertex : ℕ) (numbers : List ℕ) (k : ℕ) (reached : Reached) → slice_get (reached_from vertex numbers) k ≡ Some reached → IsNumbered vertex numbers reached
numbered vertex [] k reached h = cc
numbered vertex (number ∷ numbers) k reached h = numbered_step (number == NOT_REACHED) vertex number numbers refl (numbered (vertex + 1) numbers) k reached h

listed_step : (skip : Bool) (vertex number : ℕ) (rest : List Reached) (reached : Reached) → (k : ℕ) × (slice_get rest k ≡ Some reached) → (k : ℕ) × (slice_get (cond skip rest (record { vertex = vertex; level = number } ∷ rest)) k ≡ Some reached)
listed_step true vertex number rest reached h = h
listed_step false vertex number rest reached h = (suc h.0, h.1)

listed_first : (skip : Bool) (vertex number level : ℕ) (rest : List Reached) → (level == NOT_REACHED) ≡ false → number ≡ level → (number == NOT_REACHED) ≡ skip → (k : ℕ) × (slice_get (cond skip rest (record { vertex = vertex; level = number } ∷ rest)) k ≡ Some (record { vertex = vertex; level = level }))
listed_first true vertex number level rest h same is = absurd (let e : true ≡ false = sym is ∙ (ap (λ (n : ℕ). n == NOT_REACHED) same ∙ h) in cc)
listed_first false vertex number level rest h same is = (0, ap (λ (n : ℕ). Some (record { vertex = vertex; level = n })) same)

-- what is numbered is listed
pub listed : (vertex : ℕ) (numbers : List ℕ) (place level : ℕ) → slice_get numbers place ≡ Some level → (level == NOT_REACHED) ≡ false → (k : ℕ) × (slice_get (reached_from vertex numbers) k ≡ Some (record { vertex = vertex + place; level = level }))
listed vertex [] place level h is = absurd (cc)
listed vertex (number ∷ numbers) zero level h is =
    let same : number ≡ level = cc in
    let here : vertex ≡ vertex + 0 = omega arith in
    let P : ℕ → Type 0 = λ v. (k : ℕ) × (slice_get (reached_from vertex (number ∷ numbers)) k ≡ Some (record { vertex = v; level = level })) in
    subst P here (listed_first (number == NOT_REACHED) vertex number level (reached_from (vertex + 1) numbers) is same refl)
listed vertex (number ∷ numbers) (suc place) level h is =
    let there : (vertex + 1) + place ≡ vertex + suc place = omega arith in
    let P : ℕ → Type 0 = λ v. (k : ℕ) × (slice_get (reached_from vertex (number ∷ numbers)) k ≡ Some (record { vertex = v; level = level })) in
    subst P there (listed_step (number == NOT_REACHED) vertex number (reached_from (vertex + 1) numbers) (record { vertex = (vertex + 1) + place; level = level }) (listed (vertex + 1) numbers place level h is))

-- the first id of the list, if it has one, is above the number
Follows : ℕ → List Reached → Type 0
Follows below [] = Unit {0}
Follows below (first ∷ rest) = below < first.vertex

rises_behind : (first : Reached) (rest : List Reached) → Follows first.vertex rest → Rises rest → Rises (first ∷ rest)
unfolding Follows
rises_behind first [] h rises = tt
rises_behind first (second ∷ rest) h rises = (h, rises)

follows_step : (skip : Bool) (below vertex number : ℕ) (rest : List Reached) → below < vertex → Follows below rest → Follows below (cond skip rest (record { vertex = vertex; level = number } ∷ rest))
unfolding Follows
follows_step true below vertex number rest h follows = follows
follows_step false below vertex number rest h follows = h

follows : (below vertex : ℕ) (numbers : List ℕ) → below < vertex → Follows below (reached_from vertex numbers)
unfolding Follows
follows below vertex [] h = tt
follows below vertex (number ∷ numbers) h = follows_step (number == NOT_REACHED) below vertex number (reached_from (vertex + 1) numbers) h (follows below (vertex + 1) numbers (omega arith))

rises_step : (skip : Bool) (vertex number : ℕ) (rest : List Reached) → Follows vertex rest → Rises rest → Rises (cond skip rest (record { vertex = vertex; level = number } ∷ rest))
rises_step true vertex number rest h rises = rises
rises_step false vertex number rest h rises = rises_behind (record { vertex = vertex; level = number }) rest h rises

pub rises_from : (vertex : ℕ) (numbers : List ℕ) → Rises (reached_from vertex numbers)
rises_from vertex [] = tt
rises_from vertex (number ∷ numbers) = rises_step (number == NOT_REACHED) vertex number (reached_from (vertex + 1) numbers) (follows vertex (vertex + 1) numbers (omega arith)) (rises_from (vertex + 1) numbers)

-- a number that isn't the mark says the level
level_said : (mark : Bool) (Leads : ℕ → ℕ → Type 0) (sources : List ℕ) (vertex level : ℕ) → (level == NOT_REACHED) ≡ mark → mark ≡ false → IsLevelNumber Leads sources vertex level → IsLevel Leads sources vertex level
level_said mark Leads sources vertex level is none said =
    let P : Bool → Type 0 = λ b. MatchBool b (HasNoLevel Leads sources vertex) (IsLevel Leads sources vertex level) in
    subst P (is ∙ none) said

said_step : (mark : Bool) (Leads : ℕ → ℕ → Type 0) (sources : List ℕ) (vertex level number : ℕ) → (number == NOT_REACHED) ≡ mark → IsLevel Leads sources vertex level → MatchBool mark (HasNoLevel Leads sources vertex) (IsLevel Leads sources vertex number) → (Some number ≡ Some level) × ((level == NOT_REACHED) ≡ false)
said_step true Leads sources vertex level number none is said = absurd (said level is.reached.0 is.reached.1)
said_step false Leads sources vertex level number some is said =
    let up : number ≤ level = said.least level is.reached.0 is.reached.1 in
    let down : level ≤ number = is.least number said.reached.0 said.reached.1 in
    let same : number ≡ level = omega arith in
    (ap Some same, ap (λ (n : ℕ). n == NOT_REACHED) (sym same) ∙ some)

-- a vertex with a level has it for its number
number_said : (Leads : ℕ → ℕ → Type 0) (sources : List ℕ) (vertex level : ℕ) (number : Option ℕ) → IsLevel Leads sources vertex level → MatchOption number (HasNoLevel Leads sources vertex) (IsLevelNumber Leads sources vertex) → (number ≡ Some level) × ((level == NOT_REACHED) ≡ false)
number_said Leads sources vertex level None is said = absurd (said level is.reached.0 is.reached.1)
number_said Leads sources vertex level (Some number) is said = said_step (number == NOT_REACHED) Leads sources vertex level number refl is said

-- the numbers of all vertices list those that have a level
pub are_reached : (Leads : ℕ → ℕ → Type 0) (sources : List ℕ) (numbers : List ℕ) → ((vertex : ℕ) → MatchOption (slice_get numbers vertex) (HasNoLevel Leads sources vertex) (IsLevelNumber Leads sources vertex)) → AreReached Leads sources (reached_from 0 numbers)
are_reached Leads sources numbers said = record {
  rises = rises_from 0 numbers;
  each = λ vertex level c.
      let r : Reached = record { vertex = vertex; level = level } in
      let n = numbered 0 numbers c.0 r (slice_get-get_or (reached_from 0 numbers) c.0 r c.1 ∙ ap Some c.2) in
      let here : n.place ≡ vertex = omega (arith, n.id) in
      let P : Option ℕ → Type 0 = λ o. MatchOption o (HasNoLevel Leads sources n.place) (IsLevelNumber Leads sources n.place) in
      let Q : ℕ → Type 0 = λ v. IsLevel Leads sources v level in
      subst Q here (level_said false Leads sources n.place level n.level refl (subst P n.number (said n.place)));
  all = λ vertex level is.
      let r : Reached = record { vertex = vertex; level = level } in
      let n = number_said Leads sources vertex level (slice_get numbers vertex) is (said vertex) in
      let k = listed 0 numbers vertex level n.0 n.1 in
      let here : 0 + vertex ≡ vertex = omega arith in
      let there : slice_get (reached_from 0 numbers) k.0 ≡ Some r = k.1 ∙ ap (λ (v : ℕ). Some (record { vertex = v; level = level })) here in
      (k.0, slice_get_within (reached_from 0 numbers) k.0 r there, get_or_from_slice_get (reached_from 0 numbers) k.0 r r there);
}
