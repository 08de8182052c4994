use Rattle.std.proofs.Common.{◌≡◌, ℕ, zero, suc, ◌+◌, List, [], ◌∷◌, ◌++◌, length, refl, sym, ap, subst, ◌∙◌, Option, Some, inl, inr, arith, Bool, eqb}
use Rattle.std.specs.Prelude.{Contains, slice_get, MatchBool, MatchOption}
use Rattle.std.proofs.lemmas.Bool.{cases_Bool, MatchBool-at_false, MatchBool-at_true}
use Rattle.std.proofs.lemmas.List.{length_push, get_or_default, get_or_past, get_or_push}
use Rattle.std.proofs.lemmas.Option.{none-some, same_Some, slice_get-get_or, slice_get_cases}
use Rattle.levels_engine.specs.Levels.{HasNoLevel, IsLevel, IsLevelNumber}
use Rattle.levels_engine.specs.Marks.{level_of}
use Rattle.levels_engine.specs.Walks.{IsLinked, IsWalk}
use Rattle.levels_engine.specs.declared.plain_levels.TheConstants.{NOT_REACHED}

-- Walks from the sources.
module _ (Leads : ℕ → ℕ → Type 0) (sources : List ℕ) where
  -- the walk that stays
  pub IsWalk-none : (source : ℕ) → Contains sources source → IsWalk Leads sources source 0 (source ∷ [])
  IsWalk-none source among = record { count = refl; source = source; among = among; begins = refl; ends = refl; linked = tt }

  -- a list that is linked goes on along an edge from its last vertex
  IsLinked-push : (walk : List ℕ) (steps vertex to : ℕ) → length walk ≡ steps + 1 → slice_get walk steps ≡ Some vertex → IsLinked Leads walk → Leads vertex to → IsLinked Leads (walk ++ to ∷ [])
  IsLinked-push [] steps vertex to count ends linked edge = tt
  IsLinked-push (last ∷ []) zero vertex to count ends linked edge =
      (subst (λ (v : ℕ). Leads v to) (sym (same_Some last vertex ends)) edge, tt)
  IsLinked-push (last ∷ []) (suc steps) vertex to count ends linked edge = absurd (none-some vertex ends)
  IsLinked-push (first ∷ next ∷ rest) zero vertex to count ends linked edge = absurd (omega arith)
  IsLinked-push (first ∷ next ∷ rest) (suc steps) vertex to count ends linked edge =
      (linked.0, IsLinked-push (next ∷ rest) steps vertex to (omega arith) ends linked.1 edge)

  slice_get-push : (walk : List ℕ) (to vertex : ℕ) → slice_get walk 0 ≡ Some vertex → slice_get (walk ++ to ∷ []) 0 ≡ Some vertex
  slice_get-push [] to vertex begins = absurd (none-some vertex begins)
  slice_get-push (first ∷ rest) to vertex begins = begins

  -- a walk goes on along an edge
  pub IsWalk-push : (vertex steps to : ℕ) (walk : List ℕ) → IsWalk Leads sources vertex steps walk → Leads vertex to → IsWalk Leads sources to (steps + 1) (walk ++ to ∷ [])
  IsWalk-push vertex steps to walk is edge = record {
    count = length_push walk to ∙ ap (λ (n : ℕ). n + 1) is.count;
    source = is.source;
    among = is.among;
    begins = slice_get-push walk to is.source is.begins;
    ends = slice_get-get_or (walk ++ to ∷ []) (steps + 1) to (omega (arith, length_push walk to, is.count))
        ∙ ap (λ (v : ℕ). Some v) (get_or_push walk to to (steps + 1) is.count);
    linked = IsLinked-push walk steps vertex to is.count is.ends is.linked edge;
  }

  module _ (Holds : ℕ → ℕ → Type 0) (step : (from to steps : ℕ) → Holds from steps → Leads from to → Holds to (steps + 1)) where
    along : (first : ℕ) (rest : List ℕ) (before steps vertex : ℕ) → Holds first before → IsLinked Leads (first ∷ rest) → slice_get (first ∷ rest) steps ≡ Some vertex → Holds vertex (before + steps)
    along first rest before zero vertex here linked ends =
        subst (λ (v : ℕ). Holds v (before + 0)) (same_Some first vertex ends) (subst (Holds first) (omega arith) here)
    along first [] before (suc steps) vertex here linked ends = absurd (none-some vertex ends)
    along first (next ∷ rest) before (suc steps) vertex here linked ends =
        subst (Holds vertex) (omega arith) (along next rest (before + 1) steps vertex (step first next before here linked.0) linked.1 ends)

    -- what holds at each source and goes on along each edge holds at the end of each walk
    pub IsWalk-keeps : (vertex steps : ℕ) (walk : List ℕ) → ((source : ℕ) → Contains sources source → Holds source 0) → IsWalk Leads sources vertex steps walk → Holds vertex steps
    IsWalk-keeps vertex steps [] here is = absurd (none-some is.source is.begins)
    IsWalk-keeps vertex steps (first ∷ rest) here is =
        subst (Holds vertex) (omega arith) (along first rest 0 steps vertex (subst (λ (v : ℕ). Holds v 0) (sym (same_Some first is.source is.begins)) (here is.source is.among)) is.linked is.ends)

-- what the number of a vertex says, read from a list of numbers
pub levels_at : (Leads : ℕ → ℕ → Type 0) (sources : List ℕ) (levels : List ℕ) → ((vertex : ℕ) → IsLevelNumber Leads sources vertex (level_of levels vertex)) → (vertex : ℕ) → MatchOption (slice_get levels vertex) (HasNoLevel Leads sources vertex) (IsLevelNumber Leads sources vertex)
levels_at Leads sources levels numbers vertex =
    let Says : Option ℕ → Type 0 = λ number. MatchOption number (HasNoLevel Leads sources vertex) (IsLevelNumber Leads sources vertex) in
    elim (slice_get_cases levels vertex).1 [
      | inl here ↦
          let number : ℕ = here.0 in
          subst Says (sym here.2) (subst (IsLevelNumber Leads sources vertex) (get_or_default levels vertex NOT_REACHED number here.1 ∙ here.3) (numbers vertex))
      | inr past ↦ subst Says (sym past.1) (subst (IsLevelNumber Leads sources vertex) (get_or_past levels vertex NOT_REACHED past.0) (numbers vertex))
    ]

-- Walks along more edges.
module _ (Few Many : ℕ → ℕ → Type 0) (more : (from to : ℕ) → Few from to → Many from to) where
  IsLinked-subset : (walk : List ℕ) → IsLinked Few walk → IsLinked Many walk
  IsLinked-subset [] linked = tt
  IsLinked-subset (vertex ∷ []) linked = tt
  IsLinked-subset (vertex ∷ next ∷ rest) linked = (more vertex next linked.0, IsLinked-subset (next ∷ rest) linked.1)

  pub IsWalk-subset : (sources : List ℕ) (vertex steps : ℕ) (walk : List ℕ) → IsWalk Few sources vertex steps walk → IsWalk Many sources vertex steps walk
  IsWalk-subset sources vertex steps walk is = record {
    count = is.count;
    source = is.source;
    among = is.among;
    begins = is.begins;
    ends = is.ends;
    linked = IsLinked-subset walk is.linked;
  }

-- levels depend on the relation alone
pub IsLevelNumber-same : (One Other : ℕ → ℕ → Type 0) → ((from to : ℕ) → One from to → Other from to) → ((from to : ℕ) → Other from to → One from to) → (sources : List ℕ) (vertex number : ℕ) → IsLevelNumber One sources vertex number → IsLevelNumber Other sources vertex number
IsLevelNumber-same One Other there back sources vertex number h =
    let None : Type 0 = HasNoLevel One sources vertex in
    elim (cases_Bool (eqb number NOT_REACHED)) [
      | inl none ↦
          subst (λ (b : Bool). MatchBool b (HasNoLevel Other sources vertex) (IsLevel Other sources vertex number)) (sym none)
          (λ steps walk is. MatchBool-at_true None (IsLevel One sources vertex number) none h steps walk (IsWalk-subset Other One back sources vertex steps walk is))
      | inr some ↦
          let level = MatchBool-at_false None (IsLevel One sources vertex number) some h in
          subst (λ (b : Bool). MatchBool b (HasNoLevel Other sources vertex) (IsLevel Other sources vertex number)) (sym some) (record {
            reached = (level.reached.0, IsWalk-subset One Other there sources vertex number level.reached.0 level.reached.1);
            least = λ steps walk is. level.least steps walk (IsWalk-subset Other One back sources vertex steps walk is);
          })
    ]
