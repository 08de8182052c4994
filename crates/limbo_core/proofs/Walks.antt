-- What a place that is pushed, and a head that is emptied, change of the chains.
use Rattle.std.proofs.Common.{◌≡◌, ◌≢◌, ℕ, ◌-◌, ◌<◌, ◌≤◌, zero, suc, List, [], ◌∷◌, Contains, length, slice_index, slice_set, replicate, true, false, refl, ap, sym, ◌∙◌, subst, arith, inl, inr, ◌⊎◌}
use Rattle.std.proofs.lemmas.List.{get_or-set_other, get_or-set_same, get_or-replicate, get_or_past, set-get_or, length-set, length-replicate}
use Rattle.std.proofs.lemmas.Bool.Decides.{eqb_tells, leb_tells}
use Rattle.limbo_core.specs.Chains.{Linked, Leads, IsChain, IsOutside, IsInNoOther, AreChained}

contains_head : (x p : ℕ) (xs : List ℕ) → x ≡ p → Contains (x ∷ xs) p
contains_head x p xs same = (0, omega arith, same)

contains_behind : (x p : ℕ) (xs : List ℕ) → Contains xs p → Contains (x ∷ xs) p
contains_behind x p xs (k, inside, is) = (suc k, omega arith, is)

contains_cases : (x p : ℕ) (xs : List ℕ) → Contains (x ∷ xs) p → (x ≡ p) ⊎ Contains xs p
contains_cases x p xs (zero, inside, is) = inl is
contains_cases x p xs (suc k, inside, is) = inr (k, omega arith, is)

-- a link of a place that is in no part of a chain
pub Leads-elsewhere : (next : List ℕ) (place link from : ℕ) (chain : List ℕ) → 1 ≤ place → Leads next from chain → (Contains chain place → ⊥) → Leads (slice_set next (place - 1) link) from chain
Leads-elsewhere next place link from [] some leads misses = leads
Leads-elsewhere next place link from (x ∷ xs) some (is, one, rest) misses =
    let apart : x ≢ place = λ same. misses (contains_head x place xs same) in
    let other : x - 1 ≢ place - 1 = λ same. apart (omega arith) in
    let link_of : slice_index (slice_set next (place - 1) link) (x - 1) ≡ slice_index next (x - 1) = get_or-set_other next (place - 1) (x - 1) link 0 other in
    let P : ℕ → Type 0 = λ v. Leads (slice_set next (place - 1) link) v xs in
    (is, one, subst P (sym link_of) (Leads-elsewhere next place link (slice_index next (x - 1)) xs some rest (λ has. misses (contains_behind x place xs has))))

-- there is one way on
pub Leads-same : (next : List ℕ) (from : ℕ) (a b : List ℕ) → Leads next from a → Leads next from b → a ≡ b
Leads-same next from [] [] one other = refl
Leads-same next from [] (y ∷ ys) one (is, some, rest) = absurd (omega arith)
Leads-same next from (x ∷ xs) [] (is, some, rest) other = absurd (omega arith)
Leads-same next from (x ∷ xs) (y ∷ ys) (is, some, rest) (is', some', rest') =
    let same : x ≡ y = sym is ∙ is' in
    let P : ℕ → Type 0 = λ v. Leads next (slice_index next (v - 1)) ys in
    ap (λ (v : ℕ). v ∷ xs) same ∙ ap (λ (l : List ℕ). y ∷ l) (Leads-same next (slice_index next (x - 1)) xs ys rest (subst P (sym same) rest'))

-- the chains with a place pushed at a head
abbrev pub pushed : Linked → ℕ → ℕ → ℕ → Linked
pushed c head place old = record { heads = slice_set c.heads head place; next = slice_set c.next (place - 1) old; pending = slice_set c.pending (place - 1) true }

-- the chains with a head emptied
abbrev pub emptied : Linked → ℕ → Linked
emptied c head = record { heads = slice_set c.heads head 0; next = c.next; pending = c.pending }

module _ (c : Linked) (head place old : ℕ) (some : 1 ≤ place) (inside : place ≤ length c.next) (at : head < length c.heads) (is : old ≡ slice_index c.heads head) (outside : IsOutside c place) where
  pub IsChain-pushed : (chain : List ℕ) → IsChain c head chain → IsChain (pushed c head place old) head (place ∷ chain)
  IsChain-pushed chain leads =
      let top : slice_index (slice_set c.heads head place) head ≡ place = get_or-set_same c.heads head place 0 at in
      let low : place - 1 < length c.next = omega arith in
      let link : slice_index (slice_set c.next (place - 1) old) (place - 1) ≡ slice_index c.heads head = get_or-set_same c.next (place - 1) old 0 low ∙ is in
      let P : ℕ → Type 0 = λ v. Leads (slice_set c.next (place - 1) old) v chain in
      (top, some, subst P (sym link) (Leads-elsewhere c.next place old (slice_index c.heads head) chain some leads (outside head chain leads)))

  pub IsChain-pushed_other : (other : ℕ) (chain : List ℕ) → other ≢ head → IsChain c other chain → IsChain (pushed c head place old) other chain
  IsChain-pushed_other other chain apart leads =
      let top : slice_index (slice_set c.heads head place) other ≡ slice_index c.heads other = get_or-set_other c.heads head other place 0 apart in
      let P : ℕ → Type 0 = λ v. Leads (slice_set c.next (place - 1) old) v chain in
      subst P (sym top) (Leads-elsewhere c.next place old (slice_index c.heads other) chain some leads (outside other chain leads))

  -- one and the same chain leads from every head that stands as before, or as pushed
  chain_now : AreChained c → (h : ℕ) → (chain : List ℕ) × IsChain (pushed c head place old) h chain × ((p : ℕ) → p ≢ place → IsOutside c p → Contains chain p → ⊥) × (h ≢ head → Contains chain place → ⊥)
  chain_now all h = elim (eqb_tells h head) [
    | inl (_, is_head) ↦
        let was = all.chained head in
        let Q : ℕ → Type 0 = λ v. IsChain (pushed c head place old) v (place ∷ was.0) in (
          place ∷ was.0,
          subst Q (sym is_head) (IsChain-pushed was.0 was.1),
          λ p apart out has. elim (contains_cases place p was.0 has) [ inl it ↦ apart (sym it) | inr behind ↦ out head was.0 was.1 behind ],
          λ other. absurd (other is_head),
        )
    | inr (_, other) ↦
        let was = all.chained h in
        (was.0, IsChain-pushed_other h was.0 other was.1, λ p apart out. out h was.0 was.1, λ _. outside h was.0 was.1)
  ]

  same_now : (all : AreChained c) (h : ℕ) (chain : List ℕ) → IsChain (pushed c head place old) h chain → chain ≡ (chain_now all h).0
  same_now all h chain leads = Leads-same (slice_set c.next (place - 1) old) (slice_index (slice_set c.heads head place) h) chain (chain_now all h).0 leads (chain_now all h).1

  pub only_here-pushed : AreChained c → IsInNoOther (pushed c head place old) head place
  only_here-pushed all h chain apart leads has =
      let P : List ℕ → Type 0 = λ l. Contains l place in
      (chain_now all h).3 apart (subst P (same_now all h chain leads) has)

  pub IsOutside-pushed : AreChained c → (p : ℕ) → p ≢ place → IsOutside c p → IsOutside (pushed c head place old) p
  IsOutside-pushed all p apart out h chain leads has =
      let P : List ℕ → Type 0 = λ l. Contains l p in
      (chain_now all h).2 p apart out (subst P (same_now all h chain leads) has)

  pub AreChained-pushed : AreChained c → AreChained (pushed c head place old)
  AreChained-pushed all = record {
    marked = length-set c.pending (place - 1) true ∙ all.marked ∙ sym (length-set c.next (place - 1) old);
    chained = λ h. ((chain_now all h).0, (chain_now all h).1);
  }

module _ (c : Linked) (head : ℕ) (at : head < length c.heads) where
  head_emptied : slice_index (slice_set c.heads head 0) head ≡ 0
  head_emptied = get_or-set_same c.heads head 0 0 at

  other_emptied : (h : ℕ) → h ≢ head → slice_index (slice_set c.heads head 0) h ≡ slice_index c.heads h
  other_emptied h apart = get_or-set_other c.heads head h 0 0 apart

  pub AreChained-emptied : AreChained c → AreChained (emptied c head)
  AreChained-emptied all = record {
    marked = all.marked;
    chained = λ h. elim (eqb_tells h head) [
      | inl (_, is_head) ↦ let Q : ℕ → Type 0 = λ v. slice_index (slice_set c.heads head 0) v ≡ 0 in ([], subst Q (sym is_head) head_emptied)
      | inr (_, other) ↦ let Q : ℕ → Type 0 = λ v. Leads c.next v (all.chained h).0 in ((all.chained h).0, subst Q (sym (other_emptied h other)) (all.chained h).1)
    ];
  }

  pub IsOutside-emptied : (place : ℕ) → IsInNoOther c head place → IsOutside (emptied c head) place
  IsOutside-emptied place only h chain leads has = elim (eqb_tells h head) [
    | inl (_, is_head) ↦
        let Q : ℕ → Type 0 = λ v. Leads c.next (slice_index (slice_set c.heads head 0) v) chain in
        let P : List ℕ → Type 0 = λ l. Contains l place in
        let none : chain ≡ [] = Leads-same c.next (slice_index (slice_set c.heads head 0) head) chain [] (subst Q is_head leads) head_emptied in
        let (k, inside, is) = subst P none has in absurd (omega arith)
    | inr (_, other) ↦
        let Q : ℕ → Type 0 = λ v. Leads c.next v chain in
        only h chain other (subst Q (other_emptied h other) leads) has
  ]

slice_index-zeros : (n head : ℕ) → slice_index (replicate n 0) head ≡ 0
slice_index-zeros n head = elim (leb_tells n head) [
  | inl (_, past) ↦ get_or_past (replicate n 0) head 0 (rw (length-replicate {A = ℕ} n 0) past)
  | inr (_, inside) ↦ get_or-replicate n head 0 0 (omega arith)
]

-- there is nothing on a chain of a head that was opened
pub IsOutside-opened : (c : Linked) (n : ℕ) → c.heads ≡ replicate n 0 → (place : ℕ) → IsOutside c place
IsOutside-opened c n opened place head [] leads (k, inside, is) = absurd (omega arith)
IsOutside-opened c n opened place head (x ∷ xs) (is, some, rest) has =
    let zero_at : slice_index c.heads head ≡ 0 = ap (λ (l : List ℕ). slice_index l head) opened ∙ slice_index-zeros n head in
    absurd (omega arith)

-- the links are as before, but one is no longer pending
pub AreChained-linked : (c : Linked) (at : ℕ) (next : ℕ) → next ≡ slice_index c.next at → AreChained c → AreChained (record { heads = c.heads; next = slice_set c.next at next; pending = slice_set c.pending at false })
AreChained-linked c at next is all =
    let same : slice_set c.next at next ≡ c.next = ap (λ (v : ℕ). slice_set c.next at v) is ∙ set-get_or c.next at 0 in
    record {
      marked = length-set c.pending at false ∙ all.marked ∙ ap (λ (l : List ℕ). length l) (sym same);
      chained = λ h. ((all.chained h).0, let P : List ℕ → Type 0 = λ l. Leads l (slice_index c.heads h) (all.chained h).0 in subst P (sym same) (all.chained h).1);
    }
