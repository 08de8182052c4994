-- What a chain of a hand is, where the next words lead from its top to its tail.
use Rattle.std.proofs.Common.{◌≡◌, ◌≢◌, ◌⊎◌, ◌==◌, ◌&&◌, ℕ, zero, suc, Bool, true, false, if◌then◌else◌, List, [], ◌∷◌, Option, Some, refl, ap, sym, ◌∙◌, subst, inl, inr, ⊎_elim}
use Rattle.std.proofs.lemmas.Bool.{false_from_ne_true, eqb-true}
use Rattle.pgas_base.specs.Pointers.{word_of}
use Rattle.epoch_laws.specs.Places.{Place, place_in, pointer_at, same_place, is_among, without}
use Rattle.epoch_laws.specs.Words.{Words}
use Rattle.epoch_laws.specs.Chains.{Led, Reaches, Breaks, led_from, leads_into, led, led_over, IsLed}
use Rattle.epoch_laws.proofs.Updates.{same_place_tells}
use Rattle.epoch_laws.proofs.Lists.{IsDistinct, truth, among_here, among_more, among_nil, among_none, among_cons, among_one}
use Rattle.epoch_laws.proofs.Paths.{Leads}

pub among_without : (p q : Place) (xs : List Place) → is_among p (without q xs) ≡ true → (p ≢ q) × (is_among p xs ≡ true)
unfolding without
among_without p q [] h = absurd (among_nil p h)
among_without p q (x ∷ xs) h =
    ⊎_elim
    (λ s. let r = among_without p q xs (rw s.0 at h) in (r.0, among_more p x xs r.1))
    (λ s.
    let ne = s.1 in
    ⊎_elim
    (λ e. ((λ same. ne (sym e ∙ same)), subst (λ y. is_among p (y ∷ xs) ≡ true) e (among_here p xs)))
    (λ e. let r = among_without p q xs e.1 in (r.0, among_more p x xs r.1))
    (among_cons p x (without q xs) (rw s.0 at h)))
    (same_place_tells x q)

pub gone_without : (q : Place) (xs : List Place) → is_among q (without q xs) ≡ false
gone_without q xs = false_from_ne_true (is_among q (without q xs)) (λ h. let r = among_without q q xs h in let ne = r.0 in absurd (ne refl))

was_led : (p : Place) (way : Led) → IsLed (led_from p way) → IsLed way
was_led p (Reaches xs) h = tt
was_led p (Breaks word) h = h

over : (p : Place) (way : Led) → IsLed (led_from p way) → led_over (led_from p way) ≡ p ∷ led_over way
unfolding led_over
over p (Reaches xs) h = refl
over p (Breaks word) h = absurd h

module _ (words : Words) (locale : ℕ) (ends : ℕ → Bool) (tail : Place) where
  -- the word is that of the pointer with the count of its object's header
  abbrev IsPresent : ℕ → Type 0
  IsPresent word = word ≡ word_of (pointer_at (place_in word) (words.header (place_in word)).count)

  -- the objects from one on, where those that may follow are left
  pub record IsSegment (left : List Place) (p : Place) (xs : List Place) : Type 0 where
    pub members : (q : Place) → is_among q xs ≡ true → (q ≡ p) ⊎ (is_among q left ≡ true)
    pub here : is_among p xs ≡ true
    pub distinct : IsDistinct xs
    pub tail_here : is_among tail xs ≡ true
    pub last : ends (words.next tail) ≡ true
    pub locales : (q : Place) → is_among q xs ≡ true → (q ≡ p) ⊎ (q.locale ≡ locale)
    pub inner : (q : Place) → is_among q xs ≡ true → q ≢ tail → (is_among (place_in (words.next q)) left ≡ true) × ((place_in (words.next q)).locale ≡ locale)
        × IsPresent (words.next q)
    pub leads : (new : Place → Option Place) (final : Option Place)
        → ((q : Place) → is_among q xs ≡ true → q ≢ tail → new q ≡ Some (place_in (words.next q))) → new tail ≡ final → Leads new (Some p) xs final

  leads_in : (left : List Place) (word : ℕ) → leads_into words locale left word ≡ true → (is_among (place_in word) left ≡ true) × ((place_in word).locale ≡ locale) × IsPresent word
  leads_in left word h = go (is_among (place_in word) left) ((place_in word).locale == locale) refl refl h
    where
      go : (a b : Bool) → is_among (place_in word) left ≡ a → ((place_in word).locale == locale) ≡ b → (a && (b && (word == word_of (pointer_at (place_in word) (words.header (place_in word)).count)))) ≡ true
          → (is_among (place_in word) left ≡ true) × ((place_in word).locale ≡ locale) × IsPresent word
      go true true ea eb h = (ea, eqb-true _ _ eb, eqb-true _ _ h)
      go true false ea eb h = absurd (cc h)
      go false b ea eb h = absurd (cc h)

  one_segment : (left : List Place) (p : Place) → p ≡ tail → ends (words.next p) ≡ true → IsSegment left p (p ∷ [])
  one_segment left p same last = record {
    members = λ q h. inl (among_one q p h);
    here = among_here p [];
    distinct = (among_none p, tt);
    tail_here = subst (λ x. is_among x (p ∷ []) ≡ true) same (among_here p []);
    last = subst (λ x. ends (words.next x) ≡ true) same last;
    locales = λ q h. inl (among_one q p h);
    inner = λ q h ne. absurd (ne (among_one q p h ∙ same));
    leads = λ new final steps at_tail. (refl, ap new same ∙ at_tail);
  }

  more_segment : (left : List Place) (p q : Place) (xs : List Place) → p ≢ tail → is_among p left ≡ false → is_among q left ≡ true → q.locale ≡ locale → place_in (words.next p) ≡ q
      → IsPresent (words.next p) → IsSegment (without q left) q xs → IsSegment left p (p ∷ xs)
  more_segment left p q xs ne gone among at next present seg = record {
    members = λ r h.
        ⊎_elim (λ e. inl e) (λ e. inr (within r e.1)) (among_cons r p xs h);
    here = among_here p xs;
    distinct = (false_from_ne_true (is_among p xs) (λ h. absurd (cc (within p h, gone))), seg.distinct);
    tail_here = among_more tail p xs seg.tail_here;
    last = seg.last;
    locales = λ r h. ⊎_elim (λ e. inl e) (λ e. inr (⊎_elim (λ f. ap (λ x. x.locale) f ∙ at) (λ f. f) (seg.locales r e.1))) (among_cons r p xs h);
    inner = λ r h other.
        ⊎_elim
        (λ e. let en : place_in (words.next r) ≡ q = ap (λ x. place_in (words.next x)) e ∙ next in (ap (λ x. is_among x left) en ∙ among, ap (λ x. x.locale) en ∙ at, subst (λ x. IsPresent (words.next x)) (sym e) present))
        (λ e. let i = seg.inner r e.1 other in ((among_without (place_in (words.next r)) q left i.0).1, i.1, i.2))
        (among_cons r p xs h);
    leads = λ new final steps at_tail.
        (refl, subst (λ f. Leads new f xs final) (sym (steps p (among_here p xs) ne ∙ ap Some next)) (seg.leads new final (λ r h other. steps r (among_more r p xs h) other) at_tail));
  }
    where
      within : (r : Place) → is_among r xs ≡ true → is_among r left ≡ true
      within r h = ⊎_elim (λ e. ap (λ x. is_among x left) e ∙ among) (λ e. (among_without r q left e).1) (seg.members r h)

  pub led_ends : (n : ℕ) (left : List Place) (p : Place) → same_place p tail ≡ true → ends (words.next p) ≡ true → led (suc n) words locale ends tail left p ≡ Reaches (p ∷ [])
  unfolding led
  led_ends n left p e f =
      ap
      (λ b. elim b as (λ _. Led) [
        | true ↦ if ends (words.next p) then Reaches (p ∷ []) else Breaks (words.next p)
        | false ↦ elim (leads_into words locale left (words.next p)) as (λ _. Led) [
          | true ↦ led_from p (led n words locale ends tail (without (place_in (words.next p)) left) (place_in (words.next p)))
          | false ↦ Breaks (words.next p)
        ]
      ]) e ∙ ap (λ b. if b then Reaches (p ∷ []) else Breaks (words.next p)) f

  led_breaks : (n : ℕ) (left : List Place) (p : Place) → same_place p tail ≡ true → ends (words.next p) ≡ false → led (suc n) words locale ends tail left p ≡ Breaks (words.next p)
  unfolding led
  led_breaks n left p e f =
      ap
      (λ b. elim b as (λ _. Led) [
        | true ↦ if ends (words.next p) then Reaches (p ∷ []) else Breaks (words.next p)
        | false ↦ elim (leads_into words locale left (words.next p)) as (λ _. Led) [
          | true ↦ led_from p (led n words locale ends tail (without (place_in (words.next p)) left) (place_in (words.next p)))
          | false ↦ Breaks (words.next p)
        ]
      ]) e ∙ ap (λ b. if b then Reaches (p ∷ []) else Breaks (words.next p)) f

  pub led_inside : (n : ℕ) (left : List Place) (p : Place) (b : Bool) → same_place p tail ≡ false → leads_into words locale left (words.next p) ≡ b
      → led (suc n) words locale ends tail left p ≡ elim b as (λ _. Led) [
        | true ↦ led_from p (led n words locale ends tail (without (place_in (words.next p)) left) (place_in (words.next p)))
        | false ↦ Breaks (words.next p)
      ]
  unfolding led
  led_inside n left p b e f =
      ap
      (λ b. elim b as (λ _. Led) [
        | true ↦ if ends (words.next p) then Reaches (p ∷ []) else Breaks (words.next p)
        | false ↦ elim (leads_into words locale left (words.next p)) as (λ _. Led) [
          | true ↦ led_from p (led n words locale ends tail (without (place_in (words.next p)) left) (place_in (words.next p)))
          | false ↦ Breaks (words.next p)
        ]
      ]) e ∙ ap
      (λ b. elim b as (λ _. Led) [
        | true ↦ led_from p (led n words locale ends tail (without (place_in (words.next p)) left) (place_in (words.next p)))
        | false ↦ Breaks (words.next p)
      ]) f

  led_none : (left : List Place) (p : Place) → IsLed (led zero words locale ends tail left p) → ⊥
  unfolding led
  led_none left p h = h

  pub led_segment : (n : ℕ) (left : List Place) (p : Place) → is_among p left ≡ false → IsLed (led n words locale ends tail left p) → IsSegment left p (led_over (led n words locale ends tail left p))
  unfolding led_over
  led_segment zero left p gone h = absurd (led_none left p h)
  led_segment (suc n) left p gone h =
      ⊎_elim
      (λ s.
      ⊎_elim
      (λ e. subst (λ w. IsSegment left p (led_over w)) (sym (led_ends n left p s.0 e)) (one_segment left p s.1 e))
      (λ e. absurd (subst IsLed (led_breaks n left p s.0 e) h))
      (truth (ends (words.next p))))
      (λ s.
      let ne = s.1 in
      ⊎_elim
      (λ e.
      let i = leads_in left (words.next p) e in
      let q = place_in (words.next p) in
      let way : Led = led n words locale ends tail (without q left) q in
      let is : IsLed (led_from p way) = subst IsLed (led_inside n left p true s.0 e) h in
      subst (λ w. IsSegment left p (led_over w)) (sym (led_inside n left p true s.0 e))
      (subst (IsSegment left p) (sym (over p way is))
      (more_segment left p q (led_over way) ne gone i.0 i.1 refl i.2 (led_segment n (without q left) q (gone_without q left) (was_led p way is)))))
      (λ e. absurd (subst IsLed (led_inside n left p false s.0 e) h))
      (truth (leads_into words locale left (words.next p))))
      (same_place_tells p tail)
