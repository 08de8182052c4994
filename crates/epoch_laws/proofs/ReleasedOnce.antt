-- Between two advances no object is freed twice.
use Rattle.std.proofs.Common.{◌≡◌, ◌==◌, ◌≤◌, ℕ, ◌+◌, true, false, List, [], ◌∷◌, ◌++◌, refl, ap, sym, ◌∙◌, subst, ⊎_elim, arith, append_assoc, append-nil}
use Rattle.std.specs.Prelude.{if◌then◌else◌}
use Rattle.std.proofs.lemmas.Bool.{cases_Bool, false_from_ne_true}
use Rattle.std.proofs.lemmas.List.Sums.{fold-append}
use Rattle.pgas_base.specs.Pointers.{Pointer}
use Rattle.epoch_laws.specs.declared.events.EpochEvent.{EpochEvent}
use Rattle.epoch_laws.specs.declared.events.EpochEvent.TheVariants.{Registered, Unregistered, Pinned, Unpinned, Given, Shown, Held, Deferred, Freed, Returned}
use Rattle.epoch_laws.specs.declared.events.Item.{Item}
use Rattle.epoch_laws.specs.declared.events.Item.TheVariants.{Event, Advance, Claim, Leave}
use Rattle.epoch_laws.specs.Histories.{Happening, Standing, IsFree, IsWorn, IsDeferredAt, standing_after, progress_after, progress, standing, freed, IsNext, Continues, IsLegalHistory}
use Rattle.epoch_laws.specs.Items.{happenings, epoch_after, epoch_of, releaser_after, releaser, tag_after, last_tag, IsTag, IsExact, ReleasesFrom, IsExactRelease}
use Rattle.epoch_laws.specs.Locations.{IsDistinct}
use Rattle.epoch_laws.specs.Released.{freed_after, freed_since}
use Rattle.epoch_laws.specs.Places.{Place, place_of, same_place, is_among}
use Rattle.epoch_laws.proofs.Lists.{among_cons, among_nil}
use Rattle.epoch_laws.proofs.Told.{happenings_event, happenings_advance, happenings_claim, happenings_leave, epoch_more, releaser_more, tag_more, progress_more}
use Rattle.epoch_laws.proofs.Updates.{same_place_tells}

pub freed_more : (items : List Item) (x : Item) → freed_since (items ++ x ∷ []) ≡ freed_after (freed_since items) x
unfolding freed_since
freed_more items x = fold-append freed_after [] items (x ∷ [])

module _ (first count : ℕ) where
  -- an event meets its need
  abbrev NextOf : List Happening → Item → Type 0
  NextOf history (Event c e tag) = IsNext count history c e
  NextOf history _ = Unit {0}

  -- they are each another, and none of them is deferred with a tag two below the epoch or less
  pub record Once (items : List Item) : Type 0 where
    pub distinct : IsDistinct (freed_since items)
    pub past : (p : Place) (i n : ℕ) → is_among p (freed_since items) ≡ true → standing count p (happenings items) ≡ record { condition = IsDeferredAt i; count = n } → epoch_of first items ≤ last_tag p items + 1

  none_once : Once []
  unfolding freed_since
  none_once = record { distinct = tt; past = λ p i n among is. absurd (among_nil p among) }

  module _ (items : List Item) (once : Once items) where
    stands_then : (p : Place) (c : ℕ) (e : EpochEvent) (tag : ℕ)
        → standing count p (happenings (items ++ Event c e tag ∷ [])) ≡ standing_after p (progress count p (happenings items)).position (standing count p (happenings items)) (record { caller = c; event = e })
    unfolding standing progress_after
    stands_then p c e tag =
        ap (λ h. (progress count p h).standing) (happenings_event items c e tag) ∙ ap (λ x. x.standing) (progress_more (happenings items) (record { caller = c; event = e }) count p)

    event_once : (c : ℕ) (e : EpochEvent) (tag : ℕ) → freed_after (freed_since items) (Event c e tag) ≡ freed_since items
        → ((p : Place) (i n : ℕ) → is_among p (freed_since items) ≡ true
        → standing_after p (progress count p (happenings items)).position (standing count p (happenings items)) (record { caller = c; event = e }) ≡ record { condition = IsDeferredAt i; count = n }
        → epoch_of first items ≤ tag_after p (last_tag p items) (Event c e tag) + 1)
        → Once (items ++ Event c e tag ∷ [])
    unfolding epoch_after
    event_once c e tag same past =
        let is = freed_more items (Event c e tag) ∙ same in record {
          distinct = subst IsDistinct (sym is) once.distinct;
          past = λ p i n among stands.
              let low = past p i n (subst (λ l. is_among p l ≡ true) is among) (sym (stands_then p c e tag) ∙ stands) in
              let epoch = epoch_more items first (Event c e tag) in
              let tagged = tag_more items p (Event c e tag) in
              omega (arith, low, epoch, tagged);
        }

    quiet_once : (c : ℕ) (e : EpochEvent) (tag : ℕ) → freed_after (freed_since items) (Event c e tag) ≡ freed_since items
        → ((p : Place) → standing_after p (progress count p (happenings items)).position (standing count p (happenings items)) (record { caller = c; event = e }) ≡ standing count p (happenings items))
        → ((p : Place) → tag_after p (last_tag p items) (Event c e tag) ≡ last_tag p items) → Once (items ++ Event c e tag ∷ [])
    quiet_once c e tag same stands tagged =
        event_once c e tag same
        (λ p i n among is. let low = once.past p i n among (sym (stands p) ∙ is) in let t = tagged p in omega arith)

    -- an object that comes to stand otherwise isn't deferred
    moved : (p q : Place) (i n : ℕ) (st old : Standing) → (st.condition ≡ IsDeferredAt i → ⊥) → (if same_place p q then st else old) ≡ record { condition = IsDeferredAt i; count = n } → old ≡ record { condition = IsDeferredAt i; count = n }
    moved p q i n st old never is =
        ⊎_elim
        (λ e. let here : st ≡ record { condition = IsDeferredAt i; count = n } = rw e at is in absurd (never (ap (λ (x : Standing). x.condition) here)))
        (λ e. rw e at is)
        (cases_Bool (same_place p q))

    freed_never : (n i : ℕ) → (freed n).condition ≡ IsDeferredAt i → ⊥
    unfolding freed
    freed_never n i e =
        ⊎_elim
        (λ b. let worn : IsWorn ≡ IsDeferredAt i = rw b at e in absurd (cc worn))
        (λ b. let free : IsFree ≡ IsDeferredAt i = rw b at e in absurd (cc free))
        (cases_Bool (n == 4294967295))

    freed_once : (c : ℕ) (q : Pointer) (tag i : ℕ) → standing count (place_of q) (happenings items) ≡ record { condition = IsDeferredAt i; count = q.count } → last_tag (place_of q) items + 3 ≡ epoch_of first items → Once (items ++ Event c (Freed q) tag ∷ [])
    unfolding standing_after tag_after epoch_after
    freed_once c q tag i deferred exact =
        let p : Place = place_of q in
        let x : Item = Event c (Freed q) tag in
        let is = freed_more items x in
        let new : is_among p (freed_since items) ≡ false = false_from_ne_true _ (λ among. let low = once.past p i q.count among deferred in absurd (omega arith)) in
        record {
          distinct = subst IsDistinct (sym is) (new, once.distinct);
          past = λ r j n among stands.
              let here = subst (λ l. is_among r l ≡ true) is among in
              let after = sym (stands_then r c (Freed q) tag) ∙ stands in
              let epoch = epoch_more items first x in
              let tagged = tag_more items r x in
              ⊎_elim
              (λ e. let gone : freed (standing count r (happenings items)).count ≡ record { condition = IsDeferredAt j; count = n } = rw e.0 at after in absurd (freed_never _ j (ap (λ (y : Standing). y.condition) gone)))
              (λ e.
              let old : standing count r (happenings items) ≡ record { condition = IsDeferredAt j; count = n } = rw e.0 at after in
              let low = once.past r j n (⊎_elim (λ s. let ne = e.1 in absurd (ne s)) (λ s. s.1) (among_cons r p (freed_since items) here)) old in
              omega (arith, low, epoch, tagged))
              (same_place_tells r p);
        }

    other_once : (x : Item) → freed_after (freed_since items) x ≡ freed_since items → happenings (items ++ x ∷ []) ≡ happenings items → epoch_after (epoch_of first items) x ≡ epoch_of first items
        → ((p : Place) → tag_after p (last_tag p items) x ≡ last_tag p items) → Once (items ++ x ∷ [])
    other_once x same events epochs tags =
        let is = freed_more items x ∙ same in record {
          distinct = subst IsDistinct (sym is) once.distinct;
          past = λ p i n among stands.
              let low = once.past p i n (subst (λ l. is_among p l ≡ true) is among) (ap (standing count p) (sym events) ∙ stands) in
              let epoch = epoch_more items first x ∙ epochs in
              let tagged = tag_more items p x ∙ tags p in
              omega (arith, low, epoch, tagged);
        }

    item_once : (x : Item) → IsExact first items x → ((c : ℕ) (e : EpochEvent) (tag : ℕ) → x ≡ Event c e tag → IsNext count (happenings items) c e) → Once (items ++ x ∷ [])
    unfolding standing_after tag_after epoch_after
    item_once (Event c (Registered t) tag) exact next = quiet_once c (Registered t) tag refl (λ p. refl) (λ p. refl)
    item_once (Event c (Unregistered t) tag) exact next = quiet_once c (Unregistered t) tag refl (λ p. refl) (λ p. refl)
    item_once (Event c (Pinned t) tag) exact next = quiet_once c (Pinned t) tag refl (λ p. refl) (λ p. refl)
    item_once (Event c (Unpinned t) tag) exact next = quiet_once c (Unpinned t) tag refl (λ p. refl) (λ p. refl)
    item_once (Event c (Held t q) tag) exact next = quiet_once c (Held t q) tag refl (λ p. refl) (λ p. refl)
    item_once (Event c (Given q) tag) exact next =
        event_once c (Given q) tag refl (λ p i n among is. once.past p i n among (moved p (place_of q) i n _ (standing count p (happenings items)) (λ e. absurd (cc e)) is))
    item_once (Event c (Shown q) tag) exact next =
        event_once c (Shown q) tag refl (λ p i n among is. once.past p i n among (moved p (place_of q) i n _ (standing count p (happenings items)) (λ e. absurd (cc e)) is))
    item_once (Event c (Returned q) tag) exact next =
        event_once c (Returned q) tag refl (λ p i n among is. once.past p i n among (moved p (place_of q) i n _ (standing count p (happenings items)) (λ e. absurd (cc e)) is))
    item_once (Event c (Deferred t q) tag) exact next =
        event_once c (Deferred t q) tag refl
        (λ p i n among is.
        ⊎_elim
        (λ e. rw e (let low = new exact in omega arith))
        (λ e. let old : standing count p (happenings items) ≡ record { condition = IsDeferredAt i; count = n } = rw e at is in rw e (once.past p i n among old))
        (cases_Bool (same_place p (place_of q))))
      where
        new : IsTag first items c tag → epoch_of first items ≤ tag + 1
        new exact = ⊎_elim (λ e. omega arith) (λ e. let k = e.0 in omega arith) exact
    item_once (Event c (Freed q) tag) exact next = freed_once c q tag (next c (Freed q) tag refl).0 (next c (Freed q) tag refl).1 exact.1
    item_once (Advance c e) exact next =
        let is = freed_more items (Advance c e) in
        record { distinct = subst IsDistinct (sym is) tt; past = λ p i n among stands. absurd (among_nil p (subst (λ l. is_among p l ≡ true) is among)) }
    item_once (Claim c g) exact next = other_once (Claim c g) refl (happenings_claim items c g) refl (λ p. refl)
    item_once (Leave c g) exact next = other_once (Leave c g) refl (happenings_leave items c g) refl (λ p. refl)

  -- what is freed in a legal history of exact releases is freed once
  all_once : (before rest : List Item) → Once before → ReleasesFrom first count before rest → Continues count (happenings before) (happenings rest) → Once (before ++ rest)
  unfolding happenings
  all_once before [] once exact legal = subst Once (sym (append-nil before)) once
  all_once before (Event c e tag ∷ rest) once exact legal =
      let x : Item = Event c e tag in
      subst Once (append_assoc before (x ∷ []) rest)
      (all_once (before ++ x ∷ []) rest
      (item_once before once x exact.1 (λ d f n is. subst (λ (y : Item). NextOf (happenings before) y) is legal.0))
      exact.2 (subst (λ h. Continues count h (happenings rest)) (sym (happenings_event before c e tag)) legal.1))
  all_once before (Advance c e ∷ rest) once exact legal =
      let x : Item = Advance c e in
      subst Once (append_assoc before (x ∷ []) rest)
      (all_once (before ++ x ∷ []) rest (item_once before once x exact.1 (λ d f n is. absurd (cc is))) exact.2 (subst (λ h. Continues count h (happenings rest)) (sym (happenings_advance before c e)) legal))
  all_once before (Claim c g ∷ rest) once exact legal =
      let x : Item = Claim c g in
      subst Once (append_assoc before (x ∷ []) rest)
      (all_once (before ++ x ∷ []) rest (item_once before once x exact.1 (λ d f n is. absurd (cc is))) exact.2 (subst (λ h. Continues count h (happenings rest)) (sym (happenings_claim before c g)) legal))
  all_once before (Leave c g ∷ rest) once exact legal =
      let x : Item = Leave c g in
      subst Once (append_assoc before (x ∷ []) rest)
      (all_once (before ++ x ∷ []) rest (item_once before once x exact.1 (λ d f n is. absurd (cc is))) exact.2 (subst (λ h. Continues count h (happenings rest)) (sym (happenings_leave before c g)) legal))

  pub released_once : (items : List Item) → IsLegalHistory count (happenings items) → IsExactRelease first count items → Once items
  unfolding happenings
  released_once items legal exact = all_once [] items none_once exact legal

-- the seat of the last advance, once one more item is listed
pub releaser_then : (items : List Item) (x : Item) → releaser (items ++ x ∷ []) ≡ releaser_after (releaser items) x
releaser_then items x = releaser_more items x
