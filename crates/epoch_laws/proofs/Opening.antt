-- What holds of every state holds at the opening.
use Rattle.std.proofs.Common.{◌≡◌, ◌^◌, ℕ, zero, suc, ◌+◌, ◌<◌, ◌≤◌, true, ltb, if◌then◌else◌, List, [], ◌∷◌, Option, Some, None, refl, ap, sym, ◌∙◌, subst, inl, ⊎_elim, arith}
use Rattle.std.proofs.lemmas.Bool.{false_from_ne_true, ltb-true, ltb-false}
use Rattle.std.proofs.lemmas.Bool.Decides.{eqb_tells}
use Rattle.pgas_base.specs.declared.shapes.Shape.{Shape}
use Rattle.pgas_base.specs.declared.starts.Start.{Start}
use Rattle.pgas_base.specs.Shapes.{IsShape}
use Rattle.pgas_base.specs.Pointers.{Pointer, word_of}
use Rattle.epoch_laws.specs.Places.{Place, place_in, index_in, is_among}
use Rattle.epoch_laws.specs.Words.{Words}
use Rattle.epoch_laws.specs.States.{IsPlace, opening, opening_words, opening_seat}
use Rattle.epoch_laws.proofs.Timing.{timing_at, token_at, pinned_at, global_at, scan_at, spread_at}
use Rattle.epoch_laws.proofs.Lists.{IsDistinct, truth, among_here, among_more, among_nil, among_cons}
use Rattle.epoch_laws.proofs.Locations.{Kind, InStack, InHome, InTaken, InHand, IsOwned, IsLive, InDeferral, InList, InRest, IsWalked, IsWorn, Location, at_, IsListed}
use Rattle.epoch_laws.proofs.Paths.{IsPath, IsChain, led_to_none, top_at, top_at_some, top_at_none, first_of}
use Rattle.epoch_laws.proofs.Sound.{firsts_of, phased_at, home_wait_at, Map, IsSound}

-- the first of so many places of a locale, from an index on
abbrev first_left : ℕ → ℕ → ℕ → Option Place
first_left zero l i = None
first_left (suc n) l i = Some (record { locale = l; index = i })

-- so many places of a locale, from an index on
stack_from : ℕ → ℕ → ℕ → List Place
stack_from zero l i = []
stack_from (suc n) l i = record { locale = l; index = i } ∷ stack_from n l (i + 1)

stack_among : (n l i : ℕ) (p : Place) → is_among p (stack_from n l i) ≡ true → (p.locale ≡ l) × (i ≤ p.index) × (p.index < i + n)
unfolding stack_from
stack_among zero l i p h = absurd (among_nil p h)
stack_among (suc n) l i p h =
    ⊎_elim
    (λ e. let ei : p.index ≡ i = ap (λ x. x.index) e in (ap (λ x. x.locale) e, omega arith, omega arith))
    (λ e. let r = stack_among n l (i + 1) p e.1 in let r1 = r.1 in let r2 = r.2 in (r.0, omega arith, omega arith))
    (among_cons p (record { locale = l; index = i }) (stack_from n l (i + 1)) h)

among_stack : (n l i : ℕ) (p : Place) → p.locale ≡ l → i ≤ p.index → p.index < i + n → is_among p (stack_from n l i) ≡ true
unfolding stack_from
among_stack zero l i p e a b = absurd (omega arith)
among_stack (suc n) l i p e a b =
    ⊎_elim
    (λ h. let same : ◌≡◌ {A = Place} (record { locale = l; index = i }) p = λ t. record { locale = sym e t; index = h.1 t } in
    subst (λ x. is_among x (record { locale = l; index = i } ∷ stack_from n l (i + 1)) ≡ true) same (among_here (record { locale = l; index = i }) (stack_from n l (i + 1))))
    (λ h. let ne = h.1 in among_more p (record { locale = l; index = i }) (stack_from n l (i + 1)) (among_stack n l (i + 1) p e (omega arith) (omega arith)))
    (eqb_tells i p.index)

stack_distinct : (n l i : ℕ) → IsDistinct (stack_from n l i)
unfolding stack_from
stack_distinct zero l i = tt
stack_distinct (suc n) l i = (
  false_from_ne_true (is_among (record { locale = l; index = i }) (stack_from n l (i + 1)))
      (λ h. let r = stack_among n l (i + 1) (record { locale = l; index = i }) h in let r1 = r.1 in absurd (omega arith)),
  stack_distinct n l (i + 1),
)

small_index : (l i c : ℕ) → i < 16777216 → c < 4294967296 → index_in (word_of (record { locale = l; index = i; count = c })) ≡ i
unfolding index_in
small_index l i c hi hc = omega arith

lt-ltb : (a b : ℕ) → a < b → ltb a b ≡ true
lt-ltb a b h = ⊎_elim (λ e. e) (λ e. let n = ltb-false a b e in absurd (omega arith)) (truth (ltb a b))

unfoldable content_at : Shape → Kind → ℕ → ℕ → List Place
content_at shape InStack l zero = if ltb l shape.locales then stack_from shape.objects l 1 else []
content_at shape InStack l (suc j) = []
content_at shape _ l j = []

module _ (shape : Shape) (start : Start) (seats : ℕ) (is_shape : IsShape shape) (counts : start.count < 2 ^ 32) where
  words : Words
  words = opening_words shape start

  pub opening_link : Place → Option Place
  opening_link p = top_at p.locale (index_in ((opening_words shape start).next p))

  pub opening_map : Map
  opening_map = record { loc = λ p. at_ InStack p.locale; link = opening_link; content = λ k. content_at shape k.kind k.first k.second }

  link_last : (l : ℕ) → opening_link (record { locale = l; index = shape.objects }) ≡ None
  unfolding opening_link opening_words index_in
  link_last l = ⊎_elim (λ h. rw h.0 (top_at_none l)) (λ h. let e = h.1 in absurd (e refl)) (eqb_tells shape.objects shape.objects)

  link_more : (l i : ℕ) → i < shape.objects → opening_link (record { locale = l; index = i }) ≡ Some (record { locale = l; index = i + 1 })
  unfolding opening_link opening_words place_in
  link_more l i low =
      ⊎_elim
      (λ h. let e = h.1 in absurd (omega arith))
      (λ h.
      let q : Pointer = record { locale = 0; index = i + 1; count = start.count } in
      let few = is_shape.2 in
      let back : index_in (word_of (record { locale = l; index = i + 1; count = start.count })) ≡ i + 1 = index_of l in
      rw h.0 (ap (top_at l) back ∙ top_at_some l (i + 1) (λ z. omega arith)))
      (eqb_tells i shape.objects)
    where
      index_of : (l : ℕ) → index_in (word_of (record { locale = l; index = i + 1; count = start.count })) ≡ i + 1
      index_of l = let few = is_shape.2 in small_index l (i + 1) start.count (omega arith) (omega arith)

  stack_path : (n l i : ℕ) → 1 ≤ i → i + n ≡ shape.objects + 1 → IsPath opening_link (first_left n l i) (stack_from n l i)
  unfolding stack_from
  stack_path zero l i some e = refl
  stack_path (suc zero) l i some e =
      let same : i ≡ shape.objects = omega arith in
      (refl, ap (λ x. opening_link (record { locale = l; index = x })) same ∙ link_last l)
  stack_path (suc (suc n)) l i some e =
      (refl, subst (λ f. IsPath opening_link f (stack_from (suc n) l (i + 1))) (sym (link_more l i (omega arith))) (stack_path (suc n) l (i + 1) (omega arith) (omega arith)))

  pub opening_sound : IsSound (opening shape start seats) opening_map
  unfolding opening opening_words opening_map timing_at token_at pinned_at global_at scan_at spread_at phased_at home_wait_at content_at first_of opening_link
  opening_sound = record {
    timed = record {
      own = λ c. tt;
      apart = λ c d t a b. absurd (cc a);
      alone = λ c d a b. absurd (cc a);
      scanned = λ c d n t a b x. absurd (cc a);
      spread = λ l h. record { most = omega arith; least = omega arith; same = inl refl };
    };
    listed = λ k. listed k.kind k.first k.second;
    lists = λ c. record { hand = refl; owned = refl; walked = refl; to_swap = refl };
    fit = λ p. record { state = refl; bound = counts; tagging = refl };
    paths = λ k chain. path k.kind k.first k.second chain;
    linked = record {
      links = λ p. refl;
      home_waits = λ c w e. absurd (cc e);
      one_wait = λ c d w v a b e. absurd (cc a);
      list_waits = λ c w e. absurd (cc e);
      heads = λ l e. absurd (cc e);
    };
    aged = record { aged = λ p d e. absurd (cc e); young = λ c x e. absurd (cc e) };
    looks = λ c. record { locale = λ n. absurd (n refl); most = λ n. absurd (n refl); same = λ n e. absurd (n refl); index = λ n. absurd (cc n); next_read = λ n e. absurd (cc n) };
  }
    where
      none_listed : (k : Location) → ((p : Place) → IsPlace shape p → at_ InStack p.locale ≡ k → ⊥) → IsListed shape (λ p. at_ InStack p.locale) k []
      none_listed k none = record { all = λ p h. absurd (among_nil p h); each = λ p e inside. absurd (none p inside e); distinct = tt }

      listed : (kind : Kind) (i j : ℕ) → IsListed shape (λ p. at_ InStack p.locale) (record { kind = kind; first = i; second = j }) (content_at shape kind i j)
      listed InStack l zero =
          ⊎_elim
          (λ e.
          let low = ltb-true l shape.locales e in
          subst (λ b. IsListed shape (λ p. at_ InStack p.locale) (at_ InStack l) (if b then stack_from shape.objects l 1 else [])) (sym e)
          (record {
            all = λ p h. let r = stack_among shape.objects l 1 p h in let r1 = r.1 in let r2 = r.2 in let r0 = r.0 in
                (ap (at_ InStack) r.0, record { locale = omega arith; some_object = omega arith; index = omega arith });
            each = λ p e inside. let a = inside.some_object in let b = inside.index in among_stack shape.objects l 1 p (ap (λ x. x.first) e) a (omega arith);
            distinct = stack_distinct shape.objects l 1;
          }))
          (λ e.
          let high = ltb-false l shape.locales e in
          subst (λ b. IsListed shape (λ p. at_ InStack p.locale) (at_ InStack l) (if b then stack_from shape.objects l 1 else [])) (sym e)
          (none_listed (at_ InStack l) (λ p inside x. let low = inside.locale in let same : p.locale ≡ l = ap (λ y. y.first) x in omega arith)))
          (truth (ltb l shape.locales))
      listed InStack l (suc j) = none_listed _ (λ p inside x. let e : 0 ≡ suc j = ap (λ y. y.second) x in omega arith)
      listed InHome i j = none_listed _ (λ p inside x. absurd (cc (ap (λ y. y.kind) x)))
      listed InTaken i j = none_listed _ (λ p inside x. absurd (cc (ap (λ y. y.kind) x)))
      listed InHand i j = none_listed _ (λ p inside x. absurd (cc (ap (λ y. y.kind) x)))
      listed IsOwned i j = none_listed _ (λ p inside x. absurd (cc (ap (λ y. y.kind) x)))
      listed IsLive i j = none_listed _ (λ p inside x. absurd (cc (ap (λ y. y.kind) x)))
      listed InDeferral i j = none_listed _ (λ p inside x. absurd (cc (ap (λ y. y.kind) x)))
      listed InList i j = none_listed _ (λ p inside x. absurd (cc (ap (λ y. y.kind) x)))
      listed InRest i j = none_listed _ (λ p inside x. absurd (cc (ap (λ y. y.kind) x)))
      listed IsWalked i j = none_listed _ (λ p inside x. absurd (cc (ap (λ y. y.kind) x)))
      listed IsWorn i j = none_listed _ (λ p inside x. absurd (cc (ap (λ y. y.kind) x)))

      stack_first : (n l : ℕ) → 1 ≤ n → first_left n l 1 ≡ top_at l 1
      stack_first zero l h = absurd (omega arith)
      stack_first (suc n) l h = sym (top_at_some l 1 (λ z. omega arith))

      path : (kind : Kind) (i j : ℕ) → IsChain shape.locales kind i j → IsPath opening_link (first_of (firsts_of (opening_words shape start) (λ c. opening_seat)) kind i j) (content_at shape kind i j)
      path InStack l zero h =
          let few = is_shape.2 in
          subst (λ b. IsPath opening_link (top_at l 1) (if b then stack_from shape.objects l 1 else [])) (sym (lt-ltb l shape.locales h.1))
          (subst (λ f. IsPath opening_link f (stack_from shape.objects l 1)) (stack_first shape.objects l few.0) (stack_path shape.objects l 1 (omega arith) (omega arith)))
      path InStack l (suc j) h = absurd (let e = h.0 in omega arith)
      path InHome i j h = led_to_none
      path InTaken i j h = led_to_none
      path InList i j h = led_to_none
      path InRest i j h = led_to_none
      path _ i j h = absurd h

  -- where the objects are at the opening
  pub opening_loc : (P : (Place → Location) → Type 0) → P (λ p. at_ InStack p.locale) → P opening_map.loc
  unfolding opening_map
  opening_loc P h = h
