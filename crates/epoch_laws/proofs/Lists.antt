-- Lists of places.
use Rattle.std.proofs.Common.{◌≡◌, ◌≢◌, ◌⊎◌, Bool, true, false, List, [], ◌∷◌, ◌++◌, refl, ap, ◌∙◌, subst, inl, inr, ⊎_elim}
use Rattle.std.proofs.lemmas.Bool.{false_from_ne_true}
use Rattle.epoch_laws.specs.Places.{Place, is_among, without, without_all}
use Rattle.epoch_laws.proofs.Updates.{same_place_tells}
pub use Rattle.epoch_laws.specs.Locations.{IsDistinct}

pub among_here : (p : Place) (xs : List Place) → is_among p (p ∷ xs) ≡ true
unfolding is_among
among_here p xs = ⊎_elim (λ h. rw h.0 refl) (λ h. let e = h.1 in absurd (e refl)) (same_place_tells p p)

pub among_more : (p q : Place) (xs : List Place) → is_among p xs ≡ true → is_among p (q ∷ xs) ≡ true
unfolding is_among
among_more p q xs h = ⊎_elim (λ s. rw s.0 refl) (λ s. rw s.0 h) (same_place_tells p q)

-- what is among a list with a first place
pub among_cons : (p q : Place) (xs : List Place) → is_among p (q ∷ xs) ≡ true → (p ≡ q) ⊎ ((p ≢ q) × (is_among p xs ≡ true))
unfolding is_among
among_cons p q xs h = ⊎_elim (λ s. inl s.1) (λ s. inr (s.1, rw s.0 at h)) (same_place_tells p q)

pub among_nil : (p : Place) → is_among p [] ≡ true → ⊥
unfolding is_among
among_nil p h = absurd (cc h)

pub among_none : (p : Place) → is_among p [] ≡ false
unfolding is_among
among_none p = refl

pub among_one : (p q : Place) → is_among p (q ∷ []) ≡ true → p ≡ q
among_one p q h = ⊎_elim (λ e. e) (λ e. absurd (among_nil p e.1)) (among_cons p q [] h)

pub among-append_left : (p : Place) (xs ys : List Place) → is_among p xs ≡ true → is_among p (xs ++ ys) ≡ true
among-append_left p [] ys h = absurd (among_nil p h)
among-append_left p (x ∷ xs) ys h =
    ⊎_elim
    (λ e. subst (λ q. is_among p (q ∷ (xs ++ ys)) ≡ true) e (among_here p (xs ++ ys)))
    (λ e. among_more p x (xs ++ ys) (among-append_left p xs ys e.1))
    (among_cons p x xs h)

pub among-append_right : (p : Place) (xs ys : List Place) → is_among p ys ≡ true → is_among p (xs ++ ys) ≡ true
among-append_right p [] ys h = h
among-append_right p (x ∷ xs) ys h = among_more p x (xs ++ ys) (among-append_right p xs ys h)

pub among-append : (p : Place) (xs ys : List Place) → is_among p (xs ++ ys) ≡ true → (is_among p xs ≡ true) ⊎ (is_among p ys ≡ true)
among-append p [] ys h = inr h
among-append p (x ∷ xs) ys h =
    ⊎_elim
    (λ e. inl (subst (λ q. is_among p (q ∷ xs) ≡ true) e (among_here p xs)))
    (λ e. ⊎_elim (λ f. inl (among_more p x xs f)) (λ f. inr f) (among-append p xs ys e.1))
    (among_cons p x (xs ++ ys) h)

-- a truth value is one of the two
pub truth : (b : Bool) → (b ≡ true) ⊎ (b ≡ false)
truth true = inl refl
truth false = inr refl

-- what is left where some are gone
pub among_left : (p : Place) (gone xs : List Place) → is_among p (without_all gone xs) ≡ true → (is_among p gone ≡ false) × (is_among p xs ≡ true)
unfolding without_all
among_left p gone [] h = absurd (among_nil p h)
among_left p gone (x ∷ xs) h =
    ⊎_elim
    (λ e. let r = among_left p gone xs (rw e at h) in (r.0, among_more p x xs r.1))
    (λ e.
    ⊎_elim
    (λ s. (ap (λ q. is_among q gone) s ∙ e, subst (λ q. is_among p (q ∷ xs) ≡ true) s (among_here p xs)))
    (λ s. let r = among_left p gone xs s.1 in (r.0, among_more p x xs r.1))
    (among_cons p x (without_all gone xs) (rw e at h)))
    (truth (is_among x gone))

pub among_kept : (p : Place) (gone xs : List Place) → is_among p gone ≡ false → is_among p xs ≡ true → is_among p (without_all gone xs) ≡ true
unfolding without_all
among_kept p gone [] n h = absurd (among_nil p h)
among_kept p gone (x ∷ xs) n h =
    ⊎_elim
    (λ e. rw e (⊎_elim (λ s. absurd (cc (n, ap (λ q. is_among q gone) s, e))) (λ s. among_kept p gone xs n s.1) (among_cons p x xs h)))
    (λ e.
    rw e
    (⊎_elim
    (λ s. subst (λ q. is_among p (q ∷ without_all gone xs) ≡ true) s (among_here p (without_all gone xs)))
    (λ s. among_more p x (without_all gone xs) (among_kept p gone xs n s.1))
    (among_cons p x xs h)))
    (truth (is_among x gone))

not_among : (p : Place) (xs ys : List Place) → (is_among p ys ≡ true → is_among p xs ≡ true) → is_among p xs ≡ false → is_among p ys ≡ false
not_among p xs ys sub n = false_from_ne_true (is_among p ys) (λ h. absurd (cc (sub h, n)))

pub distinct_left : (gone xs : List Place) → IsDistinct xs → IsDistinct (without_all gone xs)
unfolding without_all
distinct_left gone [] h = tt
distinct_left gone (x ∷ xs) h =
    ⊎_elim
    (λ e. rw e (distinct_left gone xs h.1))
    (λ e. rw e (not_among x xs (without_all gone xs) (λ m. (among_left x gone xs m).1) h.0, distinct_left gone xs h.1))
    (truth (is_among x gone))

pub distinct-append : (xs ys : List Place) → IsDistinct xs → IsDistinct ys → ((p : Place) → is_among p xs ≡ true → is_among p ys ≡ true → ⊥) → IsDistinct (xs ++ ys)
distinct-append [] ys dx dy apart = dy
distinct-append (x ∷ xs) ys dx dy apart = (
  false_from_ne_true (is_among x (xs ++ ys))
      (λ h. ⊎_elim (λ e. absurd (cc (e, dx.0))) (λ e. apart x (among_here x xs) e) (among-append x xs ys h)),
  distinct-append xs ys dx.1 dy (λ p h k. apart p (among_more p x xs h) k),
)

pub without_one : (p : Place) (xs : List Place) → without_all (p ∷ []) xs ≡ without p xs
unfolding without_all without is_among
without_one p [] = refl
without_one p (x ∷ xs) = ⊎_elim (λ h. rw (h.0) (without_one p xs)) (λ h. rw (h.0) (ap (λ l. x ∷ l) (without_one p xs))) (same_place_tells x p)

pub left_none : (gone xs : List Place) → ((p : Place) → is_among p xs ≡ true → is_among p gone ≡ true) → without_all gone xs ≡ []
unfolding without_all
left_none gone [] all = refl
left_none gone (x ∷ xs) all = rw (all x (among_here x xs)) (left_none gone xs (λ p h. all p (among_more p x xs h)))

left_all : (gone xs : List Place) → ((p : Place) → is_among p xs ≡ true → is_among p gone ≡ false) → without_all gone xs ≡ xs
unfolding without_all
left_all gone [] none = refl
left_all gone (x ∷ xs) none = rw (none x (among_here x xs)) (ap (λ l. x ∷ l) (left_all gone xs (λ p h. none p (among_more p x xs h))))

-- the first of distinct places gone
pub left_rest : (p : Place) (xs : List Place) → IsDistinct (p ∷ xs) → without_all (p ∷ []) (p ∷ xs) ≡ xs
unfolding without_all
left_rest p xs d =
    rw (among_here p [])
    (left_all (p ∷ []) xs (λ q h. false_from_ne_true (is_among q (p ∷ [])) (λ m. absurd (cc (h, d.0, ap (λ r. is_among r xs) (among_one q p m))))))
