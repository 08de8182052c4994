-- There are no more objects than the shape has.
use Rattle.std.proofs.Common.{◌≡◌, ◌+◌, ◌-◌, ◌*◌, ◌<◌, ◌≤◌, ℕ, true, false, List, [], ◌∷◌, length, map, sym, subst, arith, ne_eqb, ⊎_elim}
use Rattle.std.specs.List.{AllByRecursion, IsDistinct as AreDistinct, list_any}
use lib.Dec.{eqb}
use Rattle.std.proofs.lemmas.Bool.{false_from_ne_true}
use Rattle.std.proofs.lemmas.List.{length-map}
use Rattle.std.proofs.lemmas.Map.Steps.{length-le_from_distinct_below}
use Rattle.std.proofs.lemmas.Nat.{mul-add-lt, same_from_place}
use Rattle.std.proofs.lemmas.Bool.Decides.{eqb_tells}
use Rattle.pgas_base.specs.declared.shapes.Shape.{Shape}
use Rattle.epoch_laws.specs.Locations.{IsDistinct}
use Rattle.epoch_laws.specs.Places.{Place, is_among}
use Rattle.epoch_laws.specs.States.{IsPlace}
use Rattle.epoch_laws.proofs.Lists.{among_here, among_more}

module _ (shape : Shape) where
  -- the number of the object there among those of all locales
  abbrev number : Place → ℕ
  number p = p.locale * shape.objects + (p.index - 1)

  same_number : (p q : Place) → IsPlace shape p → IsPlace shape q → number p ≡ number q → p ≡ q
  same_number p q a b e =
      let some = a.some_object in
      let low = a.index in
      let some' = b.some_object in
      let low' = b.index in
      let two = same_from_place p.locale (p.index - 1) q.locale (q.index - 1) shape.objects (omega arith) (omega arith) e in
      let last = two.1 in
      let index : p.index ≡ q.index = omega arith in
      λ i. record { locale = two.0 i; index = index i }

  low_number : (p : Place) → IsPlace shape p → number p < shape.locales * shape.objects
  low_number p a =
      let some = a.some_object in
      let low = a.index in
      let is = mul-add-lt p.locale shape.objects (p.index - 1) shape.locales a.locale (omega arith) in
      grind arith

  abbrev AllInside : List Place → Type 0
  AllInside places = (p : Place) → is_among p places ≡ true → IsPlace shape p

  rest_inside : (p : Place) (places : List Place) → AllInside (p ∷ places) → AllInside places
  rest_inside p places inside q h = inside q (among_more q p places h)

  apart : (p : Place) (places : List Place) → IsPlace shape p → AllInside places → is_among p places ≡ false → AllByRecursion (λ y. eqb (number p) y ≡ false) (map number places)
  apart p [] a inside none = tt
  apart p (q ∷ places) a inside none = (
    ne_eqb (number p) (number q) (λ e. let same = same_number p q a (inside q (among_here q places)) e in absurd (cc (none, subst (λ x. is_among x (q ∷ places) ≡ true) (sym same) (among_here q places)))),
    apart p places a (rest_inside q places inside) (false_from_ne_true _ (λ h. let more = among_more p q places h in absurd (cc (none, more)))),
  )

  distinct : (places : List Place) → AllInside places → IsDistinct places → AreDistinct eqb (map number places)
  unfolding AreDistinct
  distinct [] inside is = tt
  distinct (p ∷ places) inside is = (apart p places (inside p (among_here p places)) (rest_inside p places inside) is.0, distinct places (rest_inside p places inside) is.1)

  low_any : (places : List Place) → AllInside places → (q : ℕ) → list_any (eqb q) (map number places) ≡ true → q < shape.locales * shape.objects
  low_any [] inside q has = absurd (cc has)
  low_any (p ∷ places) inside q has =
      ⊎_elim
      (λ e. let is : q ≡ number p = e.1 in subst (λ n. n < shape.locales * shape.objects) (sym is) (low_number p (inside p (among_here p places))))
      (λ e. low_any places (rest_inside p places inside) q (rw e.0 at has))
      (eqb_tells q (number p))

  -- distinct objects of the shape are no more than it has
  pub no_more : (places : List Place) → AllInside places → IsDistinct places → length places ≤ shape.locales * shape.objects
  no_more places inside is = subst (λ n. n ≤ shape.locales * shape.objects) (length-map places number) (length-le_from_distinct_below (map number places) (shape.locales * shape.objects) (distinct places inside is) (low_any places inside))
