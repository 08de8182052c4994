-- What the items of a run tell of the state that it leaves.
use Rattle.std.proofs.Common.{◌≡◌, ◌⊎◌, ℕ, ◌+◌, ◌≤◌, Bool, true, List, [], ◌∷◌, ◌++◌, length, take, drop, Option, Some, None, refl, ap, sym, ◌∙◌, subst, inl, inr, ⊎_elim, arith, length-append, append-nil}
use mathlib.Core.Path.{fun_ext}
use Rattle.std.proofs.lemmas.List.{take-append-le, drop-append-le}
use Rattle.std.proofs.lemmas.List.Sums.{fold-append}
use Rattle.epoch_laws.specs.declared.tokens.Token.{Token}
use Rattle.epoch_laws.specs.declared.events.EpochEvent.{EpochEvent}
use Rattle.epoch_laws.specs.declared.events.EpochEvent.TheVariants.{Unpinned}
use Rattle.epoch_laws.specs.declared.events.Item.{Item}
use Rattle.epoch_laws.specs.declared.events.Item.TheVariants.{Event, Advance, Claim, Leave}
use Rattle.epoch_laws.specs.Places.{Place, is_among}
use Rattle.epoch_laws.specs.Histories.{Happening, Standing, registrant_after, pinner_after, registrant, pinner, progress_after, progress, HasUnpinned}
use Rattle.epoch_laws.specs.Items.{happenings, epoch_after, epoch_of, advancer_after, last_advancer, claimant_after, claimant, releaser_after, releaser, tag_after, last_tag}
use Rattle.epoch_laws.proofs.Locations.{Location, loc_moved, at_moved}
pub use Rattle.epoch_laws.specs.Told.{Class, Frees, Lives, Defers, Wears, Owns, class_of, Summary, summary, View, IsWatched, Stands, TokensTold, ObjectsTold, EpochsTold, TagsTold, IsTold}
unfoldable pub use Rattle.epoch_laws.specs.Told.{class_at, is_advanced}

pub happenings-append : (xs ys : List Item) → happenings (xs ++ ys) ≡ happenings xs ++ happenings ys
unfolding happenings
happenings-append [] ys = refl
happenings-append (Event c e tag ∷ xs) ys = ap (λ l. record { caller = c; event = e } ∷ l) (happenings-append xs ys)
happenings-append (Advance c e ∷ xs) ys = happenings-append xs ys
happenings-append (Claim c g ∷ xs) ys = happenings-append xs ys
happenings-append (Leave c g ∷ xs) ys = happenings-append xs ys

module _ (items : List Item) where
  pub happenings_event : (c : ℕ) (e : EpochEvent) (tag : ℕ) → happenings (items ++ Event c e tag ∷ []) ≡ happenings items ++ record { caller = c; event = e } ∷ []
  unfolding happenings
  happenings_event c e tag = happenings-append items (Event c e tag ∷ [])

  pub happenings_advance : (c e : ℕ) → happenings (items ++ Advance c e ∷ []) ≡ happenings items
  unfolding happenings
  happenings_advance c e = happenings-append items (Advance c e ∷ []) ∙ append-nil (happenings items)

  pub happenings_claim : (c : ℕ) (g : Bool) → happenings (items ++ Claim c g ∷ []) ≡ happenings items
  unfolding happenings
  happenings_claim c g = happenings-append items (Claim c g ∷ []) ∙ append-nil (happenings items)

  pub happenings_leave : (c : ℕ) (g : Bool) → happenings (items ++ Leave c g ∷ []) ≡ happenings items
  unfolding happenings
  happenings_leave c g = happenings-append items (Leave c g ∷ []) ∙ append-nil (happenings items)

  pub epoch_more : (first : ℕ) (x : Item) → epoch_of first (items ++ x ∷ []) ≡ epoch_after (epoch_of first items) x
  unfolding epoch_of
  epoch_more first x = fold-append epoch_after first items (x ∷ [])

  pub advancer_more : (x : Item) → last_advancer (items ++ x ∷ []) ≡ advancer_after (last_advancer items) x
  unfolding last_advancer
  advancer_more x = fold-append advancer_after None items (x ∷ [])

  pub claimant_more : (x : Item) → claimant (items ++ x ∷ []) ≡ claimant_after (claimant items) x
  unfolding claimant
  claimant_more x = fold-append claimant_after None items (x ∷ [])

  pub releaser_more : (x : Item) → releaser (items ++ x ∷ []) ≡ releaser_after (releaser items) x
  unfolding releaser
  releaser_more x = fold-append releaser_after None items (x ∷ [])

  pub tag_more : (p : Place) (x : Item) → last_tag p (items ++ x ∷ []) ≡ tag_after p (last_tag p items) x
  unfolding last_tag
  tag_more p x = fold-append (tag_after p) 0 items (x ∷ [])

module _ (hs : List Happening) (x : Happening) where
  pub registrant_more : (t : Token) → registrant t (hs ++ x ∷ []) ≡ registrant_after t (registrant t hs) x
  unfolding registrant
  registrant_more t = fold-append (registrant_after t) None hs (x ∷ [])

  pub pinner_more : (t : Token) → pinner t (hs ++ x ∷ []) ≡ pinner_after t (pinner t hs) x
  unfolding pinner
  pinner_more t = fold-append (pinner_after t) None hs (x ∷ [])

  pub progress_more : (count : ℕ) (p : Place) → progress count p (hs ++ x ∷ []) ≡ progress_after p (progress count p hs) x
  unfolding progress
  progress_more count p = fold-append (progress_after p) _ hs (x ∷ [])

pub unpinned_left : (t : Token) (xs ys : List Happening) → HasUnpinned t xs → HasUnpinned t (xs ++ ys)
unpinned_left t [] ys h = absurd h
unpinned_left t (x ∷ xs) ys h = ⊎_elim (λ e. inl e) (λ r. inr (unpinned_left t xs ys r)) h

pub unpinned_right : (t : Token) (xs ys : List Happening) → HasUnpinned t ys → HasUnpinned t (xs ++ ys)
unpinned_right t [] ys h = h
unpinned_right t (x ∷ xs) ys h = inr (unpinned_right t xs ys h)

-- where each pinned token stays as it is, or is unpinned now, an object that the event doesn't concern stands as before
pub watched_more : (v w : View) (hs : List Happening) (x : Happening) (i : ℕ) (tag : Option ℕ) → i ≤ length hs
    → ((c : ℕ) (t : Token) → (v.seats c).pinned ≡ Some t → (((w.seats c).pinned ≡ Some t) × (w.born t ≡ v.born t)) ⊎ (x.event ≡ Unpinned t))
    → IsWatched v hs i tag → IsWatched w (hs ++ x ∷ []) i tag
watched_more v w hs x i tag within keeps watched t d e =
    let was : pinner t (take i hs) ≡ Some d = ap (pinner t) (sym (take-append-le i hs (x ∷ []) within)) ∙ e in
    let ends : drop i (hs ++ x ∷ []) ≡ drop i hs ++ x ∷ [] = drop-append-le i hs (x ∷ []) within in
    ⊎_elim
    (λ h. inl (subst (HasUnpinned t) (sym ends) (unpinned_left t (drop i hs) (x ∷ []) h)))
    (λ h.
    ⊎_elim
    (λ k. let b = k.1 in inr (h.0, k.0, (λ f g. let l = h.2 f g in omega arith)))
    (λ k. inl (subst (HasUnpinned t) (sym ends) (unpinned_right t (drop i hs) (x ∷ []) (inl k))))
    (keeps h.0 t h.1))
    (watched t d was)

pub stands_more : (v w : View) (hs : List Happening) (x : Happening) (k : Class) (n : ℕ) (tag : Option ℕ) (st : Standing)
    → ((c : ℕ) (t : Token) → (v.seats c).pinned ≡ Some t → (((w.seats c).pinned ≡ Some t) × (w.born t ≡ v.born t)) ⊎ (x.event ≡ Unpinned t))
    → Stands v hs k n tag st → Stands w (hs ++ x ∷ []) k n tag st
stands_more v w hs x Frees n tag st keeps h = h
stands_more v w hs x (Owns c) n tag st keeps h = h
stands_more v w hs x Lives n tag st keeps h = h
stands_more v w hs x Wears n tag st keeps h = h
stands_more v w hs x Defers n tag st keeps h =
    let within = h.2 in
    let l = length-append hs (x ∷ []) in
    (h.0, h.1, more (length hs) (length (hs ++ x ∷ [])) h.0 l h.2, watched_more v w hs x h.0 tag h.2 keeps h.3)
  where
    more : (a b i : ℕ) → b ≡ a + 1 → i ≤ a → i ≤ b
    more a b i e h = omega arith

-- what the objects tell stays where no event happens and nothing that they depend on changes
pub stands_same : (v w : View) (hs : List Happening) (k : Class) (n : ℕ) (tag : Option ℕ) (st : Standing)
    → ((c : ℕ) (t : Token) → (v.seats c).pinned ≡ Some t → ((w.seats c).pinned ≡ Some t) × (w.born t ≡ v.born t))
    → Stands v hs k n tag st → Stands w hs k n tag st
stands_same v w hs Frees n tag st keeps h = h
stands_same v w hs (Owns c) n tag st keeps h = h
stands_same v w hs Lives n tag st keeps h = h
stands_same v w hs Wears n tag st keeps h = h
stands_same v w hs Defers n tag st keeps h =
    (h.0, h.1, h.2, (λ t d e. ⊎_elim (λ x. inl x) (λ x. let k = keeps x.0 t x.1 in let b = k.1 in inr (x.0, k.0, (λ f g. let l = x.2 f g in omega arith))) (h.3 t d e)))

-- classes stay where objects go to a location of the same class
pub class_moved : (moved : List Place) (b : Location) (loc : Place → Location) → ((p : Place) → is_among p moved ≡ true → class_of b ≡ class_of (loc p))
    → ◌≡◌ {A = Place → Class} (λ p. class_of (loc_moved moved b loc p)) (λ p. class_of (loc p))
class_moved moved b loc same = fun_ext (at_moved (λ p k. class_of k ≡ class_of (loc p)) moved b loc same (λ p h. refl))
