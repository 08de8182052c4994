-- How old the tags of deferred objects are, by where they are.
use Rattle.std.proofs.Common.{◌≡◌, ◌≢◌, ◌⊎◌, ℕ, ◌+◌, ◌%◌, ◌^◌, ◌<◌, ◌≤◌, true, List, [], ◌∷◌, Option, Some, None, refl, ap, sym, ◌∙◌, subst, inl, inr, ⊎_elim, arith}
use Rattle.std.proofs.lemmas.Bool.{cases_lt}
use Rattle.pgas_base.specs.declared.shapes.Shape.{Shape}
use Rattle.epoch_laws.specs.declared.tokens.Token.{Token}
use Rattle.epoch_laws.specs.Places.{Place, is_among, with_number, with_place}
use Rattle.epoch_laws.specs.States.{IsPlace}
use Rattle.epoch_laws.proofs.Updates.{number_here, at_number, at_place, place_here, place_there}
use Rattle.epoch_laws.proofs.Lists.{truth, among_here, among_one}
use Rattle.epoch_laws.proofs.Locations.{Kind, InStack, InHome, InTaken, InHand, IsOwned, IsLive, InDeferral, InList, InRest, IsWalked, IsWorn, Location, at_, loc_moved, loc_there, loc_else, at_moved}
use Rattle.epoch_laws.proofs.Paths.{list_at}
pub use Rattle.epoch_laws.specs.Ages.{Deferring, IsAge, IsAged, IsYoung, AreAged}

eq_or_less : (a b : ℕ) → b ≤ a → (a ≡ b) ⊎ (b + 1 ≤ a)
eq_or_less a b h = ⊎_elim (λ x. inr (omega arith)) (λ x. inl (omega arith)) (cases_lt b a)

-- a number of four in a row has its own rest
not_near : (d g : ℕ) → (g + 2) % 4 ≡ d % 4 → d ≤ g + 1 → g + 1 ≤ d + 2 → ⊥
not_near d g m most least = omega arith

far : (d g : ℕ) → d + 3 ≡ g + 1 → d % 4 ≡ (g + 2) % 4
far d g e = omega arith

module _ (shape : Shape) (epoch : ℕ) (born : Token → ℕ) (tag : Place → Option ℕ) (loc : Place → Location) (collecting : ℕ → Option ℕ) (deferring : ℕ → Option Deferring)
    (old : AreAged shape epoch born tag loc collecting deferring) where
  -- objects that aren't deferred may go anywhere
  pub moves_untagged : (moved : List Place) (b : Location) → ((p : Place) → is_among p moved ≡ true → tag p ≡ None)
      → AreAged shape epoch born tag (loc_moved moved b loc) collecting deferring
  moves_untagged moved b none = record {
    aged = at_moved (λ p k. (d : ℕ) → tag p ≡ Some d → IsAged shape epoch collecting p k d) moved b loc (λ p h d e. absurd (cc (none p h, e))) (λ p h d e. old.aged p d e);
    young = old.young;
  }

  -- objects go where their tags may be
  pub moves_tagged : (moved : List Place) (b : Location)
      → ((p : Place) (d : ℕ) → is_among p moved ≡ true → tag p ≡ Some d → IsAge shape.locales epoch collecting b.kind b.first b.second d)
      → AreAged shape epoch born tag (loc_moved moved b loc) collecting deferring
  moves_tagged moved b ages = record {
    aged = at_moved (λ p k. (d : ℕ) → tag p ≡ Some d → IsAged shape epoch collecting p k d) moved b loc
        (λ p h d e. let was = old.aged p d e in record { inside = was.inside; most = was.most; age = ages p d h e }) (λ p h d e. old.aged p d e);
    young = old.young;
  }

  -- an object is deferred with this tag
  pub defers : (c : ℕ) (p : Place) (e : ℕ) (t : Token) (count : ℕ) → count < 2 ^ 32 → tag p ≡ None → IsPlace shape p → e ≤ epoch → epoch ≤ e + 2 → born t ≤ e + 1
      → AreAged shape epoch born (with_place tag p (Some e)) (loc_moved (p ∷ []) (at_ InDeferral c) loc) collecting (with_number deferring c (Some (record { place = p; tag = e; token = t; count = count })))
  defers c p e t count bound none inside most least young = record {
    aged = at_place (λ q x. (d : ℕ) → x ≡ Some d → IsAged shape epoch collecting q (loc_moved (p ∷ []) (at_ InDeferral c) loc q) d) tag p (Some e)
        (λ d eq. let same : e ≡ d = cc eq in
        subst (λ k. IsAged shape epoch collecting p k d) (sym (loc_there (p ∷ []) (at_ InDeferral c) loc p (among_here p [])))
        (record { inside = inside; most = omega arith; age = (refl, omega arith) }))
        (λ q ne d eq. ⊎_elim (λ h. absurd (ne (among_one q p h))) (λ h.
        subst (λ k. IsAged shape epoch collecting q k d) (sym (loc_else (p ∷ []) (at_ InDeferral c) loc q h)) (old.aged q d eq)) (truth (is_among q (p ∷ []))));
    young = at_number (λ d x. (y : Deferring) → x ≡ Some y → IsYoung born (with_place tag p (Some e)) y) deferring c (Some (record { place = p; tag = e; token = t; count = count }))
        (λ y eq. subst (IsYoung born (with_place tag p (Some e))) (let same : ◌≡◌ {A = Deferring} (record { place = p; tag = e; token = t; count = count }) y = cc eq in same)
        (record { tagged = place_here tag p (Some e); late = young; bound = bound }))
        (λ d ne y eq. let was = old.young d y eq in
        record { tagged = place_there tag p (Some e) y.place (λ same. absurd (cc (none, was.tagged, ap tag same))) ∙ was.tagged; late = was.late; bound = was.bound });
  }

  -- the deferral of a seat is over
  pub ends_deferral : (c : ℕ) → AreAged shape epoch born tag loc collecting (with_number deferring c None)
  ends_deferral c = record {
    aged = old.aged;
    young = at_number (λ d x. (y : Deferring) → x ≡ Some y → IsYoung born tag y) deferring c None (λ y e. absurd (cc e)) (λ d ne y e. old.young d y e);
  }

  -- another number of a token with which nothing is being deferred
  pub pins_anew : (more : Token → ℕ) → ((c : ℕ) (x : Deferring) → deferring c ≡ Some x → more x.token ≡ born x.token) → AreAged shape epoch more tag loc collecting deferring
  pins_anew more same = record {
    aged = old.aged;
    young = λ c x e. let was = old.young c x e in let wb = was.late in let s = same c x e in record { tagged = was.tagged; late = omega arith; bound = was.bound };
  }

  -- the epoch rises by one, while no seat collects and what is being deferred has no tag below the epoch less one
  pub advances_ages : (c : ℕ) → ((d n : ℕ) → collecting d ≡ Some n → ⊥)
      → ((p : Place) (d : ℕ) → (loc p).kind ≡ InDeferral → tag p ≡ Some d → epoch ≤ d + 1)
      → AreAged shape (epoch + 1) born tag loc (with_number collecting c (Some 0)) deferring
  advances_ages c nobody late = record {
    aged = λ p d e. let was = old.aged p d e in let most = was.most in
        record { inside = was.inside; most = omega arith; age = go ((loc p).kind) ((loc p).first) ((loc p).second) d (λ k. late p d k e) was.age };
    young = old.young;
  }
    where
      go : (k : Kind) (i j d : ℕ) → (k ≡ InDeferral → epoch ≤ d + 1) → IsAge shape.locales epoch collecting k i j d
          → IsAge shape.locales (epoch + 1) (with_number collecting c (Some 0)) k i j d
      go InDeferral i j d late was = let h : epoch ≤ d + 1 = late refl in (was.0, omega arith)
      go InList i j d late was =
          let here : with_number collecting c (Some 0) c ≡ Some 0 = number_here collecting c (Some 0) in (
            was.0,
            was.1,
            ⊎_elim
                (λ h. ⊎_elim (λ s. inr (omega arith, (c, 0, here, omega arith))) (λ s. inl (omega arith)) (eq_or_less (d + 2) epoch h))
                (λ h. let w = h.1 in absurd (nobody w.0 w.1 w.2))
                was.2,
          )
      go InRest i j d late was = let w = was.2 in absurd (nobody i w.0 w.1)
      go IsWalked i j d late was = let w = was.2 in absurd (nobody i w.0 w.1)
      go InStack i j d late was = tt
      go InHome i j d late was = tt
      go InTaken i j d late was = tt
      go InHand i j d late was = tt
      go IsOwned i j d late was = tt
      go IsLive i j d late was = tt
      go IsWorn i j d late was = tt

  -- the next list is collected: what is in it has a tag three below the epoch
  pub collects : (c n g : ℕ) (moved : List Place) → collecting c ≡ Some n → ((d m : ℕ) → collecting d ≡ Some m → d ≡ c) → g + 1 ≡ epoch
      → ((p : Place) → is_among p moved ≡ true → loc p ≡ list_at n ((g + 2) % 4))
      → ((p : Place) → loc p ≡ list_at n ((g + 2) % 4) → IsPlace shape p → is_among p moved ≡ true)
      → AreAged shape epoch born tag (loc_moved moved (at_ InRest c) loc) (with_number collecting c (Some (n + 1))) deferring
  collects c n g moved mine alone ge all each = record {
    aged = at_moved (λ p k. (d : ℕ) → tag p ≡ Some d → IsAged shape epoch (with_number collecting c (Some (n + 1))) p k d) moved (at_ InRest c) loc
        (λ p h d e. let was = old.aged p d e in let most = was.most in
        record {
          inside = was.inside;
          most = was.most;
          age = (
            refl,
            three p d (subst (λ k. IsAge shape.locales epoch collecting k.kind k.first k.second d) (all p h) was.age) most,
            (n + 1, number_here collecting c (Some (n + 1))),
          );
        })
        (λ p h d e. let was = old.aged p d e in
        record {
          inside = was.inside;
          most = was.most;
          age = go ((loc p).kind) ((loc p).first) ((loc p).second) d
              (λ k f s. absurd (cc (h, each p (λ i. record { kind = k i; first = f i; second = s i }) was.inside))) was.age;
        });
    young = old.young;
  }
    where
      three : (p : Place) (d : ℕ) → IsAge shape.locales epoch collecting InList n ((g + 2) % 4) d → d ≤ epoch → d + 3 ≡ epoch
      three p d was most = let m = was.0 in ⊎_elim (λ h. absurd (not_near d g m (omega arith) (omega arith))) (λ h. h.0) was.2

      go : (k : Kind) (i j d : ℕ) → (k ≡ InList → i ≡ n → j ≡ (g + 2) % 4 → ⊥) → IsAge shape.locales epoch collecting k i j d
          → IsAge shape.locales epoch (with_number collecting c (Some (n + 1))) k i j d
      go InDeferral i j d other was = was
      go InList i j d other was = (
        was.0,
        was.1,
        ⊎_elim
            (λ h. inl h)
            (λ h.
            let w = h.1 in
            let h0 = h.0 in
            let w0 = was.0 in
            let same : w.1 ≡ n = cc (w.2, ap collecting (alone w.0 w.1 w.2), mine) in
            let below = w.3 in
            let more : i ≢ n = λ e. other refl e (w0 ∙ far d g (omega arith)) in
            inr (h0, (c, n + 1, number_here collecting c (Some (n + 1)), omega arith)))
            was.2,
      )
      go InRest i j d other was =
          let w = was.2 in
          let same : i ≡ c = alone i w.0 w.1 in
          (was.0, was.1, (n + 1, subst (λ x. with_number collecting c (Some (n + 1)) x ≡ Some (n + 1)) (sym same) (number_here collecting c (Some (n + 1)))))
      go IsWalked i j d other was =
          let w = was.2 in
          let same : i ≡ c = alone i w.0 w.1 in
          (was.0, was.1, (n + 1, subst (λ x. with_number collecting c (Some (n + 1)) x ≡ Some (n + 1)) (sym same) (number_here collecting c (Some (n + 1)))))
      go InStack i j d other was = tt
      go InHome i j d other was = tt
      go InTaken i j d other was = tt
      go InHand i j d other was = tt
      go IsOwned i j d other was = tt
      go IsLive i j d other was = tt
      go IsWorn i j d other was = tt

  -- an object is released
  pub releases : (p : Place) (b : Location) → ((c : ℕ) (x : Deferring) → deferring c ≡ Some x → x.place ≢ p)
      → AreAged shape epoch born (with_place tag p None) (loc_moved (p ∷ []) b loc) collecting deferring
  releases p b others = record {
    aged = at_place (λ q x. (d : ℕ) → x ≡ Some d → IsAged shape epoch collecting q (loc_moved (p ∷ []) b loc q) d) tag p None
        (λ d eq. absurd (cc eq))
        (λ q ne d eq. ⊎_elim (λ h. absurd (ne (among_one q p h))) (λ h.
        subst (λ k. IsAged shape epoch collecting q k d) (sym (loc_else (p ∷ []) b loc q h)) (old.aged q d eq)) (truth (is_among q (p ∷ []))));
    young = λ c x e. let was = old.young c x e in record { tagged = place_there tag p None x.place (others c x e) ∙ was.tagged; late = was.late; bound = was.bound };
  }

  -- a seat that has collected everything and released it no longer collects
  pub ends_collecting : (c : ℕ) → collecting c ≡ Some shape.locales → ((d m : ℕ) → collecting d ≡ Some m → d ≡ c)
      → ((p : Place) (d : ℕ) → tag p ≡ Some d → ((loc p).kind ≡ InRest) ⊎ ((loc p).kind ≡ IsWalked) → (loc p).first ≡ c → (loc p).second ≡ 0 → ⊥)
      → AreAged shape epoch born tag loc (with_number collecting c None) deferring
  ends_collecting c mine alone empty = record {
    aged = λ p d e. let was = old.aged p d e in
        record { inside = was.inside; most = was.most; age = go ((loc p).kind) ((loc p).first) ((loc p).second) d (λ k f g. empty p d e k f g) was.age };
    young = old.young;
  }
    where
      go : (k : Kind) (i j d : ℕ) → ((k ≡ InRest) ⊎ (k ≡ IsWalked) → i ≡ c → j ≡ 0 → ⊥) → IsAge shape.locales epoch collecting k i j d
          → IsAge shape.locales epoch (with_number collecting c None) k i j d
      go InDeferral i j d none was = was
      go InList i j d none was =
          let below = was.1 in (
            was.0,
            was.1,
            ⊎_elim
                (λ h. inl h)
                (λ h.
                let w = h.1 in
                let same : w.1 ≡ shape.locales = cc (w.2, ap collecting (alone w.0 w.1 w.2), mine) in
                let w3 = w.3 in
                absurd (omega arith))
                was.2,
          )
      go InRest i j d none was = let w = was.2 in absurd (none (inl refl) (alone i w.0 w.1) was.0)
      go IsWalked i j d none was = let w = was.2 in absurd (none (inr refl) (alone i w.0 w.1) was.0)
      go InStack i j d none was = tt
      go InHome i j d none was = tt
      go InTaken i j d none was = tt
      go InHand i j d none was = tt
      go IsOwned i j d none was = tt
      go IsLive i j d none was = tt
      go IsWorn i j d none was = tt
