-- Where each object is: in just one of the stacks, chains, hands, lists and the like.
use Rattle.std.proofs.Common.{◌≡◌, ◌≢◌, ◌&&◌, ◌==◌, ℕ, zero, suc, Bool, true, false, if◌then◌else◌, List, ◌++◌, refl, ap, sym, ◌∙◌, subst, inl, inr, ⊎_elim}
use Rattle.std.proofs.lemmas.Bool.{false_from_ne_true}
use Rattle.std.proofs.lemmas.Bool.Decides.{eqb_tells}
use Rattle.pgas_base.specs.declared.shapes.Shape.{Shape}
use Rattle.epoch_laws.specs.Places.{Place, is_among, without_all}
use Rattle.epoch_laws.specs.States.{IsPlace}
use Rattle.epoch_laws.proofs.Updates.{Tells}
use Rattle.epoch_laws.proofs.Lists.{IsDistinct, among_left, among_kept, among-append, among-append_left, among-append_right, distinct_left, distinct-append}
pub use Rattle.epoch_laws.specs.Locations.{Kind, InStack, InHome, InTaken, InHand, IsOwned, IsLive, InDeferral, InList, InRest, IsWalked, IsWorn, Location, at_, IsListed, AreListed}

number_of : Kind → ℕ
number_of InStack = 0
number_of InHome = 1
number_of InTaken = 2
number_of InHand = 3
number_of IsOwned = 4
number_of IsLive = 5
number_of InDeferral = 6
number_of InList = 7
number_of InRest = 8
number_of IsWalked = 9
number_of IsWorn = 10

kind_of : ℕ → Kind
kind_of zero = InStack
kind_of (suc zero) = InHome
kind_of (suc (suc zero)) = InTaken
kind_of (suc (suc (suc zero))) = InHand
kind_of (suc (suc (suc (suc zero)))) = IsOwned
kind_of (suc (suc (suc (suc (suc zero))))) = IsLive
kind_of (suc (suc (suc (suc (suc (suc zero)))))) = InDeferral
kind_of (suc (suc (suc (suc (suc (suc (suc zero))))))) = InList
kind_of (suc (suc (suc (suc (suc (suc (suc (suc zero)))))))) = InRest
kind_of (suc (suc (suc (suc (suc (suc (suc (suc (suc zero))))))))) = IsWalked
kind_of (suc (suc (suc (suc (suc (suc (suc (suc (suc (suc _)))))))))) = IsWorn

kind_of-number_of : (k : Kind) → kind_of (number_of k) ≡ k
unfolding kind_of number_of
kind_of-number_of InStack = refl
kind_of-number_of InHome = refl
kind_of-number_of InTaken = refl
kind_of-number_of InHand = refl
kind_of-number_of IsOwned = refl
kind_of-number_of IsLive = refl
kind_of-number_of InDeferral = refl
kind_of-number_of InList = refl
kind_of-number_of InRest = refl
kind_of-number_of IsWalked = refl
kind_of-number_of IsWorn = refl

pub same_location : Location → Location → Bool
same_location a b = (number_of a.kind == number_of b.kind) && ((a.first == b.first) && (a.second == b.second))

pub same_location_tells : (a b : Location) → Tells same_location a b
unfolding same_location
same_location_tells a b =
    ⊎_elim
    (λ h.
    ⊎_elim
    (λ k.
    ⊎_elim
    (λ l. let ek : a.kind ≡ b.kind = sym (kind_of-number_of a.kind) ∙ ap kind_of h.1 ∙ kind_of-number_of b.kind in
    inl (rw (h.0, k.0, l.0) refl, (λ i. record { kind = ek i; first = k.1 i; second = l.1 i })))
    (λ l. let n = l.1 in inr (rw (h.0, k.0, l.0) refl, (λ e. n (ap (λ x. x.second) e))))
    (eqb_tells a.second b.second))
    (λ k. let n = k.1 in inr (rw (h.0, k.0) refl, (λ e. n (ap (λ x. x.first) e))))
    (eqb_tells a.first b.first))
    (λ h. let n = h.1 in inr (rw h.0 refl, (λ e. n (ap (λ x. number_of x.kind) e))))
    (eqb_tells (number_of a.kind) (number_of b.kind))

-- where each is once these went to b
unfoldable pub loc_moved : List Place → Location → (Place → Location) → Place → Location
loc_moved moved b loc p = if is_among p moved then b else loc p

-- what is at each location once these went from a to b
unfoldable pub content_moved : List Place → Location → Location → (Location → List Place) → Location → List Place
content_moved moved a b content k =
    if same_location k a then without_all moved (content a) else (if same_location k b then moved ++ content b else content k)

module _ (moved : List Place) (a b : Location) (content : Location → List Place) where
  pub content_from : content_moved moved a b content a ≡ without_all moved (content a)
  unfolding content_moved
  content_from = ⊎_elim (λ h. rw h.0 refl) (λ h. let e = h.1 in absurd (e refl)) (same_location_tells a a)

  pub content_to : a ≢ b → content_moved moved a b content b ≡ moved ++ content b
  unfolding content_moved
  content_to ne =
      ⊎_elim (λ h. absurd (ne (sym h.1))) (λ h. rw h.0 (⊎_elim (λ g. rw g.0 refl) (λ g. let e = g.1 in absurd (e refl)) (same_location_tells b b))) (same_location_tells b a)

  pub content_else : (k : Location) → k ≢ a → k ≢ b → content_moved moved a b content k ≡ content k
  unfolding content_moved
  content_else k na nb =
      ⊎_elim (λ h. absurd (na h.1)) (λ h. rw h.0 (⊎_elim (λ g. absurd (nb g.1)) (λ g. rw g.0 refl) (same_location_tells k b))) (same_location_tells k a)

module _ (moved : List Place) (b : Location) (loc : Place → Location) where
  pub loc_there : (p : Place) → is_among p moved ≡ true → loc_moved moved b loc p ≡ b
  unfolding loc_moved
  loc_there p h = rw h refl

  pub loc_else : (p : Place) → is_among p moved ≡ false → loc_moved moved b loc p ≡ loc p
  unfolding loc_moved
  loc_else p h = rw h refl

-- what holds of each place at its location, where some went from one to another
pub at_moved : (P : Place → Location → Type 0) (moved : List Place) (b : Location) (loc : Place → Location)
    → ((p : Place) → is_among p moved ≡ true → P p b) → ((p : Place) → is_among p moved ≡ false → P p (loc p)) → (p : Place) → P p (loc_moved moved b loc p)
at_moved P moved b loc here there p = go (is_among p moved) refl
  where
    go : (t : Bool) → is_among p moved ≡ t → P p (loc_moved moved b loc p)
    go true e = subst (P p) (sym (loc_there moved b loc p e)) (here p e)
    go false e = subst (P p) (sym (loc_else moved b loc p e)) (there p e)

-- Places that go from one location to the front of another leave each at just one
module _ (shape : Shape) (loc : Place → Location) (content : Location → List Place) (old : AreListed shape loc content)
    (moved : List Place) (a b : Location) (apart : a ≢ b) (part : (p : Place) → is_among p moved ≡ true → is_among p (content a) ≡ true) (distinct : IsDistinct moved) where
  pub moved_at : (p : Place) → is_among p moved ≡ true → (loc p ≡ a) × IsPlace shape p
  moved_at p h = (old a).all p (part p h)

  unmoved : (p : Place) (k : Location) → loc p ≡ k → k ≢ a → is_among p moved ≡ false
  unmoved p k at ne = false_from_ne_true (is_among p moved) (λ h. ne (sym at ∙ (moved_at p h).0))

  from_listed : IsListed shape (loc_moved moved b loc) a (without_all moved (content a))
  from_listed = record {
    all = λ p h. let r = among_left p moved (content a) h in (loc_else moved b loc p r.0 ∙ ((old a).all p r.1).0, ((old a).all p r.1).1);
    each = λ p at inside. go p at inside (is_among p moved) refl;
    distinct = distinct_left moved (content a) (old a).distinct;
  }
    where
      go : (p : Place) → loc_moved moved b loc p ≡ a → IsPlace shape p → (t : Bool) → is_among p moved ≡ t → is_among p (without_all moved (content a)) ≡ true
      go p at inside true e = absurd (apart (sym at ∙ loc_there moved b loc p e))
      go p at inside false e = among_kept p moved (content a) e ((old a).each p (sym (loc_else moved b loc p e) ∙ at) inside)

  to_listed : IsListed shape (loc_moved moved b loc) b (moved ++ content b)
  to_listed = record {
    all = λ p h. ⊎_elim (λ m. (loc_there moved b loc p m, (moved_at p m).1)) (λ m.
        let r = (old b).all p m in (loc_else moved b loc p (unmoved p b r.0 (λ e. apart (sym e))) ∙ r.0, r.1)) (among-append p moved (content b) h);
    each = λ p at inside. go p at inside (is_among p moved) refl;
    distinct = distinct-append moved (content b) distinct (old b).distinct (λ p m h. apart (sym (moved_at p m).0 ∙ ((old b).all p h).0));
  }
    where
      go : (p : Place) → loc_moved moved b loc p ≡ b → IsPlace shape p → (t : Bool) → is_among p moved ≡ t → is_among p (moved ++ content b) ≡ true
      go p at inside true e = among-append_left p moved (content b) e
      go p at inside false e = among-append_right p moved (content b) ((old b).each p (sym (loc_else moved b loc p e) ∙ at) inside)

  else_listed : (k : Location) → k ≢ a → k ≢ b → IsListed shape (loc_moved moved b loc) k (content k)
  else_listed k na nb = record {
    all = λ p h. let r = (old k).all p h in (loc_else moved b loc p (unmoved p k r.0 na) ∙ r.0, r.1);
    each = λ p at inside. go p at inside (is_among p moved) refl;
    distinct = (old k).distinct;
  }
    where
      go : (p : Place) → loc_moved moved b loc p ≡ k → IsPlace shape p → (t : Bool) → is_among p moved ≡ t → is_among p (content k) ≡ true
      go p at inside true e = absurd (nb (sym at ∙ loc_there moved b loc p e))
      go p at inside false e = (old k).each p (sym (loc_else moved b loc p e) ∙ at) inside

  pub moves_listed : AreListed shape (loc_moved moved b loc) (content_moved moved a b content)
  moves_listed k =
      ⊎_elim
      (λ h. subst (λ x. IsListed shape (loc_moved moved b loc) x (content_moved moved a b content x)) (sym h.1)
      (subst (IsListed shape (loc_moved moved b loc) a) (sym (content_from moved a b content)) from_listed))
      (λ h.
      ⊎_elim
      (λ g. subst (λ x. IsListed shape (loc_moved moved b loc) x (content_moved moved a b content x)) (sym g.1)
      (subst (IsListed shape (loc_moved moved b loc) b) (sym (content_to moved a b content apart)) to_listed))
      (λ g. let na = h.1 in let nb = g.1 in
      subst (IsListed shape (loc_moved moved b loc) k) (sym (content_else moved a b content k na nb)) (else_listed k na nb))
      (same_location_tells k b))
      (same_location_tells k a)
