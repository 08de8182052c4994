-- Words that lead to objects keep the present counts of their objects, where parts of a state change.
use Rattle.std.proofs.Common.{◌≡◌, ◌≢◌, ◌⊎◌, ◌==◌, ◌&&◌, ℕ, true, List, Some, refl, ap, sym, ◌∙◌, subst, inl, inr, ⊎_elim}
use Rattle.std.proofs.lemmas.Bool.Decides.{eqb_tells}
use Rattle.pgas_base.specs.declared.shapes.Shape.{Shape}
use Rattle.epoch_laws.specs.Places.{Place, place_in, is_among, with_number, with_place}
use Rattle.epoch_laws.specs.Seats.{Advanced, Seat}
use Rattle.epoch_laws.specs.States.{State, IsPlace}
use Rattle.epoch_laws.specs.DeferralSteps.{with_list}
pub use Rattle.epoch_laws.specs.Counts.{IsCurrent, IsNextCurrent, IsLocal, IsSeatCurrent, AreCurrent, HasCounts}
use Rattle.epoch_laws.proofs.Updates.{number_here, number_there, at_number, place_there, same_place_tells}
use Rattle.epoch_laws.proofs.Lists.{truth}
use Rattle.epoch_laws.proofs.Locations.{Kind, InStack, InHome, InTaken, InHand, IsOwned, IsLive, InDeferral, InList, InRest, IsWalked, IsWorn, Location, loc_moved, at_moved}
use Rattle.epoch_laws.proofs.Links.{Wait, Waits, IsHomeKind}
use Rattle.epoch_laws.proofs.Sound.{phased, phased_at}

module _ (shape : Shape) (count : Place → ℕ) where
  -- the same next word, where what becomes of waits for its object is known
  next_stays : (next new : Place → ℕ) (waits others : Waits) (p : Place) (k : Kind) → new p ≡ next p
      → ((c : ℕ) (w : Wait) → waits c ≡ Some w → w.place ≡ p → ((d : ℕ) × (v : Wait) × (others d ≡ Some v) × (v.place ≡ p)) ⊎ IsCurrent shape count (new p))
      → IsNextCurrent shape count next waits k p → IsNextCurrent shape count new others k p
  next_stays next new waits others p InHome e h was = ⊎_elim (λ x. inl (e ∙ x)) (λ x. inr (subst (IsCurrent shape count) (sym e) x)) was
  next_stays next new waits others p InTaken e h was = ⊎_elim (λ x. inl (e ∙ x)) (λ x. inr (subst (IsCurrent shape count) (sym e) x)) was
  next_stays next new waits others p InList e h was = ⊎_elim (λ x. h x.0 x.1 x.2 x.3) (λ x. inr (subst (IsCurrent shape count) (sym e) x)) was
  next_stays next new waits others p InRest e h was = subst (IsCurrent shape count) (sym e) was
  next_stays next new waits others p InStack e h was = tt
  next_stays next new waits others p InHand e h was = tt
  next_stays next new waits others p IsOwned e h was = tt
  next_stays next new waits others p IsLive e h was = tt
  next_stays next new waits others p InDeferral e h was = tt
  next_stays next new waits others p IsWalked e h was = tt
  next_stays next new waits others p IsWorn e h was = tt

  -- a current next word is right for an object of a list, and for one of a home or taken chain
  pub next_of_list : (next : Place → ℕ) (waits : Waits) (p : Place) (k : Kind) → k ≡ InList → IsCurrent shape count (next p) → IsNextCurrent shape count next waits k p
  next_of_list next waits p k e h = subst (λ j. IsNextCurrent shape count next waits j p) (sym e) (inr h)

  pub next_of_home : (next : Place → ℕ) (waits : Waits) (p : Place) (k : Kind) → IsHomeKind k → IsCurrent shape count (next p) → IsNextCurrent shape count next waits k p
  next_of_home next waits p k home h =
      ⊎_elim
      (λ e. subst (λ j. IsNextCurrent shape count next waits j p) (sym e) (inr h))
      (λ e. subst (λ j. IsNextCurrent shape count next waits j p) (sym e) (inr h))
      home

module _ (shape : Shape) (count : Place → ℕ) (loc : Place → Location) (list_head : ℕ → ℕ → ℕ) (home_head : ℕ → ℕ) (next : Place → ℕ) (seat : ℕ → Seat)
    (old : AreCurrent shape count loc list_head home_head next seat) where
  -- another head of a list
  pub list_changes : (l n word : ℕ) → IsCurrent shape count word → AreCurrent shape count loc (with_list list_head l n word) home_head next seat
  unfolding with_list
  list_changes l n word h = record {
    list_heads = λ i j. ⊎_elim (λ z. rw z h) (λ z. rw z (old.list_heads i j)) (truth ((i == l) && (j == n)));
    home_heads = old.home_heads;
    seats = old.seats;
    nexts = old.nexts;
    locals = old.locals;
    flat = old.flat;
  }

  -- another head of a home chain
  pub home_changes : (l word : ℕ) → IsCurrent shape count word → AreCurrent shape count loc list_head (with_number home_head l word) next seat
  home_changes l word h = record {
    list_heads = old.list_heads;
    home_heads = at_number (λ i x. IsCurrent shape count x) home_head l word h (λ i ne. old.home_heads i);
    seats = old.seats;
    nexts = old.nexts;
    locals = old.locals;
    flat = old.flat;
  }

  -- another next word of one object
  pub next_changes : (q : Place) (word : ℕ)
      → IsNextCurrent shape count (with_place next q word) (λ c. (phased (seat c)).list_wait) ((loc q).kind) q
      → AreCurrent shape count loc list_head home_head (with_place next q word) seat
  next_changes q word h = record {
    list_heads = old.list_heads;
    home_heads = old.home_heads;
    seats = old.seats;
    nexts = λ p inside.
        ⊎_elim
        (λ e. subst (λ x. IsNextCurrent shape count (with_place next q word) (λ c. (phased (seat c)).list_wait) ((loc x).kind) x) (sym e.1) h)
        (λ e. let ne = e.1 in
        next_stays shape count next (with_place next q word) (λ c. (phased (seat c)).list_wait) (λ c. (phased (seat c)).list_wait) p ((loc p).kind) (place_there next q word p ne)
        (λ c w is same. inl (c, w, is, same)) (old.nexts p inside))
        (same_place_tells p q);
    locals = old.locals;
    flat = old.flat;
  }

  -- objects go to another location
  pub places_go : (moved : List Place) (b : Location) → (b.kind ≢ InList → b.second ≡ 0)
      → ((p : Place) → is_among p moved ≡ true → IsPlace shape p → IsNextCurrent shape count next (λ c. (phased (seat c)).list_wait) b.kind p)
      → ((p : Place) → is_among p moved ≡ true → IsPlace shape p → IsLocal seat b.kind b.first p)
      → AreCurrent shape count (loc_moved moved b loc) list_head home_head next seat
  places_go moved b flat here local = record {
    list_heads = old.list_heads;
    home_heads = old.home_heads;
    seats = old.seats;
    nexts = at_moved (λ p k. IsPlace shape p → IsNextCurrent shape count next (λ c. (phased (seat c)).list_wait) k.kind p) moved b loc here (λ p h. old.nexts p);
    locals = at_moved (λ p k. IsPlace shape p → IsLocal seat k.kind k.first p) moved b loc local (λ p h. old.locals p);
    flat = at_moved (λ p k. k.kind ≢ InList → k.second ≡ 0) moved b loc (λ p h. flat) (λ p h. old.flat p);
  }

  module _ (c : ℕ) (new : Seat) where
    -- where the taken chain of the seat goes on
    local_on : ((p : Place) → IsPlace shape p → (loc p).kind ≡ InTaken → (loc p).first ≡ c → p.locale ≡ (place_in new.homing.chain).locale) → (p : Place) → IsPlace shape p
        → (k : Kind) (i : ℕ) → (loc p).kind ≡ k → (loc p).first ≡ i → IsLocal seat k i p → IsLocal (with_number seat c new) k i p
    local_on chain p inside InTaken i kind first was =
        at_number (λ d (x : Seat). (loc p).first ≡ d → p.locale ≡ (place_in (seat d).homing.chain).locale → p.locale ≡ (place_in x.homing.chain).locale) seat c new
        (λ e h. chain p inside kind e)
        (λ d ne e h. h)
        i first was
    local_on chain p inside InHome i kind first was = was
    local_on chain p inside InList i kind first was = tt
    local_on chain p inside InRest i kind first was = tt
    local_on chain p inside InStack i kind first was = tt
    local_on chain p inside InHand i kind first was = tt
    local_on chain p inside IsOwned i kind first was = tt
    local_on chain p inside IsLive i kind first was = tt
    local_on chain p inside InDeferral i kind first was = tt
    local_on chain p inside IsWalked i kind first was = tt
    local_on chain p inside IsWorn i kind first was = tt

    same_chain : new.homing.chain ≡ (seat c).homing.chain → (p : Place) → IsPlace shape p → (loc p).kind ≡ InTaken → (loc p).first ≡ c → p.locale ≡ (place_in new.homing.chain).locale
    same_chain same p inside kind first =
        subst (λ x. p.locale ≡ (place_in x).locale) (sym same)
        (subst (λ d. IsLocal seat InTaken d p) first (subst (λ k. IsLocal seat k (loc p).first p) kind (old.locals p inside)))

    -- one seat changes: a link for which it doesn't wait any more is stored
    pub chain_changes : IsSeatCurrent shape count (phased new) new.homing
        → ((w : Wait) → (phased (seat c)).list_wait ≡ Some w → ((phased new).list_wait ≡ Some w) ⊎ IsCurrent shape count (next w.place))
        → ((p : Place) → IsPlace shape p → (loc p).kind ≡ InTaken → (loc p).first ≡ c → p.locale ≡ (place_in new.homing.chain).locale)
        → AreCurrent shape count loc list_head home_head next (with_number seat c new)
    chain_changes h waits chain = record {
      list_heads = old.list_heads;
      home_heads = old.home_heads;
      seats = at_number (λ d x. IsSeatCurrent shape count (phased x) x.homing) seat c new h (λ d ne. old.seats d);
      nexts = λ p inside.
          next_stays shape count next next (λ d. (phased (seat d)).list_wait) (λ d. (phased (with_number seat c new d)).list_wait) p ((loc p).kind) refl
          (λ d w is same.
          ⊎_elim
          (λ e.
          ⊎_elim
          (λ x. inl (c, w, ap (λ y. (phased y).list_wait) (number_here seat c new) ∙ x, same))
          (λ x. inr (subst (λ y. IsCurrent shape count (next y)) same x))
          (waits w (ap (λ k. (phased (seat k)).list_wait) (sym e.1) ∙ is)))
          (λ e. let ne = e.1 in inl (d, w, ap (λ y. (phased y).list_wait) (number_there seat c new d ne) ∙ is, same))
          (eqb_tells d c))
          (old.nexts p inside);
      locals = λ p inside. local_on chain p inside (loc p).kind (loc p).first refl refl (old.locals p inside);
      flat = old.flat;
    }

    -- the same, where it goes on with its taken chain as it is
    pub seat_changes : IsSeatCurrent shape count (phased new) new.homing
        → ((w : Wait) → (phased (seat c)).list_wait ≡ Some w → ((phased new).list_wait ≡ Some w) ⊎ IsCurrent shape count (next w.place))
        → new.homing.chain ≡ (seat c).homing.chain
        → AreCurrent shape count loc list_head home_head next (with_number seat c new)
    seat_changes h waits same = chain_changes h waits (same_chain same)

    -- one seat stays what it is in this regard
    pub seat_stays : phased new ≡ phased (seat c) → new.homing ≡ (seat c).homing → AreCurrent shape count loc list_head home_head next (with_number seat c new)
    seat_stays e f =
        seat_changes
        (subst (λ x. IsSeatCurrent shape count x new.homing) (sym e) (subst (IsSeatCurrent shape count (phased (seat c))) (sym f) (old.seats c)))
        (λ w x. inl (ap (λ y. y.list_wait) e ∙ x))
        (ap (λ x. x.chain) f)

-- the rest of a collected chain
pub chain_current : (s : State) (loc : Place → Location) → HasCounts s loc → (c : ℕ) → (s.seat c).phase ≡ Advanced → IsCurrent s.shape (λ p. (s.words.header p).count) (s.seat c).reclaim.chain
unfolding phased_at
chain_current s loc current c at =
    let was = current.seats c in
    subst (λ ph. IsCurrent s.shape (λ p. (s.words.header p).count) (phased_at ph (s.seat c).deferral (s.seat c).token (s.seat c).reclaim).rest) at was.rest
