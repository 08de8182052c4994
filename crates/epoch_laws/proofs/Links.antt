-- What an object's next word says of the object that follows it, also while a link was not stored yet.
use Rattle.std.proofs.Common.{◌≡◌, ◌≢◌, ◌⊎◌, ℕ, true, false, List, Option, Some, None, ap, sym, ◌∙◌, subst, inl, inr, ⊎_elim}
use Rattle.epoch_laws.specs.Places.{Place, index_in, pending, is_among, with_number, with_place}
use Rattle.epoch_laws.proofs.Updates.{number_there, at_number, place_here, place_there, same_place_tells}
use Rattle.epoch_laws.proofs.Lists.{truth}
use Rattle.epoch_laws.proofs.Locations.{Kind, InStack, InHome, InTaken, InHand, IsOwned, IsLive, InDeferral, InList, InRest, IsWalked, IsWorn, Location, loc_moved, loc_else, at_moved}
use Rattle.epoch_laws.proofs.Paths.{led_to, top_at}
pub use Rattle.epoch_laws.specs.Links.{Wait, Waits, IsWaited, IsHomeLink, IsLink, IsHomeKind, IsHomeWait, IsListWait, IsLinked}

-- a link stays what it is where no wait is gone
pub link_stays : (next : Place → ℕ) (link new : Place → Option Place) (homes lists more_homes more_lists : Waits) (p : Place) (k : Kind) (i : ℕ) → new p ≡ link p
    → ((d : ℕ) (w : Wait) → homes d ≡ Some w → more_homes d ≡ Some w) → ((d : ℕ) (w : Wait) → lists d ≡ Some w → more_lists d ≡ Some w)
    → IsLink next link homes lists k i p → IsLink next new more_homes more_lists k i p
link_stays next link new homes lists more_homes more_lists p InStack i e h l was = e ∙ was
link_stays next link new homes lists more_homes more_lists p InHome i e h l was =
    ⊎_elim (λ x. inl (x.0, e ∙ x.1)) (λ x. let w = x.1 in inr (x.0, (w.0, w.1, h w.0 w.1 w.2, w.3, e ∙ w.4))) was
link_stays next link new homes lists more_homes more_lists p InTaken i e h l was =
    ⊎_elim (λ x. inl (x.0, e ∙ x.1)) (λ x. let w = x.1 in inr (x.0, (w.0, w.1, h w.0 w.1 w.2, w.3, e ∙ w.4))) was
link_stays next link new homes lists more_homes more_lists p InList i e h l was =
    ⊎_elim (λ x. inl (e ∙ x)) (λ w. inr (w.0, w.1, l w.0 w.1 w.2, w.3, e ∙ w.4)) was
link_stays next link new homes lists more_homes more_lists p InRest i e h l was = e ∙ was
link_stays next link new homes lists more_homes more_lists p InHand i e h l was = tt
link_stays next link new homes lists more_homes more_lists p IsOwned i e h l was = tt
link_stays next link new homes lists more_homes more_lists p IsLive i e h l was = tt
link_stays next link new homes lists more_homes more_lists p InDeferral i e h l was = tt
link_stays next link new homes lists more_homes more_lists p IsWalked i e h l was = tt
link_stays next link new homes lists more_homes more_lists p IsWorn i e h l was = tt

-- Places go to another location, and may get another link: what they need there, and where waits are for them
module _ (loc : Place → Location) (link new : Place → Option Place) (next : Place → ℕ) (homes lists more_homes more_lists : Waits) (home_head new_head : ℕ → ℕ)
    (old : IsLinked loc link next homes lists home_head) (moved : List Place) (b : Location)
    (keeps : (p : Place) → is_among p moved ≡ false → new p ≡ link p)
    (here : (p : Place) → is_among p moved ≡ true → IsLink next new more_homes more_lists b.kind b.first p)
    (more_home : (d : ℕ) (w : Wait) → homes d ≡ Some w → more_homes d ≡ Some w)
    (more_list : (d : ℕ) (w : Wait) → lists d ≡ Some w → more_lists d ≡ Some w)
    (home_wait : (d : ℕ) (w : Wait) → more_homes d ≡ Some w → is_among w.place moved ≡ true → IsHomeWait (loc_moved moved b loc) next new w)
    (list_wait : (d : ℕ) (w : Wait) → more_lists d ≡ Some w → is_among w.place moved ≡ true → IsListWait (loc_moved moved b loc) new w)
    (home_else : (d : ℕ) (w : Wait) → more_homes d ≡ Some w → is_among w.place moved ≡ false → homes d ≡ Some w)
    (list_else : (d : ℕ) (w : Wait) → more_lists d ≡ Some w → is_among w.place moved ≡ false → lists d ≡ Some w)
    (one : (c d : ℕ) (w v : Wait) → more_homes c ≡ Some w → more_homes d ≡ Some v → w.place ≡ v.place → c ≡ d)
    (heads : (l : ℕ) → new_head l ≢ pending) where
  pub moves_linked : IsLinked (loc_moved moved b loc) new next more_homes more_lists new_head
  moves_linked = record {
    links =
        at_moved (λ p k. IsLink next new more_homes more_lists k.kind k.first p) moved b loc here
        (λ p h. link_stays next link new homes lists more_homes more_lists p ((loc p).kind) ((loc p).first) (keeps p h) more_home more_list (old.links p));
    home_waits = λ d w e.
        ⊎_elim
        (λ h. home_wait d w e h)
        (λ h.
        let was = old.home_waits d w (home_else d w e h) in
        record {
          at_home = subst (λ k. IsHomeKind k.kind) (sym (loc_else moved b loc w.place h)) was.at_home;
          follows = keeps w.place h ∙ was.follows;
          is_pending = was.is_pending;
          old = was.old;
        })
        (truth (is_among w.place moved));
    one_wait = one;
    list_waits = λ d w e.
        ⊎_elim
        (λ h. list_wait d w e h)
        (λ h.
        let was = old.list_waits d w (list_else d w e h) in
        record { in_list = ap (λ k. k.kind) (loc_else moved b loc w.place h) ∙ was.in_list; follows = keeps w.place h ∙ was.follows })
        (truth (is_among w.place moved));
    heads = heads;
  }

-- another next word of an object that no chain has
pub relinks_hand : (loc : Place → Location) (link : Place → Option Place) (next : Place → ℕ) (homes lists : Waits) (home_head : ℕ → ℕ) (p : Place) (word : ℕ)
    → (loc p).kind ≡ InHand → IsLinked loc link next homes lists home_head → IsLinked loc link (with_place next p word) homes lists home_head
relinks_hand loc link next homes lists home_head p word hand old = record {
  links = λ q.
      ⊎_elim
      (λ h. subst (λ x. IsLink (with_place next p word) link homes lists ((loc x).kind) ((loc x).first) x) (sym h.1)
      (subst (λ k. IsLink (with_place next p word) link homes lists k ((loc p).first) p) (sym hand) tt))
      (λ h. let ne = h.1 in other q ne ((loc q).kind) ((loc q).first) (old.links q))
      (same_place_tells q p);
  home_waits = λ d w e.
      let was = old.home_waits d w e in
      record {
        at_home = was.at_home;
        follows = was.follows;
        is_pending = place_there next p word w.place (λ same. not_home (subst (λ x. IsHomeKind ((loc x).kind)) same was.at_home)) ∙ was.is_pending;
        old = was.old;
      };
  one_wait = old.one_wait;
  list_waits = old.list_waits;
  heads = old.heads;
}
  where
    not_home : IsHomeKind ((loc p).kind) → ⊥
    not_home h = ⊎_elim (λ e. absurd (cc (e, hand))) (λ e. absurd (cc (e, hand))) h

    other : (q : Place) → q ≢ p → (k : Kind) (i : ℕ) → IsLink next link homes lists k i q → IsLink (with_place next p word) link homes lists k i q
    other q ne InStack i was = was ∙ ap (λ n. top_at i (index_in n)) (sym (place_there next p word q ne))
    other q ne InHome i was = let e = sym (place_there next p word q ne) in subst (λ n. ((n ≢ pending) × (link q ≡ led_to n)) ⊎ ((n ≡ pending) × IsWaited homes q led_to (link q))) e was
    other q ne InTaken i was = let e = sym (place_there next p word q ne) in subst (λ n. ((n ≢ pending) × (link q ≡ led_to n)) ⊎ ((n ≡ pending) × IsWaited homes q led_to (link q))) e was
    other q ne InList i was = let e = sym (place_there next p word q ne) in subst (λ n. (link q ≡ led_to n) ⊎ IsWaited lists q led_to (link q)) e was
    other q ne InRest i was = was ∙ ap led_to (sym (place_there next p word q ne))
    other q ne InHand i was = tt
    other q ne IsOwned i was = tt
    other q ne IsLive i was = tt
    other q ne InDeferral i was = tt
    other q ne IsWalked i was = tt
    other q ne IsWorn i was = tt

-- the link of a list's object is stored
pub links_list : (loc : Place → Location) (link : Place → Option Place) (next : Place → ℕ) (homes lists : Waits) (home_head : ℕ → ℕ) (c : ℕ) (v : Wait)
    → lists c ≡ Some v → IsLinked loc link next homes lists home_head
    → IsLinked loc link (with_place next v.place v.old) homes (with_number lists c None) home_head
links_list loc link next homes lists home_head c v at old =
    let p = v.place in
    let mine = old.list_waits c v at in record {
      links = λ q.
          ⊎_elim
          (λ h. subst (λ x. IsLink (with_place next p v.old) link homes (with_number lists c None) ((loc x).kind) ((loc x).first) x) (sym h.1)
          (subst (λ k. IsLink (with_place next p v.old) link homes (with_number lists c None) k ((loc p).first) p) (sym mine.in_list)
          (inl (mine.follows ∙ ap led_to (sym (place_here next p v.old))))))
          (λ h. let ne = h.1 in other q ne ((loc q).kind) ((loc q).first) (old.links q))
          (same_place_tells q p);
      home_waits = λ d w e.
          let was = old.home_waits d w e in
          record {
            at_home = was.at_home;
            follows = was.follows;
            is_pending = place_there next p v.old w.place (λ same. not_home (subst (λ x. IsHomeKind ((loc x).kind)) same was.at_home)) ∙ was.is_pending;
            old = was.old;
          };
      one_wait = old.one_wait;
      list_waits = at_number (λ d x. (w : Wait) → x ≡ Some w → IsListWait loc link w) lists c None (λ w e. absurd (cc e)) (λ d ne w e. old.list_waits d w e);
      heads = old.heads;
    }
  where
    not_home : IsHomeKind ((loc v.place).kind) → ⊥
    not_home h = ⊎_elim (λ e. absurd (cc (e, (old.list_waits c v at).in_list))) (λ e. absurd (cc (e, (old.list_waits c v at).in_list))) h

    other : (q : Place) → q ≢ v.place → (k : Kind) (i : ℕ) → IsLink next link homes lists k i q → IsLink (with_place next v.place v.old) link homes (with_number lists c None) k i q
    other q ne InStack i was = was ∙ ap (λ n. top_at i (index_in n)) (sym (place_there next v.place v.old q ne))
    other q ne InHome i was = let e = sym (place_there next v.place v.old q ne) in subst (λ n. ((n ≢ pending) × (link q ≡ led_to n)) ⊎ ((n ≡ pending) × IsWaited homes q led_to (link q))) e was
    other q ne InTaken i was = let e = sym (place_there next v.place v.old q ne) in subst (λ n. ((n ≢ pending) × (link q ≡ led_to n)) ⊎ ((n ≡ pending) × IsWaited homes q led_to (link q))) e was
    other q ne InList i was =
        let e = sym (place_there next v.place v.old q ne) in
        ⊎_elim
        (λ x. inl (x ∙ ap led_to e))
        (λ w. let away : w.0 ≢ c = λ same. ne (sym w.3 ∙ ap (λ x. x.place) (let both : w.1 ≡ v = cc (w.2, ap lists same, at) in both)) in
        inr (w.0, w.1, number_there lists c None w.0 away ∙ w.2, w.3, w.4))
        was
    other q ne InRest i was = was ∙ ap led_to (sym (place_there next v.place v.old q ne))
    other q ne InHand i was = tt
    other q ne IsOwned i was = tt
    other q ne IsLive i was = tt
    other q ne InDeferral i was = tt
    other q ne IsWalked i was = tt
    other q ne IsWorn i was = tt

-- the link of a home chain's tail is stored
pub links_home : (loc : Place → Location) (link : Place → Option Place) (next : Place → ℕ) (homes lists : Waits) (home_head : ℕ → ℕ) (c : ℕ) (v : Wait)
    → homes c ≡ Some v → IsLinked loc link next homes lists home_head
    → IsLinked loc link (with_place next v.place v.old) (with_number homes c None) lists home_head
links_home loc link next homes lists home_head c v at old =
    let p = v.place in
    let mine = old.home_waits c v at in record {
      links = λ q.
          ⊎_elim
          (λ h. subst (λ x. IsLink (with_place next p v.old) link (with_number homes c None) lists ((loc x).kind) ((loc x).first) x) (sym h.1)
          (⊎_elim
          (λ k. subst (λ k. IsLink (with_place next p v.old) link (with_number homes c None) lists k ((loc p).first) p) (sym k) stored)
          (λ k. subst (λ k. IsLink (with_place next p v.old) link (with_number homes c None) lists k ((loc p).first) p) (sym k) stored)
          mine.at_home))
          (λ h. let ne = h.1 in other q ne ((loc q).kind) ((loc q).first) (old.links q))
          (same_place_tells q p);
      home_waits = at_number (λ d x. (w : Wait) → x ≡ Some w → IsHomeWait loc (with_place next p v.old) link w) homes c None (λ w e. absurd (cc e))
          (λ d ne w e.
          let was = old.home_waits d w e in
          record {
            at_home = was.at_home;
            follows = was.follows;
            is_pending = place_there next p v.old w.place (λ same. ne (old.one_wait d c w v e at same)) ∙ was.is_pending;
            old = was.old;
          });
      one_wait = λ a b w x ea eb same. old.one_wait a b w x (before a w ea) (before b x eb) same;
      list_waits = old.list_waits;
      heads = old.heads;
    }
  where
    before : (a : ℕ) (w : Wait) → with_number homes c None a ≡ Some w → homes a ≡ Some w
    before a w e = at_number (λ d x. x ≡ Some w → homes d ≡ Some w) homes c None (λ e. absurd (cc e)) (λ d ne e. e) a e

    stored : IsHomeLink (with_place next v.place v.old) link (with_number homes c None) lists v.place
    stored =
        let mine = old.home_waits c v at in
        let ne = mine.old in
        inl ((λ e. ne (sym (place_here next v.place v.old) ∙ e)), mine.follows ∙ ap led_to (sym (place_here next v.place v.old)))

    home_other : (q : Place) → q ≢ v.place → IsHomeLink next link homes lists q → IsHomeLink (with_place next v.place v.old) link (with_number homes c None) lists q
    home_other q ne was =
        let e = sym (place_there next v.place v.old q ne) in
        subst (λ n. ((n ≢ pending) × (link q ≡ led_to n)) ⊎ ((n ≡ pending) × IsWaited (with_number homes c None) q led_to (link q))) e
        (⊎_elim
        (λ x. inl x)
        (λ x.
        let w = x.1 in
        let away : w.0 ≢ c = λ same. ne (sym w.3 ∙ ap (λ y. y.place) (let both : w.1 ≡ v = cc (w.2, ap homes same, at) in both)) in
        inr (x.0, (w.0, w.1, number_there homes c None w.0 away ∙ w.2, w.3, w.4)))
        was)

    other : (q : Place) → q ≢ v.place → (k : Kind) (i : ℕ) → IsLink next link homes lists k i q → IsLink (with_place next v.place v.old) link (with_number homes c None) lists k i q
    other q ne InStack i was = was ∙ ap (λ n. top_at i (index_in n)) (sym (place_there next v.place v.old q ne))
    other q ne InHome i was = home_other q ne was
    other q ne InTaken i was = home_other q ne was
    other q ne InList i was = let e = sym (place_there next v.place v.old q ne) in subst (λ n. (link q ≡ led_to n) ⊎ IsWaited lists q led_to (link q)) e was
    other q ne InRest i was = was ∙ ap led_to (sym (place_there next v.place v.old q ne))
    other q ne InHand i was = tt
    other q ne IsOwned i was = tt
    other q ne IsLive i was = tt
    other q ne InDeferral i was = tt
    other q ne IsWalked i was = tt
    other q ne IsWorn i was = tt
