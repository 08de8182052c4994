-- The steps by which an object is taken, shown and given back keep what holds of every state.
use Rattle.std.proofs.Common.{◌≡◌, ◌≢◌, ◌&&◌, ◌^◌, ℕ, ◌<◌, Bool, true, false, eqb, [], ◌∷◌, Option, None, refl, ap, sym, ◌∙◌, subst, ⊎_elim}
use Rattle.std.proofs.lemmas.Bool.{eqb-true}
use Rattle.pgas_base.specs.Pointers.{Pointer}
use Rattle.pool_core.specs.declared.headers.Header.{Header}
use Rattle.pool_core.specs.declared.headers.State.TheVariants.{Free, Own, Shown}
use Rattle.epoch_laws.specs.Places.{Place, place_of, is_among, without, with_place}
use Rattle.epoch_laws.specs.Seats.{Seat}
use Rattle.epoch_laws.specs.States.{State}
use Rattle.epoch_laws.specs.Needs.{AllMet}
use Rattle.epoch_laws.specs.TakeSteps.{take_try, show, give_back, is_free, is_free_with, look_count}
use Rattle.epoch_laws.proofs.Updates.{place_here, place_there, part_kept}
use Rattle.epoch_laws.proofs.Timing.{timing, IsTimed}
use Rattle.epoch_laws.proofs.Lists.{among_one, without_one}
use Rattle.epoch_laws.proofs.Locations.{Kind, InHand, IsOwned, IsLive, at_, content_moved, content_from, content_to, content_else}
use Rattle.epoch_laws.proofs.Ages.{moves_untagged}
use Rattle.epoch_laws.proofs.Sound.{lists, clock, Fits, Map, IsSound}
use Rattle.epoch_laws.proofs.Moves.{IsAlike, paths_alike, linked_alike, aged_alike, looks_alike, own_location, no_seat_location, lists_moved, lists_of_seats, fit_moved, not_it, one_distinct, moved_map, listed_moved, paths_moved, linked_moved}

kinds_apart : (k j : Kind) (c d : ℕ) → (k ≡ j → ⊥) → at_ k c ≢ at_ j d
kinds_apart k j c d ne e = ne (ap (λ x. x.kind) e)

-- the object of the hand that is taken
pub keeps_take_try : (s : State) (m : Map) → IsSound s m → (c : ℕ) (p : Place) → AllMet ((take_try s c p).needs)
    → is_free_with (s.words.header p) (look_count (s.seat c).free_look) ≡ true → IsSound ((take_try s c p).outcome.next) (moved_map m (p ∷ []) (at_ InHand c) (at_ IsOwned c))
unfolding take_try
keeps_take_try s m sound c p h won =
    let seat = s.seat c in
    let count = look_count seat.free_look in
    let a = at_ InHand c in
    let b = at_ IsOwned c in
    let new : Seat = record seat { hand = without p seat.hand; owned = p ∷ seat.owned } in
    let mine = sound.lists c in
    let at : is_among p (m.content a) ≡ true = subst (λ l. is_among p l ≡ true) (sym mine.hand) h.1.1.1.1.0 in
    let differ : a ≢ b = kinds_apart InHand IsOwned c c (λ e. absurd (cc e)) in
    let part : (q : Place) → is_among q (p ∷ []) ≡ true → is_among q (m.content a) ≡ true = λ q x. subst (λ y. is_among y (m.content a) ≡ true) (sym (among_one q p x)) at in
    let is_at : m.loc p ≡ a = ((sound.listed a).all p at).0 in
    let fits = sound.fit p in
    let alike : IsAlike seat new = record { phased = refl; homing = refl; stack = refl } in
    let e : count ≡ (s.words.header p).count = sym (eqb-true (s.words.header p).count count (second (is_free (s.words.header p).state) (eqb (s.words.header p).count count) won)) in
    rw won
    (record {
      timed = subst (IsTimed s.shape.locales s.shape.tokens (clock s)) (sym (part_kept timing s.seat c new refl)) sound.timed;
      listed = listed_moved s m sound (p ∷ []) a b differ part (one_distinct p);
      lists = lists_of_seats s.seat c new (content_moved (p ∷ []) a b m.content)
          (lists_moved m.content (λ d. lists (s.seat d)) c (lists new) (p ∷ []) a b sound.lists (own_location c InHand) (own_location c IsOwned)
          (record {
            hand = content_from (p ∷ []) a b m.content ∙ without_one p (m.content a) ∙ ap (without p) mine.hand;
            owned = content_to (p ∷ []) a b m.content differ ∙ ap (λ l. p ∷ l) mine.owned;
            walked = content_else (p ∷ []) a b m.content _ (kinds_apart _ _ c c (λ x. absurd (cc x))) (kinds_apart _ _ c c (λ x. absurd (cc x))) ∙ mine.walked;
            to_swap = content_else (p ∷ []) a b m.content _ (kinds_apart _ _ c c (λ x. absurd (cc x))) (kinds_apart _ _ c c (λ x. absurd (cc x))) ∙ mine.to_swap;
          }));
      fit = fit_moved s.words.header (with_place s.words.header p (record { count = count; state = Own })) s.tag s.tag m.loc (p ∷ []) b sound.fit
          (λ q x. subst (λ y. Fits IsOwned (with_place s.words.header p (record { count = count; state = Own }) y) (s.tag y)) (sym (among_one q p x))
          (subst (λ y. Fits IsOwned y (s.tag p)) (sym (place_here s.words.header p (record { count = count; state = Own })))
          (record { state = refl; bound = subst (λ y. y < 2 ^ 32) (sym e) fits.bound; tagging = untagged (s.tag p) is_at fits })))
          (λ q x. (place_there s.words.header p (record { count = count; state = Own }) q (not_it p q x), refl));
      paths = paths_alike s.seat c new alike s.shape.locales s.words m.link _ (paths_moved s m sound (p ∷ []) a b differ part (one_distinct p) (λ x. x) (λ x. x));
      linked = linked_alike s.seat c new alike _ _ _ _ (linked_moved s m sound (p ∷ []) a b differ part (one_distinct p) (λ x. ⊎_elim (λ y. absurd (cc y)) (λ y. absurd (cc y)) x) (λ x. absurd (cc x)) (λ q x. tt));
      aged = aged_alike s.seat c new alike _ _ _ _ _ (moves_untagged s.shape s.words.epoch s.born s.tag m.loc _ _ sound.aged (p ∷ []) b
          (λ q x. subst (λ y. s.tag y ≡ None) (sym (among_one q p x)) (untagged (s.tag p) is_at fits)));
      looks = looks_alike s.seat c new alike _ _ _ sound.looks;
    })
  where
    second : (x y : Bool) → (x && y) ≡ true → y ≡ true
    second true y h = h
    second false y h = absurd (cc h)

    untagged : (tag : Option ℕ) → m.loc p ≡ at_ InHand c → Fits ((m.loc p).kind) (s.words.header p) tag → tag ≡ None
    untagged tag is f = (subst (λ k. Fits k.kind (s.words.header p) tag) is f).tagging

-- what an owned object's header says
owned_at : (s : State) (m : Map) → IsSound s m → (c : ℕ) (p : Place) → is_among p ((s.seat c).owned) ≡ true → is_among p (m.content (at_ IsOwned c)) ≡ true
owned_at s m sound c p h = let mine = sound.lists c in subst (λ l. is_among p l ≡ true) (sym mine.owned) h

-- an owned object goes elsewhere
module _ (s : State) (m : Map) (sound : IsSound s m) (c : ℕ) (q : Pointer) (owned : is_among (place_of q) ((s.seat c).owned) ≡ true)
    (counts : (s.words.header (place_of q)).count ≡ q.count) where
  pub keeps_show : IsSound ((show s c q).outcome.next) (moved_map m (place_of q ∷ []) (at_ IsOwned c) (at_ IsLive 0))
  unfolding show
  keeps_show =
      let p = place_of q in
      let seat = s.seat c in
      let a = at_ IsOwned c in
      let b = at_ IsLive 0 in
      let new : Seat = record seat { owned = without p seat.owned } in
      let mine = sound.lists c in
      let at : is_among p (m.content a) ≡ true = owned_at s m sound c p owned in
      let differ : a ≢ b = kinds_apart IsOwned IsLive c 0 (λ e. absurd (cc e)) in
      let part : (r : Place) → is_among r (p ∷ []) ≡ true → is_among r (m.content a) ≡ true = λ r x. subst (λ y. is_among y (m.content a) ≡ true) (sym (among_one r p x)) at in
      let is_at : m.loc p ≡ a = ((sound.listed a).all p at).0 in
      let fits = sound.fit p in
      let alike : IsAlike seat new = record { phased = refl; homing = refl; stack = refl } in
      let head : Header = record { count = q.count; state = Shown } in
      record {
        timed = subst (IsTimed s.shape.locales s.shape.tokens (clock s)) (sym (part_kept timing s.seat c new refl)) sound.timed;
        listed = listed_moved s m sound (p ∷ []) a b differ part (one_distinct p);
        lists = lists_of_seats s.seat c new (content_moved (p ∷ []) a b m.content)
            (lists_moved m.content (λ d. lists (s.seat d)) c (lists new) (p ∷ []) a b sound.lists (own_location c IsOwned) (no_seat_location c b (λ x. x))
            (record {
              hand = content_else (p ∷ []) a b m.content _ (kinds_apart _ _ c c (λ x. absurd (cc x))) (kinds_apart _ _ c 0 (λ x. absurd (cc x))) ∙ mine.hand;
              owned = content_from (p ∷ []) a b m.content ∙ without_one p (m.content a) ∙ ap (without p) mine.owned;
              walked = content_else (p ∷ []) a b m.content _ (kinds_apart _ _ c c (λ x. absurd (cc x))) (kinds_apart _ _ c 0 (λ x. absurd (cc x))) ∙ mine.walked;
              to_swap = content_else (p ∷ []) a b m.content _ (kinds_apart _ _ c c (λ x. absurd (cc x))) (kinds_apart _ _ c 0 (λ x. absurd (cc x))) ∙ mine.to_swap;
            }));
        fit = fit_moved s.words.header (with_place s.words.header p head) s.tag s.tag m.loc (p ∷ []) b sound.fit
            (λ r x. subst (λ y. Fits IsLive (with_place s.words.header p head y) (s.tag y)) (sym (among_one r p x))
            (subst (λ y. Fits IsLive y (s.tag p)) (sym (place_here s.words.header p head))
            (record { state = refl; bound = subst (λ y. y < 2 ^ 32) counts fits.bound; tagging = untagged (s.tag p) is_at fits })))
            (λ r x. (place_there s.words.header p head r (not_it p r x), refl));
        paths = paths_alike s.seat c new alike s.shape.locales s.words m.link _ (paths_moved s m sound (p ∷ []) a b differ part (one_distinct p) (λ x. x) (λ x. x));
        linked = linked_alike s.seat c new alike _ _ _ _ (linked_moved s m sound (p ∷ []) a b differ part (one_distinct p) (λ x. ⊎_elim (λ y. absurd (cc y)) (λ y. absurd (cc y)) x) (λ x. absurd (cc x)) (λ r x. tt));
        aged = aged_alike s.seat c new alike _ _ _ _ _ (moves_untagged s.shape s.words.epoch s.born s.tag m.loc _ _ sound.aged (p ∷ []) b
            (λ r x. subst (λ y. s.tag y ≡ None) (sym (among_one r p x)) (untagged (s.tag p) is_at fits)));
        looks = looks_alike s.seat c new alike _ _ _ sound.looks;
      }
    where
      untagged : (tag : Option ℕ) → m.loc (place_of q) ≡ at_ IsOwned c → Fits ((m.loc (place_of q)).kind) (s.words.header (place_of q)) tag → tag ≡ None
      untagged tag is f = (subst (λ k. Fits k.kind (s.words.header (place_of q)) tag) is f).tagging

  pub keeps_give_back : IsSound ((give_back s c q).outcome.next) (moved_map m (place_of q ∷ []) (at_ IsOwned c) (at_ InHand c))
  unfolding give_back
  keeps_give_back =
      let p = place_of q in
      let seat = s.seat c in
      let a = at_ IsOwned c in
      let b = at_ InHand c in
      let new : Seat = record seat { owned = without p seat.owned; hand = p ∷ seat.hand } in
      let mine = sound.lists c in
      let at : is_among p (m.content a) ≡ true = owned_at s m sound c p owned in
      let differ : a ≢ b = kinds_apart IsOwned InHand c c (λ e. absurd (cc e)) in
      let part : (r : Place) → is_among r (p ∷ []) ≡ true → is_among r (m.content a) ≡ true = λ r x. subst (λ y. is_among y (m.content a) ≡ true) (sym (among_one r p x)) at in
      let is_at : m.loc p ≡ a = ((sound.listed a).all p at).0 in
      let fits = sound.fit p in
      let alike : IsAlike seat new = record { phased = refl; homing = refl; stack = refl } in
      let head : Header = record { count = q.count; state = Free } in
      record {
        timed = subst (IsTimed s.shape.locales s.shape.tokens (clock s)) (sym (part_kept timing s.seat c new refl)) sound.timed;
        listed = listed_moved s m sound (p ∷ []) a b differ part (one_distinct p);
        lists = lists_of_seats s.seat c new (content_moved (p ∷ []) a b m.content)
            (lists_moved m.content (λ d. lists (s.seat d)) c (lists new) (p ∷ []) a b sound.lists (own_location c IsOwned) (own_location c InHand)
            (record {
              hand = content_to (p ∷ []) a b m.content differ ∙ ap (λ l. p ∷ l) mine.hand;
              owned = content_from (p ∷ []) a b m.content ∙ without_one p (m.content a) ∙ ap (without p) mine.owned;
              walked = content_else (p ∷ []) a b m.content _ (kinds_apart _ _ c c (λ x. absurd (cc x))) (kinds_apart _ _ c c (λ x. absurd (cc x))) ∙ mine.walked;
              to_swap = content_else (p ∷ []) a b m.content _ (kinds_apart _ _ c c (λ x. absurd (cc x))) (kinds_apart _ _ c c (λ x. absurd (cc x))) ∙ mine.to_swap;
            }));
        fit = fit_moved s.words.header (with_place s.words.header p head) s.tag s.tag m.loc (p ∷ []) b sound.fit
            (λ r x. subst (λ y. Fits InHand (with_place s.words.header p head y) (s.tag y)) (sym (among_one r p x))
            (subst (λ y. Fits InHand y (s.tag p)) (sym (place_here s.words.header p head))
            (record { state = refl; bound = subst (λ y. y < 2 ^ 32) counts fits.bound; tagging = untagged (s.tag p) is_at fits })))
            (λ r x. (place_there s.words.header p head r (not_it p r x), refl));
        paths = paths_alike s.seat c new alike s.shape.locales s.words m.link _ (paths_moved s m sound (p ∷ []) a b differ part (one_distinct p) (λ x. x) (λ x. x));
        linked = linked_alike s.seat c new alike _ _ _ _ (linked_moved s m sound (p ∷ []) a b differ part (one_distinct p) (λ x. ⊎_elim (λ y. absurd (cc y)) (λ y. absurd (cc y)) x) (λ x. absurd (cc x)) (λ r x. tt));
        aged = aged_alike s.seat c new alike _ _ _ _ _ (moves_untagged s.shape s.words.epoch s.born s.tag m.loc _ _ sound.aged (p ∷ []) b
            (λ r x. subst (λ y. s.tag y ≡ None) (sym (among_one r p x)) (untagged (s.tag p) is_at fits)));
        looks = looks_alike s.seat c new alike _ _ _ sound.looks;
      }
    where
      untagged : (tag : Option ℕ) → m.loc (place_of q) ≡ at_ IsOwned c → Fits ((m.loc (place_of q)).kind) (s.words.header (place_of q)) tag → tag ≡ None
      untagged tag is f = (subst (λ k. Fits k.kind (s.words.header (place_of q)) tag) is f).tagging
