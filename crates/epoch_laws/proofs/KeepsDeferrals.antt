-- The steps of a deferral keep what holds of every state.
use Rattle.std.proofs.Common.{◌≡◌, ◌≢◌, ◌%◌, ◌^◌, ℕ, ◌+◌, ◌<◌, ◌≤◌, true, List, [], ◌∷◌, Option, Some, None, refl, ap, sym, ◌∙◌, subst, inl, inr, ⊎_elim, arith}
use Rattle.pgas_base.specs.Pointers.{Pointer, word_of}
use Rattle.pgas_base.specs.Shapes.{IsShape}
use Rattle.pool_core.specs.declared.headers.Header.{Header}
use Rattle.pool_core.specs.declared.headers.State.TheVariants.{Shown}
use Rattle.epoch_laws.specs.declared.tokens.Token.{Token}
use Rattle.epoch_laws.specs.Places.{Place, place_of, is_among, without_all, with_number, with_place}
use Rattle.epoch_laws.specs.Seats.{Phase, Pinned, DeferLooked, DeferSwapped, Seat}
use Rattle.epoch_laws.specs.States.{State, IsPlace}
use Rattle.epoch_laws.specs.Needs.{AllMet}
use Rattle.epoch_laws.specs.DeferralSteps.{defer_look, defer_swap, defer_link, with_list}
use Rattle.epoch_laws.proofs.Updates.{number_here, number_there, at_number, place_here, place_there, part_kept, part_with}
use Rattle.epoch_laws.proofs.Timing.{IsPinned, timing, timing_at, IsTimed, Own}
use Rattle.epoch_laws.proofs.Lists.{among_here, among_one, left_none}
use Rattle.epoch_laws.proofs.Locations.{Kind, InStack, InHome, InTaken, InHand, IsOwned, IsLive, InDeferral, InList, InRest, IsWalked, IsWorn, Location, at_, loc_moved, loc_there, content_moved, content_from, content_to, content_else}
use Rattle.epoch_laws.proofs.Paths.{IsPath, IsChain, led_to, led_to_some, top_at_some, path_first, path_same, list_at, list_else, list_here, first_of, moves_paths, Firsts, ArePaths}
use Rattle.epoch_laws.proofs.Links.{Wait, IsHomeKind, IsListWait, IsLinked, moves_linked, links_list}
use Rattle.epoch_laws.proofs.Ages.{IsAge, AreAged, defers, moves_tagged, ends_deferral}
use Rattle.epoch_laws.proofs.Looks.{AreLooks, next_changes}
use Rattle.epoch_laws.proofs.Sound.{phased, phased_at, home_wait, lists, clock, AreLists, state_of, is_tagged, Fits, Map, firsts_of, IsSound}
use Rattle.epoch_laws.proofs.Moves.{IsSeatKind, own_location, no_seat_location, lists_moved, lists_of_seats, fit_moved, fit_same, not_it, one_distinct, moved_map, listed_moved, paths_moved, linked_moved}
use Rattle.epoch_laws.proofs.Words.{IsSmall, small_in_shape, place_in-word_of, word_not_none}

pub kinds_apart : (k j : Kind) (c d : ℕ) → (k ≡ j → ⊥) → at_ k c ≢ at_ j d
kinds_apart k j c d ne e = ne (ap (λ x. x.kind) e)

-- a shown object that isn't deferred is where such objects are
pub live_kind : (k : Kind) (header : Header) (tag : Option ℕ) → Fits k header tag → header.state ≡ Shown → tag ≡ None → k ≡ IsLive
live_kind IsLive header tag f s n = refl
live_kind InStack header tag f s n = let e = f.state in absurd (cc (e, s))
live_kind InHome header tag f s n = let e = f.state in absurd (cc (e, s))
live_kind InTaken header tag f s n = let e = f.state in absurd (cc (e, s))
live_kind InHand header tag f s n = let e = f.state in absurd (cc (e, s))
live_kind IsOwned header tag f s n = let e = f.state in absurd (cc (e, s))
live_kind IsWorn header tag f s n = let e = f.state in absurd (cc (e, s))
live_kind InDeferral header tag f s n = let e = f.tagging in absurd (cc (e.1, n))
live_kind InList header tag f s n = let e = f.tagging in absurd (cc (e.1, n))
live_kind InRest header tag f s n = let e = f.tagging in absurd (cc (e.1, n))
live_kind IsWalked header tag f s n = let e = f.tagging in absurd (cc (e.1, n))

-- parts of the seats, where one seat is another
module _ (seat : ℕ → Seat) (c : ℕ) (new : Seat) where
  pub paths_rest : (locales : ℕ) (f : Firsts) (link : Place → Option Place) (content : Location → List Place)
      → new.homing.chain ≡ (seat c).homing.chain → (phased new).rest ≡ (phased (seat c)).rest
      → ArePaths locales link (record f { taken = λ d. (seat d).homing.chain; rest = λ d. (phased (seat d)).rest }) content
      → ArePaths locales link (record f { taken = λ d. (with_number seat c new d).homing.chain; rest = λ d. (phased (with_number seat c new d)).rest }) content
  paths_rest locales f link content eh er h =
      subst (λ t. ArePaths locales link (record f { taken = t; rest = λ d. (phased (with_number seat c new d)).rest }) content)
      (sym (part_kept (λ x. x.homing.chain) seat c new eh))
      (subst (λ t. ArePaths locales link (record f { taken = λ d. (seat d).homing.chain; rest = t }) content)
      (sym (part_kept (λ x. (phased x).rest) seat c new er)) h)

-- the object on top of a stack is in it
pub stack_top_at : (s : State) (m : Map) → IsSound s m → (l : ℕ) → l < s.shape.locales → (s.words.free_head l).index ≢ 0
    → m.loc (record { locale = l; index = (s.words.free_head l).index }) ≡ at_ InStack l
unfolding first_of
stack_top_at s m sound l low ne =
    let top : Place = record { locale = l; index = (s.words.free_head l).index } in
    let path : IsPath m.link (Some top) (m.content (at_ InStack l)) =
    subst (λ f. IsPath m.link f (m.content (at_ InStack l))) (top_at_some l (s.words.free_head l).index ne) (sound.paths (at_ InStack l) (refl, low)) in
    let r = path_first m.link top (m.content (at_ InStack l)) path in
    ((sound.listed (at_ InStack l)).all top (subst (λ x. is_among top x ≡ true) (sym r.1) (among_here top r.0))).0

module _ (s : State) (m : Map) (sound : IsSound s m) (is_shape : IsShape s.shape) (c : ℕ) where
  of_phase : (ph : Phase) → (s.seat c).phase ≡ ph → phased_at ph (s.seat c).deferral (s.seat c).token (s.seat c).reclaim ≡ phased (s.seat c)
  of_phase ph at = sym (ap (λ x. phased_at x (s.seat c).deferral (s.seat c).token (s.seat c).reclaim) at)

  time_of : (ph : Phase) → (s.seat c).phase ≡ ph → timing (s.seat c) ≡ timing_at ph (s.seat c).token (s.seat c).announced (s.seat c).reclaim
  time_of ph at = ap (λ x. timing_at x (s.seat c).token (s.seat c).announced (s.seat c).reclaim) at

  -- the token of a pinned seat
  pinned_own : (t : Token) (e : ℕ) → timing (s.seat c) ≡ IsPinned t e → Own s.shape.locales s.shape.tokens (clock s) (IsPinned t e)
  pinned_own t e at = subst (Own s.shape.locales s.shape.tokens (clock s)) at (sound.timed.own c)

  pub keeps_defer_look : (q : Pointer) → AllMet ((defer_look s c q).needs)
      → IsSound ((defer_look s c q).outcome.next) (moved_map m (place_of q ∷ []) (m.loc (place_of q)) (at_ InDeferral c))
  unfolding defer_look timing_at phased_at
  keeps_defer_look q h =
      let p = place_of q in
      let seat = s.seat c in
      let phase_at = h.1.1.0 in
      let inside = h.1.0 in
      let head = h.1.1.1.0 in
      let free = h.1.1.1.1.0 in
      let a = m.loc p in
      let b = at_ InDeferral c in
      let read = s.words.epoch_of seat.token.locale in
      let new : Seat = record seat { phase = DeferLooked; deferral = record { pointer = q; tag = read; old = 0 } } in
      let mine = sound.lists c in
      let fits = sound.fit p in
      let live : a.kind ≡ IsLive = live_kind a.kind (s.words.header p) (s.tag p) fits (ap (λ x. x.state) head) free in
      let at : is_among p (m.content a) ≡ true = (sound.listed a).each p refl inside in
      let differ : a ≢ b = λ e. absurd (cc (live, ap (λ x. x.kind) e)) in
      let part : (r : Place) → is_among r (p ∷ []) ≡ true → is_among r (m.content a) ≡ true = λ r x. subst (λ y. is_among y (m.content a) ≡ true) (sym (among_one r p x)) at in
      let was = of_phase Pinned phase_at in
      let own = pinned_own seat.token seat.announced (time_of Pinned phase_at) in
      let local = sound.timed.spread seat.token.locale own.0.locale in
      let most = local.most in
      let least = local.least in
      let o3 = own.3 in
      let not_a : (k : Kind) → (k ≡ IsLive → ⊥) → at_ k c ≢ a = λ k ne e. ne (ap (λ x. x.kind) e ∙ live) in
      record {
        timed = subst (IsTimed s.shape.locales s.shape.tokens (clock s)) (sym (part_kept timing s.seat c new (sym (time_of Pinned phase_at)))) sound.timed;
        listed = listed_moved s m sound (p ∷ []) a b differ part (one_distinct p);
        lists = lists_of_seats s.seat c new (content_moved (p ∷ []) a b m.content)
            (lists_moved m.content (λ d. lists (s.seat d)) c (lists new) (p ∷ []) a b sound.lists (no_seat_location c a (λ x. not_seat a.kind live x)) (own_location c InDeferral)
            (record {
              hand = content_else (p ∷ []) a b m.content _ (not_a _ (λ x. absurd (cc x))) (kinds_apart _ _ c c (λ x. absurd (cc x))) ∙ mine.hand;
              owned = content_else (p ∷ []) a b m.content _ (not_a _ (λ x. absurd (cc x))) (kinds_apart _ _ c c (λ x. absurd (cc x))) ∙ mine.owned;
              walked = content_else (p ∷ []) a b m.content _ (not_a _ (λ x. absurd (cc x))) (kinds_apart _ _ c c (λ x. absurd (cc x))) ∙ mine.walked;
              to_swap = content_to (p ∷ []) a b m.content differ ∙ ap (λ l. p ∷ l) (mine.to_swap ∙ sym (ap (λ x. x.to_swap) was));
            }));
        fit = fit_moved s.words.header s.words.header s.tag (with_place s.tag p (Some read)) m.loc (p ∷ []) b sound.fit
            (λ r x. subst (λ y. Fits InDeferral (s.words.header y) (with_place s.tag p (Some read) y)) (sym (among_one r p x))
            (subst (λ y. Fits InDeferral (s.words.header p) y) (sym (place_here s.tag p (Some read)))
            (record { state = ap (λ x. x.state) head; bound = fits.bound; tagging = (read, refl) })))
            (λ r x. (refl, place_there s.tag p (Some read) r (not_it p r x)));
        paths = paths_rest s.seat c new s.shape.locales (firsts_of s.words s.seat) m.link _ refl (ap (λ x. x.rest) was)
            (paths_moved s m sound (p ∷ []) a b differ part (one_distinct p) (λ x. no_chain s.shape.locales a.kind live a.first a.second x) (λ x. x));
        linked = subst (λ f. IsLinked (loc_moved (p ∷ []) b m.loc) m.link s.words.next f (λ d. (phased (with_number s.seat c new d)).list_wait) s.words.home_head)
            (sym (part_kept home_wait s.seat c new refl))
            (subst (λ f. IsLinked (loc_moved (p ∷ []) b m.loc) m.link s.words.next (λ d. home_wait (s.seat d)) f s.words.home_head)
            (sym (part_kept (λ x. (phased x).list_wait) s.seat c new (ap (λ x. x.list_wait) was)))
            (linked_moved s m sound (p ∷ []) a b differ part (one_distinct p)
            (λ x. ⊎_elim (λ y. absurd (cc (y, live))) (λ y. absurd (cc (y, live))) x) (λ x. absurd (cc (x, live))) (λ r x. tt)));
        aged = subst (λ f. AreAged s.shape s.words.epoch s.born (with_place s.tag p (Some read)) (loc_moved (p ∷ []) b m.loc) f (λ d. (phased (with_number s.seat c new d)).deferring))
            (sym (part_kept (λ x. (phased x).collecting) s.seat c new (ap (λ x. x.collecting) was)))
            (subst (λ f. AreAged s.shape s.words.epoch s.born (with_place s.tag p (Some read)) (loc_moved (p ∷ []) b m.loc) (λ d. (phased (s.seat d)).collecting) f)
            (sym (part_with (λ x. (phased x).deferring) s.seat c new))
            (defers s.shape s.words.epoch s.born s.tag m.loc (λ d. (phased (s.seat d)).collecting) (λ d. (phased (s.seat d)).deferring) sound.aged c p read seat.token q.count (subst (λ x. x < 2 ^ 32) (ap (λ x. x.count) head) fits.bound) free inside most (omega arith) (omega arith)));
        looks = subst (λ f. AreLooks s.shape.locales f s.words.free_head s.words.next) (sym (part_kept (λ x. x.stack) s.seat c new refl)) sound.looks;
      }
    where
      not_seat : (k : Kind) → k ≡ IsLive → IsSeatKind k → ⊥
      not_seat k e x = subst IsSeatKind e x

      no_chain : (locales : ℕ) (k : Kind) → k ≡ IsLive → (i j : ℕ) → IsChain locales k i j → ⊥
      no_chain locales k e i j x = subst (λ y. IsChain locales y i j) e x

  -- the object of the deferral goes to the front of its list
  abbrev pub swap_map : Map
  swap_map =
      let p = place_of ((s.seat c).deferral.pointer) in
      let b = list_at ((s.seat c).token.locale) ((s.seat c).deferral.tag % 4) in
      record {
        loc = loc_moved (p ∷ []) b m.loc;
        link = with_place m.link p (led_to (s.words.list_head ((s.seat c).token.locale) ((s.seat c).deferral.tag % 4)));
        content = content_moved (p ∷ []) (at_ InDeferral c) b m.content;
      }

  pub keeps_defer_swap : AllMet ((defer_swap s c).needs) → IsSound ((defer_swap s c).outcome.next) swap_map
  unfolding defer_swap timing_at phased_at first_of
  keeps_defer_swap h =
      let seat = s.seat c in
      let phase_at = h.1.0 in
      let q = seat.deferral.pointer in
      let p = place_of q in
      let l = seat.token.locale in
      let n = seat.deferral.tag % 4 in
      let read = s.words.list_head l n in
      let a = at_ InDeferral c in
      let b = list_at l n in
      let new : Seat = record seat { phase = DeferSwapped; deferral = record seat.deferral { old = read } } in
      let mine = sound.lists c in
      let was = of_phase DeferLooked phase_at in
      let only : m.content a ≡ p ∷ [] = mine.to_swap ∙ sym (ap (λ x. x.to_swap) was) in
      let at : is_among p (m.content a) ≡ true = subst (λ x. is_among p x ≡ true) (sym only) (among_here p []) in
      let is_at : m.loc p ≡ a = ((sound.listed a).all p at).0 in
      let inside : IsPlace s.shape p = ((sound.listed a).all p at).1 in
      let fits = sound.fit p in
      let young = sound.aged.young c (record { place = p; tag = seat.deferral.tag; token = seat.token; count = q.count }) (sym (ap (λ y. y.deferring) was)) in
      let counts : q.count < 2 ^ 32 = young.bound in
      let small : IsSmall q = small_in_shape s.shape q is_shape inside counts in
      let differ : a ≢ b = λ e. absurd (cc (ap (λ x. x.kind) e)) in
      let part : (r : Place) → is_among r (p ∷ []) ≡ true → is_among r (m.content a) ≡ true = λ r x. subst (λ y. is_among y (m.content a) ≡ true) (sym (among_one r p x)) at in
      let own = pinned_own seat.token seat.announced (time_of DeferLooked phase_at) in
      let link' = with_place m.link p (led_to read) in
      let old_links = sound.linked in
      let lists' = with_number (λ d. (phased (s.seat d)).list_wait) c (Some (record { place = p; old = read })) in
      let no_wait : (phased (s.seat c)).list_wait ≡ None = sym (ap (λ x. x.list_wait) was) in
      record {
        timed = subst (IsTimed s.shape.locales s.shape.tokens (clock s)) (sym (part_kept timing s.seat c new (sym (time_of DeferLooked phase_at)))) sound.timed;
        listed = listed_moved s m sound (p ∷ []) a b differ part (one_distinct p);
        lists = lists_of_seats s.seat c new (content_moved (p ∷ []) a b m.content)
            (lists_moved m.content (λ d. lists (s.seat d)) c (lists new) (p ∷ []) a b sound.lists (own_location c InDeferral) (no_seat_location c b (λ x. x))
            (record {
              hand = content_else (p ∷ []) a b m.content _ (kinds_apart _ _ c c (λ x. absurd (cc x))) (λ e. absurd (cc (ap (λ x. x.kind) e))) ∙ mine.hand;
              owned = content_else (p ∷ []) a b m.content _ (kinds_apart _ _ c c (λ x. absurd (cc x))) (λ e. absurd (cc (ap (λ x. x.kind) e))) ∙ mine.owned;
              walked = content_else (p ∷ []) a b m.content _ (kinds_apart _ _ c c (λ x. absurd (cc x))) (λ e. absurd (cc (ap (λ x. x.kind) e))) ∙ mine.walked;
              to_swap = content_from (p ∷ []) a b m.content ∙ ap (without_all (p ∷ [])) only ∙ left_none (p ∷ []) (p ∷ []) (λ x e. e);
            }));
        fit = fit_same s.words.header s.tag m.loc (p ∷ []) b sound.fit
            (λ r x. subst (λ y. (Shown ≡ state_of ((m.loc y).kind)) × (true ≡ is_tagged ((m.loc y).kind))) (sym (among_one r p x))
            (subst (λ y. (Shown ≡ state_of y.kind) × (true ≡ is_tagged y.kind)) (sym is_at) (refl, refl)));
        paths = paths_rest s.seat c new s.shape.locales (record (firsts_of s.words s.seat) { list = with_list s.words.list_head l n (word_of q) }) link' _ refl (ap (λ x. x.rest) was)
            (moves_paths s.shape.locales m.link link' (firsts_of s.words s.seat) (record (firsts_of s.words s.seat) { list = with_list s.words.list_head l n (word_of q) }) m.content (p ∷ []) a b sound.paths
            (λ k chain ka kb. list_else s.shape.locales (firsts_of s.words s.seat) l n (word_of q) k.kind k.first k.second chain kb)
            (λ k r ka x. place_there m.link p (led_to read) r (λ e. ka (sym ((sound.listed k).all r x).0 ∙ ap m.loc e ∙ is_at)))
            (λ x. absurd x)
            (λ chain. subst (IsPath link' (led_to (with_list s.words.list_head l n (word_of q) l n))) (sym (content_to (p ∷ []) a b m.content differ)) (
              ap led_to (list_here s.words.list_head l n (word_of q)) ∙ led_to_some (word_of q) (word_not_none q small) ∙ ap Some (place_in-word_of q small),
              subst (λ f. IsPath link' f (m.content b)) (sym (place_here m.link p (led_to read)))
                  (path_same m.link link' (led_to read) (m.content b) (λ r x. place_there m.link p (led_to read) r (λ e. differ (sym (sym ((sound.listed b).all r x).0 ∙ ap m.loc e ∙ is_at))))
                  (sound.paths b tt)),
            )));
        linked = subst (λ f. IsLinked (loc_moved (p ∷ []) b m.loc) link' s.words.next f (λ d. (phased (with_number s.seat c new d)).list_wait) s.words.home_head)
            (sym (part_kept home_wait s.seat c new refl))
            (subst (λ f. IsLinked (loc_moved (p ∷ []) b m.loc) link' s.words.next (λ d. home_wait (s.seat d)) f s.words.home_head)
            (sym (part_with (λ x. (phased x).list_wait) s.seat c new))
            (moves_linked m.loc m.link link' s.words.next (λ d. home_wait (s.seat d)) (λ d. (phased (s.seat d)).list_wait) (λ d. home_wait (s.seat d)) lists' s.words.home_head s.words.home_head old_links (p ∷ []) b
            (λ r x. place_there m.link p (led_to read) r (not_it p r x))
            (λ r x. inr (c, (record { place = p; old = read }), number_here (λ d. (phased (s.seat d)).list_wait) c (Some (record { place = p; old = read })), sym (among_one r p x), ap link' (among_one r p x) ∙ place_here m.link p (led_to read)))
            (λ d w e. e)
            (λ d w e. number_there (λ d. (phased (s.seat d)).list_wait) c (Some (record { place = p; old = read })) d (λ same. absurd (cc (e, ap (λ x. (phased (s.seat x)).list_wait) same, no_wait))) ∙ e)
            (λ d w e x. absurd (not_home (subst (λ y. IsHomeKind ((m.loc y).kind)) (among_one w.place p x) (old_links.home_waits d w e).at_home) is_at))
            (λ d w e x.
            at_number (λ d y. y ≡ Some w → IsListWait (loc_moved (p ∷ []) b m.loc) link' w) (λ d. (phased (s.seat d)).list_wait) c (Some (record { place = p; old = read }))
            (λ e. subst (IsListWait (loc_moved (p ∷ []) b m.loc) link') (let same : ◌≡◌ {A = Wait} (record { place = p; old = read }) w = cc e in same)
            (record { in_list = ap (λ y. y.kind) (loc_there (p ∷ []) b m.loc p (among_here p [])); follows = place_here m.link p (led_to read) }))
            (λ d ne e. absurd (cc ((old_links.list_waits d w e).in_list, ap (λ y. (m.loc y).kind) (among_one w.place p x), ap (λ y. y.kind) is_at))) d e)
            (λ d w e x. e)
            (λ d w e x.
            at_number (λ d y. y ≡ Some w → (phased (s.seat d)).list_wait ≡ Some w) (λ d. (phased (s.seat d)).list_wait) c (Some (record { place = p; old = read }))
            (λ e. let same : p ≡ w.place = cc e in absurd (cc (x, ap (λ y. is_among y (p ∷ [])) same, among_here p []))) (λ d ne e. e) d e)
            old_links.one_wait old_links.heads));
        aged = subst (λ f. AreAged s.shape s.words.epoch s.born s.tag (loc_moved (p ∷ []) b m.loc) f (λ d. (phased (with_number s.seat c new d)).deferring))
            (sym (part_kept (λ x. (phased x).collecting) s.seat c new (ap (λ x. x.collecting) was)))
            (subst (λ f. AreAged s.shape s.words.epoch s.born s.tag (loc_moved (p ∷ []) b m.loc) (λ d. (phased (s.seat d)).collecting) f)
            (sym (part_kept (λ x. (phased x).deferring) s.seat c new (ap (λ x. x.deferring) was)))
            (moves_tagged s.shape s.words.epoch s.born s.tag m.loc (λ d. (phased (s.seat d)).collecting) (λ d. (phased (s.seat d)).deferring) sound.aged (p ∷ []) b
            (λ r d x e.
            let tagged : s.tag p ≡ Some seat.deferral.tag = young.tagged in
            let same : d ≡ seat.deferral.tag = cc (e, ap s.tag (among_one r p x), tagged) in
            let ages = subst (λ k. IsAge s.shape.locales s.words.epoch (λ d. (phased (s.seat d)).collecting) k.kind k.first k.second d) (ap m.loc (among_one r p x) ∙ is_at) (sound.aged.aged r d e).age in
            let age : s.words.epoch ≤ d + 2 = ages.1 in
            (ap (λ y. y % 4) (sym same), own.0.locale, inl age))));
        looks = subst (λ f. AreLooks s.shape.locales f s.words.free_head s.words.next) (sym (part_kept (λ x. x.stack) s.seat c new refl)) sound.looks;
      }
    where
      not_home : IsHomeKind ((m.loc (place_of ((s.seat c).deferral.pointer))).kind) → m.loc (place_of ((s.seat c).deferral.pointer)) ≡ at_ InDeferral c → ⊥
      not_home x is_at = ⊎_elim (λ e. absurd (cc (e, ap (λ y. y.kind) is_at))) (λ e. absurd (cc (e, ap (λ y. y.kind) is_at))) x

  pub keeps_defer_link : AllMet ((defer_link s c).needs) → IsSound ((defer_link s c).outcome.next) m
  unfolding defer_link timing_at phased_at
  keeps_defer_link h =
      let seat = s.seat c in
      let phase_at = h.1.0 in
      let p = place_of seat.deferral.pointer in
      let w : Wait = record { place = p; old = seat.deferral.old } in
      let new : Seat = record seat { phase = Pinned } in
      let was = of_phase DeferSwapped phase_at in
      let waits : (phased (s.seat c)).list_wait ≡ Some w = sym (ap (λ x. x.list_wait) was) in
      let in_list = (sound.linked.list_waits c w waits).in_list in
      record {
        timed = subst (IsTimed s.shape.locales s.shape.tokens (clock s)) (sym (part_kept timing s.seat c new (sym (time_of DeferSwapped phase_at)))) sound.timed;
        listed = sound.listed;
        lists = subst (AreLists m.content) (sym (part_kept lists s.seat c new (λ i. record { hand = seat.hand; owned = seat.owned; walked = seat.reclaim.walked; to_swap = (was i).to_swap }))) sound.lists;
        fit = sound.fit;
        paths = paths_rest s.seat c new s.shape.locales (firsts_of s.words s.seat) m.link _ refl (ap (λ x. x.rest) was) sound.paths;
        linked = subst (λ f. IsLinked m.loc m.link (with_place s.words.next p seat.deferral.old) f (λ d. (phased (with_number s.seat c new d)).list_wait) s.words.home_head)
            (sym (part_kept home_wait s.seat c new refl))
            (subst (λ f. IsLinked m.loc m.link (with_place s.words.next p seat.deferral.old) (λ d. home_wait (s.seat d)) f s.words.home_head)
            (sym (part_with (λ x. (phased x).list_wait) s.seat c new))
            (links_list m.loc m.link s.words.next (λ d. home_wait (s.seat d)) (λ d. (phased (s.seat d)).list_wait) s.words.home_head c w waits sound.linked));
        aged = subst (λ f. AreAged s.shape s.words.epoch s.born s.tag m.loc f (λ d. (phased (with_number s.seat c new d)).deferring))
            (sym (part_kept (λ x. (phased x).collecting) s.seat c new (ap (λ x. x.collecting) was)))
            (subst (λ f. AreAged s.shape s.words.epoch s.born s.tag m.loc (λ d. (phased (s.seat d)).collecting) f)
            (sym (part_with (λ x. (phased x).deferring) s.seat c new))
            (ends_deferral s.shape s.words.epoch s.born s.tag m.loc (λ d. (phased (s.seat d)).collecting) (λ d. (phased (s.seat d)).deferring) sound.aged c));
        looks = subst (λ f. AreLooks s.shape.locales f s.words.free_head (with_place s.words.next p seat.deferral.old)) (sym (part_kept (λ x. x.stack) s.seat c new refl))
            (next_changes s.shape.locales (λ d. (s.seat d).stack) s.words.free_head s.words.next sound.looks p seat.deferral.old
            (λ l low ne e. absurd (cc (in_list, ap (λ x. (m.loc x).kind) (sym e), ap (λ x. x.kind) (stack_top_at s m sound l low ne)))));
      }
