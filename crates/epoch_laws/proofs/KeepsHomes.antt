-- The steps by which free objects go home, and are taken from there, keep what holds of every state.
use Rattle.std.proofs.Common.{◌≡◌, ◌≢◌, ◌==◌, ◌/◌, ◌^◌, ℕ, ◌<◌, true, false, if◌then◌else◌, List, [], ◌∷◌, ◌++◌, length, Option, Some, None, refl, ap, sym, ◌∙◌, subst, inl, inr, ⊎_elim, arith, append-nil}
use Rattle.std.proofs.lemmas.Bool.{eqb-true, false_from_ne_true}
use Rattle.std.proofs.lemmas.Bool.Decides.{eqb_tells}
use Rattle.pgas_base.specs.Pointers.{Pointer, word_of}
use Rattle.pgas_base.specs.Shapes.{IsShape}
use Rattle.pool_core.specs.declared.headers.State.TheVariants.{Free}
use Rattle.epoch_laws.specs.Places.{Place, place_of, place_in, index_in, pending, same_place, is_among, without, without_all, with_number, with_place}
use Rattle.epoch_laws.specs.Seats.{Seat}
use Rattle.epoch_laws.specs.States.{State, IsPlace}
use Rattle.epoch_laws.specs.Needs.{AllMet}
use Rattle.epoch_laws.specs.Chains.{Led, led_in, led_over}
use Rattle.epoch_laws.specs.HomeSteps.{home_swap, home_link, home_take, home_walk, with_link}
use Rattle.epoch_laws.proofs.Updates.{number_here, number_there, at_number, part_kept, part_with, same_place_tells}
use Rattle.epoch_laws.proofs.Timing.{timing, IsTimed}
use Rattle.epoch_laws.proofs.Lists.{IsDistinct, among_here, among_one, left_rest, left_none}
use Rattle.epoch_laws.proofs.Locations.{InStack, InHome, InTaken, InHand, Location, at_, loc_moved, loc_there, content_moved, content_from, content_to, content_else}
use Rattle.epoch_laws.proofs.Paths.{IsPath, Leads, leads-path, path_same, path_first, path_none, led_to, led_to_some, led_to_none, home_else, taken_else, first_of, moves_paths, ArePaths}
use Rattle.epoch_laws.proofs.Links.{Wait, IsHomeKind, IsLink, IsHomeWait, IsLinked, moves_linked, links_home}
use Rattle.epoch_laws.proofs.Ages.{AreAged, moves_untagged}
use Rattle.epoch_laws.proofs.Looks.{AreLooks, next_changes}
use Rattle.epoch_laws.proofs.Sound.{phased, home_wait, home_wait_at, lists, clock, AreLists, state_of, is_tagged, Fits, Map, firsts_of, IsSound}
use Rattle.epoch_laws.proofs.Moves.{own_location, no_seat_location, lists_moved, lists_of_seats, fit_same, one_distinct, moved_map, listed_moved}
use Rattle.epoch_laws.proofs.Words.{IsSmall, small_in_shape, place_in-word_of, word_not_none, word_not_pending}
use Rattle.epoch_laws.proofs.KeepsDeferrals.{kinds_apart, stack_top_at}
use Rattle.epoch_laws.proofs.KeepsStacks.{override, override_here, override_there}
use Rattle.epoch_laws.proofs.Segments.{IsSegment, led_segment, among_without, gone_without}

not_home_hand : IsHomeKind InHand → ⊥
not_home_hand x = ⊎_elim (λ e. absurd (cc e)) (λ e. absurd (cc e)) x

-- a pending mark leads to no place of a shape
not_pending : (s : State) → IsShape s.shape → (word : ℕ) → IsPlace s.shape (place_in word) → word ≢ pending
unfolding place_in
not_pending s is word inside e =
    let low = inside.locale in
    let most = is.0 in
    let at : word / 2 ^ 56 ≡ 255 = ap (λ w. w / 2 ^ 56) e in
    absurd (omega arith)

not_none : (s : State) (word : ℕ) → IsPlace s.shape (place_in word) → word ≢ 0
unfolding place_in index_in
not_none s word inside e =
    let some = inside.some_object in
    let at : index_in word ≡ 0 = ap index_in e in
    absurd (omega arith)

module _ (s : State) (m : Map) (sound : IsSound s m) (is_shape : IsShape s.shape) (c : ℕ) where
  pub keeps_home_link : AllMet ((home_link s c).needs) → IsSound ((home_link s c).outcome.next) m
  unfolding home_link home_wait_at with_link
  keeps_home_link h =
      let seat = s.seat c in
      let p = h.1.0.0 in
      let e = h.1.0.1 in
      let w : Wait = record { place = p; old = seat.homing.old } in
      let new : Seat = record seat { homing = record seat.homing { tail = None } } in
      let waits : home_wait (s.seat c) ≡ Some w = ap (λ x. home_wait_at x seat.homing.old) e in
      let at_home = (sound.linked.home_waits c w waits).at_home in
      subst (λ n. IsSound (record s { words = record s.words { next = n }; seat = with_number s.seat c new }) m) (sym (ap (λ x. with_link s.words.next x seat.homing.old) e))
      (record {
        timed = subst (IsTimed s.shape.locales s.shape.tokens (clock s)) (sym (part_kept timing s.seat c new refl)) sound.timed;
        listed = sound.listed;
        lists = subst (AreLists m.content) (sym (part_kept lists s.seat c new refl)) sound.lists;
        fit = sound.fit;
        paths = subst (λ t. ArePaths s.shape.locales m.link (record (firsts_of s.words s.seat) { taken = t; rest = λ d. (phased (with_number s.seat c new d)).rest }) m.content)
            (sym (part_kept (λ x. x.homing.chain) s.seat c new refl))
            (subst (λ t. ArePaths s.shape.locales m.link (record (firsts_of s.words s.seat) { rest = t }) m.content) (sym (part_kept (λ x. (phased x).rest) s.seat c new refl)) sound.paths);
        linked = subst (λ f. IsLinked m.loc m.link (with_place s.words.next p seat.homing.old) f (λ d. (phased (with_number s.seat c new d)).list_wait) s.words.home_head)
            (sym (part_with home_wait s.seat c new))
            (subst (λ f. IsLinked m.loc m.link (with_place s.words.next p seat.homing.old) (with_number (λ d. home_wait (s.seat d)) c None) f s.words.home_head)
            (sym (part_kept (λ x. (phased x).list_wait) s.seat c new refl))
            (links_home m.loc m.link s.words.next (λ d. home_wait (s.seat d)) (λ d. (phased (s.seat d)).list_wait) s.words.home_head c w waits sound.linked));
        aged = subst (λ f. AreAged s.shape s.words.epoch s.born s.tag m.loc f (λ d. (phased (with_number s.seat c new d)).deferring))
            (sym (part_kept (λ x. (phased x).collecting) s.seat c new refl))
            (subst (λ f. AreAged s.shape s.words.epoch s.born s.tag m.loc (λ d. (phased (s.seat d)).collecting) f) (sym (part_kept (λ x. (phased x).deferring) s.seat c new refl)) sound.aged);
        looks = subst (λ f. AreLooks s.shape.locales f s.words.free_head (with_place s.words.next p seat.homing.old)) (sym (part_kept (λ x. x.stack) s.seat c new refl))
            (next_changes s.shape.locales (λ d. (s.seat d).stack) s.words.free_head s.words.next sound.looks p seat.homing.old
            (λ l low ne same. not_stack (subst (λ k. IsHomeKind k) (ap (λ x. (m.loc x).kind) (sym same) ∙ ap (λ x. x.kind) (stack_top_at s m sound l low ne)) at_home)));
      })
    where
      not_stack : IsHomeKind InStack → ⊥
      not_stack x = ⊎_elim (λ e. absurd (cc e)) (λ e. absurd (cc e)) x

  abbrev pub take_map : ℕ → Map
  take_map l = moved_map m (m.content (at_ InHome l)) (at_ InHome l) (at_ InTaken c)

  pub keeps_home_take : (l : ℕ) → AllMet ((home_take s c l).needs) → IsSound ((home_take s c l).outcome.next) (take_map l)
  unfolding home_take first_of
  keeps_home_take l h =
      let seat = s.seat c in
      let none = h.1.1.0.1 in
      let read = s.words.home_head l in
      let a = at_ InHome l in
      let b = at_ InTaken c in
      let moved = m.content a in
      let new : Seat = record seat { homing = record seat.homing { chain = read } } in
      let mine = sound.lists c in
      let differ : a ≢ b = kinds_apart InHome InTaken l c (λ x. absurd (cc x)) in
      let part : (p : Place) → is_among p moved ≡ true → is_among p (m.content a) ≡ true = λ p x. x in
      let distinct = (sound.listed a).distinct in
      let f = firsts_of s.words s.seat in
      let home = with_number s.words.home_head l 0 in
      let taken = with_number (λ d. (s.seat d).homing.chain) c read in
      let g = record f { home = home; taken = taken } in
      let empty : m.content b ≡ [] = path_none m.link (m.content b) (subst (λ x. IsPath m.link x (m.content b)) (ap led_to none ∙ led_to_none) (sound.paths b refl)) in
      record {
        timed = subst (IsTimed s.shape.locales s.shape.tokens (clock s)) (sym (part_kept timing s.seat c new refl)) sound.timed;
        listed = listed_moved s m sound moved a b differ part distinct;
        lists = lists_of_seats s.seat c new (content_moved moved a b m.content)
            (lists_moved m.content (λ d. lists (s.seat d)) c (lists new) moved a b sound.lists (no_seat_location c a (λ x. x)) (no_seat_location c b (λ x. x))
            (record {
              hand = content_else moved a b m.content _ (kinds_apart _ _ c l (λ x. absurd (cc x))) (kinds_apart _ _ c c (λ x. absurd (cc x))) ∙ mine.hand;
              owned = content_else moved a b m.content _ (kinds_apart _ _ c l (λ x. absurd (cc x))) (kinds_apart _ _ c c (λ x. absurd (cc x))) ∙ mine.owned;
              walked = content_else moved a b m.content _ (kinds_apart _ _ c l (λ x. absurd (cc x))) (kinds_apart _ _ c c (λ x. absurd (cc x))) ∙ mine.walked;
              to_swap = content_else moved a b m.content _ (kinds_apart _ _ c l (λ x. absurd (cc x))) (kinds_apart _ _ c c (λ x. absurd (cc x))) ∙ mine.to_swap;
            }));
        fit = fit_same s.words.header s.tag m.loc moved b sound.fit
            (λ p x. subst (λ y. (Free ≡ state_of y.kind) × (false ≡ is_tagged y.kind)) (sym ((sound.listed a).all p x).0) (refl, refl));
        paths = subst (λ t. ArePaths s.shape.locales m.link (record f { home = home; taken = t; rest = λ d. (phased (with_number s.seat c new d)).rest }) (content_moved moved a b m.content))
            (sym (part_with (λ x. x.homing.chain) s.seat c new))
            (subst (λ t. ArePaths s.shape.locales m.link (record f { home = home; taken = taken; rest = t }) (content_moved moved a b m.content))
            (sym (part_kept (λ x. (phased x).rest) s.seat c new refl))
            (moves_paths s.shape.locales m.link m.link f g m.content moved a b sound.paths
            (λ x chain xa xb. taken_else s.shape.locales (record f { home = home }) c read x.kind x.first x.second chain xb ∙ home_else s.shape.locales f l 0 x.kind x.first x.second chain xa)
            (λ x p xa q. refl)
            (λ chain. subst (IsPath m.link (led_to (home l))) (sym (content_from moved a b m.content ∙ left_none moved moved (λ p x. x))) (ap led_to (number_here s.words.home_head l 0) ∙ led_to_none))
            (λ chain. subst (IsPath m.link (led_to (taken c))) (sym (content_to moved a b m.content differ ∙ ap (λ y. moved ++ y) empty ∙ append-nil moved))
            (subst (λ x. IsPath m.link x moved) (ap led_to (sym (number_here (λ d. (s.seat d).homing.chain) c read))) (sound.paths a refl)))));
        linked = subst (λ y. IsLinked (loc_moved moved b m.loc) m.link s.words.next y (λ d. (phased (with_number s.seat c new d)).list_wait) home)
            (sym (part_kept home_wait s.seat c new refl))
            (subst (λ y. IsLinked (loc_moved moved b m.loc) m.link s.words.next (λ d. home_wait (s.seat d)) y home)
            (sym (part_kept (λ x. (phased x).list_wait) s.seat c new refl))
            (moves_linked m.loc m.link m.link s.words.next (λ d. home_wait (s.seat d)) (λ d. (phased (s.seat d)).list_wait) (λ d. home_wait (s.seat d)) (λ d. (phased (s.seat d)).list_wait)
            s.words.home_head home sound.linked moved b (λ p x. refl)
            (λ p x. subst (λ y. IsLink s.words.next m.link (λ d. home_wait (s.seat d)) (λ d. (phased (s.seat d)).list_wait) y.kind y.first p) ((sound.listed a).all p x).0 (sound.linked.links p))
            (λ d w e. e) (λ d w e. e)
            (λ d w e x. let was = sound.linked.home_waits d w e in
            record { at_home = inr (ap (λ y. y.kind) (loc_there moved b m.loc w.place x)); follows = was.follows; is_pending = was.is_pending; old = was.old })
            (λ d w e x. absurd (cc (ap (λ y. y.kind) ((sound.listed a).all w.place x).0, (sound.linked.list_waits d w e).in_list)))
            (λ d w e x. e) (λ d w e x. e) sound.linked.one_wait
            (at_number (λ k x. x ≢ pending) s.words.home_head l 0 (λ e. absurd (cc e)) (λ k ne. sound.linked.heads k))));
        aged = subst (λ y. AreAged s.shape s.words.epoch s.born s.tag (loc_moved moved b m.loc) y (λ d. (phased (with_number s.seat c new d)).deferring))
            (sym (part_kept (λ x. (phased x).collecting) s.seat c new refl))
            (subst (λ y. AreAged s.shape s.words.epoch s.born s.tag (loc_moved moved b m.loc) (λ d. (phased (s.seat d)).collecting) y)
            (sym (part_kept (λ x. (phased x).deferring) s.seat c new refl))
            (moves_untagged s.shape s.words.epoch s.born s.tag m.loc _ _ sound.aged moved b
            (λ p x. let fits = subst (λ y. Fits y.kind (s.words.header p) (s.tag p)) ((sound.listed a).all p x).0 (sound.fit p) in fits.tagging)));
        looks = subst (λ y. AreLooks s.shape.locales y s.words.free_head s.words.next) (sym (part_kept (λ x. x.stack) s.seat c new refl)) sound.looks;
      }

  abbrev pub taken_place : Place
  taken_place = place_in ((s.seat c).homing.chain)

  abbrev pub home_walk_map : Map
  home_walk_map = moved_map m (taken_place ∷ []) (at_ InTaken c) (at_ InHand c)

  -- the taken chain begins with its current object
  pub taken_path : (s.seat c).homing.chain ≢ 0 → (rest : List Place) × (m.content (at_ InTaken c) ≡ taken_place ∷ rest) × IsPath m.link (m.link taken_place) rest
  unfolding first_of
  taken_path some =
      path_first m.link taken_place (m.content (at_ InTaken c))
      (subst (λ x. IsPath m.link x (m.content (at_ InTaken c))) (led_to_some ((s.seat c).homing.chain) some) (sound.paths (at_ InTaken c) refl))

  pub keeps_home_walk : AllMet ((home_walk s c).needs) → s.words.next taken_place ≢ pending
      → IsSound (record s { seat = with_number s.seat c (record (s.seat c) { hand = taken_place ∷ (s.seat c).hand; homing = record ((s.seat c).homing) { chain = s.words.next taken_place } }) }) home_walk_map
  unfolding home_walk first_of
  keeps_home_walk h stored =
      let seat = s.seat c in
      let p = taken_place in
      let read = s.words.next p in
      let a = at_ InTaken c in
      let b = at_ InHand c in
      let new : Seat = record seat { hand = p ∷ seat.hand; homing = record seat.homing { chain = read } } in
      let mine = sound.lists c in
      let path = taken_path h.1.0.1 in
      let at : is_among p (m.content a) ≡ true = subst (λ x. is_among p x ≡ true) (sym path.1) (among_here p path.0) in
      let is_at : m.loc p ≡ a = ((sound.listed a).all p at).0 in
      let differ : a ≢ b = kinds_apart InTaken InHand c c (λ x. absurd (cc x)) in
      let part : (q : Place) → is_among q (p ∷ []) ≡ true → is_among q (m.content a) ≡ true = λ q x. subst (λ y. is_among y (m.content a) ≡ true) (sym (among_one q p x)) at in
      let link : m.link p ≡ led_to read =
      ⊎_elim (λ x. x.1) (λ x. absurd (stored x.0)) (subst (λ y. IsLink s.words.next m.link (λ d. home_wait (s.seat d)) (λ d. (phased (s.seat d)).list_wait) y.kind y.first p) is_at (sound.linked.links p)) in
      let f = firsts_of s.words s.seat in
      let taken = with_number (λ d. (s.seat d).homing.chain) c read in
      let g = record f { taken = taken } in
      let left : without_all (p ∷ []) (m.content a) ≡ path.0 = ap (without_all (p ∷ [])) path.1 ∙ left_rest p path.0 (subst IsDistinct path.1 (sound.listed a).distinct) in
      let fits = subst (λ y. Fits y.kind (s.words.header p) (s.tag p)) is_at (sound.fit p) in
      record {
        timed = subst (IsTimed s.shape.locales s.shape.tokens (clock s)) (sym (part_kept timing s.seat c new refl)) sound.timed;
        listed = listed_moved s m sound (p ∷ []) a b differ part (one_distinct p);
        lists = lists_of_seats s.seat c new (content_moved (p ∷ []) a b m.content)
            (lists_moved m.content (λ d. lists (s.seat d)) c (lists new) (p ∷ []) a b sound.lists (no_seat_location c a (λ x. x)) (own_location c InHand)
            (record {
              hand = content_to (p ∷ []) a b m.content differ ∙ ap (λ x. p ∷ x) mine.hand;
              owned = content_else (p ∷ []) a b m.content _ (kinds_apart _ _ c c (λ x. absurd (cc x))) (kinds_apart _ _ c c (λ x. absurd (cc x))) ∙ mine.owned;
              walked = content_else (p ∷ []) a b m.content _ (kinds_apart _ _ c c (λ x. absurd (cc x))) (kinds_apart _ _ c c (λ x. absurd (cc x))) ∙ mine.walked;
              to_swap = content_else (p ∷ []) a b m.content _ (kinds_apart _ _ c c (λ x. absurd (cc x))) (kinds_apart _ _ c c (λ x. absurd (cc x))) ∙ mine.to_swap;
            }));
        fit = fit_same s.words.header s.tag m.loc (p ∷ []) b sound.fit
            (λ q x. subst (λ y. (Free ≡ state_of ((m.loc y).kind)) × (false ≡ is_tagged ((m.loc y).kind))) (sym (among_one q p x))
            (subst (λ y. (Free ≡ state_of y.kind) × (false ≡ is_tagged y.kind)) (sym is_at) (refl, refl)));
        paths = subst (λ t. ArePaths s.shape.locales m.link (record f { taken = t; rest = λ d. (phased (with_number s.seat c new d)).rest }) (content_moved (p ∷ []) a b m.content))
            (sym (part_with (λ x. x.homing.chain) s.seat c new))
            (subst (λ t. ArePaths s.shape.locales m.link (record f { taken = taken; rest = t }) (content_moved (p ∷ []) a b m.content))
            (sym (part_kept (λ x. (phased x).rest) s.seat c new refl))
            (moves_paths s.shape.locales m.link m.link f g m.content (p ∷ []) a b sound.paths
            (λ x chain xa xb. taken_else s.shape.locales f c read x.kind x.first x.second chain xa)
            (λ x q xa y. refl)
            (λ chain. subst (IsPath m.link (led_to (taken c))) (sym (content_from (p ∷ []) a b m.content ∙ left))
            (subst (λ x. IsPath m.link x path.0) (link ∙ ap led_to (sym (number_here (λ d. (s.seat d).homing.chain) c read))) path.2))
            (λ chain. absurd chain)));
        linked = subst (λ y. IsLinked (loc_moved (p ∷ []) b m.loc) m.link s.words.next y (λ d. (phased (with_number s.seat c new d)).list_wait) s.words.home_head)
            (sym (part_kept home_wait s.seat c new refl))
            (subst (λ y. IsLinked (loc_moved (p ∷ []) b m.loc) m.link s.words.next (λ d. home_wait (s.seat d)) y s.words.home_head)
            (sym (part_kept (λ x. (phased x).list_wait) s.seat c new refl))
            (moves_linked m.loc m.link m.link s.words.next (λ d. home_wait (s.seat d)) (λ d. (phased (s.seat d)).list_wait) (λ d. home_wait (s.seat d)) (λ d. (phased (s.seat d)).list_wait)
            s.words.home_head s.words.home_head sound.linked (p ∷ []) b (λ q x. refl) (λ q x. tt) (λ d w e. e) (λ d w e. e)
            (λ d w e x. absurd (stored (ap s.words.next (sym (among_one w.place p x)) ∙ (sound.linked.home_waits d w e).is_pending)))
            (λ d w e x. absurd (cc (ap (λ y. (m.loc y).kind) (among_one w.place p x), ap (λ y. y.kind) is_at, (sound.linked.list_waits d w e).in_list)))
            (λ d w e x. e) (λ d w e x. e) sound.linked.one_wait sound.linked.heads));
        aged = subst (λ y. AreAged s.shape s.words.epoch s.born s.tag (loc_moved (p ∷ []) b m.loc) y (λ d. (phased (with_number s.seat c new d)).deferring))
            (sym (part_kept (λ x. (phased x).collecting) s.seat c new refl))
            (subst (λ y. AreAged s.shape s.words.epoch s.born s.tag (loc_moved (p ∷ []) b m.loc) (λ d. (phased (s.seat d)).collecting) y)
            (sym (part_kept (λ x. (phased x).deferring) s.seat c new refl))
            (moves_untagged s.shape s.words.epoch s.born s.tag m.loc _ _ sound.aged (p ∷ []) b (λ q x. subst (λ y. s.tag y ≡ None) (sym (among_one q p x)) fits.tagging)));
        looks = subst (λ y. AreLooks s.shape.locales y s.words.free_head s.words.next) (sym (part_kept (λ x. x.stack) s.seat c new refl)) sound.looks;
      }

  module _ (top tail : Pointer) where
    abbrev pub swap_way : Led
    swap_way = led_in s.words ((s.seat c).hand) (λ word. word == pending) (place_of top) (place_of tail)

    -- the links of the chain that goes home: the tail's is that of the old head, which is not stored yet
    home_links : Place → Option Place
    home_links q = if same_place q (place_of tail) then led_to (s.words.home_head top.locale) else led_to (s.words.next q)

    swap_link : Place → Option Place
    swap_link = override (led_over swap_way) home_links m.link

    pub home_swap_map : Map
    home_swap_map = record {
      loc = loc_moved (led_over swap_way) (at_ InHome top.locale) m.loc;
      link = swap_link;
      content = content_moved (led_over swap_way) (at_ InHand c) (at_ InHome top.locale) m.content;
    }

    tail_link : home_links (place_of tail) ≡ led_to (s.words.home_head top.locale)
    unfolding home_links
    tail_link = ⊎_elim (λ h. rw h.0 refl) (λ h. let e = h.1 in absurd (e refl)) (same_place_tells (place_of tail) (place_of tail))

    inner_link : (q : Place) → q ≢ place_of tail → home_links q ≡ led_to (s.words.next q)
    unfolding home_links
    inner_link q ne = ⊎_elim (λ h. absurd (ne h.1)) (λ h. rw h.0 refl) (same_place_tells q (place_of tail))

    pub keeps_home_swap : AllMet ((home_swap s c top tail).needs) → IsSound ((home_swap s c top tail).outcome.next) home_swap_map
    unfolding home_swap first_of home_swap_map swap_link home_wait_at
    keeps_home_swap h =
        let seat = s.seat c in
        let l = top.locale in
        let p = place_of top in
        let t = place_of tail in
        let xs = led_over swap_way in
        let no_tail = h.1.1.1.0 in
        let in_top = h.1.1.1.1.1.1.0 in
        let is_way = h.1.1.1.1.1.1.1.1.0 in
        let read = s.words.home_head l in
        let a = at_ InHand c in
        let b = at_ InHome l in
        let new : Seat = record seat { hand = without_all xs seat.hand; homing = record seat.homing { tail = Some t; old = read } } in
        let w : Wait = record { place = t; old = read } in
        let mine = sound.lists c in
        let seg : IsSegment s.words top.locale (λ word. word == pending) t (without p seat.hand) p xs =
        led_segment s.words top.locale (λ word. word == pending) t (length seat.hand) (without p seat.hand) p (gone_without p seat.hand) is_way in
        let in_hand : (q : Place) → is_among q xs ≡ true → is_among q seat.hand ≡ true =
        λ q x. ⊎_elim (λ y. ap (λ z. is_among z seat.hand) y ∙ in_top.0) (λ y. (among_without q p seat.hand y).1) (seg.members q x) in
        let part : (q : Place) → is_among q xs ≡ true → is_among q (m.content a) ≡ true = λ q x. subst (λ y. is_among q y ≡ true) (sym mine.hand) (in_hand q x) in
        let at : (q : Place) → is_among q xs ≡ true → (m.loc q ≡ a) × IsPlace s.shape q = λ q x. (sound.listed a).all q (part q x) in
        let differ : a ≢ b = kinds_apart InHand InHome c l (λ x. absurd (cc x)) in
        let f = firsts_of s.words s.seat in
        let home = with_number s.words.home_head l (word_of top) in
        let link' = swap_link in
        let fits_top = sound.fit p in
        let small : IsSmall top = small_in_shape s.shape top is_shape h.1.0 (subst (λ x. x < 2 ^ 32) h.1.1.1.1.0 fits_top.bound) in
        let next_inside : (q : Place) → is_among q xs ≡ true → q ≢ t → IsPlace s.shape (place_in (s.words.next q)) =
        λ q x ne. ((sound.listed a).all (place_in (s.words.next q)) (subst (λ y. is_among (place_in (s.words.next q)) y ≡ true) (sym mine.hand) (among_without (place_in (s.words.next q)) p seat.hand (seg.inner q x ne).0).1)).1 in
        let leads : Leads link' (Some p) xs (led_to read) =
        seg.leads link' (led_to read)
        (λ q x ne. override_here xs _ m.link q x ∙ inner_link q ne ∙ led_to_some (s.words.next q) (not_none s (s.words.next q) (next_inside q x ne)))
        (override_here xs _ m.link t seg.tail_here ∙ tail_link) in
        let at_tail : link' t ≡ led_to read = override_here xs _ m.link t seg.tail_here ∙ tail_link in
        let is_pending : s.words.next t ≡ pending = eqb-true _ _ seg.last in
        let homes = with_number (λ d. home_wait (s.seat d)) c (Some w) in
        let no_wait : home_wait (s.seat c) ≡ None = ap (λ x. home_wait_at x seat.homing.old) no_tail in
        let is_new : homes c ≡ Some w = number_here (λ d. home_wait (s.seat d)) c (Some w) in
        let before : (d : ℕ) (v : Wait) → d ≢ c → homes d ≡ Some v → home_wait (s.seat d) ≡ Some v = λ d v ne e. sym (number_there (λ d. home_wait (s.seat d)) c (Some w) d ne) ∙ e in
        let not_ours : (d : ℕ) (v : Wait) → home_wait (s.seat d) ≡ Some v → is_among v.place xs ≡ true → ⊥ =
        λ d v e x. not_home_hand (subst (λ k. IsHomeKind k.kind) (at v.place x).0 (sound.linked.home_waits d v e).at_home) in
        record {
          timed = subst (IsTimed s.shape.locales s.shape.tokens (clock s)) (sym (part_kept timing s.seat c new refl)) sound.timed;
          listed = listed_moved s m sound xs a b differ part seg.distinct;
          lists = lists_of_seats s.seat c new (content_moved xs a b m.content)
              (lists_moved m.content (λ d. lists (s.seat d)) c (lists new) xs a b sound.lists (own_location c InHand) (no_seat_location c b (λ x. x))
              (record {
                hand = content_from xs a b m.content ∙ ap (without_all xs) mine.hand;
                owned = content_else xs a b m.content _ (kinds_apart _ _ c c (λ x. absurd (cc x))) (kinds_apart _ _ c l (λ x. absurd (cc x))) ∙ mine.owned;
                walked = content_else xs a b m.content _ (kinds_apart _ _ c c (λ x. absurd (cc x))) (kinds_apart _ _ c l (λ x. absurd (cc x))) ∙ mine.walked;
                to_swap = content_else xs a b m.content _ (kinds_apart _ _ c c (λ x. absurd (cc x))) (kinds_apart _ _ c l (λ x. absurd (cc x))) ∙ mine.to_swap;
              }));
          fit = fit_same s.words.header s.tag m.loc xs b sound.fit
              (λ q x. subst (λ y. (Free ≡ state_of y.kind) × (false ≡ is_tagged y.kind)) (sym (at q x).0) (refl, refl));
          paths = subst (λ y. ArePaths s.shape.locales link' (record f { home = home; taken = y; rest = λ d. (phased (with_number s.seat c new d)).rest }) (content_moved xs a b m.content))
              (sym (part_kept (λ x. x.homing.chain) s.seat c new refl))
              (subst (λ y. ArePaths s.shape.locales link' (record f { home = home; rest = y }) (content_moved xs a b m.content))
              (sym (part_kept (λ x. (phased x).rest) s.seat c new refl))
              (moves_paths s.shape.locales m.link link' f (record f { home = home }) m.content xs a b sound.paths
              (λ x chain xa xb. home_else s.shape.locales f l (word_of top) x.kind x.first x.second chain xb)
              (λ x q xa y. override_there xs _ m.link q (unmoved_of q x (((sound.listed x).all q y).0) xa (λ z. (at q z).0)))
              (λ chain. absurd chain)
              (λ chain. subst (IsPath link' (led_to (home l))) (sym (content_to xs a b m.content differ))
              (subst (λ y. IsPath link' y (xs ++ m.content b))
              (sym (ap led_to (number_here s.words.home_head l (word_of top)) ∙ led_to_some (word_of top) (word_not_none top small) ∙ ap Some (place_in-word_of top small)))
              (leads-path link' (Some p) (led_to read) xs (m.content b) leads
              (path_same m.link link' (led_to read) (m.content b) (λ q y. override_there xs _ m.link q (unmoved_of q b (((sound.listed b).all q y).0) (λ z. differ (sym z)) (λ z. (at q z).0)))
              (sound.paths b refl)))))));
          linked = subst (λ y. IsLinked (loc_moved xs b m.loc) link' s.words.next y (λ d. (phased (with_number s.seat c new d)).list_wait) home)
              (sym (part_with home_wait s.seat c new))
              (subst (λ y. IsLinked (loc_moved xs b m.loc) link' s.words.next homes y home)
              (sym (part_kept (λ x. (phased x).list_wait) s.seat c new refl))
              (moves_linked m.loc m.link link' s.words.next (λ d. home_wait (s.seat d)) (λ d. (phased (s.seat d)).list_wait) homes (λ d. (phased (s.seat d)).list_wait)
              s.words.home_head home sound.linked xs b (λ q x. override_there xs _ m.link q x)
              (λ q x.
              ⊎_elim
              (λ y. inr (ap s.words.next y.1 ∙ is_pending, (c, w, is_new, sym y.1, ap link' y.1 ∙ at_tail)))
              (λ y. let ne = y.1 in inl (not_pending s is_shape (s.words.next q) (next_inside q x ne), override_here xs _ m.link q x ∙ inner_link q ne))
              (same_place_tells q t))
              (λ d v e. number_there (λ d. home_wait (s.seat d)) c (Some w) d (λ same. absurd (cc (e, ap (λ x. home_wait (s.seat x)) same, no_wait))) ∙ e)
              (λ d v e. e)
              (λ d v e x.
              ⊎_elim
              (λ y.
              let same : w ≡ v = cc (e, ap homes y.1, is_new) in
              subst (IsHomeWait (loc_moved xs b m.loc) s.words.next link') same
              (record { at_home = inl (ap (λ k. k.kind) (loc_there xs b m.loc t seg.tail_here)); follows = at_tail; is_pending = is_pending; old = sound.linked.heads l }))
              (λ y. let ne = y.1 in absurd (not_ours d v (before d v ne e) x))
              (eqb_tells d c))
              (λ d v e x. absurd (cc (ap (λ k. k.kind) (at v.place x).0, (sound.linked.list_waits d v e).in_list)))
              (λ d v e x.
              ⊎_elim
              (λ y.
              let same : w ≡ v = cc (e, ap homes y.1, is_new) in
              absurd (cc (x, ap (λ z. is_among z.place xs) same, seg.tail_here)))
              (λ y. let ne = y.1 in before d v ne e)
              (eqb_tells d c))
              (λ d v e x. e)
              (λ d k v u ev eu same.
              ⊎_elim
              (λ y.
              ⊎_elim
              (λ z. y.1 ∙ sym z.1)
              (λ z. let ne = z.1 in
              let here : w ≡ v = cc (ev, ap homes y.1, is_new) in
              absurd (not_ours k u (before k u ne eu) (ap (λ q. is_among q xs) (sym same ∙ ap (λ q. q.place) (sym here)) ∙ seg.tail_here)))
              (eqb_tells k c))
              (λ y. let ny = y.1 in
              ⊎_elim
              (λ z.
              let here : w ≡ u = cc (eu, ap homes z.1, is_new) in
              absurd (not_ours d v (before d v ny ev) (ap (λ q. is_among q xs) (same ∙ ap (λ q. q.place) (sym here)) ∙ seg.tail_here)))
              (λ z. let ne = z.1 in sound.linked.one_wait d k v u (before d v ny ev) (before k u ne eu) same)
              (eqb_tells k c))
              (eqb_tells d c))
              (at_number (λ k x. x ≢ pending) s.words.home_head l (word_of top) (word_not_pending top small) (λ k ne. sound.linked.heads k))));
          aged = subst (λ y. AreAged s.shape s.words.epoch s.born s.tag (loc_moved xs b m.loc) y (λ d. (phased (with_number s.seat c new d)).deferring))
              (sym (part_kept (λ x. (phased x).collecting) s.seat c new refl))
              (subst (λ y. AreAged s.shape s.words.epoch s.born s.tag (loc_moved xs b m.loc) (λ d. (phased (s.seat d)).collecting) y)
              (sym (part_kept (λ x. (phased x).deferring) s.seat c new refl))
              (moves_untagged s.shape s.words.epoch s.born s.tag m.loc _ _ sound.aged xs b
              (λ q x. let fits = subst (λ y. Fits y.kind (s.words.header q) (s.tag q)) (at q x).0 (sound.fit q) in fits.tagging)));
          looks = subst (λ y. AreLooks s.shape.locales y s.words.free_head s.words.next) (sym (part_kept (λ x. x.stack) s.seat c new refl)) sound.looks;
        }
      where
        unmoved_of : (q : Place) (k : Location) → m.loc q ≡ k → k ≢ at_ InHand c → (is_among q (led_over swap_way) ≡ true → m.loc q ≡ at_ InHand c) → is_among q (led_over swap_way) ≡ false
        unmoved_of q k at ne h = false_from_ne_true (is_among q (led_over swap_way)) (λ x. ne (sym at ∙ h x))

    -- where the objects are by this map
    pub swap_loc : (P : (Place → Location) → Type 0) → P (loc_moved (led_over swap_way) (at_ InHome top.locale) m.loc) → P home_swap_map.loc
    unfolding home_swap_map
    swap_loc P h = h
