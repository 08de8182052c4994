-- The steps on stacks of free objects keep what holds of every state.
use Rattle.std.proofs.Common.{◌≡◌, ◌≢◌, ◌==◌, ◌&&◌, ℕ, ◌+◌, ◌≤◌, Bool, true, false, if◌then◌else◌, List, [], ◌∷◌, ◌++◌, length, Option, Some, None, refl, ap, sym, ◌∙◌, subst, ⊎_elim, arith}
use Rattle.std.proofs.lemmas.Bool.{eqb-true, false_from_ne_true}
use Rattle.pgas_base.specs.Pointers.{Pointer}
use Rattle.pool_core.specs.declared.free_words.FreeWord.{FreeWord}
use Rattle.pool_core.specs.declared.headers.State.TheVariants.{Free}
use Rattle.epoch_laws.specs.Places.{Place, place_of, place_in, index_in, is_among, without, without_all, with_number}
use Rattle.epoch_laws.specs.Seats.{StackLook, NoLook, Looked, NextRead, Seat}
use Rattle.epoch_laws.specs.States.{State, IsPlace}
use Rattle.epoch_laws.specs.Needs.{AllMet}
use Rattle.epoch_laws.specs.Chains.{Led, led_in, led_over}
use Rattle.epoch_laws.specs.StackSteps.{stack_look, stack_next, stack_pop, stack_put, hand_link, looked_top, same_head}
use Rattle.epoch_laws.proofs.Updates.{number_here, part_kept, part_with}
use Rattle.epoch_laws.proofs.Timing.{timing, IsTimed}
use Rattle.epoch_laws.proofs.Lists.{IsDistinct, among_here, among_one, left_rest}
use Rattle.epoch_laws.proofs.Locations.{InStack, InHand, Location, at_, loc_moved, content_moved, content_from, content_to, content_else}
use Rattle.epoch_laws.proofs.Paths.{IsPath, Leads, leads-path, path_same, top_at, top_at_some, path_first, stack_else, first_of, moves_paths, ArePaths}
use Rattle.epoch_laws.proofs.Links.{IsHomeKind, IsLink, IsLinked, moves_linked, relinks_hand}
use Rattle.epoch_laws.proofs.Ages.{AreAged, moves_untagged}
use Rattle.epoch_laws.proofs.Looks.{IsLook, AreLooks, heads_rise, next_changes, looks_anew}
use Rattle.epoch_laws.proofs.Sound.{phased, home_wait, lists, clock, AreLists, state_of, is_tagged, Fits, Map, firsts_of, IsSound}
use Rattle.epoch_laws.proofs.Moves.{IsAlike, linked_alike, aged_alike, looks_alike, own_location, no_seat_location, lists_moved, lists_of_seats, fit_same, one_distinct, moved_map, listed_moved, linked_moved}
use Rattle.epoch_laws.proofs.KeepsDeferrals.{kinds_apart, paths_rest, stack_top_at}
use Rattle.epoch_laws.proofs.Segments.{IsSegment, led_segment, among_without, gone_without}

module _ (s : State) (m : Map) (sound : IsSound s m) (c : ℕ) where
  -- another look
  pub relooks : (look : StackLook) → IsLook s.shape.locales s.words.free_head s.words.next look → IsSound (record s { seat = with_number s.seat c (record (s.seat c) { stack = look }) }) m
  relooks look is =
      let new : Seat = record (s.seat c) { stack = look } in
      record {
        timed = subst (IsTimed s.shape.locales s.shape.tokens (clock s)) (sym (part_kept timing s.seat c new refl)) sound.timed;
        listed = sound.listed;
        lists = subst (AreLists m.content) (sym (part_kept lists s.seat c new refl)) sound.lists;
        fit = sound.fit;
        paths = paths_rest s.seat c new s.shape.locales (firsts_of s.words s.seat) m.link _ refl refl sound.paths;
        linked = subst (λ f. IsLinked m.loc m.link s.words.next f (λ d. (phased (with_number s.seat c new d)).list_wait) s.words.home_head)
            (sym (part_kept home_wait s.seat c new refl))
            (subst (λ f. IsLinked m.loc m.link s.words.next (λ d. home_wait (s.seat d)) f s.words.home_head) (sym (part_kept (λ x. (phased x).list_wait) s.seat c new refl)) sound.linked);
        aged = subst (λ f. AreAged s.shape s.words.epoch s.born s.tag m.loc f (λ d. (phased (with_number s.seat c new d)).deferring))
            (sym (part_kept (λ x. (phased x).collecting) s.seat c new refl))
            (subst (λ f. AreAged s.shape s.words.epoch s.born s.tag m.loc (λ d. (phased (s.seat d)).collecting) f) (sym (part_kept (λ x. (phased x).deferring) s.seat c new refl)) sound.aged);
        looks = subst (λ f. AreLooks s.shape.locales f s.words.free_head s.words.next) (sym (part_with (λ x. x.stack) s.seat c new)) (looks_anew s.shape.locales (λ d. (s.seat d).stack) s.words.free_head s.words.next sound.looks c look is);
      }

  pub keeps_stack_look : (l : ℕ) → AllMet ((stack_look s c l).needs) → IsSound ((stack_look s c l).outcome.next) m
  unfolding stack_look
  keeps_stack_look l h =
      relooks (record { phase = Looked; locale = l; head = s.words.free_head l; next = 0 })
      (record { locale = λ n. h.1.0; most = λ n. omega arith; same = λ n e. refl; index = λ n. absurd (cc n); next_read = λ n e. absurd (cc n) })

  pub keeps_stack_next : AllMet ((stack_next s c).needs) → IsSound ((stack_next s c).outcome.next) m
  unfolding stack_next
  keeps_stack_next h =
      let look = (s.seat c).stack in
      let was = sound.looks c in
      let some = h.1.0.1 in
      relooks (record look { phase = NextRead; next = s.words.next (looked_top look) })
      (record { locale = λ n. was.locale some; most = λ n. was.most some; same = λ n e. was.same some e; index = λ n. h.1.0.2; next_read = λ n e. refl })

  -- a lost exchange
  pub keeps_no_look : IsSound (record s { seat = with_number s.seat c (record (s.seat c) { stack = record ((s.seat c).stack) { phase = NoLook } }) }) m
  keeps_no_look =
      relooks (record ((s.seat c).stack) { phase = NoLook })
      (record { locale = λ n. absurd (n refl); most = λ n. absurd (n refl); same = λ n e. absurd (n refl); index = λ n. absurd (cc n); next_read = λ n e. absurd (cc n) })

  -- the head is the one that was read
  pub head_is : (head : FreeWord) → same_head head ((s.seat c).stack.head) ≡ true → head ≡ (s.seat c).stack.head
  head_is head h =
      let look = (s.seat c).stack.head in
      go (head.count == look.count) refl h
    where
      go : (b : Bool) → (head.count == (s.seat c).stack.head.count) ≡ b → (b && (head.index == (s.seat c).stack.head.index)) ≡ true → head ≡ (s.seat c).stack.head
      go true e h = let ec = eqb-true _ _ e in let ei = eqb-true _ _ h in λ i. record { count = ec i; index = ei i }
      go false e h = absurd (cc h)

  abbrev pub popped : Place
  popped = looked_top ((s.seat c).stack)

  abbrev pub pop_map : Map
  pop_map = moved_map m (popped ∷ []) (at_ InStack ((s.seat c).stack.locale)) (at_ InHand c)

  -- a won pop finds on top what was read
  pub pop_path : AllMet ((stack_pop s c).needs) → same_head (s.words.free_head (s.seat c).stack.locale) (s.seat c).stack.head ≡ true
      → (rest : List Place) × (m.content (at_ InStack (s.seat c).stack.locale) ≡ popped ∷ rest) × IsPath m.link (m.link popped) rest
  unfolding stack_pop first_of
  pop_path h won =
      let look = (s.seat c).stack in
      let was = sound.looks c in
      let e = head_is (s.words.free_head look.locale) won in
      let some : look.phase ≢ NoLook = λ z. absurd (cc (h.1.0.1, z)) in
      let first : top_at look.locale (s.words.free_head look.locale).index ≡ Some popped = ap (λ x. top_at look.locale x.index) e ∙ top_at_some look.locale look.head.index (was.index h.1.0.1) in
      path_first m.link popped (m.content (at_ InStack look.locale))
      (subst (λ x. IsPath m.link x (m.content (at_ InStack look.locale))) first (sound.paths (at_ InStack look.locale) (refl, was.locale some)))

  pub keeps_stack_pop : (h : AllMet ((stack_pop s c).needs)) → same_head (s.words.free_head (s.seat c).stack.locale) (s.seat c).stack.head ≡ true → IsSound ((stack_pop s c).outcome.next) pop_map
  unfolding stack_pop first_of
  keeps_stack_pop h won =
      let seat = s.seat c in
      let look = seat.stack in
      let l = look.locale in
      let p = popped in
      let a = at_ InStack l in
      let b = at_ InHand c in
      let head : FreeWord = record { count = look.head.count + 1; index = index_in look.next } in
      let new : Seat = record seat { hand = p ∷ seat.hand } in
      let mine = sound.lists c in
      let was = sound.looks c in
      let e = head_is (s.words.free_head l) won in
      let ec : look.head.count ≡ (s.words.free_head l).count = sym (ap (λ x. x.count) e) in
      let path = pop_path h won in
      let at : is_among p (m.content a) ≡ true = subst (λ x. is_among p x ≡ true) (sym path.1) (among_here p path.0) in
      let is_at : m.loc p ≡ a = ((sound.listed a).all p at).0 in
      let differ : a ≢ b = kinds_apart InStack InHand l c (λ x. absurd (cc x)) in
      let part : (q : Place) → is_among q (p ∷ []) ≡ true → is_among q (m.content a) ≡ true = λ q x. subst (λ y. is_among y (m.content a) ≡ true) (sym (among_one q p x)) at in
      let alike : IsAlike seat new = record { phased = refl; homing = refl; stack = refl } in
      let link : m.link p ≡ top_at l (index_in (s.words.next p)) = subst (λ y. IsLink s.words.next m.link (λ d. home_wait (s.seat d)) (λ d. (phased (s.seat d)).list_wait) y.kind y.first p) is_at (sound.linked.links p) in
      let read : look.next ≡ s.words.next p = was.next_read h.1.0.1 ec in
      let f = firsts_of s.words s.seat in
      let stack = with_number (λ k. (s.words.free_head k).index) l head.index in
      let left : without_all (p ∷ []) (m.content a) ≡ path.0 = ap (without_all (p ∷ [])) path.1 ∙ left_rest p path.0 (subst IsDistinct path.1 (sound.listed a).distinct) in
      let fits = subst (λ y. Fits y.kind (s.words.header p) (s.tag p)) is_at (sound.fit p) in
      rw won
      (record {
        timed = subst (IsTimed s.shape.locales s.shape.tokens (clock s)) (sym (part_kept timing s.seat c new refl)) sound.timed;
        listed = listed_moved s m sound (p ∷ []) a b differ part (one_distinct p);
        lists = lists_of_seats s.seat c new (content_moved (p ∷ []) a b m.content)
            (lists_moved m.content (λ d. lists (s.seat d)) c (lists new) (p ∷ []) a b sound.lists (no_seat_location c a (λ x. x)) (own_location c InHand)
            (record {
              hand = content_to (p ∷ []) a b m.content differ ∙ ap (λ x. p ∷ x) mine.hand;
              owned = content_else (p ∷ []) a b m.content _ (kinds_apart _ _ c l (λ x. absurd (cc x))) (kinds_apart _ _ c c (λ x. absurd (cc x))) ∙ mine.owned;
              walked = content_else (p ∷ []) a b m.content _ (kinds_apart _ _ c l (λ x. absurd (cc x))) (kinds_apart _ _ c c (λ x. absurd (cc x))) ∙ mine.walked;
              to_swap = content_else (p ∷ []) a b m.content _ (kinds_apart _ _ c l (λ x. absurd (cc x))) (kinds_apart _ _ c c (λ x. absurd (cc x))) ∙ mine.to_swap;
            }));
        fit = fit_same s.words.header s.tag m.loc (p ∷ []) b sound.fit
            (λ q x. subst (λ y. (Free ≡ state_of ((m.loc y).kind)) × (false ≡ is_tagged ((m.loc y).kind))) (sym (among_one q p x))
            (subst (λ y. (Free ≡ state_of y.kind) × (false ≡ is_tagged y.kind)) (sym is_at) (refl, refl)));
        paths = paths_rest s.seat c new s.shape.locales (record f { stack = λ k. (with_number s.words.free_head l head k).index }) m.link _ refl refl
            (subst (λ t. ArePaths s.shape.locales m.link (record f { stack = t }) (content_moved (p ∷ []) a b m.content))
            (sym (part_with (λ x. x.index) s.words.free_head l head))
            (moves_paths s.shape.locales m.link m.link f (record f { stack = stack }) m.content (p ∷ []) a b sound.paths
            (λ x chain xa xb. stack_else s.shape.locales f l head.index x.kind x.first x.second chain xa)
            (λ x q xa y. refl)
            (λ chain. subst (IsPath m.link (top_at l (stack l))) (sym (content_from (p ∷ []) a b m.content ∙ left))
            (subst (λ x. IsPath m.link x path.0) (link ∙ ap (λ x. top_at l (index_in x)) (sym read) ∙ ap (top_at l) (sym (number_here (λ k. (s.words.free_head k).index) l head.index))) path.2))
            (λ chain. absurd chain)));
        linked = linked_alike s.seat c new alike _ _ _ _ (linked_moved s m sound (p ∷ []) a b differ part (one_distinct p) (λ x. ⊎_elim (λ y. absurd (cc y)) (λ y. absurd (cc y)) x) (λ x. absurd (cc x)) (λ q x. tt));
        aged = aged_alike s.seat c new alike _ _ _ _ _ (moves_untagged s.shape s.words.epoch s.born s.tag m.loc _ _ sound.aged (p ∷ []) b
            (λ q x. subst (λ y. s.tag y ≡ None) (sym (among_one q p x)) fits.tagging));
        looks = looks_alike s.seat c new alike _ _ _ (heads_rise s.shape.locales (λ d. (s.seat d).stack) s.words.free_head s.words.next sound.looks l head (omega arith));
      })

  pub keeps_hand_link : (q : Pointer) (word : ℕ) → AllMet ((hand_link s c q word).needs) → IsSound ((hand_link s c q word).outcome.next) m
  unfolding hand_link
  keeps_hand_link q word h =
      let p = place_of q in
      let mine = sound.lists c in
      let at : m.loc p ≡ at_ InHand c = ((sound.listed (at_ InHand c)).all p (subst (λ l. is_among p l ≡ true) (sym mine.hand) h.1.1.1.0)).0 in
      record {
        timed = sound.timed;
        listed = sound.listed;
        lists = sound.lists;
        fit = sound.fit;
        paths = sound.paths;
        linked = relinks_hand m.loc m.link s.words.next (λ d. home_wait (s.seat d)) (λ d. (phased (s.seat d)).list_wait) s.words.home_head p word (ap (λ x. x.kind) at) sound.linked;
        aged = sound.aged;
        looks = next_changes s.shape.locales (λ d. (s.seat d).stack) s.words.free_head s.words.next sound.looks p word
            (λ l low ne e. absurd (cc (ap (λ x. x.kind) at, ap (λ x. (m.loc x).kind) (sym e), ap (λ x. x.kind) (stack_top_at s m sound l low ne))));
      }

-- other values for some places
unfoldable pub override : List Place → (Place → Option Place) → (Place → Option Place) → Place → Option Place
override places new old p = if is_among p places then new p else old p

pub override_here : (places : List Place) (new old : Place → Option Place) (p : Place) → is_among p places ≡ true → override places new old p ≡ new p
unfolding override
override_here places new old p h = rw h refl

pub override_there : (places : List Place) (new old : Place → Option Place) (p : Place) → is_among p places ≡ false → override places new old p ≡ old p
unfolding override
override_there places new old p h = rw h refl

-- a place of the shape is led to by its index
pub top_at_place : (l word : ℕ) → (place_in word).locale ≡ l → 1 ≤ (place_in word).index → top_at l (index_in word) ≡ Some (place_in word)
unfolding place_in
top_at_place l word e some = top_at_some l (index_in word) (λ z. omega arith) ∙ ap Some (let same : ◌≡◌ {A = Place} (record { locale = l; index = index_in word }) (place_in word) = λ i. record { locale = sym e i; index = index_in word } in same)

module _ (s : State) (m : Map) (sound : IsSound s m) (c : ℕ) (top tail : Pointer) where
  abbrev pub put_way : Led
  put_way = led_in s.words ((s.seat c).hand) (λ word. index_in word == (s.seat c).stack.head.index) (place_of top) (place_of tail)

  put_link : Place → Option Place
  put_link = override (led_over put_way) (λ q. top_at ((s.seat c).stack.locale) (index_in (s.words.next q))) m.link

  pub put_map : Map
  put_map = record {
    loc = loc_moved (led_over put_way) (at_ InStack ((s.seat c).stack.locale)) m.loc;
    link = put_link;
    content = content_moved (led_over put_way) (at_ InHand c) (at_ InStack ((s.seat c).stack.locale)) m.content;
  }

  pub keeps_stack_put : AllMet ((stack_put s c top tail).needs) → same_head (s.words.free_head (s.seat c).stack.locale) (s.seat c).stack.head ≡ true → IsSound ((stack_put s c top tail).outcome.next) put_map
  unfolding stack_put first_of put_map put_link
  keeps_stack_put h won =
      let seat = s.seat c in
      let look = seat.stack in
      let l = look.locale in
      let p = place_of top in
      let t = place_of tail in
      let xs = led_over put_way in
      let in_top = h.1.1.1.1.1.1.0 in
      let in_tail = h.1.1.1.1.1.1.1.0 in
      let is_way = h.1.1.1.1.1.1.1.1.0 in
      let some = h.1.1.1.0.1 in
      let a = at_ InHand c in
      let b = at_ InStack l in
      let head : FreeWord = record { count = look.head.count + 1; index = top.index } in
      let new : Seat = record seat { hand = without_all xs seat.hand } in
      let mine = sound.lists c in
      let was = sound.looks c in
      let e = head_is s m sound c (s.words.free_head l) won in
      let seg : IsSegment s.words top.locale (λ word. index_in word == look.head.index) t (without p seat.hand) p xs =
      led_segment s.words top.locale (λ word. index_in word == look.head.index) t (length seat.hand) (without p seat.hand) p (gone_without p seat.hand) is_way in
      let in_hand : (q : Place) → is_among q xs ≡ true → is_among q seat.hand ≡ true =
      λ q x. ⊎_elim (λ y. ap (λ z. is_among z seat.hand) y ∙ in_top.0) (λ y. (among_without q p seat.hand y).1) (seg.members q x) in
      let part : (q : Place) → is_among q xs ≡ true → is_among q (m.content a) ≡ true = λ q x. subst (λ y. is_among q y ≡ true) (sym mine.hand) (in_hand q x) in
      let at : (q : Place) → is_among q xs ≡ true → (m.loc q ≡ a) × IsPlace s.shape q = λ q x. (sound.listed a).all q (part q x) in
      let differ : a ≢ b = kinds_apart InHand InStack c l (λ x. absurd (cc x)) in
      let alike : IsAlike seat new = record { phased = refl; homing = refl; stack = refl } in
      let f = firsts_of s.words s.seat in
      let stack = with_number (λ k. (s.words.free_head k).index) l top.index in
      let link' = put_link in
      let low = was.locale some in
      let final = top_at l look.head.index in
      let last : index_in (s.words.next t) ≡ look.head.index = eqb-true _ _ seg.last in
      let top_in = h.1.0 in
      let first : top_at l top.index ≡ Some p =
      (let o = top_in.some_object in top_at_some l top.index (λ z. omega arith)) ∙ ap Some (let same : ◌≡◌ {A = Place} (record { locale = l; index = top.index }) p = λ i. record { locale = sym in_top.1 i; index = top.index } in same) in
      let leads : Leads link' (Some p) xs final =
      seg.leads link' final
      (λ q x ne.
      let i = seg.inner q x ne in
      let inside = ((sound.listed a).all (place_in (s.words.next q)) (subst (λ y. is_among (place_in (s.words.next q)) y ≡ true) (sym mine.hand) (among_without (place_in (s.words.next q)) p seat.hand i.0).1)).1 in
      override_here xs _ m.link q x ∙ top_at_place l (s.words.next q) (i.1 ∙ in_top.1) inside.some_object)
      (override_here xs _ m.link t seg.tail_here ∙ ap (top_at l) last) in
      rw won
      (record {
        timed = subst (IsTimed s.shape.locales s.shape.tokens (clock s)) (sym (part_kept timing s.seat c new refl)) sound.timed;
        listed = listed_moved s m sound xs a b differ part seg.distinct;
        lists = lists_of_seats s.seat c new (content_moved xs a b m.content)
            (lists_moved m.content (λ d. lists (s.seat d)) c (lists new) xs a b sound.lists (own_location c InHand) (no_seat_location c b (λ x. x))
            (record {
              hand = content_from xs a b m.content ∙ ap (without_all xs) mine.hand;
              owned = content_else xs a b m.content _ (kinds_apart _ _ c c (λ x. absurd (cc x))) (kinds_apart _ _ c l (λ x. absurd (cc x))) ∙ mine.owned;
              walked = content_else xs a b m.content _ (kinds_apart _ _ c c (λ x. absurd (cc x))) (kinds_apart _ _ c l (λ x. absurd (cc x))) ∙ mine.walked;
              to_swap = content_else xs a b m.content _ (kinds_apart _ _ c c (λ x. absurd (cc x))) (kinds_apart _ _ c l (λ x. absurd (cc x))) ∙ mine.to_swap;
            }));
        fit = fit_same s.words.header s.tag m.loc xs b sound.fit
            (λ q x. subst (λ y. (Free ≡ state_of y.kind) × (false ≡ is_tagged y.kind)) (sym (at q x).0) (refl, refl));
        paths = paths_rest s.seat c new s.shape.locales (record f { stack = λ k. (with_number s.words.free_head l head k).index }) link' _ refl refl
            (subst (λ y. ArePaths s.shape.locales link' (record f { stack = y }) (content_moved xs a b m.content))
            (sym (part_with (λ x. x.index) s.words.free_head l head))
            (moves_paths s.shape.locales m.link link' f (record f { stack = stack }) m.content xs a b sound.paths
            (λ x chain xa xb. stack_else s.shape.locales f l top.index x.kind x.first x.second chain xb)
            (λ x q xa y. override_there xs _ m.link q (unmoved_of q x (((sound.listed x).all q y).0) xa (λ z. (at q z).0)))
            (λ chain. absurd chain)
            (λ chain. subst (IsPath link' (top_at l (stack l))) (sym (content_to xs a b m.content differ))
            (subst (λ y. IsPath link' y (xs ++ m.content b)) (sym (ap (top_at l) (number_here (λ k. (s.words.free_head k).index) l top.index) ∙ first))
            (leads-path link' (Some p) final xs (m.content b) leads
            (path_same m.link link' final (m.content b) (λ q y. override_there xs _ m.link q (unmoved_of q b (((sound.listed b).all q y).0) (λ z. differ (sym z)) (λ z. (at q z).0)))
            (subst (λ y. IsPath m.link (top_at l y) (m.content b)) (ap (λ x. x.index) e) (sound.paths b (refl, low)))))))));
        linked = linked_alike s.seat c new alike _ _ _ _
            (moves_linked m.loc m.link link' s.words.next (λ d. home_wait (s.seat d)) (λ d. (phased (s.seat d)).list_wait) (λ d. home_wait (s.seat d)) (λ d. (phased (s.seat d)).list_wait)
            s.words.home_head s.words.home_head sound.linked xs b (λ q x. override_there xs _ m.link q x)
            (λ q x. override_here xs _ m.link q x)
            (λ d w x. x) (λ d w x. x)
            (λ d w x y. absurd (not_home (subst (λ z. IsHomeKind z.kind) (at w.place y).0 (sound.linked.home_waits d w x).at_home)))
            (λ d w x y. absurd (cc (ap (λ z. z.kind) (at w.place y).0, (sound.linked.list_waits d w x).in_list)))
            (λ d w x y. x) (λ d w x y. x) sound.linked.one_wait sound.linked.heads);
        aged = aged_alike s.seat c new alike _ _ _ _ _ (moves_untagged s.shape s.words.epoch s.born s.tag m.loc _ _ sound.aged xs b
            (λ q x. let fits = subst (λ y. Fits y.kind (s.words.header q) (s.tag q)) (at q x).0 (sound.fit q) in fits.tagging));
        looks = looks_alike s.seat c new alike _ _ _ (heads_rise s.shape.locales (λ d. (s.seat d).stack) s.words.free_head s.words.next sound.looks l head
            (let ec : look.head.count ≡ (s.words.free_head l).count = sym (ap (λ x. x.count) e) in omega arith));
      })
    where
      not_home : IsHomeKind InHand → ⊥
      not_home x = ⊎_elim (λ e. absurd (cc e)) (λ e. absurd (cc e)) x

      unmoved_of : (q : Place) (k : Location) → m.loc q ≡ k → k ≢ at_ InHand c → (is_among q (led_over put_way) ≡ true → m.loc q ≡ at_ InHand c) → is_among q (led_over put_way) ≡ false
      unmoved_of q k at ne h = false_from_ne_true (is_among q (led_over put_way)) (λ x. ne (sym at ∙ h x))

  -- where the objects are by this map
  pub put_loc : (P : (Place → Location) → Type 0) → P (loc_moved (led_over put_way) (at_ InStack ((s.seat c).stack.locale)) m.loc) → P put_map.loc
  unfolding put_map
  put_loc P h = h
