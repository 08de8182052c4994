-- Each kind of step keeps the counts in words that lead to objects.
use Rattle.std.proofs.Common.{◌≡◌, ◌≢◌, ◌==◌, ◌%◌, ℕ, ◌+◌, true, false, ltb, List, [], ◌∷◌, length, Some, None, refl, ap, sym, ◌∙◌, subst, inl, inr, ⊎_elim}
use mathlib.Core.Path.{fun_ext}
use Rattle.std.proofs.lemmas.Bool.{eqb-true, and_parts}
use Rattle.std.proofs.lemmas.Bool.Decides.{eqb_tells}
use Rattle.pgas_base.specs.declared.shapes.Shape.{Shape}
use Rattle.pgas_base.specs.declared.starts.Start.{Start}
use Rattle.pgas_base.specs.Shapes.{IsShape}
use Rattle.pgas_base.specs.Pointers.{Pointer, word_of}
use Rattle.pool_core.specs.declared.headers.Header.{Header}
use Rattle.epoch_laws.specs.Places.{Place, place_of, place_in, pointer_at, pending, is_among, without, with_number, with_place}
use Rattle.epoch_laws.specs.Seats.{Phase, Idle, Registered, PinLooked, Pinned, DeferLooked, DeferSwapped, WonLocal, LostGlobal, WonGlobal, Scanning, Stopped, Advanced, LeftGlobal, Reclaim, Homing, Seat}
use Rattle.epoch_laws.specs.States.{State, IsPlace, opening, opening_words}
use Rattle.epoch_laws.specs.Needs.{AllMet}
use Rattle.epoch_laws.specs.Chains.{led_over}
use Rattle.epoch_laws.specs.TokenSteps.{register, unregister, pin_look, pin_set, unpin}
use Rattle.epoch_laws.specs.TakeSteps.{take_look, take_try, show, give_back, is_free, is_free_with, look_count}
use Rattle.epoch_laws.specs.HoldSteps.{hold, touch}
use Rattle.epoch_laws.specs.DeferralSteps.{defer_look, defer_swap, defer_link}
use Rattle.epoch_laws.specs.ReclaimSteps.{elect_local, elect_global, epoch_look, scan_token, advance, spread, collect, walk, leave, MayLeave, has_global, passes, token_after, last_epoch}
use Rattle.epoch_laws.specs.StackSteps.{stack_look, stack_next, stack_pop, stack_put, hand_link, same_head}
use Rattle.epoch_laws.specs.HomeSteps.{home_swap, home_link, home_take, home_walk, with_link}
use Rattle.epoch_laws.proofs.Updates.{number_here, place_here, at_place, same_place_tells}
use Rattle.epoch_laws.proofs.Lists.{truth, among_nil, among_here, among_more, among_cons, among_one}
use Rattle.epoch_laws.proofs.Locations.{Kind, InStack, InHome, InTaken, InHand, IsOwned, IsLive, InDeferral, InList, InRest, IsWalked, Location, at_, loc_moved, at_moved}
use Rattle.epoch_laws.proofs.Paths.{IsPath, led_to, led_to_some, first_of, list_at}
use Rattle.epoch_laws.proofs.Links.{Wait, IsLink}
use Rattle.epoch_laws.proofs.Ages.{Deferring}
use Rattle.epoch_laws.proofs.Sound.{plain, phased, phased_at, home_wait, home_wait_at, Map, IsSound}
use Rattle.epoch_laws.proofs.KeepsReclaims.{collected_list, collect_unwaited, walked_place, walk_path}
use Rattle.epoch_laws.proofs.KeepsStacks.{popped, put_way}
use Rattle.epoch_laws.proofs.KeepsHomes.{taken_place, taken_path, swap_way}
use Rattle.epoch_laws.proofs.Segments.{IsSegment, led_segment, among_without, gone_without}
use Rattle.epoch_laws.proofs.Counts.{IsCurrent, IsNextCurrent, IsLocal, IsSeatCurrent, AreCurrent, HasCounts, next_of_list, next_of_home, list_changes, home_changes, next_changes, places_go, chain_changes, seat_changes, seat_stays}

module _ (s : State) (m : Map) (sound : IsSound s m) (current : HasCounts s m.loc) (c : ℕ) where
  abbrev counts : Place → ℕ
  counts p = (s.words.header p).count

  -- the counts of headers, where one changes that keeps its count
  same_counts : (q : Place) (head : Header) → head.count ≡ counts q → ◌≡◌ {A = Place → ℕ} (λ p. (with_place s.words.header q head p).count) counts
  same_counts q head e = fun_ext (λ p. at_place (λ x y. y.count ≡ (s.words.header x).count) s.words.header q head e (λ x ne. refl) p)

  of_phase : (ph : Phase) → (s.seat c).phase ≡ ph → phased_at ph (s.seat c).deferral (s.seat c).token (s.seat c).reclaim ≡ phased (s.seat c)
  of_phase ph at = sym (ap (λ x. phased_at x (s.seat c).deferral (s.seat c).token (s.seat c).reclaim) at)

  -- a seat that stays what it is in this regard
  stays : (new : Seat) → phased new ≡ phased (s.seat c) → new.homing ≡ (s.seat c).homing
      → AreCurrent s.shape counts m.loc s.words.list_head s.words.home_head s.words.next (with_number s.seat c new)
  stays new e f = seat_stays s.shape counts m.loc s.words.list_head s.words.home_head s.words.next s.seat current c new e f

  -- the same, where objects go to a location that is none of a list, home or taken chain or rest
  goes : (new : Seat) (moved : List Place) (b : Location) → phased new ≡ phased (s.seat c) → new.homing ≡ (s.seat c).homing → b.second ≡ 0
      → ((p : Place) → IsNextCurrent s.shape counts s.words.next (λ d. (phased (with_number s.seat c new d)).list_wait) b.kind p × IsLocal (with_number s.seat c new) b.kind b.first p)
      → AreCurrent s.shape counts (loc_moved moved b m.loc) s.words.list_head s.words.home_head s.words.next (with_number s.seat c new)
  goes new moved b e f flat here =
      places_go s.shape counts m.loc s.words.list_head s.words.home_head s.words.next (with_number s.seat c new) (stays new e f) moved b (λ ne. flat) (λ p h inside. (here p).0) (λ p h inside. (here p).1)

  -- the same of one object, whose header changes and keeps its count
  goes_with : (q : Place) (head : Header) (new : Seat) (b : Location) → head.count ≡ counts q → phased new ≡ phased (s.seat c) → new.homing ≡ (s.seat c).homing → b.second ≡ 0
      → ((p : Place) → IsNextCurrent s.shape counts s.words.next (λ d. (phased (with_number s.seat c new d)).list_wait) b.kind p × IsLocal (with_number s.seat c new) b.kind b.first p)
      → AreCurrent s.shape (λ p. (with_place s.words.header q head p).count) (loc_moved (q ∷ []) b m.loc) s.words.list_head s.words.home_head s.words.next (with_number s.seat c new)
  goes_with q head new b count e f flat here =
      subst (λ (k : Place → ℕ). AreCurrent s.shape k (loc_moved (q ∷ []) b m.loc) s.words.list_head s.words.home_head s.words.next (with_number s.seat c new)) (sym (same_counts q head count))
      (goes new (q ∷ []) b e f flat here)

  pub counts_register : (l n : ℕ) → AllMet ((register s c (record { locale = l; number = n })).needs) → HasCounts ((register s c (record { locale = l; number = n })).outcome.next) m.loc
  unfolding register phased_at
  counts_register l n h = ⊎_elim (λ z. rw z (stays _ (of_phase Idle h.1.1.1.0) refl)) (λ z. rw z current) (truth (s.words.token_word (record { locale = l; number = n }) == 0))

  pub counts_unregister : AllMet ((unregister s c).needs) → HasCounts ((unregister s c).outcome.next) m.loc
  unfolding unregister phased_at
  counts_unregister h = stays _ (of_phase Registered h.1.0) refl

  pub counts_pin_look : AllMet ((pin_look s c).needs) → HasCounts ((pin_look s c).outcome.next) m.loc
  unfolding pin_look phased_at
  counts_pin_look h = stays _ (of_phase Registered h.1.0) refl

  pub counts_pin_set : AllMet ((pin_set s c).needs) → HasCounts ((pin_set s c).outcome.next) m.loc
  unfolding pin_set phased_at
  counts_pin_set h = stays _ (of_phase PinLooked h.1.0) refl

  pub counts_unpin : AllMet ((unpin s c).needs) → HasCounts ((unpin s c).outcome.next) m.loc
  unfolding unpin phased_at
  counts_unpin h = stays _ (of_phase Pinned h.1.0) refl

  pub counts_take_look : (p : Place) → HasCounts ((take_look s c p).outcome.next) m.loc
  unfolding take_look
  counts_take_look p = stays _ refl refl

  -- an object of the hand, owned from now on
  pub counts_take_try : (p : Place) → is_free_with (s.words.header p) (look_count (s.seat c).free_look) ≡ true → HasCounts ((take_try s c p).outcome.next) (loc_moved (p ∷ []) (at_ IsOwned c) m.loc)
  unfolding take_try
  counts_take_try p won =
      let n = look_count (s.seat c).free_look in
      let e : counts p ≡ n = eqb-true (counts p) n (and_parts (is_free (s.words.header p).state) (counts p == n) won).1 in
      rw won (goes_with p _ _ (at_ IsOwned c) (sym e) refl refl refl (λ q. (tt, tt)))

  pub counts_take_lost : (p : Place) → is_free_with (s.words.header p) (look_count (s.seat c).free_look) ≡ false → HasCounts ((take_try s c p).outcome.next) m.loc
  unfolding take_try
  counts_take_lost p lost = rw lost current

  pub counts_show : (q : Pointer) → AllMet ((show s c q).needs) → HasCounts ((show s c q).outcome.next) (loc_moved (place_of q ∷ []) (at_ IsLive 0) m.loc)
  unfolding show
  counts_show q h = goes_with (place_of q) _ _ (at_ IsLive 0) (sym h.1.1.1.0) refl refl refl (λ p. (tt, tt))

  pub counts_give_back : (q : Pointer) → AllMet ((give_back s c q).needs) → HasCounts ((give_back s c q).outcome.next) (loc_moved (place_of q ∷ []) (at_ InHand c) m.loc)
  unfolding give_back
  counts_give_back q h = goes_with (place_of q) _ _ (at_ InHand c) (sym h.1.1.1.0) refl refl refl (λ p. (tt, tt))

  pub counts_hold : (q : Pointer) → HasCounts ((hold s c q).outcome.next) m.loc
  unfolding hold
  counts_hold q = stays _ refl refl

  pub counts_touch : (q : Pointer) → HasCounts ((touch s c q).outcome.next) m.loc
  unfolding touch
  counts_touch q = current

  -- a deferral's pointer has the count of the object, which is shown
  pub counts_defer_look : (q : Pointer) → AllMet ((defer_look s c q).needs) → HasCounts ((defer_look s c q).outcome.next) (loc_moved (place_of q ∷ []) (at_ InDeferral c) m.loc)
  unfolding defer_look phased_at
  counts_defer_look q h =
      let seat = s.seat c in
      let read = s.words.epoch_of seat.token.locale in
      let new : Seat = record seat { phase = DeferLooked; deferral = record { pointer = q; tag = read; old = 0 } } in
      let was = current.seats c in
      let mine : IsSeatCurrent s.shape counts (phased new) new.homing = record {
        rest = inl refl;
        taken = was.taken;
        list_old = λ w e. absurd (cc e);
        home_old = was.home_old;
        tail = was.tail;
        deferral = λ x e.
            let same : ◌≡◌ {A = Deferring} (record { place = place_of q; tag = read; token = seat.token; count = q.count }) x = cc e in
            subst (λ y. y.count ≡ counts y.place) same (sym (ap (λ y. y.count) h.1.1.1.0));
      } in
      places_go s.shape counts m.loc s.words.list_head s.words.home_head s.words.next (with_number s.seat c new)
      (seat_changes s.shape counts m.loc s.words.list_head s.words.home_head s.words.next s.seat current c new mine (λ w e. absurd (cc (e, sym (ap (λ y. y.list_wait) (of_phase Pinned h.1.1.0))))) refl)
      (place_of q ∷ []) (at_ InDeferral c) (λ ne. refl) (λ p x inside. tt) (λ p x inside. tt)

  -- the pointer goes into the head, and the old head is to be stored
  pub counts_defer_swap : AllMet ((defer_swap s c).needs)
      → HasCounts ((defer_swap s c).outcome.next) (loc_moved (place_of ((s.seat c).deferral.pointer) ∷ []) (list_at ((s.seat c).token.locale) ((s.seat c).deferral.tag % 4)) m.loc)
  unfolding defer_swap phased_at
  counts_defer_swap h =
      let seat = s.seat c in
      let q = seat.deferral.pointer in
      let p = place_of q in
      let l = seat.token.locale in
      let n = seat.deferral.tag % 4 in
      let read = s.words.list_head l n in
      let w : Wait = record { place = p; old = read } in
      let new : Seat = record seat { phase = DeferSwapped; deferral = record seat.deferral { old = read } } in
      let was = current.seats c in
      let part = of_phase DeferLooked h.1.0 in
      let at : is_among p (m.content (at_ InDeferral c)) ≡ true =
      (let mine = sound.lists c in subst (λ x. is_among p x ≡ true) (sym (mine.to_swap ∙ sym (ap (λ x. x.to_swap) part))) (among_here p [])) in
      let inside : IsPlace s.shape p = ((sound.listed (at_ InDeferral c)).all p at).1 in
      let count : q.count ≡ counts p = was.deferral (record { place = p; tag = seat.deferral.tag; token = seat.token; count = q.count }) (sym (ap (λ y. y.deferring) part)) in
      let mine : IsSeatCurrent s.shape counts (phased new) new.homing = record {
        rest = inl refl;
        taken = was.taken;
        list_old = λ v e. let same : w ≡ v = cc e in subst (λ y. IsCurrent s.shape counts y.old) same (current.list_heads l n);
        home_old = was.home_old;
        tail = was.tail;
        deferral = λ x e. was.deferral x (sym (ap (λ y. y.deferring) part) ∙ e);
      } in
      list_changes s.shape counts (loc_moved (p ∷ []) (list_at l n) m.loc) s.words.list_head s.words.home_head s.words.next (with_number s.seat c new)
      (places_go s.shape counts m.loc s.words.list_head s.words.home_head s.words.next (with_number s.seat c new)
      (seat_changes s.shape counts m.loc s.words.list_head s.words.home_head s.words.next s.seat current c new mine (λ v e. absurd (cc (e, sym (ap (λ y. y.list_wait) part)))) refl)
      (p ∷ []) (list_at l n) (λ ne. absurd (ne refl)) (λ r x is. inl (c, w, ap (λ y. (phased y).list_wait) (number_here s.seat c new), sym (among_one r p x))) (λ r x is. tt))
      l n (word_of q) (inr (p, inside, ap (λ k. word_of (pointer_at p k)) count))

  -- the old head is stored
  pub counts_defer_link : AllMet ((defer_link s c).needs) → HasCounts ((defer_link s c).outcome.next) m.loc
  unfolding defer_link phased_at
  counts_defer_link h =
      let seat = s.seat c in
      let p = place_of seat.deferral.pointer in
      let w : Wait = record { place = p; old = seat.deferral.old } in
      let new : Seat = record seat { phase = Pinned } in
      let was = current.seats c in
      let part = of_phase DeferSwapped h.1.0 in
      let waits : (phased (s.seat c)).list_wait ≡ Some w = sym (ap (λ x. x.list_wait) part) in
      let next' = with_place s.words.next p seat.deferral.old in
      let stored : IsCurrent s.shape counts (next' p) = subst (IsCurrent s.shape counts) (sym (place_here s.words.next p seat.deferral.old)) (was.list_old w waits) in
      let mine : IsSeatCurrent s.shape counts (phased new) new.homing =
      record { rest = inl refl; taken = was.taken; list_old = λ v e. absurd (cc e); home_old = was.home_old; tail = was.tail; deferral = λ x e. absurd (cc e) } in
      seat_changes s.shape counts m.loc s.words.list_head s.words.home_head next' s.seat
      (next_changes s.shape counts m.loc s.words.list_head s.words.home_head s.words.next s.seat current p seat.deferral.old
      (next_of_list s.shape counts next' (λ d. (phased (s.seat d)).list_wait) p ((m.loc p).kind) (sound.linked.list_waits c w waits).in_list stored))
      c new mine
      (λ v e. inr (let same : w ≡ v = cc (waits, e) in subst (λ y. IsCurrent s.shape counts (next' y.place)) same stored))
      refl

  pub counts_elect_local : AllMet ((elect_local s c).needs) → HasCounts ((elect_local s c).outcome.next) m.loc
  unfolding elect_local phased_at
  counts_elect_local h = ⊎_elim (λ z. rw z (stays _ (of_phase Registered h.1.0) refl)) (λ z. rw z current) (truth (s.words.election_of (s.seat c).token.locale == 0))

  pub counts_elect_global : AllMet ((elect_global s c).needs) → HasCounts ((elect_global s c).outcome.next) m.loc
  unfolding elect_global phased_at
  counts_elect_global h =
      ⊎_elim (λ z. rw z (stays _ (of_phase WonLocal h.1.0) refl)) (λ z. rw z (stays _ (of_phase WonLocal h.1.0) refl)) (truth (s.words.election == 0))

  pub counts_epoch_look : AllMet ((epoch_look s c).needs) → HasCounts ((epoch_look s c).outcome.next) m.loc
  unfolding epoch_look phased_at
  counts_epoch_look h =
      ⊎_elim (λ z. rw z (stays _ (of_phase WonGlobal h.1.0) refl)) (λ z. rw z (stays _ (of_phase WonGlobal h.1.0) refl)) (truth (ltb s.words.epoch last_epoch))

  pub counts_scan_token : AllMet ((scan_token s c).needs) → HasCounts ((scan_token s c).outcome.next) m.loc
  unfolding scan_token phased_at
  counts_scan_token h =
      let r : Reclaim = record (s.seat c).reclaim { scan = token_after s.shape.tokens (s.seat c).reclaim.scan } in
      ⊎_elim
      (λ z. rw z (stays (record (s.seat c) { reclaim = r }) (ap (λ x. phased_at x (s.seat c).deferral (s.seat c).token r) h.1.0.0 ∙ of_phase Scanning h.1.0.0) refl))
      (λ z. rw z (stays _ (of_phase Scanning h.1.0.0) refl))
      (truth (passes (s.seat c).reclaim.epoch (s.words.token_word ((s.seat c).reclaim.scan))))

  pub counts_advance : AllMet ((advance s c).needs) → HasCounts ((advance s c).outcome.next) m.loc
  unfolding advance phased_at
  counts_advance h =
      let seat = s.seat c in
      let new : Seat = record seat { phase = Advanced; reclaim = record seat.reclaim { spread = 0; collected = 0; chain = 0; walked = [] } } in
      let was = current.seats c in
      seat_changes s.shape counts m.loc s.words.list_head s.words.home_head s.words.next s.seat current c new
      (record { rest = inl refl; taken = was.taken; list_old = λ v e. absurd (cc e); home_old = was.home_old; tail = was.tail; deferral = λ x e. absurd (cc e) })
      (λ w e. absurd (cc (e, sym (ap (λ y. y.list_wait) (of_phase Scanning h.1.0.0)))))
      refl

  pub counts_leave : AllMet ((leave s c).needs) → HasCounts ((leave s c).outcome.next) m.loc
  unfolding leave has_global phased_at
  counts_leave h = go (s.seat c).phase refl h.1.0.0
    where
      -- in the phases to and from which it goes, the seat waits for nothing
      leaves : (new : Seat) → phased new ≡ plain → new.homing ≡ (s.seat c).homing → (phased (s.seat c)).list_wait ≡ None
          → AreCurrent s.shape counts m.loc s.words.list_head s.words.home_head s.words.next (with_number s.seat c new)
      leaves new e f none =
          let was = current.seats c in
          seat_changes s.shape counts m.loc s.words.list_head s.words.home_head s.words.next s.seat current c new
          (subst (λ x. IsSeatCurrent s.shape counts x new.homing) (sym e)
          (subst (IsSeatCurrent s.shape counts plain) (sym f)
          (record { rest = inl refl; taken = was.taken; list_old = λ v x. absurd (cc x); home_old = was.home_old; tail = was.tail; deferral = λ x y. absurd (cc y) })))
          (λ w x. absurd (cc (x, none)))
          (ap (λ x. x.chain) f)

      none_at : (ph : Phase) → (s.seat c).phase ≡ ph → (phased_at ph (s.seat c).deferral (s.seat c).token (s.seat c).reclaim).list_wait ≡ None → (phased (s.seat c)).list_wait ≡ None
      none_at ph at e = sym (ap (λ x. x.list_wait) (of_phase ph at)) ∙ e

      go : (ph : Phase) → (s.seat c).phase ≡ ph → MayLeave s.shape.locales (s.seat c).phase (s.seat c).reclaim → HasCounts ((leave s c).outcome.next) m.loc
      go LostGlobal at may = rw (ap has_global at) (leaves _ refl refl (none_at LostGlobal at refl))
      go LeftGlobal at may = rw (ap has_global at) (leaves _ refl refl (none_at LeftGlobal at refl))
      go Stopped at may = rw (ap has_global at) (leaves _ refl refl (none_at Stopped at refl))
      go Advanced at may = rw (ap has_global at) (leaves _ refl refl (none_at Advanced at refl))
      go Idle at may = absurd (subst (λ ph. MayLeave s.shape.locales ph (s.seat c).reclaim) at may)
      go Registered at may = absurd (subst (λ ph. MayLeave s.shape.locales ph (s.seat c).reclaim) at may)
      go PinLooked at may = absurd (subst (λ ph. MayLeave s.shape.locales ph (s.seat c).reclaim) at may)
      go Pinned at may = absurd (subst (λ ph. MayLeave s.shape.locales ph (s.seat c).reclaim) at may)
      go DeferLooked at may = absurd (subst (λ ph. MayLeave s.shape.locales ph (s.seat c).reclaim) at may)
      go DeferSwapped at may = absurd (subst (λ ph. MayLeave s.shape.locales ph (s.seat c).reclaim) at may)
      go WonLocal at may = absurd (subst (λ ph. MayLeave s.shape.locales ph (s.seat c).reclaim) at may)
      go WonGlobal at may = absurd (subst (λ ph. MayLeave s.shape.locales ph (s.seat c).reclaim) at may)
      go Scanning at may = absurd (subst (λ ph. MayLeave s.shape.locales ph (s.seat c).reclaim) at may)

  -- what of the seat depends on its phase while it collects, where its reclaim goes on
  goes_on : (r : Reclaim) → (s.seat c).phase ≡ Advanced → phased_at (s.seat c).phase (s.seat c).deferral (s.seat c).token r ≡ phased_at Advanced (s.seat c).deferral (s.seat c).token r
  goes_on r at = ap (λ x. phased_at x (s.seat c).deferral (s.seat c).token r) at

  -- the seat goes on with its reclaim, with this rest
  collects_on : (new : Seat) (r : Reclaim) → (s.seat c).phase ≡ Advanced → phased new ≡ phased_at Advanced (s.seat c).deferral (s.seat c).token r → new.homing ≡ (s.seat c).homing
      → IsCurrent s.shape counts r.chain
      → AreCurrent s.shape counts m.loc s.words.list_head s.words.home_head s.words.next (with_number s.seat c new)
  unfolding phased_at
  collects_on new r at e f h =
      let was = current.seats c in
      seat_changes s.shape counts m.loc s.words.list_head s.words.home_head s.words.next s.seat current c new
      (subst (λ x. IsSeatCurrent s.shape counts x new.homing) (sym e)
      (subst (IsSeatCurrent s.shape counts (phased_at Advanced (s.seat c).deferral (s.seat c).token r)) (sym f)
      (record { rest = h; taken = was.taken; list_old = λ v x. absurd (cc x); home_old = was.home_old; tail = was.tail; deferral = λ x y. absurd (cc y) })))
      (λ w x. absurd (cc (x, sym (ap (λ y. y.list_wait) (of_phase Advanced at)))))
      (ap (λ x. x.chain) f)

  pub counts_spread : AllMet ((spread s c).needs) → HasCounts ((spread s c).outcome.next) m.loc
  unfolding spread phased_at
  counts_spread h = stays _ (goes_on _ h.1.0.0 ∙ of_phase Advanced h.1.0.0) refl

  -- the head of the list is the rest
  pub counts_collect : AllMet ((collect s c).needs) → HasCounts ((collect s c).outcome.next) (loc_moved (m.content (collected_list s m sound c)) (at_ InRest c) m.loc)
  unfolding collect
  counts_collect h =
      let r = (s.seat c).reclaim in
      let a = collected_list s m sound c in
      let read = s.words.list_head r.collected ((r.epoch + 2) % 4) in
      let new : Seat = record (s.seat c) { reclaim = record r { collected = r.collected + 1; chain = read } } in
      list_changes s.shape counts (loc_moved (m.content a) (at_ InRest c) m.loc) s.words.list_head s.words.home_head s.words.next (with_number s.seat c new)
      (places_go s.shape counts m.loc s.words.list_head s.words.home_head s.words.next (with_number s.seat c new)
      (collects_on new new.reclaim h.1.0.0 (goes_on new.reclaim h.1.0.0) refl (current.list_heads r.collected ((r.epoch + 2) % 4)))
      (m.content a) (at_ InRest c) (λ ne. refl)
      (λ p x inside.
      ⊎_elim (λ w. absurd (collect_unwaited s m sound c h.1.0.0 p x w.0 w.1 w.2 w.3)) (λ y. y)
      (subst (λ k. IsNextCurrent s.shape counts s.words.next (λ d. (phased (s.seat d)).list_wait) k.kind p) ((sound.listed a).all p x).0 (current.nexts p inside)))
      (λ p x inside. tt))
      r.collected ((r.epoch + 2) % 4) 0 (inl refl)

  -- the next word of the walked object is the rest
  pub counts_walk : AllMet ((walk s c).needs) → HasCounts ((walk s c).outcome.next) (loc_moved (walked_place s m sound c ∷ []) (at_ IsWalked c) m.loc)
  unfolding walk
  counts_walk h =
      let r = (s.seat c).reclaim in
      let p = walked_place s m sound c in
      let new : Seat = record (s.seat c) { reclaim = record r { chain = s.words.next p; walked = p ∷ r.walked } } in
      let path = walk_path s m sound c h.1.0.0 h.1.0.1 in
      let at = (sound.listed (at_ InRest c)).all p (subst (λ x. is_among p x ≡ true) (sym path.1) (among_here p path.0)) in
      let next : IsCurrent s.shape counts (s.words.next p) =
      subst (λ k. IsNextCurrent s.shape counts s.words.next (λ d. (phased (s.seat d)).list_wait) k.kind p) at.0 (current.nexts p at.1) in
      places_go s.shape counts m.loc s.words.list_head s.words.home_head s.words.next (with_number s.seat c new)
      (collects_on new new.reclaim h.1.0.0 (goes_on new.reclaim h.1.0.0) refl next)
      (p ∷ []) (at_ IsWalked c) (λ ne. refl) (λ q x inside. tt) (λ q x inside. tt)

  pub counts_stack_look : (l : ℕ) → HasCounts ((stack_look s c l).outcome.next) m.loc
  unfolding stack_look
  counts_stack_look l = stays _ refl refl

  pub counts_stack_next : HasCounts ((stack_next s c).outcome.next) m.loc
  unfolding stack_next
  counts_stack_next = stays _ refl refl

  pub counts_stack_pop : same_head (s.words.free_head (s.seat c).stack.locale) (s.seat c).stack.head ≡ true → HasCounts ((stack_pop s c).outcome.next) (loc_moved (popped s m sound c ∷ []) (at_ InHand c) m.loc)
  unfolding stack_pop
  counts_stack_pop won = rw won (goes _ (popped s m sound c ∷ []) (at_ InHand c) refl refl refl (λ p. (tt, tt)))

  pub counts_pop_lost : same_head (s.words.free_head (s.seat c).stack.locale) (s.seat c).stack.head ≡ false → HasCounts ((stack_pop s c).outcome.next) m.loc
  unfolding stack_pop
  counts_pop_lost lost = rw lost (stays _ refl refl)

  pub counts_stack_put : (top tail : Pointer) → same_head (s.words.free_head (s.seat c).stack.locale) (s.seat c).stack.head ≡ true
      → HasCounts ((stack_put s c top tail).outcome.next) (loc_moved (led_over (put_way s m sound c top tail)) (at_ InStack (s.seat c).stack.locale) m.loc)
  unfolding stack_put
  counts_stack_put top tail won = rw won (goes _ (led_over (put_way s m sound c top tail)) (at_ InStack (s.seat c).stack.locale) refl refl refl (λ p. (tt, tt)))

  pub counts_put_lost : (top tail : Pointer) → same_head (s.words.free_head (s.seat c).stack.locale) (s.seat c).stack.head ≡ false → HasCounts ((stack_put s c top tail).outcome.next) m.loc
  unfolding stack_put
  counts_put_lost top tail lost = rw lost (stays _ refl refl)

  -- an object of the hand gets any next word
  pub counts_hand_link : (q : Pointer) (word : ℕ) → AllMet ((hand_link s c q word).needs) → HasCounts ((hand_link s c q word).outcome.next) m.loc
  unfolding hand_link
  counts_hand_link q word h =
      let p = place_of q in
      let mine = sound.lists c in
      let at : m.loc p ≡ at_ InHand c = ((sound.listed (at_ InHand c)).all p (subst (λ l. is_among p l ≡ true) (sym mine.hand) h.1.1.1.0)).0 in
      next_changes s.shape counts m.loc s.words.list_head s.words.home_head s.words.next s.seat current p word
      (subst (λ k. IsNextCurrent s.shape counts (with_place s.words.next p word) (λ d. (phased (s.seat d)).list_wait) k.kind p) (sym at) tt)

  module _ (top tail : Pointer) (is_shape : IsShape s.shape) where
    -- each object of the chain but the tail names the next one
    pub counts_home_swap : AllMet ((home_swap s c top tail).needs)
        → HasCounts ((home_swap s c top tail).outcome.next) (loc_moved (led_over (swap_way s m sound is_shape c top tail)) (at_ InHome top.locale) m.loc)
    unfolding home_swap home_wait_at
    counts_home_swap h =
        let seat = s.seat c in
        let l = top.locale in
        let p = place_of top in
        let t = place_of tail in
        let way = swap_way s m sound is_shape c top tail in
        let xs = led_over way in
        let read = s.words.home_head l in
        let w : Wait = record { place = t; old = read } in
        let seg : IsSegment s.words l (λ word. word == pending) t (without p seat.hand) p xs =
        led_segment s.words l (λ word. word == pending) t (length seat.hand) (without p seat.hand) p (gone_without p seat.hand) h.1.1.1.1.1.1.1.1.0 in
        let inside : (q : Place) → is_among q (without p seat.hand) ≡ true → IsPlace s.shape q =
        λ q x. (let mine = sound.lists c in ((sound.listed (at_ InHand c)).all q (subst (λ y. is_among q y ≡ true) (sym mine.hand) (among_without q p seat.hand x).1)).1) in
        let was = current.seats c in
        let homing : Homing = record seat.homing { tail = Some t; old = read } in
        let mine : IsSeatCurrent s.shape counts (phased seat) homing = record {
          rest = was.rest;
          taken = was.taken;
          list_old = was.list_old;
          home_old = λ v e. let same : w ≡ v = cc e in subst (λ y. IsCurrent s.shape counts y.old) same (current.home_heads l);
          tail = λ v e. let same : w ≡ v = cc e in subst (λ y. IsPlace s.shape y.place) same h.1.1.0;
          deferral = was.deferral;
        } in
        home_changes s.shape counts (loc_moved xs (at_ InHome l) m.loc) s.words.list_head s.words.home_head s.words.next _
        (places_go s.shape counts m.loc s.words.list_head s.words.home_head s.words.next _
        (seat_changes s.shape counts m.loc s.words.list_head s.words.home_head s.words.next s.seat current c _ mine (λ v e. inl e) refl)
        xs (at_ InHome l) (λ ne. refl)
        (λ q x is.
        ⊎_elim
        (λ y. inl (ap s.words.next y.1 ∙ eqb-true _ _ seg.last))
        (λ y. let ne = y.1 in let i = seg.inner q x ne in inr (inr (place_in (s.words.next q), inside (place_in (s.words.next q)) i.0, i.2)))
        (same_place_tells q t))
        (λ q x is. ⊎_elim (λ e. ap (λ r. r.locale) e) (λ e. e) (seg.locales q x)))
        l (word_of top) (inr (p, h.1.0, ap (λ k. word_of (pointer_at p k)) (sym h.1.1.1.1.0)))

  -- the old home head is stored
  pub counts_home_link : AllMet ((home_link s c).needs) → HasCounts ((home_link s c).outcome.next) m.loc
  unfolding home_link home_wait_at with_link
  counts_home_link h =
      let seat = s.seat c in
      let p = h.1.0.0 in
      let e = h.1.0.1 in
      let w : Wait = record { place = p; old = seat.homing.old } in
      let new : Seat = record seat { homing = record seat.homing { tail = None } } in
      let waits : home_wait (s.seat c) ≡ Some w = ap (λ x. home_wait_at x seat.homing.old) e in
      let was = current.seats c in
      let next' = with_place s.words.next p seat.homing.old in
      let mine : IsSeatCurrent s.shape counts (phased seat) new.homing =
      record { rest = was.rest; taken = was.taken; list_old = was.list_old; home_old = λ v x. absurd (cc x); tail = λ v x. absurd (cc x); deferral = was.deferral } in
      subst (λ n. AreCurrent s.shape counts m.loc s.words.list_head s.words.home_head n (with_number s.seat c new)) (sym (ap (λ x. with_link s.words.next x seat.homing.old) e))
      (seat_changes s.shape counts m.loc s.words.list_head s.words.home_head next' s.seat
      (next_changes s.shape counts m.loc s.words.list_head s.words.home_head s.words.next s.seat current p seat.homing.old
      (next_of_home s.shape counts next' (λ d. (phased (s.seat d)).list_wait) p ((m.loc p).kind) (sound.linked.home_waits c w waits).at_home
      (subst (IsCurrent s.shape counts) (sym (place_here s.words.next p seat.homing.old)) (was.home_old w waits))))
      c new mine (λ v x. inl x) refl)

  abbrev locale_at : (k : Kind) (i : ℕ) (p : Place) → Type 0
  locale_at k i p = IsLocal s.seat k i p

  local_of : (k : Kind) (i : ℕ) (p : Place) → IsPlace s.shape p → m.loc p ≡ at_ k i → locale_at k i p
  local_of k i p inside at = subst (λ (y : Location). locale_at y.kind y.first p) at (current.locals p inside)

  at_of : (k : Kind) (i : ℕ) (p : Place) → k ≢ InList → (m.loc p).kind ≡ k → (m.loc p).first ≡ i → m.loc p ≡ at_ k i
  at_of k i p ne kind first = let flat : (m.loc p).second ≡ 0 = current.flat p (λ e. ne (sym kind ∙ e)) in λ t. record { kind = kind t; first = first t; second = flat t }

  -- where no chain is taken there is no object of one
  none_taken : (s.seat c).homing.chain ≡ 0 → (p : Place) → IsPlace s.shape p → (m.loc p).kind ≡ InTaken → (m.loc p).first ≡ c → ⊥
  unfolding first_of led_to
  none_taken none p inside kind first =
      let among = (sound.listed (at_ InTaken c)).each p (at_of InTaken c p (λ e. absurd (cc e)) kind first) inside in
      go (m.content (at_ InTaken c)) (subst (λ w. IsPath m.link (led_to w) (m.content (at_ InTaken c))) none (sound.paths (at_ InTaken c) refl)) among
    where
      go : (xs : List Place) → IsPath m.link None xs → is_among p xs ≡ true → ⊥
      go [] path among = among_nil p among
      go (q ∷ xs) path among = absurd (cc path.0)

  -- where a chain leads over these objects, its word leads to one of them
  begins : (word : ℕ) (xs : List Place) (p : Place) → IsPath m.link (led_to word) xs → is_among p xs ≡ true → is_among (place_in word) xs ≡ true
  unfolding led_to
  begins word [] p path among = absurd (among_nil p among)
  begins word (q ∷ xs) p path among =
      ⊎_elim
      (λ e. absurd (cc (sym path.0, ap (λ w. led_to w) e.1)))
      (λ e. let ne = e.1 in let same : place_in word ≡ q = cc (sym (led_to_some word ne) ∙ path.0) in subst (λ x. is_among x (q ∷ xs) ≡ true) (sym same) (among_here q xs))
      (eqb_tells word 0)

  -- the objects of a home chain are of the locale of its first one
  home_one : (l : ℕ) (p : Place) → is_among p (m.content (at_ InHome l)) ≡ true → p.locale ≡ (place_in (s.words.home_head l)).locale
  unfolding first_of
  home_one l p among =
      let listed = sound.listed (at_ InHome l) in
      let head = place_in (s.words.home_head l) in
      let first = listed.all head (begins (s.words.home_head l) (m.content (at_ InHome l)) p (sound.paths (at_ InHome l) refl) among) in
      let this = listed.all p among in
      local_of InHome l p this.1 this.0 ∙ sym (local_of InHome l head first.1 first.0)

  -- and those that are left of a taken chain of that of the next one
  taken_one : (rest : List Place) (first : Place) (word : ℕ) → m.content (at_ InTaken c) ≡ first ∷ rest → IsPath m.link (led_to word) rest → (p : Place) → is_among p rest ≡ true → p.locale ≡ (place_in word).locale
  taken_one rest first word is path p among =
      let listed = sound.listed (at_ InTaken c) in
      let of : (q : Place) → is_among q rest ≡ true → q.locale ≡ (place_in (s.seat c).homing.chain).locale =
      λ q x. (let one = listed.all q (subst (λ l. is_among q l ≡ true) (sym is) (among_more q first rest x)) in local_of InTaken c q one.1 one.0) in
      of p among ∙ sym (of (place_in word) (begins word rest p path among))

  -- the home head is the taken chain
  pub counts_home_take : (l : ℕ) → AllMet ((home_take s c l).needs) → HasCounts ((home_take s c l).outcome.next) (loc_moved (m.content (at_ InHome l)) (at_ InTaken c) m.loc)
  unfolding home_take first_of
  counts_home_take l h =
      let seat = s.seat c in
      let read = s.words.home_head l in
      let homing : Homing = record seat.homing { chain = read } in
      let was = current.seats c in
      let mine : IsSeatCurrent s.shape counts (phased seat) homing =
      record { rest = was.rest; taken = current.home_heads l; list_old = was.list_old; home_old = was.home_old; tail = was.tail; deferral = was.deferral } in
      home_changes s.shape counts (loc_moved (m.content (at_ InHome l)) (at_ InTaken c) m.loc) s.words.list_head s.words.home_head s.words.next _
      (places_go s.shape counts m.loc s.words.list_head s.words.home_head s.words.next _
      (chain_changes s.shape counts m.loc s.words.list_head s.words.home_head s.words.next s.seat current c (record seat { homing = homing }) mine (λ v x. inl x)
      (λ p inside kind first. absurd (none_taken h.1.1.0.1 p inside kind first)))
      (m.content (at_ InHome l)) (at_ InTaken c) (λ ne. refl)
      (λ p x inside.
      subst (λ k. IsNextCurrent s.shape counts s.words.next (λ d. (phased (s.seat d)).list_wait) k.kind p) ((sound.listed (at_ InHome l)).all p x).0 (current.nexts p inside))
      (λ p x inside.
      let mine' : (with_number s.seat c (record seat { homing = homing }) c).homing.chain ≡ read = ap (λ y. y.homing.chain) (number_here s.seat c (record seat { homing = homing })) in
      subst (λ y. p.locale ≡ (place_in y).locale) (sym mine') (home_one l p x)))
      l 0 (inl refl)

  -- the next word of the taken object is the rest of the chain
  pub counts_home_walk : (is_shape : IsShape s.shape) → AllMet ((home_walk s c).needs) → (s.words.next (place_in ((s.seat c).homing.chain)) == pending) ≡ false → s.words.next (place_in ((s.seat c).homing.chain)) ≢ pending
      → HasCounts ((home_walk s c).outcome.next) (loc_moved (taken_place s m sound is_shape c ∷ []) (at_ InHand c) m.loc)
  unfolding home_walk
  counts_home_walk is_shape h stored is =
      let seat = s.seat c in
      let p = taken_place s m sound is_shape c in
      let homing : Homing = record seat.homing { chain = s.words.next p } in
      let path = taken_path s m sound is_shape c h.1.0.1 in
      let at = (sound.listed (at_ InTaken c)).all p (subst (λ x. is_among p x ≡ true) (sym path.1) (among_here p path.0)) in
      let next : IsCurrent s.shape counts (s.words.next p) =
      ⊎_elim (λ x. absurd (is x)) (λ x. x)
      (subst (λ k. IsNextCurrent s.shape counts s.words.next (λ d. (phased (s.seat d)).list_wait) k.kind p) at.0 (current.nexts p at.1)) in
      let was = current.seats c in
      let mine : IsSeatCurrent s.shape counts (phased seat) homing =
      record { rest = was.rest; taken = next; list_old = was.list_old; home_old = was.home_old; tail = was.tail; deferral = was.deferral } in
      let new : Seat = record seat { hand = p ∷ seat.hand; homing = homing } in
      let link : m.link p ≡ led_to (s.words.next p) =
      ⊎_elim (λ x. x.1) (λ x. absurd (is x.0))
      (subst (λ y. IsLink s.words.next m.link (λ d. home_wait (s.seat d)) (λ d. (phased (s.seat d)).list_wait) y.kind y.first p) at.0 (sound.linked.links p)) in
      let left : IsPath m.link (led_to (s.words.next p)) path.0 = subst (λ x. IsPath m.link x path.0) link path.2 in
      rw stored
      (chain_changes s.shape counts (loc_moved (p ∷ []) (at_ InHand c) m.loc) s.words.list_head s.words.home_head s.words.next s.seat
      (places_go s.shape counts m.loc s.words.list_head s.words.home_head s.words.next s.seat current (p ∷ []) (at_ InHand c) (λ ne. refl) (λ q x inside. tt) (λ q x inside. tt))
      c new mine (λ v x. inl x)
      (at_moved (λ q k. IsPlace s.shape q → k.kind ≡ InTaken → k.first ≡ c → q.locale ≡ (place_in (s.words.next p)).locale) (p ∷ []) (at_ InHand c) m.loc
      (λ q x inside kind first. absurd (cc kind))
      (λ q x inside kind first.
      let here = (sound.listed (at_ InTaken c)).each q (at_of InTaken c q (λ e. absurd (cc e)) kind first) inside in
      ⊎_elim
      (λ e. absurd (cc (sym x, subst (λ r. is_among r (p ∷ []) ≡ true) (sym e) (among_here p []))))
      (λ e. taken_one path.0 p (s.words.next p) path.1 left q e.1)
      (among_cons q p path.0 (subst (λ l. is_among q l ≡ true) path.1 here)))))

  pub counts_home_waits : (s.words.next (place_in ((s.seat c).homing.chain)) == pending) ≡ true → HasCounts ((home_walk s c).outcome.next) m.loc
  unfolding home_walk
  counts_home_waits waits = rw waits current

pub opening_counts : (shape : Shape) (start : Start) (seats : ℕ) → HasCounts (opening shape start seats) (λ p. at_ InStack p.locale)
unfolding opening opening_words phased_at home_wait_at
opening_counts shape start seats = record {
  list_heads = λ l n. inl refl;
  home_heads = λ l. inl refl;
  seats = λ c. record { rest = inl refl; taken = inl refl; list_old = λ w e. absurd (cc e); home_old = λ w e. absurd (cc e); tail = λ w e. absurd (cc e); deferral = λ x e. absurd (cc e) };
  nexts = λ p inside. tt;
  locals = λ p inside. tt;
  flat = λ p ne. refl;
}
