-- What the steps on objects tell, and the items that they list.
use Rattle.std.proofs.Common.{◌≡◌, ◌≢◌, ◌⊎◌, ◌==◌, ◌&&◌, ◌%◌, ℕ, ◌+◌, ◌<◌, ◌≤◌, Bool, true, false, eqb, List, [], ◌∷◌, ◌++◌, length, Some, None, refl, ap, sym, ◌∙◌, subst, inl, inr, ⊎_elim, arith}
use Rattle.std.proofs.lemmas.Bool.{eqb-true}
use Rattle.std.proofs.lemmas.Bool.Decides.{eqb_tells}
use Rattle.pgas_base.specs.Pointers.{Pointer}
use Rattle.pgas_base.specs.Shapes.{IsShape}
use Rattle.pool_core.specs.declared.headers.Header.{Header}
use Rattle.pool_core.specs.declared.headers.State.TheVariants.{Free, Own as Owned, Shown as IsShownState, Worn}
use Rattle.epoch_laws.specs.declared.tokens.Token.{Token}
use Rattle.epoch_laws.specs.declared.events.EpochEvent.TheVariants.{Given, Shown, Held, Deferred, Freed, Returned}
use Rattle.epoch_laws.specs.declared.events.Item.{Item}
use Rattle.epoch_laws.specs.declared.events.Item.TheVariants.{Event}
use Rattle.epoch_laws.specs.Places.{Place, place_of, place_in, pointer_at, pending, index_in, is_among, without, with_number, with_place}
use Rattle.epoch_laws.specs.Seats.{Pinned, DeferLooked, DeferSwapped, Advanced, Reclaim, Seat}
use Rattle.epoch_laws.specs.States.{State}
use Rattle.epoch_laws.specs.Needs.{AllMet}
use Rattle.epoch_laws.specs.Histories.{IsWorn as IsWornCondition, IsFree, freed}
use Rattle.epoch_laws.specs.Items.{IsTag, IsExact}
use Rattle.epoch_laws.specs.TakeSteps.{take_try, show, give_back, is_free, is_free_with, look_count}
use Rattle.epoch_laws.specs.HoldSteps.{hold}
use Rattle.epoch_laws.specs.DeferralSteps.{defer_look, defer_swap, defer_link}
use Rattle.epoch_laws.specs.ReclaimSteps.{collect, walk, release, last_count}
use Rattle.epoch_laws.specs.Chains.{led_over}
use Rattle.epoch_laws.specs.StackSteps.{stack_look, stack_next, stack_pop, stack_put, hand_link, same_head, looked_top}
use Rattle.epoch_laws.specs.HomeSteps.{home_swap, home_link, home_take, home_walk}
use Rattle.epoch_laws.proofs.Updates.{place_here, place_there, part_kept}
use Rattle.epoch_laws.proofs.Lists.{truth, among_here, among_one}
use Rattle.epoch_laws.proofs.Timing.{Timing, NoToken, HasToken, Looks, IsPinned, HasGlobal, Scans, HasAdvanced, timing, timing_at, token_at, pinned_at, spread_at, Own}
use Rattle.epoch_laws.proofs.Locations.{InStack, InHome, InTaken, InHand, IsOwned, IsLive, InDeferral, InRest, IsWalked, IsWorn, Location, at_, loc_moved, loc_there, loc_else}
use Rattle.epoch_laws.proofs.Paths.{list_at}
use Rattle.epoch_laws.proofs.Sound.{phased_at, clock, Map, IsSound}
use Rattle.epoch_laws.proofs.Told.{Frees, Lives, Wears, class_at, class_of, summary, is_advanced, View, IsTold, class_moved}
use Rattle.epoch_laws.proofs.Tells.{IsElsewhere, tells_given, tells_shown, tells_returned, tells_held, tells_deferred, tells_freed}
use Rattle.epoch_laws.proofs.TellsTokens.{view_of, Tells, still, time_of}
use Rattle.epoch_laws.proofs.KeepsDeferrals.{live_kind}
use Rattle.epoch_laws.proofs.KeepsReclaims.{pinned_born, walked_at, walk_path, collected_list, released_to}
use Rattle.epoch_laws.proofs.KeepsStacks.{pop_path, put_way}
use Rattle.epoch_laws.proofs.KeepsHomes.{taken_path, swap_way}
use Rattle.epoch_laws.proofs.Segments.{IsSegment, led_segment, among_without, gone_without}

spread_advanced : (x : Timing) (n : ℕ) → spread_at x ≡ Some n → is_advanced x ≡ true
unfolding spread_at is_advanced
spread_advanced (HasAdvanced t g k) n e = refl
spread_advanced NoToken n e = absurd (cc e)
spread_advanced (HasToken t) n e = absurd (cc e)
spread_advanced (Looks t a) n e = absurd (cc e)
spread_advanced (IsPinned t a) n e = absurd (cc e)
spread_advanced (HasGlobal t) n e = absurd (cc e)
spread_advanced (Scans t g k) n e = absurd (cc e)

module _ (first count : ℕ) (items : List Item) (s : State) (m : Map) (sound : IsSound s m) (told : IsTold first count (view_of s m.loc) items) (c : ℕ) where
  -- objects go to a location of the same class
  reclassed : (new : Seat) (moved : List Place) (b : Location) → summary (timing new) ≡ summary (timing (s.seat c)) → ((p : Place) → is_among p moved ≡ true → class_of b ≡ class_of (m.loc p))
      → IsTold first count (record (view_of s m.loc) { seats = λ d. summary (timing (with_number s.seat c new d)); class = λ p. class_of (loc_moved moved b m.loc p) }) items
  reclassed new moved b e same =
      subst (λ k. IsTold first count (record (view_of s m.loc) { seats = λ d. summary (timing (with_number s.seat c new d)); class = k }) items) (sym (class_moved moved b m.loc same))
      (still first count items s m sound told c new e)

  -- what is in the seat's lists is where such objects are
  hand_at : (p : Place) → is_among p ((s.seat c).hand) ≡ true → m.loc p ≡ at_ InHand c
  hand_at p h = let l = sound.lists c in ((sound.listed (at_ InHand c)).all p (subst (λ x. is_among p x ≡ true) (sym l.hand) h)).0

  owned_at : (p : Place) → is_among p ((s.seat c).owned) ≡ true → m.loc p ≡ at_ IsOwned c
  owned_at p h = let l = sound.lists c in ((sound.listed (at_ IsOwned c)).all p (subst (λ x. is_among p x ≡ true) (sym l.owned) h)).0

  -- the view after one object has another header and another location
  elsewhere_of : (new : Seat) (p : Place) (b : Location) (head : Header) → summary (timing new) ≡ summary (timing (s.seat c))
      → IsElsewhere (view_of s m.loc)
      (record (view_of s m.loc) {
        seats = λ d. summary (timing (with_number s.seat c new d));
        class = λ r. class_of (loc_moved (p ∷ []) b m.loc r);
        count = λ r. (with_place s.words.header p head r).count;
      }) p
  elsewhere_of new p b head e = record {
    seats = part_kept (λ x. summary (timing x)) s.seat c new e;
    epoch = refl;
    born = refl;
    class = λ r ne. ap class_of (loc_else (p ∷ []) b m.loc r (apart r ne));
    count = λ r ne. ap (λ x. x.count) (place_there s.words.header p head r ne);
    tag = λ r ne. refl;
  }
    where
      apart : (r : Place) → r ≢ p → is_among r (p ∷ []) ≡ false
      apart r ne = ⊎_elim (λ h. absurd (ne (among_one r p h))) (λ h. h) (truth (is_among r (p ∷ [])))

  pub tell_take_try : (p : Place) → AllMet ((take_try s c p).needs) → is_free_with (s.words.header p) (look_count (s.seat c).free_look) ≡ true
      → Tells first count items ((take_try s c p).outcome) (loc_moved (p ∷ []) (at_ IsOwned c) m.loc)
  unfolding take_try class_at
  tell_take_try p h won =
      let seat = s.seat c in
      let n = look_count seat.free_look in
      let b = at_ IsOwned c in
      let new : Seat = record seat { hand = without p seat.hand; owned = p ∷ seat.owned } in
      let head : Header = record { count = n; state = Owned } in
      let e : (s.words.header p).count ≡ n = eqb-true (s.words.header p).count n (second (is_free (s.words.header p).state) (eqb (s.words.header p).count n) won) in
      let w : View = record (view_of s m.loc) { seats = λ d. summary (timing (with_number s.seat c new d)); class = λ r. class_of (loc_moved (p ∷ []) b m.loc r); count = λ r. (with_place s.words.header p head r).count } in
      let r = tells_given first count (view_of s m.loc) items told c (pointer_at p n) w (elsewhere_of new p b head refl) (ap class_of (hand_at p h.1.1.1.1.0)) e
      (ap class_of (loc_there (p ∷ []) b m.loc p (among_here p []))) (ap (λ x. x.count) (place_here s.words.header p head)) refl in
      rw won (inr (Event c (Given (pointer_at p n)) 0, refl, tt, r.0, r.1))
    where
      second : (x y : Bool) → (x && y) ≡ true → y ≡ true
      second true y h = h
      second false y h = absurd (cc h)

  pub tell_take_lost : (p : Place) → is_free_with (s.words.header p) (look_count (s.seat c).free_look) ≡ false → Tells first count items ((take_try s c p).outcome) m.loc
  unfolding take_try
  tell_take_lost p lost = rw lost (inl (refl, told))

  pub tell_show : (q : Pointer) → AllMet ((show s c q).needs) → Tells first count items ((show s c q).outcome) (loc_moved (place_of q ∷ []) (at_ IsLive 0) m.loc)
  unfolding show class_at
  tell_show q h =
      let seat = s.seat c in
      let p = place_of q in
      let b = at_ IsLive 0 in
      let new : Seat = record seat { owned = without p seat.owned } in
      let head : Header = record { count = q.count; state = IsShownState } in
      let w : View = record (view_of s m.loc) { seats = λ d. summary (timing (with_number s.seat c new d)); class = λ r. class_of (loc_moved (p ∷ []) b m.loc r); count = λ r. (with_place s.words.header p head r).count } in
      let r = tells_shown first count (view_of s m.loc) items told c q w (elsewhere_of new p b head refl) (ap class_of (owned_at p h.1.1.1.1.0)) h.1.1.1.0
      (ap class_of (loc_there (p ∷ []) b m.loc p (among_here p []))) (ap (λ x. x.count) (place_here s.words.header p head)) refl in
      inr (Event c (Shown q) 0, refl, tt, r.0, r.1)

  pub tell_give_back : (q : Pointer) → AllMet ((give_back s c q).needs) → Tells first count items ((give_back s c q).outcome) (loc_moved (place_of q ∷ []) (at_ InHand c) m.loc)
  unfolding give_back class_at
  tell_give_back q h =
      let seat = s.seat c in
      let p = place_of q in
      let b = at_ InHand c in
      let new : Seat = record seat { owned = without p seat.owned; hand = p ∷ seat.hand } in
      let head : Header = record { count = q.count; state = Free } in
      let w : View = record (view_of s m.loc) { seats = λ d. summary (timing (with_number s.seat c new d)); class = λ r. class_of (loc_moved (p ∷ []) b m.loc r); count = λ r. (with_place s.words.header p head r).count } in
      let r = tells_returned first count (view_of s m.loc) items told c q w (elsewhere_of new p b head refl) (ap class_of (owned_at p h.1.1.1.1.0)) h.1.1.1.0
      (ap class_of (loc_there (p ∷ []) b m.loc p (among_here p []))) (ap (λ x. x.count) (place_here s.words.header p head)) refl in
      inr (Event c (Returned q) 0, refl, tt, r.0, r.1)

  -- a shown object that isn't deferred
  live_class : (q : Pointer) → s.words.header (place_of q) ≡ record { count = q.count; state = IsShownState } → s.tag (place_of q) ≡ None → class_of (m.loc (place_of q)) ≡ Lives
  unfolding class_at
  live_class q head free =
      let p = place_of q in
      ap (λ k. class_at k (m.loc p).first) (live_kind (m.loc p).kind (s.words.header p) (s.tag p) (sound.fit p) (ap (λ x. x.state) head) free)

  pub tell_hold : (q : Pointer) → AllMet ((hold s c q).needs) → Tells first count items ((hold s c q).outcome) m.loc
  unfolding hold timing_at pinned_at
  tell_hold q h =
      let t = (s.seat c).token in
      let r = tells_held first count (view_of s m.loc) items told c q t (live_class q h.1.1.1.0 h.1.1.1.1.0) (ap (λ x. x.count) h.1.1.1.0)
      (ap pinned_at (time_of first count items s m sound told c Pinned h.1.1.0)) in
      inr (
        Event c (Held t q) 0,
        refl,
        tt,
        r.0,
        subst (λ f. IsTold first count (record (view_of s m.loc) { seats = f }) (items ++ Event c (Held t q) 0 ∷ [])) (sym (part_kept (λ x. summary (timing x)) s.seat c _ refl)) r.1,
      )

  pub tell_defer_look : (q : Pointer) → AllMet ((defer_look s c q).needs) → Tells first count items ((defer_look s c q).outcome) (loc_moved (place_of q ∷ []) (at_ InDeferral c) m.loc)
  unfolding defer_look timing_at pinned_at token_at spread_at is_advanced class_at
  tell_defer_look q h =
      let seat = s.seat c in
      let p = place_of q in
      let t = seat.token in
      let b = at_ InDeferral c in
      let time = time_of first count items s m sound told c Pinned h.1.1.0 in
      let read = s.words.epoch_of t.locale in
      let new : Seat = record seat { phase = DeferLooked; deferral = record { pointer = q; tag = read; old = 0 } } in
      let w : View = record (view_of s m.loc) { seats = λ d. summary (timing (with_number s.seat c new d)); class = λ r. class_of (loc_moved (p ∷ []) b m.loc r); tag = with_place s.tag p (Some read) } in
      let own = subst (Own s.shape.locales s.shape.tokens (clock s)) time (sound.timed.own c) in
      let local = sound.timed.spread t.locale own.0.locale in
      let ep = told.epochs in
      let apart : (r : Place) → r ≢ p → is_among r (p ∷ []) ≡ false = λ r ne. ⊎_elim (λ x. absurd (ne (among_one r p x))) (λ x. x) (truth (is_among r (p ∷ []))) in
      let r = tells_deferred first count (view_of s m.loc) items told c q t read w
      (record {
        seats = part_kept (λ x. summary (timing x)) s.seat c new (sym (ap summary time));
        epoch = refl;
        born = refl;
        class = λ r ne. ap class_of (loc_else (p ∷ []) b m.loc r (apart r ne));
        count = λ r ne. refl;
        tag = λ r ne. place_there s.tag p (Some read) r ne;
      })
      (live_class q h.1.1.1.0 h.1.1.1.1.0) (ap (λ x. x.count) h.1.1.1.0) (ap pinned_at time) (ap class_of (loc_there (p ∷ []) b m.loc p (among_here p []))) (ap (λ x. x.count) h.1.1.1.0) (place_here s.tag p (Some read))
      (λ d u e. let least = local.least in let x = pinned_born s.shape.locales s.shape.tokens (clock s) (timing (s.seat d)) u e (sound.timed.own d) in let x0 = x.0 in omega arith) in
      let tag : IsTag first items c read =
      ⊎_elim
      (λ x. inl (x ∙ sym ep.risen))
      (λ x.
      let y = ep.releases x.0 (spread_advanced (timing (s.seat x.0)) x.1 x.2) in
      let other : x.0 ≢ c = λ is. absurd (cc (x.2, ap (λ k. spread_at (timing (s.seat k))) is, ap spread_at time)) in
      ⊎_elim (λ z. inl (z ∙ sym ep.risen)) (λ z. inr (z ∙ sym ep.risen, (x.0, y.1, other))) (one_or_less read s.words.epoch local.most local.least))
      local.same in
      inr (Event c (Deferred t q) read, refl, tag, r.0, r.1)
    where
      one_or_less : (a b : ℕ) → a ≤ b → b ≤ a + 1 → (a ≡ b) ⊎ (a + 1 ≡ b)
      one_or_less a b most least = ⊎_elim (λ x. inl x.1) (λ x. let ne = x.1 in inr (omega arith)) (eqb_tells a b)

  pub tell_defer_swap : AllMet ((defer_swap s c).needs) → Tells first count items ((defer_swap s c).outcome)
      (loc_moved (place_of ((s.seat c).deferral.pointer) ∷ []) (list_at ((s.seat c).token.locale) ((s.seat c).deferral.tag % 4)) m.loc)
  unfolding defer_swap timing_at phased_at class_at
  tell_defer_swap h =
      let seat = s.seat c in
      let p = place_of seat.deferral.pointer in
      let l = sound.lists c in
      let was = ap (λ x. phased_at x seat.deferral seat.token seat.reclaim) h.1.0 in
      let at : m.loc p ≡ at_ InDeferral c = ((sound.listed (at_ InDeferral c)).all p (subst (λ x. is_among p x ≡ true) (sym (l.to_swap ∙ ap (λ x. x.to_swap) was)) (among_here p []))).0 in
      inl (
        refl,
        reclassed _ (p ∷ []) (list_at seat.token.locale (seat.deferral.tag % 4)) (sym (ap summary (time_of first count items s m sound told c DeferLooked h.1.0)))
            (λ r x. sym (ap class_of (ap m.loc (among_one r p x) ∙ at))),
      )

  pub tell_defer_link : AllMet ((defer_link s c).needs) → Tells first count items ((defer_link s c).outcome) m.loc
  unfolding defer_link timing_at
  tell_defer_link h = inl (refl, still first count items s m sound told c _ (sym (ap summary (time_of first count items s m sound told c DeferSwapped h.1.0))))

  -- a reclaim goes on while the seat collects
  collecting_time : (r : Reclaim) → (s.seat c).phase ≡ Advanced → r.epoch ≡ (s.seat c).reclaim.epoch → r.spread ≡ (s.seat c).reclaim.spread
      → summary (timing_at (s.seat c).phase (s.seat c).token (s.seat c).announced r) ≡ summary (timing (s.seat c))
  unfolding timing_at
  collecting_time r at e f =
      ap (λ x. summary (timing_at x (s.seat c).token (s.seat c).announced r)) at ∙ (λ i. summary (HasAdvanced (s.seat c).token (e i) (f i)))
      ∙ sym (ap summary (time_of first count items s m sound told c Advanced at))

  pub tell_collect : AllMet ((collect s c).needs) → Tells first count items ((collect s c).outcome) (loc_moved (m.content (collected_list s m sound c)) (at_ InRest c) m.loc)
  unfolding collect class_at
  tell_collect h =
      let a = collected_list s m sound c in
      inl (refl, reclassed _ (m.content a) (at_ InRest c) (collecting_time _ h.1.0.0 refl refl) (λ p x. sym (ap class_of ((sound.listed a).all p x).0)))

  pub tell_walk : AllMet ((walk s c).needs) → Tells first count items ((walk s c).outcome) (loc_moved (place_in ((s.seat c).reclaim.chain) ∷ []) (at_ IsWalked c) m.loc)
  unfolding walk class_at
  tell_walk h =
      let p = place_in ((s.seat c).reclaim.chain) in
      let path = walk_path s m sound c h.1.0.0 h.1.0.1 in
      let at = ((sound.listed (at_ InRest c)).all p (subst (λ x. is_among p x ≡ true) (sym path.1) (among_here p path.0))).0 in
      inl (refl, reclassed _ (p ∷ []) (at_ IsWalked c) (collecting_time _ h.1.0.0 refl refl) (λ r x. sym (ap class_of (ap m.loc (among_one r p x) ∙ at))))

  pub tell_release : (q : Pointer) → AllMet ((release s c q).needs) → Tells first count items ((release s c q).outcome) (loc_moved (place_of q ∷ []) (released_to s m sound c q.count) m.loc)
  unfolding release class_at freed timing_at is_advanced
  tell_release q h =
      let seat = s.seat c in
      let p = place_of q in
      let at = h.1.1.0 in
      let x = walked_at s m sound c p at h.1.1.1.1.0 in
      let d = x.2.0 in
      let tagged : s.tag p ≡ Some d = x.2.1 in
      let three : d + 3 ≡ s.words.epoch = x.2.2 in
      let left : Reclaim = record seat.reclaim { walked = without p seat.reclaim.walked } in
      let ep = told.epochs in
      let mine = ep.releases c (ap is_advanced (time_of first count items s m sound told c Advanced at)) in
      let exact : IsExact first items (Event c (Freed q) 0) = (mine.0, ap (λ n. n + 3) (told.tags p d tagged) ∙ three ∙ sym ep.risen) in
      let apart : (r : Place) → r ≢ p → is_among r (p ∷ []) ≡ false = λ r ne. ⊎_elim (λ y. absurd (ne (among_one r p y))) (λ y. y) (truth (is_among r (p ∷ []))) in
      let old : (b : ℕ) (u : Token) → pinned_at (timing (s.seat b)) ≡ Some u → d + 1 < s.born u =
      λ b u e. let y = pinned_born s.shape.locales s.shape.tokens (clock s) (timing (s.seat b)) u e (sound.timed.own b) in let y1 = y.1 in omega arith in
      ⊎_elim
      (λ z.
      let b = at_ IsWorn 0 in
      let new : Seat = record seat { reclaim = left } in
      let head : Header = record { count = q.count; state = Worn } in
      let w : View = record (view_of s m.loc) {
        seats = λ e. summary (timing (with_number s.seat c new e));
        class = λ r. class_of (loc_moved (p ∷ []) b m.loc r);
        count = λ r. (with_place s.words.header p head r).count;
        tag = with_place s.tag p None;
      } in
      let r = tells_freed first count (view_of s m.loc) items told c q d w Wears
      (record {
        seats = part_kept (λ y. summary (timing y)) s.seat c new (collecting_time left at refl refl);
        epoch = refl;
        born = refl;
        class = λ r ne. ap class_of (loc_else (p ∷ []) b m.loc r (apart r ne));
        count = λ r ne. ap (λ y. y.count) (place_there s.words.header p head r ne);
        tag = λ r ne. place_there s.tag p None r ne;
      })
      (ap class_of x.0) h.1.1.1.0 tagged (ap class_of (loc_there (p ∷ []) b m.loc p (among_here p []))) (place_here s.tag p None)
      (λ st e hs. rw (ap (λ n. n == last_count) e ∙ z.0) (λ i. record { condition = IsWornCondition; count = (e ∙ sym (ap (λ y. y.count) (place_here s.words.header p head))) i })) old in
      rw z.0 (inr (Event c (Freed q) 0, refl, exact, r.0, r.1)))
      (λ z.
      let b = at_ InHand c in
      let new : Seat = record seat { reclaim = left; hand = p ∷ seat.hand } in
      let head : Header = record { count = q.count + 1; state = Free } in
      let w : View = record (view_of s m.loc) {
        seats = λ e. summary (timing (with_number s.seat c new e));
        class = λ r. class_of (loc_moved (p ∷ []) b m.loc r);
        count = λ r. (with_place s.words.header p head r).count;
        tag = with_place s.tag p None;
      } in
      let r = tells_freed first count (view_of s m.loc) items told c q d w Frees
      (record {
        seats = part_kept (λ y. summary (timing y)) s.seat c new (collecting_time left at refl refl);
        epoch = refl;
        born = refl;
        class = λ r ne. ap class_of (loc_else (p ∷ []) b m.loc r (apart r ne));
        count = λ r ne. ap (λ y. y.count) (place_there s.words.header p head r ne);
        tag = λ r ne. place_there s.tag p None r ne;
      })
      (ap class_of x.0) h.1.1.1.0 tagged (ap class_of (loc_there (p ∷ []) b m.loc p (among_here p []))) (place_here s.tag p None)
      (λ st e hs. rw (ap (λ n. n == last_count) e ∙ z.0) (λ i. record { condition = IsFree; count = (ap (λ n. n + 1) e ∙ sym (ap (λ y. y.count) (place_here s.words.header p head))) i })) old in
      rw z.0 (inr (Event c (Freed q) 0, refl, exact, r.0, r.1)))
      (eqb_tells q.count last_count)

  pub tell_stack_look : (l : ℕ) → Tells first count items ((stack_look s c l).outcome) m.loc
  unfolding stack_look
  tell_stack_look l = inl (refl, still first count items s m sound told c _ refl)

  pub tell_stack_next : Tells first count items ((stack_next s c).outcome) m.loc
  unfolding stack_next
  tell_stack_next = inl (refl, still first count items s m sound told c _ refl)

  pub tell_stack_pop : AllMet ((stack_pop s c).needs) → same_head (s.words.free_head (s.seat c).stack.locale) (s.seat c).stack.head ≡ true
      → Tells first count items ((stack_pop s c).outcome) (loc_moved (looked_top ((s.seat c).stack) ∷ []) (at_ InHand c) m.loc)
  unfolding stack_pop class_at
  tell_stack_pop h won =
      let p = looked_top ((s.seat c).stack) in
      let path = pop_path s m sound c h won in
      let at = ((sound.listed (at_ InStack ((s.seat c).stack.locale))).all p (subst (λ x. is_among p x ≡ true) (sym path.1) (among_here p path.0))).0 in
      rw won (inl (refl, reclassed _ (p ∷ []) (at_ InHand c) refl (λ r x. sym (ap class_of (ap m.loc (among_one r p x) ∙ at)))))

  pub tell_pop_lost : same_head (s.words.free_head (s.seat c).stack.locale) (s.seat c).stack.head ≡ false → Tells first count items ((stack_pop s c).outcome) m.loc
  unfolding stack_pop
  tell_pop_lost lost = rw lost (inl (refl, still first count items s m sound told c _ refl))

  pub tell_stack_put : (top tail : Pointer) → AllMet ((stack_put s c top tail).needs) → same_head (s.words.free_head (s.seat c).stack.locale) (s.seat c).stack.head ≡ true
      → Tells first count items ((stack_put s c top tail).outcome) (loc_moved (led_over (put_way s m sound c top tail)) (at_ InStack ((s.seat c).stack.locale)) m.loc)
  unfolding stack_put class_at
  tell_stack_put top tail h won =
      let look = (s.seat c).stack in
      let hand = (s.seat c).hand in
      let p = place_of top in
      let xs = led_over (put_way s m sound c top tail) in
      let seg : IsSegment s.words top.locale (λ word. index_in word == look.head.index) (place_of tail) (without p hand) p xs =
      led_segment s.words top.locale (λ word. index_in word == look.head.index) (place_of tail) (length hand) (without p hand) p (gone_without p hand) h.1.1.1.1.1.1.1.1.0 in
      rw won (inl (
        refl,
        reclassed _ xs (at_ InStack look.locale) refl
            (λ r x. sym (ap class_of (hand_at r (⊎_elim (λ y. ap (λ z. is_among z hand) y ∙ h.1.1.1.1.1.1.0.0) (λ y. (among_without r p hand y).1) (seg.members r x))))),
      ))

  pub tell_put_lost : (top tail : Pointer) → same_head (s.words.free_head (s.seat c).stack.locale) (s.seat c).stack.head ≡ false → Tells first count items ((stack_put s c top tail).outcome) m.loc
  unfolding stack_put
  tell_put_lost top tail lost = rw lost (inl (refl, still first count items s m sound told c _ refl))

  pub tell_hand_link : (q : Pointer) (word : ℕ) → Tells first count items ((hand_link s c q word).outcome) m.loc
  unfolding hand_link
  tell_hand_link q word = inl (refl, told)

  pub tell_home_swap : (is_shape : IsShape s.shape) (top tail : Pointer) → AllMet ((home_swap s c top tail).needs)
      → Tells first count items ((home_swap s c top tail).outcome) (loc_moved (led_over (swap_way s m sound is_shape c top tail)) (at_ InHome top.locale) m.loc)
  unfolding home_swap class_at
  tell_home_swap is_shape top tail h =
      let hand = (s.seat c).hand in
      let p = place_of top in
      let xs = led_over (swap_way s m sound is_shape c top tail) in
      let seg : IsSegment s.words top.locale (λ word. word == pending) (place_of tail) (without p hand) p xs =
      led_segment s.words top.locale (λ word. word == pending) (place_of tail) (length hand) (without p hand) p (gone_without p hand) h.1.1.1.1.1.1.1.1.0 in
      inl (
        refl,
        reclassed _ xs (at_ InHome top.locale) refl
            (λ r x. sym (ap class_of (hand_at r (⊎_elim (λ y. ap (λ z. is_among z hand) y ∙ h.1.1.1.1.1.1.0.0) (λ y. (among_without r p hand y).1) (seg.members r x))))),
      )

  pub tell_home_link : Tells first count items ((home_link s c).outcome) m.loc
  unfolding home_link
  tell_home_link = inl (refl, still first count items s m sound told c _ refl)

  pub tell_home_take : (l : ℕ) → Tells first count items ((home_take s c l).outcome) (loc_moved (m.content (at_ InHome l)) (at_ InTaken c) m.loc)
  unfolding home_take class_at
  tell_home_take l = inl (refl, reclassed _ (m.content (at_ InHome l)) (at_ InTaken c) refl (λ p x. sym (ap class_of ((sound.listed (at_ InHome l)).all p x).0)))

  pub tell_home_walk : (is_shape : IsShape s.shape) → AllMet ((home_walk s c).needs) → (s.words.next (place_in ((s.seat c).homing.chain)) == pending) ≡ false
      → Tells first count items ((home_walk s c).outcome) (loc_moved (place_in ((s.seat c).homing.chain) ∷ []) (at_ InHand c) m.loc)
  unfolding home_walk class_at
  tell_home_walk is_shape h stored =
      let p = place_in ((s.seat c).homing.chain) in
      let path = taken_path s m sound is_shape c h.1.0.1 in
      let at = ((sound.listed (at_ InTaken c)).all p (subst (λ x. is_among p x ≡ true) (sym path.1) (among_here p path.0))).0 in
      rw stored (inl (refl, reclassed _ (p ∷ []) (at_ InHand c) refl (λ r x. sym (ap class_of (ap m.loc (among_one r p x) ∙ at)))))

  pub tell_home_waits : (s.words.next (place_in ((s.seat c).homing.chain)) == pending) ≡ true → Tells first count items ((home_walk s c).outcome) m.loc
  unfolding home_walk
  tell_home_waits waits = rw waits (inl (refl, told))
