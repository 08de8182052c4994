-- Each held object stays shown, and its holder's token pinned.
use Rattle.std.proofs.Common.{◌≡◌, ◌≢◌, ◌==◌, ℕ, ◌+◌, ◌≤◌, true, false, ltb, [], ◌∷◌, Option, Some, None, refl, ap, sym, ◌∙◌, subst, ⊎_elim, arith}
use Rattle.pgas_base.specs.declared.shapes.Shape.{Shape}
use Rattle.pgas_base.specs.declared.starts.Start.{Start}
use Rattle.pgas_base.specs.Pointers.{Pointer}
use Rattle.pool_core.specs.declared.headers.Header.{Header}
use Rattle.pool_core.specs.declared.headers.State.TheVariants.{Shown}
use Rattle.epoch_laws.specs.declared.tokens.Token.{Token}
use Rattle.epoch_laws.specs.declared.steps.Kind.{Kind}
use Rattle.epoch_laws.specs.declared.steps.Kind.TheVariants.{Register, Unregister, PinLook, PinSet, Unpin, TakeLook, TakeTry, Show, Hold, Touch, Return, DeferLook, DeferSwap, DeferLink, ElectLocal, ElectGlobal, EpochLook, ScanToken, Advance, Spread, Collect, Walk, Release, Leave, StackLook, StackNext, StackPop, StackPut, HandLink, HomeSwap, HomeLink, HomeTake, HomeWalk}
use Rattle.epoch_laws.specs.Places.{Place, place_of, place_in, pending, is_among, without, joined_by, with_number, with_place, with_token}
use Rattle.epoch_laws.specs.Seats.{Phase, Idle, Registered, PinLooked, Pinned, DeferLooked, DeferSwapped, WonLocal, LostGlobal, WonGlobal, Scanning, Stopped, Advanced, LeftGlobal, Reclaim, Seat}
use Rattle.epoch_laws.specs.States.{State, opening}
use Rattle.epoch_laws.specs.Needs.{AllMet}
use Rattle.epoch_laws.specs.TokenSteps.{register, unregister, pin_look, pin_set, unpin}
use Rattle.epoch_laws.specs.TakeSteps.{take_look, take_try, show, give_back, is_free_with, look_count}
use Rattle.epoch_laws.specs.HoldSteps.{hold, touch}
use Rattle.epoch_laws.specs.DeferralSteps.{defer_look, defer_swap, defer_link}
use Rattle.epoch_laws.specs.ReclaimSteps.{elect_local, elect_global, epoch_look, scan_token, advance, spread, collect, walk, release, leave, MayLeave, has_global, passes, last_epoch, last_count}
use Rattle.epoch_laws.specs.StackSteps.{stack_look, stack_next, stack_pop, stack_put, hand_link, same_head}
use Rattle.epoch_laws.specs.HomeSteps.{home_swap, home_link, home_take, home_walk}
use Rattle.epoch_laws.specs.Steps.{move}
pub use Rattle.epoch_laws.specs.Holds.{IsHeld, AreHeld}
use Rattle.epoch_laws.proofs.Updates.{number_here, number_there, at_number, at_place, place_there, token_there, same_place_tells}
use Rattle.epoch_laws.proofs.Lists.{truth, among_nil, among_cons}
use Rattle.epoch_laws.proofs.Timing.{timing, timing_at, token_at, pinned_at, Own}
use Rattle.epoch_laws.proofs.Locations.{InHand, IsOwned, at_}
use Rattle.epoch_laws.proofs.KeepsTokens.{pinned_has}
use Rattle.epoch_laws.proofs.KeepsReclaims.{pinned_born, walked_at}
use Rattle.epoch_laws.proofs.Sound.{clock, Fits, Map, IsSound}

-- a seat that may leave an election isn't pinned
may_not_be_pinned : (ph : Phase) (locales : ℕ) (t : Token) (e : ℕ) (r : Reclaim) → MayLeave locales ph r → (u : Token) → pinned_at (timing_at ph t e r) ≡ Some u → ⊥
unfolding timing_at pinned_at
may_not_be_pinned LostGlobal locales t e r may u h = absurd (cc h)
may_not_be_pinned Stopped locales t e r may u h = absurd (cc h)
may_not_be_pinned Advanced locales t e r may u h = absurd (cc h)
may_not_be_pinned LeftGlobal locales t e r may u h = absurd (cc h)
may_not_be_pinned Idle locales t e r may u h = may
may_not_be_pinned Registered locales t e r may u h = may
may_not_be_pinned PinLooked locales t e r may u h = may
may_not_be_pinned Pinned locales t e r may u h = may
may_not_be_pinned DeferLooked locales t e r may u h = may
may_not_be_pinned DeferSwapped locales t e r may u h = may
may_not_be_pinned WonLocal locales t e r may u h = may
may_not_be_pinned WonGlobal locales t e r may u h = may
may_not_be_pinned Scanning locales t e r may u h = may

module _ (s : State) (m : Map) (sound : IsSound s m) (held : AreHeld s) (c : ℕ) where
  time_of : (ph : Phase) → (s.seat c).phase ≡ ph → timing (s.seat c) ≡ timing_at ph (s.seat c).token (s.seat c).announced (s.seat c).reclaim
  time_of ph at = ap (λ x. timing_at x (s.seat c).token (s.seat c).announced (s.seat c).reclaim) at

  -- another seat that holds the same, where a pinned token stays pinned, over other headers, tags and numbers of tokens
  held_on : (new : Seat) (header : Place → Header) (tag : Place → Option ℕ) (born : Token → ℕ) (next : State)
      → next.seat ≡ with_number s.seat c new → next.words.header ≡ header → next.tag ≡ tag → next.born ≡ born
      → new.held ≡ (s.seat c).held → ((t : Token) → pinned_at (timing (s.seat c)) ≡ Some t → pinned_at (timing new) ≡ Some t)
      → ((d : ℕ) (p : Place) → IsHeld s d p → (header p).state ≡ Shown)
      → ((d : ℕ) (p : Place) (h : IsHeld s d p) (e : ℕ) → tag p ≡ Some e → born (h.token) ≤ e + 1)
      → AreHeld next
  held_on new header tag born next es eh et eb same pins shown young d p =
      subst (λ f. is_among p ((f d).held) ≡ true → IsHeld next d p) (sym es)
      (at_number (λ k x. is_among p (x.held) ≡ true → IsHeld next k p) s.seat c new
      (λ h.
      let was = held c p (subst (λ l. is_among p l ≡ true) same h) in
      record {
        shown = ap (λ f. (f p).state) eh ∙ shown c p was;
        token = was.token;
        pinned = ap (λ f. pinned_at (timing (f c))) es ∙ ap (λ x. pinned_at (timing x)) (number_here s.seat c new) ∙ pins was.token was.pinned;
        young = λ e x. subst (λ f. f was.token ≤ e + 1) (sym eb) (young c p was e (sym (ap (λ f. f p) et) ∙ x));
      })
      (λ k ne h.
      let was = held k p h in
      record {
        shown = ap (λ f. (f p).state) eh ∙ shown k p was;
        token = was.token;
        pinned = ap (λ f. pinned_at (timing (f k))) es ∙ ap (λ x. pinned_at (timing x)) (number_there s.seat c new k ne) ∙ was.pinned;
        young = λ e x. subst (λ f. f was.token ≤ e + 1) (sym eb) (young k p was e (sym (ap (λ f. f p) et) ∙ x));
      })
      d)

  -- where nothing else changes that has to do with it
  simply : (new : Seat) (next : State) → next.seat ≡ with_number s.seat c new → next.words.header ≡ s.words.header → next.tag ≡ s.tag → next.born ≡ s.born
      → new.held ≡ (s.seat c).held → ((t : Token) → pinned_at (timing (s.seat c)) ≡ Some t → pinned_at (timing new) ≡ Some t) → AreHeld next
  simply new next es eh et eb same pins = held_on new s.words.header s.tag s.born next es eh et eb same pins (λ d p h. h.shown) (λ d p h e x. h.young e x)

  -- a seat that isn't pinned
  unpinned : (ph : Phase) → (s.seat c).phase ≡ ph → pinned_at (timing_at ph (s.seat c).token (s.seat c).announced (s.seat c).reclaim) ≡ None → (t : Token) → pinned_at (timing (s.seat c)) ≡ Some t → ⊥
  unpinned ph at none t e = absurd (cc (e, ap pinned_at (time_of ph at), none))

  -- a seat that stays pinned
  still_pinned : (ph : Phase) (new : Seat) → (s.seat c).phase ≡ ph → pinned_at (timing new) ≡ pinned_at (timing_at ph (s.seat c).token (s.seat c).announced (s.seat c).reclaim)
      → (t : Token) → pinned_at (timing (s.seat c)) ≡ Some t → pinned_at (timing new) ≡ Some t
  still_pinned ph new at same t e = same ∙ sym (ap pinned_at (time_of ph at)) ∙ e

  -- a header that changes is of an object that isn't shown
  other_header : (p : Place) (head : Header) (is : (s.words.header p).state ≢ Shown) (d : ℕ) (q : Place) → IsHeld s d q → (with_place s.words.header p head q).state ≡ Shown
  other_header p head is d q h =
      ⊎_elim (λ e. absurd (is (ap (λ x. (s.words.header x).state) (sym e.1) ∙ h.shown))) (λ e. let ne = e.1 in ap (λ x. x.state) (place_there s.words.header p head q ne) ∙ h.shown) (same_place_tells q p)

  pub hand_not_shown : (p : Place) → is_among p ((s.seat c).hand) ≡ true → (s.words.header p).state ≢ Shown
  hand_not_shown p h e =
      let l = sound.lists c in
      let at = ((sound.listed (at_ InHand c)).all p (subst (λ x. is_among p x ≡ true) (sym l.hand) h)).0 in
      let fits = subst (λ k. Fits k.kind (s.words.header p) (s.tag p)) at (sound.fit p) in
      absurd (cc (fits.state, e))

  pub owned_not_shown : (p : Place) → is_among p ((s.seat c).owned) ≡ true → (s.words.header p).state ≢ Shown
  owned_not_shown p h e =
      let l = sound.lists c in
      let at = ((sound.listed (at_ IsOwned c)).all p (subst (λ x. is_among p x ≡ true) (sym l.owned) h)).0 in
      let fits = subst (λ k. Fits k.kind (s.words.header p) (s.tag p)) at (sound.fit p) in
      absurd (cc (fits.state, e))

  held_register : (t : Token) → AllMet ((register s c t).needs) → AreHeld ((register s c t).outcome.next)
  unfolding register timing_at pinned_at
  held_register t h =
      ⊎_elim
      (λ z. rw z (simply _ _ refl refl refl refl refl (λ u e. absurd (unpinned Idle h.1.1.1.0 refl u e)))) (λ z. rw z held) (truth (s.words.token_word t == 0))

  held_unregister : AllMet ((unregister s c).needs) → AreHeld ((unregister s c).outcome.next)
  unfolding unregister timing_at pinned_at
  held_unregister h = simply _ _ refl refl refl refl refl (λ u e. absurd (unpinned Registered h.1.0 refl u e))

  held_pin_look : AllMet ((pin_look s c).needs) → AreHeld ((pin_look s c).outcome.next)
  unfolding pin_look timing_at pinned_at
  held_pin_look h = simply _ _ refl refl refl refl refl (λ u e. absurd (unpinned Registered h.1.0 refl u e))

  held_pin_set : AllMet ((pin_set s c).needs) → AreHeld ((pin_set s c).outcome.next)
  unfolding pin_set timing_at pinned_at token_at
  held_pin_set h =
      let t = (s.seat c).token in
      held_on _ s.words.header s.tag (with_token s.born t s.words.epoch) _ refl refl refl refl refl (λ u e. absurd (unpinned PinLooked h.1.0 refl u e)) (λ d p x. x.shown)
      (λ d p x e y.
      let other : x.token ≢ t = λ same.
      let is = sound.timed.apart d c t (pinned_has (timing (s.seat d)) x.token x.pinned ∙ ap Some same) (ap token_at (time_of PinLooked h.1.0)) in
      unpinned PinLooked h.1.0 refl x.token (ap (λ k. pinned_at (timing (s.seat k))) (sym is) ∙ x.pinned) in
      subst (λ n. n ≤ e + 1) (sym (token_there s.born t s.words.epoch x.token other)) (x.young e y))

  held_unpin : AllMet ((unpin s c).needs) → AreHeld ((unpin s c).outcome.next)
  unfolding unpin
  held_unpin h d p =
      at_number (λ k x. is_among p (x.held) ≡ true → IsHeld ((unpin s c).outcome.next) k p) s.seat c (record (s.seat c) { phase = Registered; held = [] })
      (λ x. absurd (among_nil p x))
      (λ k ne x. let was = held k p x in record { shown = was.shown; token = was.token; pinned = ap (λ y. pinned_at (timing y)) (number_there s.seat c _ k ne) ∙ was.pinned; young = was.young }) d

  held_hold : (q : Pointer) → AllMet ((hold s c q).needs) → AreHeld ((hold s c q).outcome.next)
  unfolding hold timing_at pinned_at joined_by
  held_hold q h d p =
      let new : Seat = record (s.seat c) { held = joined_by (place_of q) ((s.seat c).held) } in
      let same : (k : ℕ) → pinned_at (timing (with_number s.seat c new k)) ≡ pinned_at (timing (s.seat k)) = λ k. at_number (λ k x. pinned_at (timing x) ≡ pinned_at (timing (s.seat k))) s.seat c new refl (λ k ne. refl) k in
      let again : (k : ℕ) → IsHeld s k p → IsHeld ((hold s c q).outcome.next) k p = λ k was. record { shown = was.shown; token = was.token; pinned = same k ∙ was.pinned; young = was.young } in
      at_number (λ k x. is_among p (x.held) ≡ true → IsHeld ((hold s c q).outcome.next) k p) s.seat c new
      (λ x.
      ⊎_elim
      (λ e. again c (held c p (subst (λ l. is_among p l ≡ true) (already e) x)))
      (λ e.
      ⊎_elim
      (λ y. record {
        shown = ap (λ r. (s.words.header r).state) y ∙ ap (λ r. r.state) h.1.1.1.0;
        token = (s.seat c).token;
        pinned = same c ∙ ap pinned_at (time_of Pinned h.1.1.0);
        young = λ tag z. absurd (cc (z, ap s.tag y, h.1.1.1.1.0));
      })
      (λ y. again c (held c p y.1))
      (among_cons p (place_of q) ((s.seat c).held) (subst (λ l. is_among p l ≡ true) (added e) x)))
      (truth (is_among (place_of q) ((s.seat c).held))))
      (λ k ne x. again k (held k p x)) d
    where
      already : is_among (place_of q) ((s.seat c).held) ≡ true → joined_by (place_of q) ((s.seat c).held) ≡ (s.seat c).held
      already e = rw e refl

      added : is_among (place_of q) ((s.seat c).held) ≡ false → joined_by (place_of q) ((s.seat c).held) ≡ place_of q ∷ (s.seat c).held
      added e = rw e refl

  held_take_try : (p : Place) → AllMet ((take_try s c p).needs) → AreHeld ((take_try s c p).outcome.next)
  unfolding take_try
  held_take_try p h =
      ⊎_elim
      (λ z. rw z (held_on _ _ s.tag s.born _ refl refl refl refl refl (λ u e. e) (other_header p _ (hand_not_shown p h.1.1.1.1.0)) (λ d q x e y. x.young e y)))
      (λ z. rw z held)
      (truth (is_free_with (s.words.header p) (look_count (s.seat c).free_look)))

  held_show : (q : Pointer) → AllMet ((show s c q).needs) → AreHeld ((show s c q).outcome.next)
  unfolding show
  held_show q h = held_on _ _ s.tag s.born _ refl refl refl refl refl (λ u e. e) (other_header (place_of q) _ (owned_not_shown (place_of q) h.1.1.1.1.0)) (λ d r x e y. x.young e y)

  held_give_back : (q : Pointer) → AllMet ((give_back s c q).needs) → AreHeld ((give_back s c q).outcome.next)
  unfolding give_back
  held_give_back q h = held_on _ _ s.tag s.born _ refl refl refl refl refl (λ u e. e) (other_header (place_of q) _ (owned_not_shown (place_of q) h.1.1.1.1.0)) (λ d r x e y. x.young e y)

  held_defer_look : (q : Pointer) → AllMet ((defer_look s c q).needs) → AreHeld ((defer_look s c q).outcome.next)
  unfolding defer_look timing_at pinned_at
  held_defer_look q h =
      let t = (s.seat c).token in
      let own = subst (Own s.shape.locales s.shape.tokens (clock s)) (time_of Pinned h.1.1.0) (sound.timed.own c) in
      let local = sound.timed.spread t.locale own.0.locale in
      let read = s.words.epoch_of t.locale in
      held_on _ s.words.header (with_place s.tag (place_of q) (Some read)) s.born _ refl refl refl refl refl (still_pinned Pinned (record (s.seat c) { phase = DeferLooked; deferral = record { pointer = q; tag = read; old = 0 } }) h.1.1.0 refl) (λ d p x. x.shown)
      (λ d p x e.
      at_place (λ r y. (r ≡ p) → y ≡ Some e → s.born x.token ≤ e + 1) s.tag (place_of q) (Some read)
      (λ same y.
      let is : read ≡ e = cc y in
      let young = (pinned_born s.shape.locales s.shape.tokens (clock s) (timing (s.seat d)) x.token x.pinned (sound.timed.own d)).0 in
      let least = local.least in omega arith)
      (λ r ne same y. x.young e (ap s.tag (sym same) ∙ y)) p refl)

  held_release : (q : Pointer) → AllMet ((release s c q).needs) → AreHeld ((release s c q).outcome.next)
  unfolding release timing_at pinned_at
  held_release q h =
      ⊎_elim
      (λ z. rw z (held_on _ _ (with_place s.tag (place_of q) None) s.born _ refl refl refl refl refl pins (shown _) young))
      (λ z. rw z (held_on _ _ (with_place s.tag (place_of q) None) s.born _ refl refl refl refl refl pins (shown _) young))
      (truth (q.count == last_count))
    where
      pins : (u : Token) → pinned_at (timing (s.seat c)) ≡ Some u → pinned_at (timing_at (s.seat c).phase (s.seat c).token (s.seat c).announced (record ((s.seat c).reclaim) { walked = without (place_of q) ((s.seat c).reclaim.walked) })) ≡ Some u
      pins u e = absurd (unpinned Advanced h.1.1.0 refl u e)

      apart : (d : ℕ) (p : Place) → IsHeld s d p → p ≢ place_of q
      apart d p x same =
          let w = walked_at s m sound c (place_of q) h.1.1.0 h.1.1.1.1.0 in
          let tag = w.2 in
          let three = tag.2 in
          let young = x.young tag.0 (ap s.tag same ∙ tag.1) in
          let old = (pinned_born s.shape.locales s.shape.tokens (clock s) (timing (s.seat d)) x.token x.pinned (sound.timed.own d)).1 in
          omega arith

      shown : (head : Header) (d : ℕ) (p : Place) → IsHeld s d p → (with_place s.words.header (place_of q) head p).state ≡ Shown
      shown head d p x = ap (λ y. y.state) (place_there s.words.header (place_of q) head p (apart d p x)) ∙ x.shown

      young : (d : ℕ) (p : Place) (x : IsHeld s d p) (e : ℕ) → with_place s.tag (place_of q) None p ≡ Some e → s.born (x.token) ≤ e + 1
      young d p x e y = x.young e (sym (place_there s.tag (place_of q) None p (apart d p x)) ∙ y)

  held_leave : AllMet ((leave s c).needs) → AreHeld ((leave s c).outcome.next)
  unfolding leave
  held_leave h =
      ⊎_elim
      (λ z. rw z (simply _ _ refl refl refl refl refl (λ u e. absurd (reclaiming u e))))
      (λ z. rw z (simply _ _ refl refl refl refl refl (λ u e. absurd (reclaiming u e))))
      (truth (has_global (s.seat c).phase))
    where
      reclaiming : (u : Token) → pinned_at (timing (s.seat c)) ≡ Some u → ⊥
      reclaiming u e = may_not_be_pinned ((s.seat c).phase) s.shape.locales (s.seat c).token (s.seat c).announced (s.seat c).reclaim h.1.0.0 u e

  pub move_held : (k : Kind) → AllMet ((move s c k).needs) → AreHeld ((move s c k).outcome.next)
  unfolding move take_look touch defer_swap defer_link elect_local elect_global epoch_look scan_token advance spread collect walk stack_look stack_next stack_pop stack_put hand_link home_swap home_link home_take home_walk timing_at pinned_at
  move_held (Register l n) h = held_register _ h
  move_held Unregister h = held_unregister h
  move_held PinLook h = held_pin_look h
  move_held PinSet h = held_pin_set h
  move_held Unpin h = held_unpin h
  move_held (TakeLook l i) h = simply _ _ refl refl refl refl refl (λ u e. e)
  move_held (TakeTry l i) h = held_take_try _ h
  move_held (Show q) h = held_show q h
  move_held (Hold q) h = held_hold q h
  move_held (Touch q) h = held
  move_held (Return q) h = held_give_back q h
  move_held (DeferLook q) h = held_defer_look q h
  move_held DeferSwap h = simply _ _ refl refl refl refl refl (still_pinned DeferLooked (record (s.seat c) { phase = DeferSwapped }) h.1.0 refl)
  move_held DeferLink h = simply _ _ refl refl refl refl refl (still_pinned DeferSwapped (record (s.seat c) { phase = Pinned }) h.1.0 refl)
  move_held ElectLocal h =
      ⊎_elim (λ z. rw z (simply _ _ refl refl refl refl refl (λ u e. absurd (unpinned Registered h.1.0 refl u e)))) (λ z. rw z held) (truth (s.words.election_of (s.seat c).token.locale == 0))
  move_held ElectGlobal h =
      ⊎_elim
      (λ z. rw z (simply _ _ refl refl refl refl refl (λ u e. absurd (unpinned WonLocal h.1.0 refl u e))))
      (λ z. rw z (simply _ _ refl refl refl refl refl (λ u e. absurd (unpinned WonLocal h.1.0 refl u e))))
      (truth (s.words.election == 0))
  move_held EpochLook h =
      ⊎_elim
      (λ z. rw z (simply _ _ refl refl refl refl refl (λ u e. absurd (unpinned WonGlobal h.1.0 refl u e))))
      (λ z. rw z (simply _ _ refl refl refl refl refl (λ u e. absurd (unpinned WonGlobal h.1.0 refl u e))))
      (truth (ltb s.words.epoch last_epoch))
  move_held ScanToken h =
      ⊎_elim
      (λ z. rw z (simply _ _ refl refl refl refl refl (λ u e. absurd (unpinned Scanning h.1.0.0 refl u e))))
      (λ z. rw z (simply _ _ refl refl refl refl refl (λ u e. absurd (unpinned Scanning h.1.0.0 refl u e))))
      (truth (passes (s.seat c).reclaim.epoch (s.words.token_word ((s.seat c).reclaim.scan))))
  move_held Advance h = simply _ _ refl refl refl refl refl (λ u e. absurd (unpinned Scanning h.1.0.0 refl u e))
  move_held Spread h = simply _ _ refl refl refl refl refl (λ u e. absurd (unpinned Advanced h.1.0.0 refl u e))
  move_held Collect h = simply _ _ refl refl refl refl refl (λ u e. absurd (unpinned Advanced h.1.0.0 refl u e))
  move_held Walk h = simply _ _ refl refl refl refl refl (λ u e. absurd (unpinned Advanced h.1.0.0 refl u e))
  move_held (Release q) h = held_release q h
  move_held Leave h = held_leave h
  move_held (StackLook l) h = simply _ _ refl refl refl refl refl (λ u e. e)
  move_held StackNext h = simply _ _ refl refl refl refl refl (λ u e. e)
  move_held StackPop h =
      ⊎_elim (λ z. rw z (simply _ _ refl refl refl refl refl (λ u e. e))) (λ z. rw z (simply _ _ refl refl refl refl refl (λ u e. e)))
      (truth (same_head (s.words.free_head (s.seat c).stack.locale) (s.seat c).stack.head))
  move_held (StackPut top tail) h =
      ⊎_elim (λ z. rw z (simply _ _ refl refl refl refl refl (λ u e. e))) (λ z. rw z (simply _ _ refl refl refl refl refl (λ u e. e)))
      (truth (same_head (s.words.free_head (s.seat c).stack.locale) (s.seat c).stack.head))
  move_held (HandLink q word) h = λ d p x. let was = held d p x in record { shown = was.shown; token = was.token; pinned = was.pinned; young = was.young }
  move_held (HomeSwap top tail) h = simply _ _ refl refl refl refl refl (λ u e. e)
  move_held HomeLink h = simply _ _ refl refl refl refl refl (λ u e. e)
  move_held (HomeTake l) h = simply _ _ refl refl refl refl refl (λ u e. e)
  move_held HomeWalk h = ⊎_elim (λ z. rw z held) (λ z. rw z (simply _ _ refl refl refl refl refl (λ u e. e))) (truth (s.words.next (place_in ((s.seat c).homing.chain)) == pending))

pub opening_held : (shape : Shape) (start : Start) (seats : ℕ) → AreHeld (opening shape start seats)
unfolding opening
opening_held shape start seats c p h = absurd (among_nil p h)
