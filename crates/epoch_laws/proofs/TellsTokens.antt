-- What the steps on tokens and epochs tell, and the items that they list.
use Rattle.std.proofs.Common.{◌≡◌, ◌⊎◌, ℕ, ◌+◌, true, false, ltb, List, [], ◌∷◌, ◌++◌, Some, None, refl, ap, sym, ◌∙◌, subst, inl, inr, ⊎_elim, arith}
use Rattle.std.proofs.lemmas.Bool.Decides.{eqb_tells}
use Rattle.pgas_base.specs.Pointers.{Pointer}
use Rattle.epoch_laws.specs.declared.tokens.Token.{Token}
use Rattle.epoch_laws.specs.declared.events.EpochEvent.TheVariants.{Registered as IsRegistered, Unregistered, Pinned as IsPinnedEvent, Unpinned}
use Rattle.epoch_laws.specs.declared.events.Item.{Item}
use Rattle.epoch_laws.specs.declared.events.Item.TheVariants.{Event, Advance, Claim, Leave}
use Rattle.epoch_laws.specs.Places.{Place, with_number, with_token}
use Rattle.epoch_laws.specs.Seats.{Phase, Idle, Registered, PinLooked, Pinned, DeferLooked, DeferSwapped, WonLocal, LostGlobal, WonGlobal, Scanning, Stopped, Advanced, LeftGlobal, Seat}
use Rattle.epoch_laws.specs.States.{State}
use Rattle.epoch_laws.specs.Needs.{AllMet, Outcome}
use Rattle.epoch_laws.specs.Histories.{IsNext}
use Rattle.epoch_laws.specs.Items.{happenings, IsExact}
use Rattle.epoch_laws.specs.TokenSteps.{register, unregister, pin_look, pin_set, unpin}
use Rattle.epoch_laws.specs.TakeSteps.{take_look}
use Rattle.epoch_laws.specs.HoldSteps.{touch}
use Rattle.epoch_laws.specs.ReclaimSteps.{elect_local, elect_global, epoch_look, scan_token, advance, spread, leave, token_after, passes, last_epoch, MayLeave, has_global}
use Rattle.epoch_laws.proofs.Updates.{part_kept, part_with}
use Rattle.epoch_laws.proofs.Lists.{truth}
use Rattle.epoch_laws.proofs.Timing.{Timing, NoToken, HasToken, Looks, IsPinned, HasGlobal, Scans, HasAdvanced, timing, timing_at, token_at, pinned_at, global_at, own_word, own_global, Own}
use Rattle.epoch_laws.proofs.Locations.{Location}
use Rattle.epoch_laws.proofs.Sound.{clock, Map, IsSound}
use Rattle.epoch_laws.proofs.Told.{summary, is_advanced, IsTold}
use Rattle.epoch_laws.proofs.Tells.{tells_registered, tells_unregistered, tells_pinned, tells_unpinned, tells_advance, tells_claim, tells_leave, tells_local_claim, tells_local_leave}
use Rattle.epoch_laws.proofs.KeepsTokens.{pinned_has}
pub use Rattle.epoch_laws.specs.Told.{view_of}

abbrev pub EventLaw : ℕ → List Item → Item → Type 0
EventLaw count items (Event c e tag) = IsNext count (happenings items) c e
EventLaw count items _ = Unit {0}

-- what an outcome lists meets its needs, and tells of the state that it leaves
abbrev pub Tells : ℕ → ℕ → List Item → Outcome → (Place → Location) → Type 0
Tells first count items x loc =
    ((x.items ≡ []) × IsTold first count (view_of x.next loc) items)
    ⊎ ((i : Item) × (x.items ≡ i ∷ []) × IsExact first items i × EventLaw count items i × IsTold first count (view_of x.next loc) (items ++ i ∷ []))

-- a seat that has advanced has the global election
pub advanced_global : (x : Timing) → is_advanced x ≡ true → global_at x ≡ true
unfolding is_advanced global_at
advanced_global (HasAdvanced t g n) e = refl
advanced_global NoToken e = absurd (cc e)
advanced_global (HasToken t) e = absurd (cc e)
advanced_global (Looks t a) e = absurd (cc e)
advanced_global (IsPinned t a) e = absurd (cc e)
advanced_global (HasGlobal t) e = absurd (cc e)
advanced_global (Scans t g n) e = absurd (cc e)

module _ (first count : ℕ) (items : List Item) (s : State) (m : Map) (sound : IsSound s m) (told : IsTold first count (view_of s m.loc) items) (c : ℕ) where
  pub time_of : (ph : Phase) → (s.seat c).phase ≡ ph → timing (s.seat c) ≡ timing_at ph (s.seat c).token (s.seat c).announced (s.seat c).reclaim
  time_of ph at = ap (λ x. timing_at x (s.seat c).token (s.seat c).announced (s.seat c).reclaim) at

  -- nothing that items can tell changes
  pub still : (new : Seat) → summary (timing new) ≡ summary (timing (s.seat c)) → IsTold first count (record (view_of s m.loc) { seats = λ d. summary (timing (with_number s.seat c new d)) }) items
  still new e = subst (λ f. IsTold first count (record (view_of s m.loc) { seats = f }) items) (sym (part_kept (λ x. summary (timing x)) s.seat c new e)) told

  -- what is told by a seat's new part, in terms of the seats
  pub by_seats : (new : Seat) (epoch : ℕ) (born : Token → ℕ) (more : List Item)
      → IsTold first count (record (view_of s m.loc) { seats = with_number (λ d. summary (timing (s.seat d))) c (summary (timing new)); epoch = epoch; born = born }) more
      → IsTold first count (record (view_of s m.loc) { seats = λ d. summary (timing (with_number s.seat c new d)); epoch = epoch; born = born }) more
  by_seats new epoch born more h =
      subst (λ f. IsTold first count (record (view_of s m.loc) { seats = f; epoch = epoch; born = born }) more) (sym (part_with (λ x. summary (timing x)) s.seat c new)) h

  has_pinned : (d : ℕ) (u : Token) → pinned_at (timing (s.seat d)) ≡ Some u → token_at (timing (s.seat d)) ≡ Some u
  has_pinned d u e = pinned_has (timing (s.seat d)) u e

  pub tell_register : (t : Token) → AllMet ((register s c t).needs) → Tells first count items ((register s c t).outcome) m.loc
  unfolding register timing_at token_at pinned_at global_at is_advanced
  tell_register t h =
      let at = h.1.1.1.0 in
      let new : Seat = record (s.seat c) { phase = Registered; token = t } in
      let time = time_of Idle at in
      ⊎_elim
      (λ z.
      let r = tells_registered first count (view_of s m.loc) items told c t (summary (timing new)) (ap token_at time)
      (λ d e. own_word s.shape.locales s.shape.tokens (clock s) (timing (s.seat d)) t e (sound.timed.own d) z.1)
      refl (sym (ap pinned_at time)) (sym (ap global_at time)) (sym (ap is_advanced time)) in
      rw z.0 (inr (Event c (IsRegistered t) 0, refl, tt, r.0, by_seats new s.words.epoch s.born (items ++ Event c (IsRegistered t) 0 ∷ []) r.1)))
      (λ z. rw z.0 (inl (refl, told)))
      (eqb_tells (s.words.token_word t) 0)

  pub tell_unregister : AllMet ((unregister s c).needs) → Tells first count items ((unregister s c).outcome) m.loc
  unfolding unregister timing_at token_at pinned_at global_at is_advanced
  tell_unregister h =
      let at = h.1.0 in
      let t = (s.seat c).token in
      let new : Seat = record (s.seat c) { phase = Idle } in
      let time = time_of Registered at in
      let r = tells_unregistered first count (view_of s m.loc) items told c t (summary (timing new)) has_pinned (ap token_at time) (ap pinned_at time)
      refl (sym (ap pinned_at time)) (sym (ap global_at time)) (sym (ap is_advanced time)) in
      inr (Event c (Unregistered t) 0, refl, tt, r.0, by_seats new s.words.epoch s.born (items ++ Event c (Unregistered t) 0 ∷ []) r.1)

  pub tell_pin_look : AllMet ((pin_look s c).needs) → Tells first count items ((pin_look s c).outcome) m.loc
  unfolding pin_look timing_at token_at pinned_at global_at is_advanced
  tell_pin_look h = inl (refl, still _ (sym (ap summary (time_of Registered h.1.0))))

  pub tell_pin_set : AllMet ((pin_set s c).needs) → Tells first count items ((pin_set s c).outcome) m.loc
  unfolding pin_set timing_at token_at pinned_at global_at is_advanced
  tell_pin_set h =
      let at = h.1.0 in
      let t = (s.seat c).token in
      let a = (s.seat c).announced in
      let new : Seat = record (s.seat c) { phase = Pinned } in
      let time = time_of PinLooked at in
      let r = tells_pinned first count (view_of s m.loc) items told c t (summary (timing new)) a has_pinned (ap token_at time) (ap pinned_at time)
      (sym (ap token_at time)) refl (sym (ap global_at time)) (sym (ap is_advanced time)) in
      inr (Event c (IsPinnedEvent t) a, refl, tt, r.0, by_seats new s.words.epoch (with_token s.born t s.words.epoch) (items ++ Event c (IsPinnedEvent t) a ∷ []) r.1)

  pub tell_unpin : AllMet ((unpin s c).needs) → Tells first count items ((unpin s c).outcome) m.loc
  unfolding unpin timing_at token_at pinned_at global_at is_advanced
  tell_unpin h =
      let at = h.1.0 in
      let t = (s.seat c).token in
      let new : Seat = record (s.seat c) { phase = Registered; held = [] } in
      let time = time_of Pinned at in
      let r = tells_unpinned first count (view_of s m.loc) items told c t (summary (timing new)) (ap pinned_at time)
      (sym (ap token_at time)) refl (sym (ap global_at time)) (sym (ap is_advanced time)) in
      inr (Event c (Unpinned t) 0, refl, tt, r.0, by_seats new s.words.epoch s.born (items ++ Event c (Unpinned t) 0 ∷ []) r.1)

  pub tell_take_look : (p : Place) → Tells first count items ((take_look s c p).outcome) m.loc
  unfolding take_look
  tell_take_look p = inl (refl, still _ refl)

  pub tell_touch : (q : Pointer) → Tells first count items ((touch s c q).outcome) m.loc
  unfolding touch
  tell_touch q = inl (refl, told)

  pub tell_elect_local : AllMet ((elect_local s c).needs) → Tells first count items ((elect_local s c).outcome) m.loc
  unfolding elect_local timing_at token_at pinned_at global_at is_advanced
  tell_elect_local h =
      let at = h.1.0 in
      let new : Seat = record (s.seat c) { phase = WonLocal } in
      ⊎_elim
      (λ z. rw z.0 (inr (
        Claim c false,
        refl,
        tt,
        tt,
        subst (λ f. IsTold first count (record (view_of s m.loc) { seats = f }) (items ++ Claim c false ∷ [])) (sym (part_kept (λ x. summary (timing x)) s.seat c new (sym (ap summary (time_of Registered at)))))
            (tells_local_claim first count (view_of s m.loc) items told c),
      )))
      (λ z. rw z.0 (inl (refl, told)))
      (eqb_tells (s.words.election_of (s.seat c).token.locale) 0)

  pub tell_elect_global : AllMet ((elect_global s c).needs) → Tells first count items ((elect_global s c).outcome) m.loc
  unfolding elect_global timing_at token_at pinned_at global_at is_advanced
  tell_elect_global h =
      let at = h.1.0 in
      let new : Seat = record (s.seat c) { phase = WonGlobal } in
      let time = time_of WonLocal at in
      ⊎_elim
      (λ z.
      let r = tells_claim first count (view_of s m.loc) items told c (summary (timing new)) (sym (ap token_at time)) (sym (ap pinned_at time)) refl (sym (ap is_advanced time))
      (λ d e. let one = own_global s.shape.locales s.shape.tokens (clock s) (timing (s.seat d)) e (sound.timed.own d) in absurd (wrong (s.words.election) z.1 one)) in
      rw z.0 (inr (Claim c true, refl, r.0, tt, by_seats new s.words.epoch s.born (items ++ Claim c true ∷ []) r.1)))
      (λ z. rw z.0 (inl (refl, still _ (sym (ap summary time)))))
      (eqb_tells s.words.election 0)
    where
      wrong : (n : ℕ) → n ≡ 0 → n ≡ 1 → ⊥
      wrong n a b = omega arith

  pub tell_epoch_look : AllMet ((epoch_look s c).needs) → Tells first count items ((epoch_look s c).outcome) m.loc
  unfolding epoch_look timing_at token_at pinned_at global_at is_advanced
  tell_epoch_look h =
      let time = time_of WonGlobal h.1.0 in
      ⊎_elim (λ z. rw z (inl (refl, still _ (sym (ap summary time))))) (λ z. rw z (inl (refl, still _ (sym (ap summary time))))) (truth (ltb s.words.epoch last_epoch))

  pub tell_scan_token : AllMet ((scan_token s c).needs) → Tells first count items ((scan_token s c).outcome) m.loc
  unfolding scan_token timing_at token_at pinned_at global_at is_advanced
  tell_scan_token h =
      let at = h.1.0.0 in
      let r = (s.seat c).reclaim in
      let time = time_of Scanning at in
      ⊎_elim
      (λ z. rw z (inl (refl, still _ (ap (λ x. summary (timing_at x (s.seat c).token (s.seat c).announced (record r { scan = token_after s.shape.tokens r.scan }))) at ∙ sym (ap summary time)))))
      (λ z. rw z (inl (refl, still _ (sym (ap summary time)))))
      (truth (passes r.epoch (s.words.token_word r.scan)))

  pub tell_spread : AllMet ((spread s c).needs) → Tells first count items ((spread s c).outcome) m.loc
  unfolding spread timing_at token_at pinned_at global_at is_advanced
  tell_spread h =
      let at = h.1.0.0 in
      let r = (s.seat c).reclaim in
      inl (refl, still _ (ap (λ x. summary (timing_at x (s.seat c).token (s.seat c).announced (record r { spread = r.spread + 1 }))) at ∙ sym (ap summary (time_of Advanced at))))

  advanced_alone : (d : ℕ) → global_at (timing (s.seat c)) ≡ true → is_advanced (timing (s.seat d)) ≡ true → d ≡ c
  advanced_alone d g e = sound.timed.alone d c (advanced_global (timing (s.seat d)) e) g

  pub tell_advance : AllMet ((advance s c).needs) → Tells first count items ((advance s c).outcome) m.loc
  unfolding advance timing_at token_at pinned_at global_at is_advanced
  tell_advance h =
      let at = h.1.0.0 in
      let time = time_of Scanning at in
      let r = (s.seat c).reclaim in
      let new : Seat = record (s.seat c) { phase = Advanced; reclaim = record r { spread = 0; collected = 0; chain = 0; walked = [] } } in
      let own = subst (Own s.shape.locales s.shape.tokens (clock s)) time (sound.timed.own c) in
      let x = tells_advance first count (view_of s m.loc) items told c (summary (timing new)) (sym (ap token_at time)) (sym (ap pinned_at time)) (r.epoch + 1) (ap (λ n. n + 1) own.3)
      (ap global_at time) (sym (ap global_at time)) refl (λ d e. advanced_alone d (ap global_at time) e) in
      inr (Advance c (r.epoch + 1), refl, x.0, tt, by_seats new (r.epoch + 1) s.born (items ++ Advance c (r.epoch + 1) ∷ []) x.1)

  pub tell_leave : AllMet ((leave s c).needs) → Tells first count items ((leave s c).outcome) m.loc
  unfolding leave has_global timing_at token_at pinned_at global_at is_advanced
  tell_leave h = go (s.seat c).phase refl h.1.0.0
    where
      locally : (ph : Phase) → (s.seat c).phase ≡ ph → timing_at Registered (s.seat c).token (s.seat c).announced (s.seat c).reclaim ≡ timing_at ph (s.seat c).token (s.seat c).announced (s.seat c).reclaim
          → has_global ph ≡ false → Tells first count items ((leave s c).outcome) m.loc
      locally ph at f none =
          let new : Seat = record (s.seat c) { phase = Registered } in
          rw (ap has_global at ∙ none)
          (inr (
            Leave c false,
            refl,
            tt,
            tt,
            subst (λ f. IsTold first count (record (view_of s m.loc) { seats = f }) (items ++ Leave c false ∷ [])) (sym (part_kept (λ x. summary (timing x)) s.seat c new (ap summary (f ∙ sym (time_of ph at)))))
                (tells_local_leave first count (view_of s m.loc) items told c),
          ))

      globally : (ph : Phase) → (s.seat c).phase ≡ ph → token_at (timing_at ph (s.seat c).token (s.seat c).announced (s.seat c).reclaim) ≡ Some (s.seat c).token
          → pinned_at (timing_at ph (s.seat c).token (s.seat c).announced (s.seat c).reclaim) ≡ None
          → global_at (timing_at ph (s.seat c).token (s.seat c).announced (s.seat c).reclaim) ≡ true → has_global ph ≡ true → Tells first count items ((leave s c).outcome) m.loc
      globally ph at et ep eg has =
          let new : Seat = record (s.seat c) { phase = LeftGlobal } in
          let time = time_of ph at in
          let mine : global_at (timing (s.seat c)) ≡ true = ap global_at time ∙ eg in
          let x = tells_leave first count (view_of s m.loc) items told c (summary (timing new)) (sym (ap token_at time ∙ et)) (sym (ap pinned_at time ∙ ep)) mine refl refl
          (λ d e. sound.timed.alone d c e mine) (λ d e. advanced_alone d mine e) in
          rw (ap has_global at ∙ has)
          (inr (Leave c true, refl, x.0, tt, by_seats new s.words.epoch s.born (items ++ Leave c true ∷ []) x.1))

      go : (ph : Phase) → (s.seat c).phase ≡ ph → MayLeave s.shape.locales (s.seat c).phase (s.seat c).reclaim → Tells first count items ((leave s c).outcome) m.loc
      go LostGlobal at may = locally LostGlobal at refl refl
      go LeftGlobal at may = locally LeftGlobal at refl refl
      go Stopped at may = globally Stopped at refl refl refl refl
      go Advanced at may = globally Advanced at refl refl refl refl
      go Idle at may = absurd (subst (λ ph. MayLeave s.shape.locales ph (s.seat c).reclaim) at may)
      go Registered at may = absurd (subst (λ ph. MayLeave s.shape.locales ph (s.seat c).reclaim) at may)
      go PinLooked at may = absurd (subst (λ ph. MayLeave s.shape.locales ph (s.seat c).reclaim) at may)
      go Pinned at may = absurd (subst (λ ph. MayLeave s.shape.locales ph (s.seat c).reclaim) at may)
      go DeferLooked at may = absurd (subst (λ ph. MayLeave s.shape.locales ph (s.seat c).reclaim) at may)
      go DeferSwapped at may = absurd (subst (λ ph. MayLeave s.shape.locales ph (s.seat c).reclaim) at may)
      go WonLocal at may = absurd (subst (λ ph. MayLeave s.shape.locales ph (s.seat c).reclaim) at may)
      go WonGlobal at may = absurd (subst (λ ph. MayLeave s.shape.locales ph (s.seat c).reclaim) at may)
      go Scanning at may = absurd (subst (λ ph. MayLeave s.shape.locales ph (s.seat c).reclaim) at may)
