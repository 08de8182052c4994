-- The steps that have to do with tokens and epochs alone keep what holds of every state.
use Rattle.std.proofs.Common.{◌≡◌, ◌⊎◌, ℕ, ◌+◌, ◌<◌, ◌≤◌, true, false, ltb, [], Some, refl, ap, sym, ◌∙◌, subst, inl, inr, ⊎_elim, arith}
use Rattle.std.proofs.lemmas.Bool.{cases_lt, eqb-true, ltb-false}
use Rattle.std.proofs.lemmas.Bool.Decides.{eqb_tells}
use Rattle.pgas_base.specs.Pointers.{Pointer}
use Rattle.epoch_laws.specs.declared.tokens.Token.{Token}
use Rattle.epoch_laws.specs.Places.{Place, place_of, with_number, with_token}
use Rattle.epoch_laws.specs.Seats.{Phase, Idle, Registered, PinLooked, Pinned, DeferLooked, DeferSwapped, WonLocal, LostGlobal, WonGlobal, Scanning, Stopped, Advanced, LeftGlobal, Seat}
use Rattle.epoch_laws.specs.States.{State}
use Rattle.epoch_laws.specs.Needs.{AllMet}
use Rattle.epoch_laws.specs.TokenSteps.{register, unregister, pin_look, pin_set, unpin}
use Rattle.epoch_laws.specs.TakeSteps.{take_look}
use Rattle.epoch_laws.specs.HoldSteps.{hold}
use Rattle.epoch_laws.specs.ReclaimSteps.{elect_local, elect_global, epoch_look, scan_token, spread, token_after, passes, last_epoch}
use Rattle.epoch_laws.proofs.Updates.{part_kept, token_there}
use Rattle.epoch_laws.proofs.Timing.{Timing, NoToken, HasToken, Looks, IsPinned, HasGlobal, Scans, HasAdvanced, timing, timing_at, token_at, pinned_at, Precedes, IsTimed}
use Rattle.epoch_laws.proofs.TimingMoves.{registers, unregisters, looks, pins, unpins, wins, begins_scan, stops, passes_on, spreads}
use Rattle.epoch_laws.proofs.Lists.{truth}
use Rattle.epoch_laws.proofs.Ages.{Deferring, pins_anew}
use Rattle.epoch_laws.proofs.Sound.{phased, phased_at, clock, IsSound, IsSameSeat, Map, quiet, retimed}

-- a seat with a deferral is pinned, with the token of the deferral
pub deferring_pinned : (seat : Seat) (x : Deferring) → (phased seat).deferring ≡ Some x → pinned_at (timing seat) ≡ Some x.token
unfolding phased_at timing_at pinned_at
deferring_pinned seat x = go seat.phase
  where
    go : (ph : Phase) → (phased_at ph seat.deferral seat.token seat.reclaim).deferring ≡ Some x → pinned_at (timing_at ph seat.token seat.announced seat.reclaim) ≡ Some x.token
    go DeferLooked e = ap Some (let same : ◌≡◌ {A = Deferring} (record { place = place_of seat.deferral.pointer; tag = seat.deferral.tag; token = seat.token; count = seat.deferral.pointer.count }) x = cc e in ap (λ y. y.token) same)
    go DeferSwapped e = ap Some (let same : ◌≡◌ {A = Deferring} (record { place = place_of seat.deferral.pointer; tag = seat.deferral.tag; token = seat.token; count = seat.deferral.pointer.count }) x = cc e in ap (λ y. y.token) same)
    go Idle e = absurd (cc e)
    go Registered e = absurd (cc e)
    go PinLooked e = absurd (cc e)
    go Pinned e = absurd (cc e)
    go WonLocal e = absurd (cc e)
    go LostGlobal e = absurd (cc e)
    go WonGlobal e = absurd (cc e)
    go Scanning e = absurd (cc e)
    go Stopped e = absurd (cc e)
    go Advanced e = absurd (cc e)
    go LeftGlobal e = absurd (cc e)

pub pinned_has : (x : Timing) (u : Token) → pinned_at x ≡ Some u → token_at x ≡ Some u
unfolding pinned_at token_at
pinned_has NoToken u h = absurd (cc h)
pinned_has (HasToken t) u h = absurd (cc h)
pinned_has (Looks t a) u h = absurd (cc h)
pinned_has (IsPinned t a) u h = h
pinned_has (HasGlobal t) u h = absurd (cc h)
pinned_has (Scans t g n) u h = absurd (cc h)
pinned_has (HasAdvanced t g n) u h = absurd (cc h)

-- what comes before the token after this one comes before this one, or is it
token_after_next : (tokens : ℕ) (n u : Token) → u.number < tokens → Precedes u (token_after tokens n) → Precedes u n ⊎ (u ≡ n)
unfolding token_after
token_after_next tokens n u low h = ⊎_elim (λ e. in_locale (rw e at h)) (λ e. past e (rw e at h)) (truth (ltb (n.number + 1) tokens))
  where
    is_it : u.locale ≡ n.locale → u.number ≡ n.number → u ≡ n
    is_it a b = λ i. record { locale = a i; number = b i }

    in_locale : Precedes u (record { locale = n.locale; number = n.number + 1 }) → Precedes u n ⊎ (u ≡ n)
    in_locale h =
        ⊎_elim
        (λ x. inl (inl x))
        (λ x. let x1 = x.1 in ⊎_elim (λ y. inl (inr (x.0, y))) (λ y. inr (is_it x.0 (omega arith))) (cases_lt u.number n.number))
        h

    past : ltb (n.number + 1) tokens ≡ false → Precedes u (record { locale = n.locale + 1; number = 0 }) → Precedes u n ⊎ (u ≡ n)
    past e h =
        let most : tokens ≤ n.number + 1 = ltb-false (n.number + 1) tokens e in
        ⊎_elim
        (λ x.
        ⊎_elim
        (λ y. inl (inl y))
        (λ y. ⊎_elim (λ z. inl (inr (omega arith, z))) (λ z. inr (is_it (omega arith) (omega arith))) (cases_lt u.number n.number))
        (cases_lt u.locale n.locale))
        (λ x. let x1 = x.1 in absurd (omega arith))
        h

passes_word : (epoch word : ℕ) → passes epoch word ≡ true → (word ≡ 0) ⊎ ((word ≡ 1) ⊎ (word ≡ epoch + 2))
passes_word epoch word h =
    ⊎_elim
    (λ z. inl z.1)
    (λ z.
    ⊎_elim
    (λ o. inr (inl o.1))
    (λ o. inr (inr (eqb-true word (epoch + 2) (rw (z.0, o.0) at h))))
    (eqb_tells word 1))
    (eqb_tells word 0)

module _ (s : State) (m : Map) (sound : IsSound s m) (c : ℕ) where
  seat : Seat
  seat = s.seat c

  -- the seat in another phase, neither of which is one of a deferral or of collecting
  in_other_phase : (new : Seat) (e : phased new ≡ phased (s.seat c)) → new.hand ≡ (s.seat c).hand → new.owned ≡ (s.seat c).owned → new.homing ≡ (s.seat c).homing → new.stack ≡ (s.seat c).stack
      → new.reclaim.walked ≡ (s.seat c).reclaim.walked → IsSameSeat (s.seat c) new
  in_other_phase new e a b f g w = record { phased = e; hand = a; owned = b; homing = f; stack = g; walked = w }

  pub keeps_register : (t : Token) → AllMet ((register s c t).needs) → IsSound ((register s c t).outcome.next) m
  unfolding register timing_at phased_at
  keeps_register t h =
      let idle = h.1.1.1.0 in
      let new : Seat = record (s.seat c) { phase = Registered; token = t } in
      let same : IsSameSeat (s.seat c) new = in_other_phase new (sym (ap (λ x. phased_at x (s.seat c).deferral (s.seat c).token (s.seat c).reclaim) idle)) refl refl refl refl refl in
      ⊎_elim
      (λ z.
      rw z.0
      (quiet s m sound c new same s.words.epoch_of s.words.election_of s.words.election (with_token s.words.token_word t 1) s.born
      (retimed s m sound c new same _
      (registers s.shape.locales s.shape.tokens (clock s) (λ d. timing (s.seat d)) sound.timed c t
      (ap (λ x. timing_at x (s.seat c).token (s.seat c).announced (s.seat c).reclaim) idle) (record { locale = h.1.0; number = h.1.1.0 }) z.1))
      sound.aged))
      (λ z. rw z.0 sound)
      (eqb_tells (s.words.token_word t) 0)

  pub keeps_unregister : AllMet ((unregister s c).needs) → IsSound ((unregister s c).outcome.next) m
  unfolding unregister timing_at phased_at
  keeps_unregister h =
      let at = h.1.0 in
      let new : Seat = record (s.seat c) { phase = Idle } in
      let same : IsSameSeat (s.seat c) new = in_other_phase new (sym (ap (λ x. phased_at x (s.seat c).deferral (s.seat c).token (s.seat c).reclaim) at)) refl refl refl refl refl in
      quiet s m sound c new same s.words.epoch_of s.words.election_of s.words.election (with_token s.words.token_word (s.seat c).token 0) s.born
      (retimed s m sound c new same _
      (unregisters s.shape.locales s.shape.tokens (clock s) (λ d. timing (s.seat d)) sound.timed c (s.seat c).token
      (ap (λ x. timing_at x (s.seat c).token (s.seat c).announced (s.seat c).reclaim) at)))
      sound.aged

  -- what depends on the phase, at a phase that the seat is in
  of_phase : (ph : Phase) → (s.seat c).phase ≡ ph → phased_at ph (s.seat c).deferral (s.seat c).token (s.seat c).reclaim ≡ phased (s.seat c)
  of_phase ph at = sym (ap (λ x. phased_at x (s.seat c).deferral (s.seat c).token (s.seat c).reclaim) at)

  time_of : (ph : Phase) → (s.seat c).phase ≡ ph → timing (s.seat c) ≡ timing_at ph (s.seat c).token (s.seat c).announced (s.seat c).reclaim
  time_of ph at = ap (λ x. timing_at x (s.seat c).token (s.seat c).announced (s.seat c).reclaim) at

  -- the seat's part in tokens and epochs stays
  untimed : (new : Seat) → timing new ≡ timing (s.seat c) → IsTimed s.shape.locales s.shape.tokens (clock s) (λ d. timing (with_number s.seat c new d))
  untimed new e = subst (IsTimed s.shape.locales s.shape.tokens (clock s)) (sym (part_kept timing s.seat c new e)) sound.timed

  pub keeps_pin_look : AllMet ((pin_look s c).needs) → IsSound ((pin_look s c).outcome.next) m
  unfolding pin_look timing_at phased_at
  keeps_pin_look h =
      let at = h.1.0 in
      let new : Seat = record (s.seat c) { phase = PinLooked; announced = s.words.epoch_of (s.seat c).token.locale } in
      let same : IsSameSeat (s.seat c) new = in_other_phase new (of_phase Registered at) refl refl refl refl refl in
      quiet s m sound c new same s.words.epoch_of s.words.election_of s.words.election s.words.token_word s.born
      (retimed s m sound c new same _ (looks s.shape.locales s.shape.tokens (clock s) (λ d. timing (s.seat d)) sound.timed c (s.seat c).token (time_of Registered at)))
      sound.aged

  pub keeps_pin_set : AllMet ((pin_set s c).needs) → IsSound ((pin_set s c).outcome.next) m
  unfolding pin_set timing_at phased_at token_at
  keeps_pin_set h =
      let at = h.1.0 in
      let t = (s.seat c).token in
      let new : Seat = record (s.seat c) { phase = Pinned } in
      let same : IsSameSeat (s.seat c) new = in_other_phase new (of_phase PinLooked at) refl refl refl refl refl in
      quiet s m sound c new same s.words.epoch_of s.words.election_of s.words.election (with_token s.words.token_word t ((s.seat c).announced + 2)) (with_token s.born t s.words.epoch)
      (retimed s m sound c new same _ (pins s.shape.locales s.shape.tokens (clock s) (λ d. timing (s.seat d)) sound.timed c t (s.seat c).announced (time_of PinLooked at)))
      (pins_anew s.shape s.words.epoch s.born s.tag m.loc (λ d. (phased (s.seat d)).collecting) (λ d. (phased (s.seat d)).deferring) sound.aged (with_token s.born t s.words.epoch)
      (λ d x e. token_there s.born t s.words.epoch x.token (λ is.
      let mine : token_at (timing (s.seat c)) ≡ Some t = ap token_at (time_of PinLooked at) ∙ looking in
      let its : token_at (timing (s.seat d)) ≡ Some t = pinned_has (timing (s.seat d)) x.token (deferring_pinned (s.seat d) x e) ∙ ap Some is in
      absurd (cc (e, ap (λ b. (phased (s.seat b)).deferring) (sound.timed.apart d c t its mine), sym (of_phase PinLooked at), ap (λ y. y.deferring) (of_phase PinLooked at))))))
    where
      looking : token_at (Looks (s.seat c).token (s.seat c).announced) ≡ Some (s.seat c).token
      looking = refl

  pub keeps_unpin : AllMet ((unpin s c).needs) → IsSound ((unpin s c).outcome.next) m
  unfolding unpin timing_at phased_at
  keeps_unpin h =
      let at = h.1.0 in
      let new : Seat = record (s.seat c) { phase = Registered; held = [] } in
      let same : IsSameSeat (s.seat c) new = in_other_phase new (of_phase Pinned at) refl refl refl refl refl in
      quiet s m sound c new same s.words.epoch_of s.words.election_of s.words.election (with_token s.words.token_word (s.seat c).token 1) s.born
      (retimed s m sound c new same _ (unpins s.shape.locales s.shape.tokens (clock s) (λ d. timing (s.seat d)) sound.timed c (s.seat c).token (s.seat c).announced (time_of Pinned at)))
      sound.aged

  -- another seat of which nothing is different that has to do with words
  pub reseats : (new : Seat) → timing new ≡ timing (s.seat c) → IsSameSeat (s.seat c) new → IsSound (record s { seat = with_number s.seat c new }) m
  reseats new e same = quiet s m sound c new same s.words.epoch_of s.words.election_of s.words.election s.words.token_word s.born (untimed new e) sound.aged

  pub keeps_take_look : (p : Place) → IsSound ((take_look s c p).outcome.next) m
  unfolding take_look
  keeps_take_look p = reseats _ refl (record { phased = refl; hand = refl; owned = refl; homing = refl; stack = refl; walked = refl })

  pub keeps_hold : (q : Pointer) → IsSound ((hold s c q).outcome.next) m
  unfolding hold
  keeps_hold q = reseats _ refl (record { phased = refl; hand = refl; owned = refl; homing = refl; stack = refl; walked = refl })

  pub keeps_elect_local : AllMet ((elect_local s c).needs) → IsSound ((elect_local s c).outcome.next) m
  unfolding elect_local timing_at phased_at
  keeps_elect_local h =
      let at = h.1.0 in
      let l = (s.seat c).token.locale in
      let new : Seat = record (s.seat c) { phase = WonLocal } in
      let same : IsSameSeat (s.seat c) new = in_other_phase new (of_phase Registered at) refl refl refl refl refl in
      ⊎_elim
      (λ z. rw z.0 (quiet s m sound c new same s.words.epoch_of (with_number s.words.election_of l 1) s.words.election s.words.token_word s.born (untimed new (sym (time_of Registered at))) sound.aged))
      (λ z. rw z.0 sound)
      (eqb_tells (s.words.election_of l) 0)

  pub keeps_elect_global : AllMet ((elect_global s c).needs) → IsSound ((elect_global s c).outcome.next) m
  unfolding elect_global timing_at phased_at
  keeps_elect_global h =
      let at = h.1.0 in
      let new : Seat = record (s.seat c) { phase = WonGlobal } in
      let lost : Seat = record (s.seat c) { phase = LostGlobal } in
      let same : IsSameSeat (s.seat c) new = in_other_phase new (of_phase WonLocal at) refl refl refl refl refl in
      ⊎_elim
      (λ z.
      rw z.0
      (quiet s m sound c new same s.words.epoch_of s.words.election_of 1 s.words.token_word s.born
      (retimed s m sound c new same _ (wins s.shape.locales s.shape.tokens (clock s) (λ d. timing (s.seat d)) sound.timed c (s.seat c).token (time_of WonLocal at) z.1))
      sound.aged))
      (λ z. rw z.0 (reseats lost (sym (time_of WonLocal at)) (in_other_phase lost (of_phase WonLocal at) refl refl refl refl refl)))
      (eqb_tells s.words.election 0)

  pub keeps_epoch_look : AllMet ((epoch_look s c).needs) → IsSound ((epoch_look s c).outcome.next) m
  unfolding epoch_look timing_at phased_at
  keeps_epoch_look h =
      let at = h.1.0 in
      let r = record ((s.seat c).reclaim) { epoch = s.words.epoch; scan = record { locale = 0; number = 0 } } in
      let scans : Seat = record (s.seat c) { phase = Scanning; reclaim = r } in
      let stopped : Seat = record (s.seat c) { phase = Stopped; reclaim = r } in
      let same : IsSameSeat (s.seat c) scans = in_other_phase scans (of_phase WonGlobal at) refl refl refl refl refl in
      ⊎_elim
      (λ z.
      rw z
      (quiet s m sound c scans same s.words.epoch_of s.words.election_of s.words.election s.words.token_word s.born
      (retimed s m sound c scans same _ (begins_scan s.shape.locales s.shape.tokens (clock s) (λ d. timing (s.seat d)) sound.timed c (s.seat c).token (time_of WonGlobal at)))
      sound.aged))
      (λ z. rw z (reseats stopped (sym (time_of WonGlobal at)) (in_other_phase stopped (of_phase WonGlobal at) refl refl refl refl refl)))
      (truth (ltb s.words.epoch last_epoch))

  pub keeps_scan_token : AllMet ((scan_token s c).needs) → IsSound ((scan_token s c).outcome.next) m
  unfolding scan_token timing_at phased_at
  keeps_scan_token h =
      let at = h.1.0.0 in
      let r = (s.seat c).reclaim in
      let n = r.scan in
      let on : Seat = record (s.seat c) { reclaim = record r { scan = token_after s.shape.tokens n } } in
      let stopped : Seat = record (s.seat c) { phase = Stopped } in
      let on_time : timing on ≡ Scans (s.seat c).token r.epoch (token_after s.shape.tokens n) = ap (λ x. timing_at x (s.seat c).token (s.seat c).announced (record r { scan = token_after s.shape.tokens n })) at in
      let same : IsSameSeat (s.seat c) on =
      in_other_phase on (ap (λ x. phased_at x (s.seat c).deferral (s.seat c).token (record r { scan = token_after s.shape.tokens n })) at ∙ of_phase Scanning at) refl refl refl refl refl in
      let gone : IsSameSeat (s.seat c) stopped = in_other_phase stopped (of_phase Scanning at) refl refl refl refl refl in
      ⊎_elim
      (λ z.
      rw z
      (quiet s m sound c on same s.words.epoch_of s.words.election_of s.words.election s.words.token_word s.born
      (retimed s m sound c on same _
      (subst (λ y. IsTimed s.shape.locales s.shape.tokens (clock s) (with_number (λ d. timing (s.seat d)) c y)) (sym on_time)
      (passes_on s.shape.locales s.shape.tokens (clock s) (λ d. timing (s.seat d)) sound.timed c (s.seat c).token n (token_after s.shape.tokens n) r.epoch (time_of Scanning at)
      (token_after_next s.shape.tokens n) (passes_word r.epoch (s.words.token_word n) z))))
      sound.aged))
      (λ z.
      rw z
      (quiet s m sound c stopped gone s.words.epoch_of s.words.election_of s.words.election s.words.token_word s.born
      (retimed s m sound c stopped gone _ (stops s.shape.locales s.shape.tokens (clock s) (λ d. timing (s.seat d)) sound.timed c (s.seat c).token n r.epoch (time_of Scanning at)))
      sound.aged))
      (truth (passes r.epoch (s.words.token_word n)))

  pub keeps_spread : AllMet ((spread s c).needs) → IsSound ((spread s c).outcome.next) m
  unfolding spread timing_at phased_at
  keeps_spread h =
      let at = h.1.0.0 in
      let r = (s.seat c).reclaim in
      let next = record r { spread = r.spread + 1 } in
      let new : Seat = record (s.seat c) { reclaim = next } in
      let new_time : timing new ≡ HasAdvanced (s.seat c).token r.epoch (r.spread + 1) = ap (λ x. timing_at x (s.seat c).token (s.seat c).announced next) at in
      let same : IsSameSeat (s.seat c) new = in_other_phase new (ap (λ x. phased_at x (s.seat c).deferral (s.seat c).token next) at ∙ of_phase Advanced at) refl refl refl refl refl in
      quiet s m sound c new same (with_number s.words.epoch_of r.spread (r.epoch + 1)) s.words.election_of s.words.election s.words.token_word s.born
      (retimed s m sound c new same _
      (subst (λ y. IsTimed s.shape.locales s.shape.tokens (record (clock s) { epoch_of = with_number s.words.epoch_of r.spread (r.epoch + 1) }) (with_number (λ d. timing (s.seat d)) c y)) (sym new_time)
      (spreads s.shape.locales s.shape.tokens (clock s) (λ d. timing (s.seat d)) sound.timed c (s.seat c).token r.epoch r.spread (time_of Advanced at) h.1.0.1)))
      sound.aged
