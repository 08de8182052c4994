-- A release keeps the counts in words that lead to objects: no such word leads to a walked object.
use Rattle.std.proofs.Common.{◌≡◌, ◌≢◌, ◌==◌, ℕ, ◌+◌, true, List, [], ◌∷◌, Option, Some, None, refl, ap, sym, ◌∙◌, subst, inl, inr, ⊎_elim}
use Rattle.pgas_base.specs.Shapes.{IsShape}
use Rattle.pgas_base.specs.Pointers.{Pointer, word_of}
use Rattle.pool_core.specs.declared.headers.Header.{Header}
use Rattle.pool_core.specs.declared.headers.State.TheVariants.{Free, Worn}
use Rattle.epoch_laws.specs.Places.{Place, place_of, pointer_at, is_among, with_number, with_place}
use Rattle.epoch_laws.specs.Seats.{Advanced, Reclaim, Seat}
use Rattle.epoch_laws.specs.States.{State, IsPlace}
use Rattle.epoch_laws.specs.Needs.{AllMet}
use Rattle.epoch_laws.specs.ReclaimSteps.{release, last_count}
use Rattle.epoch_laws.proofs.Updates.{place_there}
use Rattle.epoch_laws.proofs.Lists.{truth, among_here, among_more, among_nil, among_cons}
use Rattle.epoch_laws.proofs.Locations.{Kind, InStack, InHome, InTaken, InHand, IsOwned, IsLive, InDeferral, InList, InRest, IsWalked, IsWorn, Location, at_, loc_moved}
use Rattle.epoch_laws.proofs.Paths.{IsPath, IsChain, path_first, led_to, led_to_some, first_of, list_at}
use Rattle.epoch_laws.proofs.Links.{IsLink, IsHomeKind}
use Rattle.epoch_laws.proofs.Ages.{Deferring}
use Rattle.epoch_laws.proofs.Sound.{phased, phased_at, home_wait, Map, firsts_of, IsSound}
use Rattle.epoch_laws.proofs.Words.{IsSmall, small_in_shape, place_in-word_of, word_not_none}
use Rattle.epoch_laws.proofs.KeepsReclaims.{wait_deferring, walked_at, walked_deferring, release_map}
use Rattle.epoch_laws.proofs.Counts.{IsCurrent, IsNextCurrent, IsLocal, IsSeatCurrent, AreCurrent, HasCounts, places_go, seat_stays}

-- words lead through such locations
abbrev IsLedKind : Kind → Type 0
IsLedKind InHome = Unit {0}
IsLedKind InTaken = Unit {0}
IsLedKind InList = Unit {0}
IsLedKind InRest = Unit {0}
IsLedKind _ = ⊥

home_is_led : (k : Kind) → IsHomeKind k → IsLedKind k
home_is_led k h = ⊎_elim (λ e. subst IsLedKind (sym e) tt) (λ e. subst IsLedKind (sym e) tt) h

chain_at : (locales : ℕ) (k : Kind) (i j : ℕ) → (k ≢ InList → j ≡ 0) → IsLedKind k → IsChain locales k i j
chain_at locales InHome i j flat is = flat (λ e. absurd (cc e))
chain_at locales InTaken i j flat is = flat (λ e. absurd (cc e))
chain_at locales InRest i j flat is = flat (λ e. absurd (cc e))
chain_at locales InList i j flat is = tt
chain_at locales _ i j flat is = absurd is

-- what follows an object of a path is in the path
path_among : (link : Place → Option Place) (first : Option Place) (xs : List Place) (p q : Place) → IsPath link first xs → is_among p xs ≡ true → link p ≡ Some q → is_among q xs ≡ true
path_among link first [] p q way h e = absurd (among_nil p h)
path_among link first (x ∷ xs) p q way h e =
    ⊎_elim
    (λ same.
    let r = path_first link q xs (subst (λ f. IsPath link f xs) (ap link (sym same) ∙ e) way.1) in
    among_more q x xs (subst (λ y. is_among q y ≡ true) (sym r.1) (among_here q r.0)))
    (λ other. among_more q x xs (path_among link (link x) xs p q way.1 other.1 e))
    (among_cons p x xs h)

module _ (s : State) (m : Map) (sound : IsSound s m) (current : HasCounts s m.loc) (is_shape : IsShape s.shape) (c : ℕ) where
  abbrev counts : Place → ℕ
  counts p = (s.words.header p).count

  -- the object with which a chain begins is of the chain
  first_at : (k : Location) → IsChain s.shape.locales k.kind k.first k.second → (q : Place) → first_of (firsts_of s.words s.seat) k.kind k.first k.second ≡ Some q → m.loc q ≡ k
  first_at k chain q e =
      let r = path_first m.link q (m.content k) (subst (λ f. IsPath m.link f (m.content k)) e (sound.paths k chain)) in
      ((sound.listed k).all q (subst (λ y. is_among q y ≡ true) (sym r.1) (among_here q r.0))).0

  -- the object that follows one of a chain is of the same chain
  follows_at : (p q : Place) → IsPlace s.shape p → IsLedKind ((m.loc p).kind) → m.link p ≡ Some q → m.loc q ≡ m.loc p
  follows_at p q inside is e =
      let k = m.loc p in
      let chain = chain_at s.shape.locales k.kind k.first k.second (current.flat p) is in
      ((sound.listed k).all q
      (path_among m.link (first_of (firsts_of s.words s.seat) k.kind k.first k.second) (m.content k) p q (sound.paths k chain) ((sound.listed k).each p refl inside) e)).0

  module _ (r : Place) (head : Header) (walked : m.loc r ≡ at_ IsWalked c) (undeferred : (d : ℕ) (x : Deferring) → (phased (s.seat d)).deferring ≡ Some x → x.place ≢ r) where
    abbrev recount : Place → ℕ
    recount p = (with_place s.words.header r head p).count

    apart : (k : Location) → IsLedKind k.kind → (q : Place) → m.loc q ≡ k → q ≢ r
    apart k is q at same = subst IsLedKind (ap (λ x. x.kind) (sym at ∙ ap m.loc same ∙ walked)) is

    -- a word that doesn't lead to the object stays current
    still : (word : ℕ) → IsCurrent s.shape counts word → ((q : Place) → led_to word ≡ Some q → q ≢ r) → IsCurrent s.shape recount word
    still word is other =
        ⊎_elim
        (λ e. inl e)
        (λ x.
        let p = x.0 in
        let fits = sound.fit p in
        let small : IsSmall (pointer_at p (counts p)) = small_in_shape s.shape (pointer_at p (counts p)) is_shape x.1 fits.bound in
        let led : led_to word ≡ Some p = ap led_to x.2 ∙ led_to_some (word_of (pointer_at p (counts p))) (word_not_none (pointer_at p (counts p)) small) ∙ ap Some (place_in-word_of (pointer_at p (counts p)) small) in
        inr (p, x.1, x.2 ∙ ap (λ k. word_of (pointer_at p k)) (sym (ap (λ y. y.count) (place_there s.words.header r head p (other p led))))))
        is

    after : (p : Place) → IsPlace s.shape p → IsLedKind ((m.loc p).kind) → (word : ℕ) → m.link p ≡ led_to word → IsCurrent s.shape counts word → IsCurrent s.shape recount word
    after p inside is word link h = still word h (λ q e. apart (m.loc p) is q (follows_at p q inside is (link ∙ e)))

    next_recounts : (p : Place) → IsPlace s.shape p → (k : Kind) → (m.loc p).kind ≡ k
        → IsLink s.words.next m.link (λ d. home_wait (s.seat d)) (λ d. (phased (s.seat d)).list_wait) k ((m.loc p).first) p
        → IsNextCurrent s.shape counts s.words.next (λ d. (phased (s.seat d)).list_wait) k p → IsNextCurrent s.shape recount s.words.next (λ d. (phased (s.seat d)).list_wait) k p
    next_recounts p inside InHome e link was =
        ⊎_elim (λ x. inl x) (λ x. ⊎_elim (λ y. inr (after p inside (subst IsLedKind (sym e) tt) (s.words.next p) y.1 x)) (λ y. inl y.0) link) was
    next_recounts p inside InTaken e link was =
        ⊎_elim (λ x. inl x) (λ x. ⊎_elim (λ y. inr (after p inside (subst IsLedKind (sym e) tt) (s.words.next p) y.1 x)) (λ y. inl y.0) link) was
    next_recounts p inside InList e link was =
        ⊎_elim (λ x. inl x) (λ x. ⊎_elim (λ y. inr (after p inside (subst IsLedKind (sym e) tt) (s.words.next p) y x)) (λ y. inl (y.0, y.1, y.2, y.3)) link) was
    next_recounts p inside InRest e link was = after p inside (subst IsLedKind (sym e) tt) (s.words.next p) link was
    next_recounts p inside InStack e link was = tt
    next_recounts p inside InHand e link was = tt
    next_recounts p inside IsOwned e link was = tt
    next_recounts p inside IsLive e link was = tt
    next_recounts p inside InDeferral e link was = tt
    next_recounts p inside IsWalked e link was = tt
    next_recounts p inside IsWorn e link was = tt

    seat_recounts : (d : ℕ) → IsSeatCurrent s.shape recount (phased (s.seat d)) (s.seat d).homing
    unfolding first_of
    seat_recounts d =
        let was = current.seats d in
        record {
          rest = still ((phased (s.seat d)).rest) was.rest (λ q e. apart (at_ InRest d) tt q (first_at (at_ InRest d) refl q e));
          taken = still ((s.seat d).homing.chain) was.taken (λ q e. apart (at_ InTaken d) tt q (first_at (at_ InTaken d) refl q e));
          list_old = λ w e.
              let wait = sound.linked.list_waits d w e in
              let x = wait_deferring (s.seat d) w e in
              let young = sound.aged.young d x.0 x.1 in
              let inside = (sound.aged.aged w.place x.0.tag (ap s.tag (sym x.2) ∙ young.tagged)).inside in
              after w.place inside (subst IsLedKind (sym wait.in_list) tt) w.old wait.follows (was.list_old w e);
          home_old = λ w e. let wait = sound.linked.home_waits d w e in after w.place (was.tail w e) (home_is_led ((m.loc w.place).kind) wait.at_home) w.old wait.follows (was.home_old w e);
          tail = was.tail;
          deferral = λ x e. was.deferral x e ∙ sym (ap (λ y. y.count) (place_there s.words.header r head x.place (undeferred d x e)));
        }

    recounts : AreCurrent s.shape recount m.loc s.words.list_head s.words.home_head s.words.next s.seat
    unfolding first_of
    recounts = record {
      list_heads = λ l n. still (s.words.list_head l n) (current.list_heads l n) (λ q e. apart (list_at l n) tt q (first_at (list_at l n) tt q e));
      home_heads = λ l. still (s.words.home_head l) (current.home_heads l) (λ q e. apart (at_ InHome l) tt q (first_at (at_ InHome l) refl q e));
      seats = seat_recounts;
      nexts = λ p inside. next_recounts p inside ((m.loc p).kind) refl (sound.linked.links p) (current.nexts p inside);
      locals = current.locals;
      flat = current.flat;
    }

  -- what of the seat depends on its phase stays
  released : (new : Reclaim) → new.chain ≡ (s.seat c).reclaim.chain → new.collected ≡ (s.seat c).reclaim.collected → (s.seat c).phase ≡ Advanced
      → phased_at (s.seat c).phase (s.seat c).deferral (s.seat c).token new ≡ phased (s.seat c)
  unfolding phased_at
  released new e f at =
      ap (λ x. phased_at x (s.seat c).deferral (s.seat c).token new) at
      ∙ (λ i. record { to_swap = []; deferring = None; list_wait = None; collecting = Some (f i); rest = e i })
      ∙ sym (ap (λ x. phased_at x (s.seat c).deferral (s.seat c).token (s.seat c).reclaim) at)

  pub counts_release : (q : Pointer) → AllMet ((release s c q).needs) → HasCounts ((release s c q).outcome.next) (release_map s m sound c q).loc
  unfolding release
  counts_release q h =
      ⊎_elim
      (λ z. rw z (leaves (record { count = q.count; state = Worn }) (at_ IsWorn 0) _ refl (same _ refl refl) refl (λ p. (tt, tt))))
      (λ z. rw z (leaves (record { count = q.count + 1; state = Free }) (at_ InHand c) _ refl (same _ refl refl) refl (λ p. (tt, tt))))
      (truth (q.count == last_count))
    where
      at : (s.seat c).phase ≡ Advanced
      at = h.1.1.0

      same : (new : Reclaim) → new.chain ≡ (s.seat c).reclaim.chain → new.collected ≡ (s.seat c).reclaim.collected
          → phased_at (s.seat c).phase (s.seat c).deferral (s.seat c).token new ≡ phased (s.seat c)
      same new e f = released new e f at

      leaves : (head : Header) (b : Location) (new : Seat) → b.second ≡ 0 → phased new ≡ phased (s.seat c) → new.homing ≡ (s.seat c).homing
          → ((p : Place) → IsNextCurrent s.shape (λ p. (with_place s.words.header (place_of q) head p).count) s.words.next (λ d. (phased (with_number s.seat c new d)).list_wait) b.kind p × IsLocal (with_number s.seat c new) b.kind b.first p)
          → AreCurrent s.shape (λ p. (with_place s.words.header (place_of q) head p).count) (loc_moved (place_of q ∷ []) b m.loc) s.words.list_head s.words.home_head s.words.next (with_number s.seat c new)
      leaves head b new flat e f here =
          let w = walked_at s m sound c (place_of q) at h.1.1.1.1.0 in
          let count : Place → ℕ = λ p. (with_place s.words.header (place_of q) head p).count in
          places_go s.shape count m.loc s.words.list_head s.words.home_head s.words.next (with_number s.seat c new)
          (seat_stays s.shape count m.loc s.words.list_head s.words.home_head s.words.next s.seat
          (recounts (place_of q) head w.0 (λ d x y. walked_deferring s m sound c (place_of q) at h.1.1.1.1.0 d x y)) c new e f)
          (place_of q ∷ []) b (λ ne. flat) (λ p x inside. (here p).0) (λ p x inside. (here p).1)
