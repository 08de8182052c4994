-- The advance, the collection and the release keep what holds of every state.
use Rattle.std.proofs.Common.{◌≡◌, ◌≢◌, ◌==◌, ◌%◌, ◌^◌, ℕ, ◌+◌, ◌<◌, ◌≤◌, true, false, if◌then◌else◌, List, [], ◌∷◌, ◌++◌, Some, None, refl, ap, sym, ◌∙◌, subst, inl, ⊎_elim, arith, append-nil}
use Rattle.std.proofs.lemmas.Bool.Decides.{eqb_tells}
use Rattle.pgas_base.specs.Pointers.{Pointer}
use Rattle.pool_core.specs.declared.headers.Header.{Header}
use Rattle.pool_core.specs.declared.headers.State.TheVariants.{Free, Shown, Worn}
use Rattle.epoch_laws.specs.declared.tokens.Token.{Token}
use Rattle.epoch_laws.specs.Places.{Place, place_of, place_in, is_among, without, without_all, with_number, with_place}
use Rattle.epoch_laws.specs.Seats.{Phase, Idle, Registered, PinLooked, Pinned, DeferLooked, DeferSwapped, WonLocal, LostGlobal, WonGlobal, Scanning, Stopped, Advanced, LeftGlobal, Reclaim, Seat}
use Rattle.epoch_laws.specs.States.{State}
use Rattle.epoch_laws.specs.Needs.{AllMet}
use Rattle.epoch_laws.specs.DeferralSteps.{with_list}
use Rattle.epoch_laws.specs.ReclaimSteps.{advance, collect, walk, release, leave, last_count, IsDone, MayLeave, has_global}
use Rattle.epoch_laws.proofs.Updates.{number_here, place_here, place_there, part_kept, part_with}
use Rattle.epoch_laws.proofs.Timing.{Timing, NoToken, Looks, IsPinned, HasToken, HasGlobal, HasAdvanced, Scans, timing, timing_at, pinned_at, scan_at, global_at, IsToken, Clock, IsTimed, Own}
use Rattle.epoch_laws.proofs.TimingMoves.{advances, leaves, leaves_done}
use Rattle.epoch_laws.proofs.Lists.{IsDistinct, among_here, among_nil, among_one, without_one, left_none, left_rest}
use Rattle.epoch_laws.proofs.Locations.{Kind, InHand, IsOwned, InDeferral, InList, InRest, IsWalked, IsWorn, Location, at_, loc_moved, loc_there, content_moved, content_from, content_to, content_else}
use Rattle.epoch_laws.proofs.Paths.{IsPath, IsChain, led_to, led_to_none, led_to_some, path_first, path_none, list_at, list_else, list_here, rest_else, first_of, moves_paths, ArePaths}
use Rattle.epoch_laws.proofs.Links.{Wait, IsHomeKind, IsLink, IsLinked, moves_linked}
use Rattle.epoch_laws.proofs.Ages.{Deferring, IsAge, AreAged, advances_ages, collects, moves_tagged, releases, ends_collecting}
use Rattle.epoch_laws.proofs.Looks.{AreLooks}
use Rattle.epoch_laws.proofs.KeepsTokens.{deferring_pinned}
use Rattle.epoch_laws.proofs.Sound.{phased, phased_at, home_wait, lists, clock, AreLists, state_of, is_tagged, HasTag, Fits, Map, firsts_of, IsSound, IsSameSeat, quiet, retimed}
use Rattle.epoch_laws.proofs.Moves.{IsSeatKind, IsNoOthers, own_location, no_seat_location, lists_moved, lists_of_seats, fit_moved, fit_same, not_it, one_distinct, moved_map, listed_moved, paths_moved, linked_moved}
use Rattle.epoch_laws.proofs.KeepsDeferrals.{kinds_apart, paths_rest}

-- a seat that collects has the global election
pub collecting_global : (seat : Seat) (n : ℕ) → (phased seat).collecting ≡ Some n → global_at (timing seat) ≡ true
unfolding phased_at timing_at global_at
collecting_global seat n = go seat.phase
  where
    go : (ph : Phase) → (phased_at ph seat.deferral seat.token seat.reclaim).collecting ≡ Some n → global_at (timing_at ph seat.token seat.announced seat.reclaim) ≡ true
    go Advanced e = refl
    go DeferLooked e = absurd (cc e)
    go DeferSwapped e = absurd (cc e)
    go Idle e = absurd (cc e)
    go Registered e = absurd (cc e)
    go PinLooked e = absurd (cc e)
    go Pinned e = absurd (cc e)
    go WonLocal e = absurd (cc e)
    go LostGlobal e = absurd (cc e)
    go WonGlobal e = absurd (cc e)
    go Scanning e = absurd (cc e)
    go Stopped e = absurd (cc e)
    go LeftGlobal e = absurd (cc e)

-- an object that is to be swapped is that of the seat's deferral
pub to_swap_deferring : (seat : Seat) (p : Place) → is_among p ((phased seat).to_swap) ≡ true → (x : Deferring) × ((phased seat).deferring ≡ Some x) × (x.place ≡ p)
unfolding phased_at
to_swap_deferring seat p = go seat.phase
  where
    go : (ph : Phase) → is_among p ((phased_at ph seat.deferral seat.token seat.reclaim).to_swap) ≡ true
        → (x : Deferring) × ((phased_at ph seat.deferral seat.token seat.reclaim).deferring ≡ Some x) × (x.place ≡ p)
    go DeferLooked h = (record { place = place_of seat.deferral.pointer; tag = seat.deferral.tag; token = seat.token; count = seat.deferral.pointer.count }, refl, sym (among_one p (place_of seat.deferral.pointer) h))
    go DeferSwapped h = absurd (among_nil p h)
    go Advanced h = absurd (among_nil p h)
    go Idle h = absurd (among_nil p h)
    go Registered h = absurd (among_nil p h)
    go PinLooked h = absurd (among_nil p h)
    go Pinned h = absurd (among_nil p h)
    go WonLocal h = absurd (among_nil p h)
    go LostGlobal h = absurd (among_nil p h)
    go WonGlobal h = absurd (among_nil p h)
    go Scanning h = absurd (among_nil p h)
    go Stopped h = absurd (among_nil p h)
    go LeftGlobal h = absurd (among_nil p h)

-- a link that waits is that of the seat's deferral
pub wait_deferring : (seat : Seat) (w : Wait) → (phased seat).list_wait ≡ Some w → (x : Deferring) × ((phased seat).deferring ≡ Some x) × (x.place ≡ w.place)
unfolding phased_at
wait_deferring seat w = go seat.phase
  where
    go : (ph : Phase) → (phased_at ph seat.deferral seat.token seat.reclaim).list_wait ≡ Some w
        → (x : Deferring) × ((phased_at ph seat.deferral seat.token seat.reclaim).deferring ≡ Some x) × (x.place ≡ w.place)
    go DeferSwapped e = (
      record { place = place_of seat.deferral.pointer; tag = seat.deferral.tag; token = seat.token; count = seat.deferral.pointer.count },
      refl,
      (let same : ◌≡◌ {A = Wait} (record { place = place_of seat.deferral.pointer; old = seat.deferral.old }) w = cc e in ap (λ y. y.place) same),
    )
    go DeferLooked e = absurd (cc e)
    go Advanced e = absurd (cc e)
    go Idle e = absurd (cc e)
    go Registered e = absurd (cc e)
    go PinLooked e = absurd (cc e)
    go Pinned e = absurd (cc e)
    go WonLocal e = absurd (cc e)
    go LostGlobal e = absurd (cc e)
    go WonGlobal e = absurd (cc e)
    go Scanning e = absurd (cc e)
    go Stopped e = absurd (cc e)
    go LeftGlobal e = absurd (cc e)

-- what a pinned token says of the epoch
pub pinned_born : (locales tokens : ℕ) (k : Clock) (x : Timing) (t : Token) → pinned_at x ≡ Some t → Own locales tokens k x → (k.born t ≤ k.epoch) × (k.epoch ≤ k.born t + 1) × IsToken locales tokens t
unfolding pinned_at
pinned_born locales tokens k (IsPinned u e) t h o =
    let same : u ≡ t = cc h in
    let b : k.born u ≡ k.born t = ap k.born same in
    let o3 = o.3 in let o4 = o.4 in
    (omega arith, omega arith, subst (IsToken locales tokens) same o.0)
pinned_born locales tokens k NoToken t h o = absurd (cc h)
pinned_born locales tokens k (HasToken u) t h o = absurd (cc h)
pinned_born locales tokens k (Looks u e) t h o = absurd (cc h)
pinned_born locales tokens k (HasGlobal u) t h o = absurd (cc h)
pinned_born locales tokens k (Scans u g n) t h o = absurd (cc h)
pinned_born locales tokens k (HasAdvanced u g n) t h o = absurd (cc h)

module _ (s : State) (m : Map) (sound : IsSound s m) where
  -- what is being deferred has a tag at most two below the epoch
  pub young_tag : (c : ℕ) (x : Deferring) → (phased (s.seat c)).deferring ≡ Some x → s.words.epoch ≤ x.tag + 2
  young_tag c x e =
      let young = sound.aged.young c x e in
      let late = young.late in
      let born = pinned_born s.shape.locales s.shape.tokens (clock s) (timing (s.seat c)) x.token (deferring_pinned (s.seat c) x e) (sound.timed.own c) in
      let b1 = born.1 in
      omega arith

  -- the seat that has the global election alone collects
  pub alone_collects : (c d n : ℕ) → global_at (timing (s.seat c)) ≡ true → (phased (s.seat d)).collecting ≡ Some n → d ≡ c
  alone_collects c d n g e = sound.timed.alone d c (collecting_global (s.seat d) n e) g

-- a seat that doesn't collect has walked over nothing
pub walked_none : (s : State) (m : Map) → IsSound s m → (c : ℕ) → (phased (s.seat c)).collecting ≡ None → (s.seat c).reclaim.walked ≡ []
walked_none s m sound c none = go ((s.seat c).reclaim.walked) (let l = sound.lists c in l.walked)
  where
    go : (xs : List Place) → m.content (at_ IsWalked c) ≡ xs → xs ≡ []
    go [] e = refl
    go (p ∷ xs) e =
        let among : is_among p (m.content (at_ IsWalked c)) ≡ true = subst (λ l. is_among p l ≡ true) (sym e) (among_here p xs) in
        let is_at : m.loc p ≡ at_ IsWalked c = ((sound.listed (at_ IsWalked c)).all p among).0 in
        let fits = sound.fit p in
        let tag : (d : ℕ) × (s.tag p ≡ Some d) = subst (λ k. HasTag (is_tagged k.kind) (s.tag p)) is_at fits.tagging in
        let age = subst (λ y. IsAge s.shape.locales s.words.epoch (λ d. (phased (s.seat d)).collecting) y.kind y.first y.second tag.0) is_at (sound.aged.aged p tag.0 tag.1).age in
        let n = age.2 in
        absurd (cc (n.1, none))

module _ (s : State) (m : Map) (sound : IsSound s m) (c : ℕ) where
  of_phase : (ph : Phase) → (s.seat c).phase ≡ ph → phased_at ph (s.seat c).deferral (s.seat c).token (s.seat c).reclaim ≡ phased (s.seat c)
  of_phase ph at = sym (ap (λ x. phased_at x (s.seat c).deferral (s.seat c).token (s.seat c).reclaim) at)

  time_of : (ph : Phase) → (s.seat c).phase ≡ ph → timing (s.seat c) ≡ timing_at ph (s.seat c).token (s.seat c).announced (s.seat c).reclaim
  time_of ph at = ap (λ x. timing_at x (s.seat c).token (s.seat c).announced (s.seat c).reclaim) at

  pub keeps_advance : AllMet ((advance s c).needs) → IsSound ((advance s c).outcome.next) m
  unfolding advance timing_at phased_at scan_at global_at
  keeps_advance h =
      let seat = s.seat c in
      let phase_at = h.1.0.0 in
      let r = seat.reclaim in
      let new : Seat = record seat { phase = Advanced; reclaim = record r { spread = 0; collected = 0; chain = 0; walked = [] } } in
      let was = of_phase Scanning phase_at in
      let time = time_of Scanning phase_at in
      let own = subst (Own s.shape.locales s.shape.tokens (clock s)) time (sound.timed.own c) in
      let ge = own.3 in
      let risen : s.words.epoch + 1 ≡ r.epoch + 1 = omega arith in
      let none : seat.reclaim.walked ≡ [] = walked_none s m sound c (sym (ap (λ x. x.collecting) was)) in
      record {
        timed = subst (IsTimed s.shape.locales s.shape.tokens (record (clock s) { epoch = r.epoch + 1 })) (sym (part_with timing s.seat c new))
            (advances s.shape.locales s.shape.tokens (clock s) (λ d. timing (s.seat d)) sound.timed c seat.token r.scan r.epoch time h.1.0.1);
        listed = sound.listed;
        lists = subst (AreLists m.content) (sym (part_kept lists s.seat c new (λ i. record { hand = seat.hand; owned = seat.owned; walked = sym none i; to_swap = (was i).to_swap }))) sound.lists;
        fit = sound.fit;
        paths = paths_rest s.seat c new s.shape.locales (firsts_of s.words s.seat) m.link _ refl (ap (λ x. x.rest) was) sound.paths;
        linked = subst (λ f. IsLinked m.loc m.link s.words.next f (λ d. (phased (with_number s.seat c new d)).list_wait) s.words.home_head)
            (sym (part_kept home_wait s.seat c new refl))
            (subst (λ f. IsLinked m.loc m.link s.words.next (λ d. home_wait (s.seat d)) f s.words.home_head)
            (sym (part_kept (λ x. (phased x).list_wait) s.seat c new (ap (λ x. x.list_wait) was))) sound.linked);
        aged = subst (λ f. AreAged s.shape (r.epoch + 1) s.born s.tag m.loc f (λ d. (phased (with_number s.seat c new d)).deferring))
            (sym (part_with (λ x. (phased x).collecting) s.seat c new))
            (subst (λ f. AreAged s.shape (r.epoch + 1) s.born s.tag m.loc (with_number (λ d. (phased (s.seat d)).collecting) c (Some 0)) f)
            (sym (part_kept (λ x. (phased x).deferring) s.seat c new (ap (λ x. x.deferring) was)))
            (subst (λ g. AreAged s.shape g s.born s.tag m.loc (with_number (λ d. (phased (s.seat d)).collecting) c (Some 0)) (λ d. (phased (s.seat d)).deferring)) risen
            (advances_ages s.shape s.words.epoch s.born s.tag m.loc (λ d. (phased (s.seat d)).collecting) (λ d. (phased (s.seat d)).deferring) sound.aged c
            (λ d n e. absurd (cc (e, ap (λ x. (phased (s.seat x)).collecting) (alone_collects s m sound c d n (ap global_at time) e), sym (ap (λ x. x.collecting) was))))
            (λ p d k e. late p d k e))));
        looks = subst (λ f. AreLooks s.shape.locales f s.words.free_head s.words.next) (sym (part_kept (λ x. x.stack) s.seat c new refl)) sound.looks;
      }
    where
      late : (p : Place) (d : ℕ) → (m.loc p).kind ≡ InDeferral → s.tag p ≡ Some d → s.words.epoch ≤ d + 1
      late p d k e =
          let aged = sound.aged.aged p d e in
          let age = subst (λ y. IsAge s.shape.locales s.words.epoch (λ d. (phased (s.seat d)).collecting) y (m.loc p).first (m.loc p).second d) k aged.age in
          let i = (m.loc p).first in
          let at : m.loc p ≡ at_ InDeferral i = λ t. record { kind = k t; first = i; second = age.0 t } in
          let lists = sound.lists i in
          let mine : is_among p ((phased (s.seat i)).to_swap) ≡ true = subst (λ l. is_among p l ≡ true) lists.to_swap ((sound.listed (at_ InDeferral i)).each p at aged.inside) in
          let x = to_swap_deferring (s.seat i) p mine in
          let young = sound.aged.young i x.0 x.1 in
          let same : d ≡ x.0.tag = cc (e, ap s.tag (sym x.2), young.tagged) in
          let pinned = deferring_pinned (s.seat i) x.0 x.1 in
          let inside = (pinned_born s.shape.locales s.shape.tokens (clock s) (timing (s.seat i)) x.0.token pinned (sound.timed.own i)).2 in
          let low = inside.locale in
          let all = h.1.0.1 in
          let before : x.0.token.locale < (s.seat c).reclaim.scan.locale = omega arith in
          let at_epoch : s.born x.0.token ≡ s.words.epoch = sound.timed.scanned c i (s.seat c).reclaim.scan x.0.token (ap scan_at (time_of Scanning h.1.0.0)) pinned (inl before) in
          let l = young.late in
          omega arith

  -- what of the seat depends on its phase while it collects, where its reclaim goes on
  goes_on : (r : Reclaim) → (s.seat c).phase ≡ Advanced → phased_at (s.seat c).phase (s.seat c).deferral (s.seat c).token r ≡ phased_at Advanced (s.seat c).deferral (s.seat c).token r
  goes_on r at = ap (λ x. phased_at x (s.seat c).deferral (s.seat c).token r) at

  is_global : (s.seat c).phase ≡ Advanced → global_at (timing (s.seat c)) ≡ true
  unfolding timing_at global_at
  is_global at = ap global_at (time_of Advanced at)

  -- the list that is collected next
  abbrev pub collected_list : Location
  collected_list = list_at ((s.seat c).reclaim.collected) (((s.seat c).reclaim.epoch + 2) % 4)

  abbrev pub collect_map : Map
  collect_map = moved_map m (m.content collected_list) collected_list (at_ InRest c)

  collect_aged : (s.seat c).phase ≡ Advanced
      → AreAged s.shape s.words.epoch s.born s.tag (loc_moved (m.content collected_list) (at_ InRest c) m.loc)
      (with_number (λ d. (phased (s.seat d)).collecting) c (Some ((s.seat c).reclaim.collected + 1))) (λ d. (phased (s.seat d)).deferring)
  unfolding phased_at timing_at
  collect_aged at =
      let a = collected_list in
      let own = subst (Own s.shape.locales s.shape.tokens (clock s)) (time_of Advanced at) (sound.timed.own c) in
      collects s.shape s.words.epoch s.born s.tag m.loc (λ d. (phased (s.seat d)).collecting) (λ d. (phased (s.seat d)).deferring) sound.aged c (s.seat c).reclaim.collected (s.seat c).reclaim.epoch (m.content a)
      (sym (ap (λ x. x.collecting) (of_phase Advanced at))) (λ d n e. alone_collects s m sound c d n (is_global at) e) own.3
      (λ p x. ((sound.listed a).all p x).0) (λ p e inside. (sound.listed a).each p e inside)

  -- nobody waits to store a link of the list that is collected
  pub collect_unwaited : (s.seat c).phase ≡ Advanced → (p : Place) → is_among p (m.content collected_list) ≡ true → (d : ℕ) (w : Wait) → (phased (s.seat d)).list_wait ≡ Some w → w.place ≡ p → ⊥
  collect_unwaited at p x d w e same =
      let y = wait_deferring (s.seat d) w e in
      let young = sound.aged.young d y.0 y.1 in
      let tag : s.tag p ≡ Some y.0.tag = ap s.tag (sym same ∙ sym y.2) ∙ young.tagged in
      let aged = (collect_aged at).aged p y.0.tag tag in
      let age = subst (λ k. IsAge s.shape.locales s.words.epoch (with_number (λ d. (phased (s.seat d)).collecting) c (Some ((s.seat c).reclaim.collected + 1))) k.kind k.first k.second y.0.tag)
      (loc_there (m.content collected_list) (at_ InRest c) m.loc p x) aged.age in
      let three : y.0.tag + 3 ≡ s.words.epoch = age.1 in
      let late = young_tag s m sound d y.0 y.1 in
      absurd (omega arith)

  pub keeps_collect : AllMet ((collect s c).needs) → IsSound ((collect s c).outcome.next) collect_map
  unfolding collect timing_at phased_at first_of
  keeps_collect h =
      let seat = s.seat c in
      let phase_at = h.1.0.0 in
      let between = h.1.0.1 in
      let r = seat.reclaim in
      let n = r.collected in
      let k = (r.epoch + 2) % 4 in
      let read = s.words.list_head n k in
      let a = list_at n k in
      let b = at_ InRest c in
      let moved = m.content a in
      let r' : Reclaim = record r { collected = n + 1; chain = read } in
      let new : Seat = record seat { reclaim = r' } in
      let mine = sound.lists c in
      let was = of_phase Advanced phase_at in
      let now : phased new ≡ phased_at Advanced seat.deferral seat.token r' = goes_on r' phase_at in
      let differ : a ≢ b = λ e. absurd (cc (ap (λ x. x.kind) e)) in
      let part : (p : Place) → is_among p moved ≡ true → is_among p (m.content a) ≡ true = λ p x. x in
      let distinct = (sound.listed a).distinct in
      let f = firsts_of s.words s.seat in
      let heads = with_list s.words.list_head n k 0 in
      let rest = with_number (λ d. (phased (s.seat d)).rest) c read in
      let g = record f { list = heads; rest = rest } in
      let empty : m.content b ≡ [] =
      path_none m.link (m.content b) (subst (λ x. IsPath m.link x (m.content b)) (ap led_to (sym (ap (λ x. x.rest) was) ∙ between.chain) ∙ led_to_none) (sound.paths b refl)) in
      record {
        timed = subst (IsTimed s.shape.locales s.shape.tokens (clock s)) (sym (part_kept timing s.seat c new (ap (λ x. timing_at x seat.token seat.announced r') phase_at ∙ sym (time_of Advanced phase_at)))) sound.timed;
        listed = listed_moved s m sound moved a b differ part distinct;
        lists = lists_of_seats s.seat c new (content_moved moved a b m.content)
            (lists_moved m.content (λ d. lists (s.seat d)) c (lists new) moved a b sound.lists (no_seat_location c a (λ x. x)) (no_seat_location c b (λ x. x))
            (record {
              hand = content_else moved a b m.content _ (λ e. absurd (cc (ap (λ x. x.kind) e))) (kinds_apart _ _ c c (λ x. absurd (cc x))) ∙ mine.hand;
              owned = content_else moved a b m.content _ (λ e. absurd (cc (ap (λ x. x.kind) e))) (kinds_apart _ _ c c (λ x. absurd (cc x))) ∙ mine.owned;
              walked = content_else moved a b m.content _ (λ e. absurd (cc (ap (λ x. x.kind) e))) (kinds_apart _ _ c c (λ x. absurd (cc x))) ∙ mine.walked;
              to_swap = content_else moved a b m.content _ (λ e. absurd (cc (ap (λ x. x.kind) e))) (kinds_apart _ _ c c (λ x. absurd (cc x))) ∙ mine.to_swap ∙ sym (ap (λ x. x.to_swap) was) ∙ sym (ap (λ x. x.to_swap) now);
            }));
        fit = fit_same s.words.header s.tag m.loc moved b sound.fit
            (λ p x. subst (λ y. (Shown ≡ state_of y.kind) × (true ≡ is_tagged y.kind)) (sym ((sound.listed a).all p x).0) (refl, refl));
        paths = subst (λ t. ArePaths s.shape.locales m.link (record f { list = heads; taken = t; rest = λ d. (phased (with_number s.seat c new d)).rest }) (content_moved moved a b m.content))
            (sym (part_kept (λ x. x.homing.chain) s.seat c new refl))
            (subst (λ t. ArePaths s.shape.locales m.link (record f { list = heads; rest = t }) (content_moved moved a b m.content))
            (sym (part_with (λ x. (phased x).rest) s.seat c new ∙ ap (λ x. with_number (λ d. (phased (s.seat d)).rest) c x) (ap (λ x. x.rest) now)))
            (moves_paths s.shape.locales m.link m.link f g m.content moved a b sound.paths
            (λ x chain xa xb. rest_else s.shape.locales (record f { list = heads }) c read x.kind x.first x.second chain xb ∙ list_else s.shape.locales f n k 0 x.kind x.first x.second chain xa)
            (λ x p xa q. refl)
            (λ chain. subst (IsPath m.link (led_to (heads n k))) (sym (content_from moved a b m.content ∙ left_none moved moved (λ p x. x))) (ap led_to (list_here s.words.list_head n k 0) ∙ led_to_none))
            (λ chain. subst (IsPath m.link (led_to (rest c))) (sym (content_to moved a b m.content differ ∙ ap (λ l. moved ++ l) empty ∙ append-nil moved))
            (subst (λ x. IsPath m.link x moved) (ap led_to (sym (number_here (λ d. (phased (s.seat d)).rest) c read))) (sound.paths a tt)))));
        linked = subst (λ y. IsLinked (loc_moved moved b m.loc) m.link s.words.next y (λ d. (phased (with_number s.seat c new d)).list_wait) s.words.home_head)
            (sym (part_kept home_wait s.seat c new refl))
            (subst (λ y. IsLinked (loc_moved moved b m.loc) m.link s.words.next (λ d. home_wait (s.seat d)) y s.words.home_head)
            (sym (part_kept (λ x. (phased x).list_wait) s.seat c new (ap (λ x. x.list_wait) now ∙ ap (λ x. x.list_wait) was)))
            (moves_linked m.loc m.link m.link s.words.next (λ d. home_wait (s.seat d)) (λ d. (phased (s.seat d)).list_wait) (λ d. home_wait (s.seat d)) (λ d. (phased (s.seat d)).list_wait)
            s.words.home_head s.words.home_head sound.linked moved b (λ p x. refl)
            (λ p x. ⊎_elim (λ y. y) (λ w. absurd (collect_unwaited phase_at p x w.0 w.1 w.2 w.3))
            (subst (λ y. IsLink s.words.next m.link (λ d. home_wait (s.seat d)) (λ d. (phased (s.seat d)).list_wait) y.kind y.first p) ((sound.listed a).all p x).0 (sound.linked.links p)))
            (λ d w e. e) (λ d w e. e)
            (λ d w e x. absurd (no_home (subst (λ y. IsHomeKind y.kind) ((sound.listed a).all w.place x).0 (sound.linked.home_waits d w e).at_home)))
            (λ d w e x. absurd (collect_unwaited phase_at w.place x d w e refl))
            (λ d w e x. e) (λ d w e x. e) sound.linked.one_wait sound.linked.heads));
        aged = subst (λ y. AreAged s.shape s.words.epoch s.born s.tag (loc_moved moved b m.loc) y (λ d. (phased (with_number s.seat c new d)).deferring))
            (sym (part_with (λ x. (phased x).collecting) s.seat c new ∙ ap (λ x. with_number (λ d. (phased (s.seat d)).collecting) c x) (ap (λ x. x.collecting) now)))
            (subst (λ y. AreAged s.shape s.words.epoch s.born s.tag (loc_moved moved b m.loc) (with_number (λ d. (phased (s.seat d)).collecting) c (Some (n + 1))) y)
            (sym (part_kept (λ x. (phased x).deferring) s.seat c new (ap (λ x. x.deferring) now ∙ ap (λ x. x.deferring) was)))
            (collect_aged phase_at));
        looks = subst (λ y. AreLooks s.shape.locales y s.words.free_head s.words.next) (sym (part_kept (λ x. x.stack) s.seat c new refl)) sound.looks;
      }
    where
      no_home : IsHomeKind InList → ⊥
      no_home x = ⊎_elim (λ e. absurd (cc e)) (λ e. absurd (cc e)) x

  abbrev pub walked_place : Place
  walked_place = place_in ((s.seat c).reclaim.chain)

  abbrev pub walk_map : Map
  walk_map = moved_map m (walked_place ∷ []) (at_ InRest c) (at_ IsWalked c)

  -- the collected chain begins with its current object
  pub walk_path : (s.seat c).phase ≡ Advanced → (s.seat c).reclaim.chain ≢ 0
      → (rest : List Place) × (m.content (at_ InRest c) ≡ walked_place ∷ rest) × IsPath m.link (m.link walked_place) rest
  unfolding phased_at first_of
  walk_path at some =
      path_first m.link walked_place (m.content (at_ InRest c))
      (subst (λ x. IsPath m.link x (m.content (at_ InRest c))) (ap led_to (sym (ap (λ x. x.rest) (of_phase Advanced at))) ∙ led_to_some ((s.seat c).reclaim.chain) some) (sound.paths (at_ InRest c) refl))

  pub keeps_walk : AllMet ((walk s c).needs) → IsSound ((walk s c).outcome.next) walk_map
  unfolding walk timing_at phased_at first_of
  keeps_walk h =
      let seat = s.seat c in
      let phase_at = h.1.0.0 in
      let r = seat.reclaim in
      let p = walked_place in
      let read = s.words.next p in
      let a = at_ InRest c in
      let b = at_ IsWalked c in
      let r' : Reclaim = record r { chain = read; walked = p ∷ r.walked } in
      let new : Seat = record seat { reclaim = r' } in
      let mine = sound.lists c in
      let was = of_phase Advanced phase_at in
      let now : phased new ≡ phased_at Advanced seat.deferral seat.token r' = goes_on r' phase_at in
      let path = walk_path phase_at h.1.0.1 in
      let at : is_among p (m.content a) ≡ true = subst (λ x. is_among p x ≡ true) (sym path.1) (among_here p path.0) in
      let is_at : m.loc p ≡ a = ((sound.listed a).all p at).0 in
      let differ : a ≢ b = kinds_apart InRest IsWalked c c (λ e. absurd (cc e)) in
      let part : (q : Place) → is_among q (p ∷ []) ≡ true → is_among q (m.content a) ≡ true = λ q x. subst (λ y. is_among y (m.content a) ≡ true) (sym (among_one q p x)) at in
      let link : m.link p ≡ led_to read = subst (λ y. IsLink s.words.next m.link (λ d. home_wait (s.seat d)) (λ d. (phased (s.seat d)).list_wait) y.kind y.first p) is_at (sound.linked.links p) in
      let f = firsts_of s.words s.seat in
      let rest = with_number (λ d. (phased (s.seat d)).rest) c read in
      let g = record f { rest = rest } in
      let left : without_all (p ∷ []) (m.content a) ≡ path.0 =
      ap (without_all (p ∷ [])) path.1 ∙ left_rest p path.0 (subst IsDistinct path.1 (sound.listed a).distinct) in
      record {
        timed = subst (IsTimed s.shape.locales s.shape.tokens (clock s)) (sym (part_kept timing s.seat c new (ap (λ x. timing_at x seat.token seat.announced r') phase_at ∙ sym (time_of Advanced phase_at)))) sound.timed;
        listed = listed_moved s m sound (p ∷ []) a b differ part (one_distinct p);
        lists = lists_of_seats s.seat c new (content_moved (p ∷ []) a b m.content)
            (lists_moved m.content (λ d. lists (s.seat d)) c (lists new) (p ∷ []) a b sound.lists (no_seat_location c a (λ x. x)) (own_location c IsWalked)
            (record {
              hand = content_else (p ∷ []) a b m.content _ (kinds_apart _ _ c c (λ x. absurd (cc x))) (kinds_apart _ _ c c (λ x. absurd (cc x))) ∙ mine.hand;
              owned = content_else (p ∷ []) a b m.content _ (kinds_apart _ _ c c (λ x. absurd (cc x))) (kinds_apart _ _ c c (λ x. absurd (cc x))) ∙ mine.owned;
              walked = content_to (p ∷ []) a b m.content differ ∙ ap (λ l. p ∷ l) mine.walked;
              to_swap = content_else (p ∷ []) a b m.content _ (kinds_apart _ _ c c (λ x. absurd (cc x))) (kinds_apart _ _ c c (λ x. absurd (cc x))) ∙ mine.to_swap ∙ sym (ap (λ x. x.to_swap) was) ∙ sym (ap (λ x. x.to_swap) now);
            }));
        fit = fit_same s.words.header s.tag m.loc (p ∷ []) b sound.fit
            (λ q x. subst (λ y. (Shown ≡ state_of ((m.loc y).kind)) × (true ≡ is_tagged ((m.loc y).kind))) (sym (among_one q p x))
            (subst (λ y. (Shown ≡ state_of y.kind) × (true ≡ is_tagged y.kind)) (sym is_at) (refl, refl)));
        paths = subst (λ t. ArePaths s.shape.locales m.link (record f { taken = t; rest = λ d. (phased (with_number s.seat c new d)).rest }) (content_moved (p ∷ []) a b m.content))
            (sym (part_kept (λ x. x.homing.chain) s.seat c new refl))
            (subst (λ t. ArePaths s.shape.locales m.link (record f { rest = t }) (content_moved (p ∷ []) a b m.content))
            (sym (part_with (λ x. (phased x).rest) s.seat c new ∙ ap (λ x. with_number (λ d. (phased (s.seat d)).rest) c x) (ap (λ x. x.rest) now)))
            (moves_paths s.shape.locales m.link m.link f g m.content (p ∷ []) a b sound.paths
            (λ x chain xa xb. rest_else s.shape.locales f c read x.kind x.first x.second chain xa)
            (λ x q xa y. refl)
            (λ chain. subst (IsPath m.link (led_to (rest c))) (sym (content_from (p ∷ []) a b m.content ∙ left))
            (subst (λ x. IsPath m.link x path.0) (link ∙ ap led_to (sym (number_here (λ d. (phased (s.seat d)).rest) c read))) path.2))
            (λ chain. absurd chain)));
        linked = subst (λ y. IsLinked (loc_moved (p ∷ []) b m.loc) m.link s.words.next y (λ d. (phased (with_number s.seat c new d)).list_wait) s.words.home_head)
            (sym (part_kept home_wait s.seat c new refl))
            (subst (λ y. IsLinked (loc_moved (p ∷ []) b m.loc) m.link s.words.next (λ d. home_wait (s.seat d)) y s.words.home_head)
            (sym (part_kept (λ x. (phased x).list_wait) s.seat c new (ap (λ x. x.list_wait) now ∙ ap (λ x. x.list_wait) was)))
            (linked_moved s m sound (p ∷ []) a b differ part (one_distinct p) (λ x. ⊎_elim (λ y. absurd (cc y)) (λ y. absurd (cc y)) x) (λ x. absurd (cc x)) (λ q x. tt)));
        aged = subst (λ y. AreAged s.shape s.words.epoch s.born s.tag (loc_moved (p ∷ []) b m.loc) y (λ d. (phased (with_number s.seat c new d)).deferring))
            (sym (part_kept (λ x. (phased x).collecting) s.seat c new (ap (λ x. x.collecting) now ∙ ap (λ x. x.collecting) was)))
            (subst (λ y. AreAged s.shape s.words.epoch s.born s.tag (loc_moved (p ∷ []) b m.loc) (λ d. (phased (s.seat d)).collecting) y)
            (sym (part_kept (λ x. (phased x).deferring) s.seat c new (ap (λ x. x.deferring) now ∙ ap (λ x. x.deferring) was)))
            (moves_tagged s.shape s.words.epoch s.born s.tag m.loc (λ d. (phased (s.seat d)).collecting) (λ d. (phased (s.seat d)).deferring) sound.aged (p ∷ []) b
            (λ q d x e. subst (λ y. IsAge s.shape.locales s.words.epoch (λ d. (phased (s.seat d)).collecting) y.kind y.first y.second d) (ap m.loc (among_one q p x) ∙ is_at) (sound.aged.aged q d e).age)));
        looks = subst (λ y. AreLooks s.shape.locales y s.words.free_head s.words.next) (sym (part_kept (λ x. x.stack) s.seat c new refl)) sound.looks;
      }

  -- what has been walked over and not released: its tag is three below the epoch
  pub walked_at : (p : Place) → (s.seat c).phase ≡ Advanced → is_among p ((s.seat c).reclaim.walked) ≡ true
      → (m.loc p ≡ at_ IsWalked c) × (is_among p (m.content (at_ IsWalked c)) ≡ true) × ((d : ℕ) × (s.tag p ≡ Some d) × (d + 3 ≡ s.words.epoch))
  unfolding phased_at
  walked_at p at h =
      let mine = sound.lists c in
      let was = of_phase Advanced at in
      let among : is_among p (m.content (at_ IsWalked c)) ≡ true = subst (λ l. is_among p l ≡ true) (sym mine.walked) h in
      let is_at : m.loc p ≡ at_ IsWalked c = ((sound.listed (at_ IsWalked c)).all p among).0 in
      let fits = sound.fit p in
      let tag : (d : ℕ) × (s.tag p ≡ Some d) = subst (λ k. HasTag (is_tagged k.kind) (s.tag p)) is_at fits.tagging in
      let age = subst (λ y. IsAge s.shape.locales s.words.epoch (λ d. (phased (s.seat d)).collecting) y.kind y.first y.second tag.0) is_at (sound.aged.aged p tag.0 tag.1).age in
      (is_at, among, (tag.0, tag.1, age.1))

  -- a walked object isn't one that is being deferred
  pub walked_deferring : (p : Place) → (s.seat c).phase ≡ Advanced → is_among p ((s.seat c).reclaim.walked) ≡ true → (d : ℕ) (x : Deferring) → (phased (s.seat d)).deferring ≡ Some x → x.place ≢ p
  walked_deferring p at h d x e same =
      let w = walked_at p at h in
      let t = w.2 in
      let three = t.2 in
      let young = sound.aged.young d x e in
      let is : x.tag ≡ t.0 = cc (young.tagged, ap s.tag same, t.1) in
      let late = young_tag s m sound d x e in
      absurd (omega arith)

  -- where a released object goes
  abbrev pub released_to : ℕ → Location
  released_to count = if count == last_count then at_ IsWorn 0 else at_ InHand c

  abbrev pub release_map : Pointer → Map
  release_map q = moved_map m (place_of q ∷ []) (at_ IsWalked c) (released_to q.count)

  module _ (q : Pointer) (h : AllMet ((release s c q).needs)) where
    released_sound : (b : Location) (head : Header) (hand : List Place) → at_ IsWalked c ≢ b → IsNoOthers c b → (IsChain s.shape.locales b.kind b.first b.second → ⊥)
        → ((p : Place) → IsLink s.words.next m.link (λ d. home_wait (s.seat d)) (λ d. (phased (s.seat d)).list_wait) b.kind b.first p)
        → Fits b.kind head None
        → ((k : Kind) → IsSeatKind k → (k ≡ InHand → ⊥) → at_ k c ≢ b)
        → content_moved (place_of q ∷ []) (at_ IsWalked c) b m.content (at_ InHand c) ≡ hand
        → IsSound (record s {
          words = record s.words { header = with_place s.words.header (place_of q) head };
          seat = with_number s.seat c (record (s.seat c) { reclaim = record ((s.seat c).reclaim) { walked = without (place_of q) ((s.seat c).reclaim.walked) }; hand = hand });
          tag = with_place s.tag (place_of q) None;
        }) (moved_map m (place_of q ∷ []) (at_ IsWalked c) b)
    unfolding release timing_at phased_at
    released_sound b head hand differ none no_chain no_link fits others hand_is =
        let seat = s.seat c in
        let p = place_of q in
        let phase_at = h.1.1.0 in
        let walked = h.1.1.1.1.0 in
        let a = at_ IsWalked c in
        let r = seat.reclaim in
        let r' : Reclaim = record r { walked = without p r.walked } in
        let new : Seat = record seat { reclaim = r'; hand = hand } in
        let mine = sound.lists c in
        let was = of_phase Advanced phase_at in
        let now : phased new ≡ phased_at Advanced seat.deferral seat.token r' = goes_on r' phase_at in
        let w = walked_at p phase_at walked in
        let part : (x : Place) → is_among x (p ∷ []) ≡ true → is_among x (m.content a) ≡ true = λ x y. subst (λ z. is_among z (m.content a) ≡ true) (sym (among_one x p y)) w.1 in
        record {
          timed = subst (IsTimed s.shape.locales s.shape.tokens (clock s)) (sym (part_kept timing s.seat c new (ap (λ x. timing_at x seat.token seat.announced r') phase_at ∙ sym (time_of Advanced phase_at)))) sound.timed;
          listed = listed_moved s m sound (p ∷ []) a b differ part (one_distinct p);
          lists = lists_of_seats s.seat c new (content_moved (p ∷ []) a b m.content)
              (lists_moved m.content (λ d. lists (s.seat d)) c (lists new) (p ∷ []) a b sound.lists (own_location c IsWalked) none
              (record {
                hand = hand_is;
                owned = content_else (p ∷ []) a b m.content _ (kinds_apart _ _ c c (λ x. absurd (cc x))) (others IsOwned tt (λ x. absurd (cc x))) ∙ mine.owned;
                walked = content_from (p ∷ []) a b m.content ∙ without_one p (m.content a) ∙ ap (without p) mine.walked;
                to_swap = content_else (p ∷ []) a b m.content _ (kinds_apart _ _ c c (λ x. absurd (cc x))) (others InDeferral tt (λ x. absurd (cc x))) ∙ mine.to_swap ∙ sym (ap (λ x. x.to_swap) was) ∙ sym (ap (λ x. x.to_swap) now);
              }));
          fit = fit_moved s.words.header (with_place s.words.header p head) s.tag (with_place s.tag p None) m.loc (p ∷ []) b sound.fit
              (λ x y. subst (λ z. Fits b.kind (with_place s.words.header p head z) (with_place s.tag p None z)) (sym (among_one x p y))
              (subst (λ z. Fits b.kind z (with_place s.tag p None p)) (sym (place_here s.words.header p head))
              (subst (λ z. Fits b.kind head z) (sym (place_here s.tag p None)) fits)))
              (λ x y. (place_there s.words.header p head x (not_it p x y), place_there s.tag p None x (not_it p x y)));
          paths = paths_rest s.seat c new s.shape.locales (firsts_of s.words s.seat) m.link _ refl (ap (λ x. x.rest) now ∙ ap (λ x. x.rest) was)
              (paths_moved s m sound (p ∷ []) a b differ part (one_distinct p) (λ x. x) no_chain);
          linked = subst (λ y. IsLinked (loc_moved (p ∷ []) b m.loc) m.link s.words.next y (λ d. (phased (with_number s.seat c new d)).list_wait) s.words.home_head)
              (sym (part_kept home_wait s.seat c new refl))
              (subst (λ y. IsLinked (loc_moved (p ∷ []) b m.loc) m.link s.words.next (λ d. home_wait (s.seat d)) y s.words.home_head)
              (sym (part_kept (λ x. (phased x).list_wait) s.seat c new (ap (λ x. x.list_wait) now ∙ ap (λ x. x.list_wait) was)))
              (linked_moved s m sound (p ∷ []) a b differ part (one_distinct p) (λ x. ⊎_elim (λ y. absurd (cc y)) (λ y. absurd (cc y)) x) (λ x. absurd (cc x)) (λ x y. no_link x)));
          aged = subst (λ y. AreAged s.shape s.words.epoch s.born (with_place s.tag p None) (loc_moved (p ∷ []) b m.loc) y (λ d. (phased (with_number s.seat c new d)).deferring))
              (sym (part_kept (λ x. (phased x).collecting) s.seat c new (ap (λ x. x.collecting) now ∙ ap (λ x. x.collecting) was)))
              (subst (λ y. AreAged s.shape s.words.epoch s.born (with_place s.tag p None) (loc_moved (p ∷ []) b m.loc) (λ d. (phased (s.seat d)).collecting) y)
              (sym (part_kept (λ x. (phased x).deferring) s.seat c new (ap (λ x. x.deferring) now ∙ ap (λ x. x.deferring) was)))
              (releases s.shape s.words.epoch s.born s.tag m.loc (λ d. (phased (s.seat d)).collecting) (λ d. (phased (s.seat d)).deferring) sound.aged p b (walked_deferring p phase_at walked)));
          looks = subst (λ y. AreLooks s.shape.locales y s.words.free_head s.words.next) (sym (part_kept (λ x. x.stack) s.seat c new refl)) sound.looks;
        }

    pub keeps_release : IsSound ((release s c q).outcome.next) (release_map q)
    unfolding release
    keeps_release =
        let p = place_of q in
        let a = at_ IsWalked c in
        let mine = sound.lists c in
        let fits = sound.fit p in
        let counts = h.1.1.1.0 in
        let bound : q.count < 2 ^ 32 = subst (λ x. x < 2 ^ 32) counts fits.bound in
        ⊎_elim
        (λ z.
        rw z.0
        (released_sound (at_ IsWorn 0) (record { count = q.count; state = Worn }) ((s.seat c).hand) (kinds_apart _ _ c 0 (λ x. absurd (cc x))) (no_seat_location c (at_ IsWorn 0) (λ x. x)) (λ x. x) (λ x. tt)
        (record { state = refl; bound = bound; tagging = refl }) (λ k is ne e. worn_no_seat k is (ap (λ x. x.kind) e))
        (content_else (p ∷ []) a (at_ IsWorn 0) m.content _ (kinds_apart _ _ c c (λ x. absurd (cc x))) (kinds_apart _ _ c 0 (λ x. absurd (cc x))) ∙ mine.hand)))
        (λ z.
        let ne = z.1 in
        rw z.0
        (released_sound (at_ InHand c) (record { count = q.count + 1; state = Free }) (p ∷ (s.seat c).hand) (kinds_apart _ _ c c (λ x. absurd (cc x))) (own_location c InHand) (λ x. x) (λ x. tt)
        (record { state = refl; bound = omega arith; tagging = refl }) (λ k is other e. other (ap (λ x. x.kind) e))
        (content_to (p ∷ []) a (at_ InHand c) m.content (kinds_apart _ _ c c (λ x. absurd (cc x))) ∙ ap (λ l. p ∷ l) mine.hand)))
        (eqb_tells q.count last_count)
      where
        worn_no_seat : (k : Kind) → IsSeatKind k → k ≡ IsWorn → ⊥
        worn_no_seat k is e = subst IsSeatKind e is

  -- a seat that has collected everything leaves the global election
  leaves_collecting : (s.seat c).phase ≡ Advanced → IsDone s.shape.locales (s.seat c).reclaim
      → IsSound (record s { words = record s.words { election = 0 }; seat = with_number s.seat c (record (s.seat c) { phase = LeftGlobal }) }) m
  unfolding timing_at phased_at first_of
  leaves_collecting at done =
      let seat = s.seat c in
      let new : Seat = record seat { phase = LeftGlobal } in
      let was = of_phase Advanced at in
      let between = done.between in
      let mine = sound.lists c in
      let spread : timing seat ≡ HasAdvanced seat.token seat.reclaim.epoch s.shape.locales = time_of Advanced at ∙ ap (λ n. HasAdvanced seat.token seat.reclaim.epoch n) between.spread in
      let no_walked : seat.reclaim.walked ≡ [] = between.walked in
      let no_rest : (phased seat).rest ≡ 0 = sym (ap (λ x. x.rest) was) ∙ between.chain in
      let empty : m.content (at_ InRest c) ≡ [] =
      path_none m.link (m.content (at_ InRest c)) (subst (λ x. IsPath m.link x (m.content (at_ InRest c))) (ap led_to no_rest ∙ led_to_none) (sound.paths (at_ InRest c) refl)) in
      record {
        timed = subst (IsTimed s.shape.locales s.shape.tokens (record (clock s) { election = 0 })) (sym (part_with timing s.seat c new))
            (leaves_done s.shape.locales s.shape.tokens (clock s) (λ d. timing (s.seat d)) sound.timed c seat.token seat.reclaim.epoch spread);
        listed = sound.listed;
        lists = subst (AreLists m.content) (sym (part_kept lists s.seat c new (λ i. record { hand = seat.hand; owned = seat.owned; walked = seat.reclaim.walked; to_swap = (was i).to_swap }))) sound.lists;
        fit = sound.fit;
        paths = paths_rest s.seat c new s.shape.locales (firsts_of s.words s.seat) m.link _ refl (sym no_rest) sound.paths;
        linked = subst (λ f. IsLinked m.loc m.link s.words.next f (λ d. (phased (with_number s.seat c new d)).list_wait) s.words.home_head)
            (sym (part_kept home_wait s.seat c new refl))
            (subst (λ f. IsLinked m.loc m.link s.words.next (λ d. home_wait (s.seat d)) f s.words.home_head)
            (sym (part_kept (λ x. (phased x).list_wait) s.seat c new (ap (λ x. x.list_wait) was))) sound.linked);
        aged = subst (λ f. AreAged s.shape s.words.epoch s.born s.tag m.loc f (λ d. (phased (with_number s.seat c new d)).deferring))
            (sym (part_with (λ x. (phased x).collecting) s.seat c new))
            (subst (λ f. AreAged s.shape s.words.epoch s.born s.tag m.loc (with_number (λ d. (phased (s.seat d)).collecting) c None) f)
            (sym (part_kept (λ x. (phased x).deferring) s.seat c new (ap (λ x. x.deferring) was)))
            (ends_collecting s.shape s.words.epoch s.born s.tag m.loc (λ d. (phased (s.seat d)).collecting) (λ d. (phased (s.seat d)).deferring) sound.aged c
            (sym (ap (λ x. x.collecting) was) ∙ ap Some done.collected) (λ d n e. alone_collects s m sound c d n (is_global at) e)
            (λ p d e k f g.
            let inside = (sound.aged.aged p d e).inside in
            ⊎_elim
            (λ k. among_nil p (subst (λ l. is_among p l ≡ true) empty ((sound.listed (at_ InRest c)).each p (λ t. record { kind = k t; first = f t; second = g t }) inside)))
            (λ k. among_nil p (subst (λ l. is_among p l ≡ true) (mine.walked ∙ no_walked) ((sound.listed (at_ IsWalked c)).each p (λ t. record { kind = k t; first = f t; second = g t }) inside)))
            k)));
        looks = subst (λ f. AreLooks s.shape.locales f s.words.free_head s.words.next) (sym (part_kept (λ x. x.stack) s.seat c new refl)) sound.looks;
      }

  -- the phases in which a seat may leave an election that it has won
  pub keeps_leave : AllMet ((leave s c).needs) → IsSound ((leave s c).outcome.next) m
  unfolding leave has_global timing_at phased_at
  keeps_leave h = go (s.seat c).phase refl h.1.0.0
    where
      quietly : (ph to : Phase) → (s.seat c).phase ≡ ph → phased_at to (s.seat c).deferral (s.seat c).token (s.seat c).reclaim ≡ phased_at ph (s.seat c).deferral (s.seat c).token (s.seat c).reclaim
          → IsSameSeat (s.seat c) (record (s.seat c) { phase = to })
      quietly ph to at e = record { phased = e ∙ of_phase ph at; hand = refl; owned = refl; homing = refl; stack = refl; walked = refl }

      locally : (ph : Phase) → (s.seat c).phase ≡ ph → phased_at Registered (s.seat c).deferral (s.seat c).token (s.seat c).reclaim ≡ phased_at ph (s.seat c).deferral (s.seat c).token (s.seat c).reclaim
          → timing_at Registered (s.seat c).token (s.seat c).announced (s.seat c).reclaim ≡ timing_at ph (s.seat c).token (s.seat c).announced (s.seat c).reclaim
          → has_global ph ≡ false → IsSound ((leave s c).outcome.next) m
      locally ph at e f none =
          let new : Seat = record (s.seat c) { phase = Registered } in
          let same = quietly ph Registered at e in
          rw (ap has_global at ∙ none)
          (quiet s m sound c new same s.words.epoch_of (with_number s.words.election_of (s.seat c).token.locale 0) s.words.election s.words.token_word s.born
          (subst (IsTimed s.shape.locales s.shape.tokens (clock s)) (sym (part_kept timing s.seat c new (f ∙ sym (time_of ph at)))) sound.timed) sound.aged)

      go : (ph : Phase) → (s.seat c).phase ≡ ph → MayLeave s.shape.locales (s.seat c).phase (s.seat c).reclaim → IsSound ((leave s c).outcome.next) m
      go LostGlobal at may = locally LostGlobal at refl refl refl
      go LeftGlobal at may = locally LeftGlobal at refl refl refl
      go Stopped at may =
          let new : Seat = record (s.seat c) { phase = LeftGlobal } in
          let same = quietly Stopped LeftGlobal at refl in
          rw (ap has_global at)
          (quiet s m sound c new same s.words.epoch_of s.words.election_of 0 s.words.token_word s.born
          (retimed s m sound c new same _ (leaves s.shape.locales s.shape.tokens (clock s) (λ d. timing (s.seat d)) sound.timed c (s.seat c).token (time_of Stopped at))) sound.aged)
      go Advanced at may = rw (ap has_global at) (leaves_collecting at (subst (λ ph. MayLeave s.shape.locales ph (s.seat c).reclaim) at may))
      go Idle at may = absurd (subst (λ ph. MayLeave s.shape.locales ph (s.seat c).reclaim) at may)
      go Registered at may = absurd (subst (λ ph. MayLeave s.shape.locales ph (s.seat c).reclaim) at may)
      go PinLooked at may = absurd (subst (λ ph. MayLeave s.shape.locales ph (s.seat c).reclaim) at may)
      go Pinned at may = absurd (subst (λ ph. MayLeave s.shape.locales ph (s.seat c).reclaim) at may)
      go DeferLooked at may = absurd (subst (λ ph. MayLeave s.shape.locales ph (s.seat c).reclaim) at may)
      go DeferSwapped at may = absurd (subst (λ ph. MayLeave s.shape.locales ph (s.seat c).reclaim) at may)
      go WonLocal at may = absurd (subst (λ ph. MayLeave s.shape.locales ph (s.seat c).reclaim) at may)
      go WonGlobal at may = absurd (subst (λ ph. MayLeave s.shape.locales ph (s.seat c).reclaim) at may)
      go Scanning at may = absurd (subst (λ ph. MayLeave s.shape.locales ph (s.seat c).reclaim) at may)
