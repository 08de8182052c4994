-- The events of every run are legal, and its releases exact.
use Rattle.std.proofs.Common.{◌≡◌, ◌≢◌, ◌==◌, ◌^◌, ℕ, ◌+◌, ◌<◌, ◌≤◌, true, false, List, [], ◌∷◌, ◌++◌, Option, Some, refl, ap, sym, ◌∙◌, subst, ⊎_elim, arith, append-nil, append_assoc}
use Rattle.std.proofs.lemmas.Bool.Decides.{eqb_tells}
use Rattle.pgas_base.specs.declared.shapes.Shape.{Shape}
use Rattle.pgas_base.specs.declared.starts.Start.{Start}
use Rattle.pgas_base.specs.Shapes.{IsShape}
use Rattle.pgas_base.specs.Pointers.{Pointer}
use Rattle.epoch_laws.specs.declared.steps.Kind.{Kind}
use Rattle.epoch_laws.specs.declared.steps.Step.{Step}
use Rattle.epoch_laws.specs.declared.steps.Kind.TheVariants.{Register, Unregister, PinLook, PinSet, Unpin, TakeLook, TakeTry, Show, Hold, Touch, Return, DeferLook, DeferSwap, DeferLink, ElectLocal, ElectGlobal, EpochLook, ScanToken, Advance as AdvanceStep, Spread, Collect, Walk, Release, Leave as LeaveStep, StackLook, StackNext, StackPop, StackPut, HandLink, HomeSwap, HomeLink, HomeTake, HomeWalk}
use Rattle.epoch_laws.specs.declared.events.Item.{Item}
use Rattle.epoch_laws.specs.declared.events.Item.TheVariants.{Event, Advance, Claim, Leave}
use Rattle.epoch_laws.specs.Places.{Place, place_of, place_in, pending, is_among}
use Rattle.epoch_laws.specs.Seats.{Phase, Idle, Registered, PinLooked, Pinned, DeferLooked, DeferSwapped, WonLocal, LostGlobal, WonGlobal, Scanning, Stopped, Advanced, LeftGlobal, Seat}
use Rattle.epoch_laws.specs.States.{State, opening, opening_words}
use Rattle.epoch_laws.specs.Needs.{AllMet, Outcome}
use Rattle.epoch_laws.specs.TakeSteps.{take_try, show, give_back, is_free_with, look_count}
use Rattle.epoch_laws.specs.HoldSteps.{touch}
use Rattle.epoch_laws.specs.StackSteps.{stack_pop, stack_put, same_head}
use Rattle.epoch_laws.specs.HomeSteps.{home_swap, home_walk}
use Rattle.epoch_laws.specs.Steps.{move}
use Rattle.epoch_laws.specs.Runs.{AreAllowed, state_after, outcome, items_of, IsRun}
use Rattle.epoch_laws.specs.Histories.{Happening, IsDeferredAt, Standing, registrant, pinner, progress, standing, Continues}
use Rattle.epoch_laws.specs.Items.{happenings, epoch_of, last_advancer, claimant, releaser, AllReleased, ReleasesFrom}
use Rattle.epoch_laws.specs.Laws.{EventsAreLegal, ReleaseIsExact, IsReached, StatesAreSound}
use Rattle.epoch_laws.proofs.Lists.{truth}
use Rattle.epoch_laws.proofs.Timing.{timing, timing_at, token_at, pinned_at, global_at}
use Rattle.epoch_laws.proofs.Locations.{Kind as LocationKind, InStack, InHome, InTaken, InHand, IsOwned, IsLive, InDeferral, InList, InRest, IsWalked, IsWorn, at_}
use Rattle.epoch_laws.proofs.Sound.{phased, phased_at, HasTag, is_tagged, Map, IsSound}
use Rattle.epoch_laws.proofs.Moves.{moved_map}
use Rattle.epoch_laws.proofs.Ages.{IsAge}
use Rattle.epoch_laws.proofs.Elections.{IsElected, move_elected, opening_elected}
use Rattle.epoch_laws.proofs.Holds.{AreHeld, move_held, opening_held}
use Rattle.epoch_laws.proofs.KeepsTokens.{keeps_register, keeps_unregister, keeps_pin_look, keeps_pin_set, keeps_unpin, keeps_take_look, keeps_hold, keeps_elect_local, keeps_elect_global, keeps_epoch_look, keeps_scan_token, keeps_spread}
use Rattle.epoch_laws.proofs.KeepsTakes.{keeps_take_try, keeps_show, keeps_give_back}
use Rattle.epoch_laws.proofs.KeepsDeferrals.{keeps_defer_look, swap_map, keeps_defer_swap, keeps_defer_link}
use Rattle.epoch_laws.proofs.KeepsReclaims.{keeps_advance, collect_map, keeps_collect, walk_map, keeps_walk, release_map, keeps_release, keeps_leave}
use Rattle.epoch_laws.proofs.KeepsStacks.{put_loc, keeps_stack_look, keeps_stack_next, keeps_no_look, pop_map, keeps_stack_pop, put_map, keeps_stack_put, keeps_hand_link}
use Rattle.epoch_laws.proofs.KeepsHomes.{swap_loc, keeps_home_link, take_map, keeps_home_take, home_walk_map, keeps_home_walk, home_swap_map, keeps_home_swap}
use Rattle.epoch_laws.proofs.Owners.{AreOwned, move_owned, opening_owned}
use Rattle.epoch_laws.proofs.Accounts.{account, account_of, account_more, opening_accounts}
use Rattle.epoch_laws.proofs.Counts.{HasCounts}
use Rattle.epoch_laws.proofs.KeepsCounts.{counts_take_try, counts_take_lost, counts_show, counts_give_back, counts_stack_pop, counts_pop_lost, counts_stack_put, counts_put_lost, counts_home_swap, counts_home_waits, counts_home_walk, counts_register, counts_unregister, counts_pin_look, counts_pin_set, counts_unpin, counts_take_look, counts_hold, counts_touch, counts_defer_look, counts_defer_swap, counts_defer_link, counts_elect_local, counts_elect_global, counts_epoch_look, counts_scan_token, counts_advance, counts_spread, counts_collect, counts_walk, counts_leave, counts_stack_look, counts_stack_next, counts_hand_link, counts_home_link, counts_home_take, opening_counts}
use Rattle.epoch_laws.proofs.ReleaseCounts.{counts_release}
use Rattle.epoch_laws.proofs.SoundRuns.{shape_kept}
use Rattle.epoch_laws.proofs.Opening.{opening_loc, opening_map, opening_sound}
use Rattle.epoch_laws.proofs.Told.{Class, Frees, Lives, Defers, Wears, Owns, class_at, class_of, is_advanced, View, Stands, IsTold, happenings-append}
use Rattle.epoch_laws.proofs.TellsTokens.{view_of, EventLaw, Tells, tell_register, tell_unregister, tell_pin_look, tell_pin_set, tell_unpin, tell_take_look, tell_touch, tell_elect_local, tell_elect_global, tell_epoch_look, tell_scan_token, tell_spread, tell_advance, tell_leave}
use Rattle.epoch_laws.proofs.TellsObjects.{tell_take_try, tell_take_lost, tell_show, tell_give_back, tell_hold, tell_defer_look, tell_defer_swap, tell_defer_link, tell_collect, tell_walk, tell_release, tell_stack_look, tell_stack_next, tell_stack_pop, tell_pop_lost, tell_stack_put, tell_put_lost, tell_hand_link, tell_home_swap, tell_home_link, tell_home_take, tell_home_walk, tell_home_waits}

-- the state that an outcome leaves is sound by some map, the items tell of it, and its words that lead to objects have their counts
abbrev pub Holds : ℕ → ℕ → List Item → Outcome → Type 0
Holds first count items x = (m : Map) × IsSound x.next m × Tells first count items x m.loc × HasCounts x.next m.loc

keeps_lost_try : (s : State) (m : Map) → IsSound s m → (c : ℕ) (p : Place) → is_free_with (s.words.header p) (look_count (s.seat c).free_look) ≡ false → IsSound ((take_try s c p).outcome.next) m
unfolding take_try
keeps_lost_try s m sound c p e = rw e sound

keeps_touch : (s : State) (m : Map) → IsSound s m → (c : ℕ) (q : Pointer) → IsSound ((touch s c q).outcome.next) m
unfolding touch
keeps_touch s m sound c q = sound

show_needs : (s : State) (c : ℕ) (q : Pointer) → AllMet ((show s c q).needs) → (is_among (place_of q) ((s.seat c).owned) ≡ true) × ((s.words.header (place_of q)).count ≡ q.count)
unfolding show
show_needs s c q h = (h.1.1.1.1.0, h.1.1.1.0)

give_back_needs : (s : State) (c : ℕ) (q : Pointer) → AllMet ((give_back s c q).needs) → (is_among (place_of q) ((s.seat c).owned) ≡ true) × ((s.words.header (place_of q)).count ≡ q.count)
unfolding give_back
give_back_needs s c q h = (h.1.1.1.1.0, h.1.1.1.0)

keeps_lost_pop : (s : State) (m : Map) → IsSound s m → (c : ℕ) → same_head (s.words.free_head (s.seat c).stack.locale) (s.seat c).stack.head ≡ false → IsSound ((stack_pop s c).outcome.next) m
unfolding stack_pop
keeps_lost_pop s m sound c e = rw e (keeps_no_look s m sound c)

keeps_lost_put : (s : State) (m : Map) → IsSound s m → (c : ℕ) (top tail : Pointer) → same_head (s.words.free_head (s.seat c).stack.locale) (s.seat c).stack.head ≡ false
    → IsSound ((stack_put s c top tail).outcome.next) m
unfolding stack_put
keeps_lost_put s m sound c top tail e = rw e (keeps_no_look s m sound c)

keeps_waiting_walk : (s : State) (m : Map) → IsSound s m → (c : ℕ) → (s.words.next (place_in ((s.seat c).homing.chain)) == pending) ≡ true → IsSound ((home_walk s c).outcome.next) m
unfolding home_walk
keeps_waiting_walk s m sound c e = rw e sound

keeps_stored_walk : (s : State) (m : Map) (sound : IsSound s m) (is : IsShape s.shape) (c : ℕ) → AllMet ((home_walk s c).needs) → (s.words.next (place_in ((s.seat c).homing.chain)) == pending) ≡ false
    → s.words.next (place_in ((s.seat c).homing.chain)) ≢ pending → IsSound ((home_walk s c).outcome.next) (home_walk_map s m sound is c)
unfolding home_walk
keeps_stored_walk s m sound is c h e ne = rw e (keeps_home_walk s m sound is c h ne)

module _ (first count : ℕ) (items : List Item) (s : State) (m : Map) (sound : IsSound s m) (told : IsTold first count (view_of s m.loc) items) (current : HasCounts s m.loc) (is_shape : IsShape s.shape) (c : ℕ) where
  take_try_holds : (p : Place) → AllMet ((take_try s c p).needs) → Holds first count items ((take_try s c p).outcome)
  take_try_holds p h =
      ⊎_elim
      (λ e. (moved_map m (p ∷ []) (at_ InHand c) (at_ IsOwned c), keeps_take_try s m sound c p h e, tell_take_try first count items s m sound told c p h e, counts_take_try s m sound current c p e))
      (λ e. (m, keeps_lost_try s m sound c p e, tell_take_lost first count items s m sound told c p e, counts_take_lost s m sound current c p e))
      (truth (is_free_with (s.words.header p) (look_count (s.seat c).free_look)))

  show_holds : (q : Pointer) → AllMet ((show s c q).needs) → Holds first count items ((show s c q).outcome)
  show_holds q h =
      let n = show_needs s c q h in
      (moved_map m (place_of q ∷ []) (at_ IsOwned c) (at_ IsLive 0), keeps_show s m sound c q n.0 n.1, tell_show first count items s m sound told c q h, counts_show s m sound current c q h)

  give_back_holds : (q : Pointer) → AllMet ((give_back s c q).needs) → Holds first count items ((give_back s c q).outcome)
  give_back_holds q h =
      let n = give_back_needs s c q h in
      (moved_map m (place_of q ∷ []) (at_ IsOwned c) (at_ InHand c), keeps_give_back s m sound c q n.0 n.1, tell_give_back first count items s m sound told c q h, counts_give_back s m sound current c q h)

  stack_pop_holds : AllMet ((stack_pop s c).needs) → Holds first count items ((stack_pop s c).outcome)
  stack_pop_holds h =
      ⊎_elim
      (λ e. (pop_map s m sound c, keeps_stack_pop s m sound c h e, tell_stack_pop first count items s m sound told c h e, counts_stack_pop s m sound current c e))
      (λ e. (m, keeps_lost_pop s m sound c e, tell_pop_lost first count items s m sound told c e, counts_pop_lost s m sound current c e))
      (truth (same_head (s.words.free_head (s.seat c).stack.locale) (s.seat c).stack.head))

  stack_put_holds : (top tail : Pointer) → AllMet ((stack_put s c top tail).needs) → Holds first count items ((stack_put s c top tail).outcome)
  stack_put_holds top tail h =
      ⊎_elim
      (λ e. (put_map s m sound c top tail, keeps_stack_put s m sound c top tail h e, put_told top tail h e, put_loc s m sound c top tail (λ l. HasCounts ((stack_put s c top tail).outcome.next) l) (counts_stack_put s m sound current c top tail e)))
      (λ e. (m, keeps_lost_put s m sound c top tail e, tell_put_lost first count items s m sound told c top tail e, counts_put_lost s m sound current c top tail e))
      (truth (same_head (s.words.free_head (s.seat c).stack.locale) (s.seat c).stack.head))
    where
      put_told : (top tail : Pointer) → AllMet ((stack_put s c top tail).needs) → same_head (s.words.free_head (s.seat c).stack.locale) (s.seat c).stack.head ≡ true
          → Tells first count items ((stack_put s c top tail).outcome) (put_map s m sound c top tail).loc
      put_told top tail h e = put_loc s m sound c top tail (λ l. Tells first count items ((stack_put s c top tail).outcome) l) (tell_stack_put first count items s m sound told c top tail h e)

  home_swap_holds : (top tail : Pointer) → AllMet ((home_swap s c top tail).needs) → Holds first count items ((home_swap s c top tail).outcome)
  home_swap_holds top tail h = (
    home_swap_map s m sound is_shape c top tail,
    keeps_home_swap s m sound is_shape c top tail h,
    swap_loc s m sound is_shape c top tail (λ l. Tells first count items ((home_swap s c top tail).outcome) l) (tell_home_swap first count items s m sound told c is_shape top tail h),
    swap_loc s m sound is_shape c top tail (λ l. HasCounts ((home_swap s c top tail).outcome.next) l) (counts_home_swap s m sound current c top tail is_shape h),
  )

  home_walk_holds : AllMet ((home_walk s c).needs) → Holds first count items ((home_walk s c).outcome)
  home_walk_holds h =
      ⊎_elim
      (λ e. (m, keeps_waiting_walk s m sound c e.0, tell_home_waits first count items s m sound told c e.0, counts_home_waits s m sound current c e.0))
      (λ e. (home_walk_map s m sound is_shape c, keeps_stored_walk s m sound is_shape c h e.0 e.1, tell_home_walk first count items s m sound told c is_shape h e.0, counts_home_walk s m sound current c is_shape h e.0 e.1))
      (eqb_tells (s.words.next (place_in ((s.seat c).homing.chain))) pending)

  -- each kind of step
  pub move_holds : (k : Kind) → AllMet ((move s c k).needs) → Holds first count items ((move s c k).outcome)
  unfolding move
  move_holds (Register l n) h = (m, keeps_register s m sound c _ h, tell_register first count items s m sound told c _ h, counts_register s m sound current c l n h)
  move_holds Unregister h = (m, keeps_unregister s m sound c h, tell_unregister first count items s m sound told c h, counts_unregister s m sound current c h)
  move_holds PinLook h = (m, keeps_pin_look s m sound c h, tell_pin_look first count items s m sound told c h, counts_pin_look s m sound current c h)
  move_holds PinSet h = (m, keeps_pin_set s m sound c h, tell_pin_set first count items s m sound told c h, counts_pin_set s m sound current c h)
  move_holds Unpin h = (m, keeps_unpin s m sound c h, tell_unpin first count items s m sound told c h, counts_unpin s m sound current c h)
  move_holds (TakeLook l i) h = (m, keeps_take_look s m sound c _, tell_take_look first count items s m sound told c _, counts_take_look s m sound current c _)
  move_holds (TakeTry l i) h = take_try_holds _ h
  move_holds (Show q) h = show_holds q h
  move_holds (Hold q) h = (m, keeps_hold s m sound c q, tell_hold first count items s m sound told c q h, counts_hold s m sound current c q)
  move_holds (Touch q) h = (m, keeps_touch s m sound c q, tell_touch first count items s m sound told c q, counts_touch s m sound current c q)
  move_holds (Return q) h = give_back_holds q h
  move_holds (DeferLook q) h =
      (moved_map m (place_of q ∷ []) (m.loc (place_of q)) (at_ InDeferral c), keeps_defer_look s m sound is_shape c q h, tell_defer_look first count items s m sound told c q h, counts_defer_look s m sound current c q h)
  move_holds DeferSwap h = (swap_map s m sound is_shape c, keeps_defer_swap s m sound is_shape c h, tell_defer_swap first count items s m sound told c h, counts_defer_swap s m sound current c h)
  move_holds DeferLink h = (m, keeps_defer_link s m sound is_shape c h, tell_defer_link first count items s m sound told c h, counts_defer_link s m sound current c h)
  move_holds ElectLocal h = (m, keeps_elect_local s m sound c h, tell_elect_local first count items s m sound told c h, counts_elect_local s m sound current c h)
  move_holds ElectGlobal h = (m, keeps_elect_global s m sound c h, tell_elect_global first count items s m sound told c h, counts_elect_global s m sound current c h)
  move_holds EpochLook h = (m, keeps_epoch_look s m sound c h, tell_epoch_look first count items s m sound told c h, counts_epoch_look s m sound current c h)
  move_holds ScanToken h = (m, keeps_scan_token s m sound c h, tell_scan_token first count items s m sound told c h, counts_scan_token s m sound current c h)
  move_holds AdvanceStep h = (m, keeps_advance s m sound c h, tell_advance first count items s m sound told c h, counts_advance s m sound current c h)
  move_holds Spread h = (m, keeps_spread s m sound c h, tell_spread first count items s m sound told c h, counts_spread s m sound current c h)
  move_holds Collect h = (collect_map s m sound c, keeps_collect s m sound c h, tell_collect first count items s m sound told c h, counts_collect s m sound current c h)
  move_holds Walk h = (walk_map s m sound c, keeps_walk s m sound c h, tell_walk first count items s m sound told c h, counts_walk s m sound current c h)
  move_holds (Release q) h = (release_map s m sound c q, keeps_release s m sound c q h, tell_release first count items s m sound told c q h, counts_release s m sound current is_shape c q h)
  move_holds LeaveStep h = (m, keeps_leave s m sound c h, tell_leave first count items s m sound told c h, counts_leave s m sound current c h)
  move_holds (StackLook l) h = (m, keeps_stack_look s m sound c l h, tell_stack_look first count items s m sound told c l, counts_stack_look s m sound current c l)
  move_holds StackNext h = (m, keeps_stack_next s m sound c h, tell_stack_next first count items s m sound told c, counts_stack_next s m sound current c)
  move_holds StackPop h = stack_pop_holds h
  move_holds (StackPut top tail) h = stack_put_holds top tail h
  move_holds (HandLink q word) h = (m, keeps_hand_link s m sound c q word h, tell_hand_link first count items s m sound told c q word, counts_hand_link s m sound current c q word h)
  move_holds (HomeSwap top tail) h = home_swap_holds top tail h
  move_holds HomeLink h = (m, keeps_home_link s m sound is_shape c h, tell_home_link first count items s m sound told c, counts_home_link s m sound current c h)
  move_holds (HomeTake l) h = (take_map s m sound is_shape c l, keeps_home_take s m sound is_shape c l h, tell_home_take first count items s m sound told c l, counts_home_take s m sound current c l h)
  move_holds HomeWalk h = home_walk_holds h

-- a seat that collects has advanced
collecting_advanced : (seat : Seat) (n : ℕ) → (phased seat).collecting ≡ Some n → is_advanced (timing seat) ≡ true
unfolding phased_at timing_at is_advanced
collecting_advanced seat n = go seat.phase
  where
    go : (ph : Phase) → (phased_at ph seat.deferral seat.token seat.reclaim).collecting ≡ Some n → is_advanced (timing_at ph seat.token seat.announced seat.reclaim) ≡ true
    go Advanced e = refl
    go DeferLooked e = absurd (cc e)
    go DeferSwapped e = absurd (cc e)
    go Idle e = absurd (cc e)
    go Registered e = absurd (cc e)
    go PinLooked e = absurd (cc e)
    go Pinned e = absurd (cc e)
    go WonLocal e = absurd (cc e)
    go LostGlobal e = absurd (cc e)
    go WonGlobal e = absurd (cc e)
    go Scanning e = absurd (cc e)
    go Stopped e = absurd (cc e)
    go LeftGlobal e = absurd (cc e)

-- an object that was deferred and not freed is at a location of such objects
deferred_class : (v : View) (hs : List Happening) (k : Class) (n : ℕ) (tag : Option ℕ) (st : Standing) (i c : ℕ) → Stands v hs k n tag st → st ≡ record { condition = IsDeferredAt i; count = c } → k ≡ Defers
deferred_class v hs Defers n tag st i c h e = refl
deferred_class v hs Frees n tag st i c h e = absurd (cc (ap (λ x. x.condition) (sym h ∙ e)))
deferred_class v hs Lives n tag st i c h e = absurd (cc (ap (λ x. x.condition) (sym h ∙ e)))
deferred_class v hs Wears n tag st i c h e = absurd (cc (ap (λ x. x.condition) (sym h ∙ e)))
deferred_class v hs (Owns o) n tag st i c h e = absurd (cc (ap (λ x. x.condition) (sym h ∙ e)))

tagged_class : (k : LocationKind) (i : ℕ) → class_at k i ≡ Defers → is_tagged k ≡ true
unfolding class_at
tagged_class InDeferral i e = refl
tagged_class InList i e = refl
tagged_class InRest i e = refl
tagged_class IsWalked i e = refl
tagged_class InStack i e = absurd (cc e)
tagged_class InHome i e = absurd (cc e)
tagged_class InTaken i e = absurd (cc e)
tagged_class InHand i e = absurd (cc e)
tagged_class IsOwned i e = absurd (cc e)
tagged_class IsLive i e = absurd (cc e)
tagged_class IsWorn i e = absurd (cc e)

-- where no seat collects, an object that is deferred has a tag of at most two below the epoch
late_tag : (locales epoch : ℕ) (collecting : ℕ → Option ℕ) → ((c n : ℕ) → collecting c ≡ Some n → ⊥) → (k : LocationKind) (i j d : ℕ) → is_tagged k ≡ true
    → IsAge locales epoch collecting k i j d → epoch ≤ d + 2
late_tag locales epoch collecting nobody InDeferral i j d t h = h.1
late_tag locales epoch collecting nobody InList i j d t h = ⊎_elim (λ x. x) (λ x. let w = x.1 in absurd (nobody w.0 w.1 w.2)) h.2
late_tag locales epoch collecting nobody InRest i j d t h = let w = h.2 in absurd (nobody i w.0 w.1)
late_tag locales epoch collecting nobody IsWalked i j d t h = let w = h.2 in absurd (nobody i w.0 w.1)
late_tag locales epoch collecting nobody InStack i j d t h = absurd (cc t)
late_tag locales epoch collecting nobody InHome i j d t h = absurd (cc t)
late_tag locales epoch collecting nobody InTaken i j d t h = absurd (cc t)
late_tag locales epoch collecting nobody InHand i j d t h = absurd (cc t)
late_tag locales epoch collecting nobody IsOwned i j d t h = absurd (cc t)
late_tag locales epoch collecting nobody IsLive i j d t h = absurd (cc t)
late_tag locales epoch collecting nobody IsWorn i j d t h = absurd (cc t)

all_released : (first count : ℕ) (items : List Item) (s : State) (m : Map) → IsSound s m → IsTold first count (view_of s m.loc) items → AllReleased first count items
all_released first count items s m sound told none p i n e =
    let ob = told.objects in
    let ep = told.epochs in
    let defers = deferred_class (view_of s m.loc) (happenings items) (class_of (m.loc p)) ((s.words.header p).count) (s.tag p) (standing count p (happenings items)) i n (ob.stands p) e in
    let tagged = tagged_class (m.loc p).kind (m.loc p).first defers in
    let fits = sound.fit p in
    let tag : (d : ℕ) × (s.tag p ≡ Some d) = subst (λ b. HasTag b (s.tag p)) tagged fits.tagging in
    let late = late_tag s.shape.locales s.words.epoch (λ d. (phased (s.seat d)).collecting)
    (λ c k h. absurd (cc (none, (ep.releases c (collecting_advanced (s.seat c) k h)).0))) (m.loc p).kind (m.loc p).first (m.loc p).second tag.0 tagged (sound.aged.aged p tag.0 tag.1).age in
    let last = told.tags p tag.0 tag.1 in
    let risen = ep.risen in
    omega arith

-- one more item and the events that follow it
event_continues : (count : ℕ) (items rest : List Item) (i : Item) → EventLaw count items i → Continues count (happenings (items ++ i ∷ [])) (happenings rest) → Continues count (happenings items) (happenings (i ∷ rest))
unfolding happenings
event_continues count items rest (Event c e tag) law h = (law, subst (λ l. Continues count l (happenings rest)) (happenings-append items (Event c e tag ∷ [])) h)
event_continues count items rest (Advance c e) law h = subst (λ l. Continues count l (happenings rest)) (happenings-append items (Advance c e ∷ []) ∙ append-nil (happenings items)) h
event_continues count items rest (Claim c g) law h = subst (λ l. Continues count l (happenings rest)) (happenings-append items (Claim c g ∷ []) ∙ append-nil (happenings items)) h
event_continues count items rest (Leave c g) law h = subst (λ l. Continues count l (happenings rest)) (happenings-append items (Leave c g ∷ []) ∙ append-nil (happenings items)) h

-- the items that steps list after others meet their needs
abbrev IsLawful : ℕ → ℕ → List Item → List Item → Type 0
IsLawful first count before items = ReleasesFrom first count before items × Continues count (happenings before) (happenings items)

lawful : (first count : ℕ) (steps : List Step) (items : List Item) (s : State) (m : Map) → IsSound s m → IsTold first count (view_of s m.loc) items → HasCounts s m.loc → IsShape s.shape → AreAllowed s steps
    → IsLawful first count items (items_of s steps)
unfolding happenings
lawful first count [] items s m sound told current is h = (all_released first count items s m sound told, tt)
lawful first count (step ∷ steps) items s m sound told current is h =
    let x = outcome s step in
    let r = move_holds first count items s m sound told current is step.seat step.kind h.0 in
    let is' : IsShape x.next.shape = subst IsShape (sym (shape_kept s step.seat step.kind)) is in
    ⊎_elim
    (λ t. subst (λ l. IsLawful first count items (l ++ items_of x.next steps)) (sym t.0) (lawful first count steps items x.next r.0 r.1 t.1 r.3 is' h.1))
    (λ t.
    let rest = lawful first count steps (items ++ t.0 ∷ []) x.next r.0 r.1 t.4 r.3 is' h.1 in
    subst (λ l. IsLawful first count items (l ++ items_of x.next steps)) (sym t.1)
    ((all_released first count items s m sound told, t.2, rest.0), event_continues count items (items_of x.next steps) t.0 t.3 rest.1))
    r.2

-- before any step nothing is told
opening_told : (shape : Shape) (start : Start) (seats : ℕ) (is : IsShape shape) (counts : start.count < 2 ^ 32)
    → IsTold start.epoch start.count (view_of (opening shape start seats) (λ p. at_ InStack p.locale)) []
unfolding opening opening_words registrant pinner progress standing happenings epoch_of claimant releaser last_advancer timing_at token_at pinned_at global_at is_advanced class_at
opening_told shape start seats is counts = record {
  tokens = record {
    registered = λ t c e. absurd (cc e);
    has = λ c t e. absurd (cc e);
    pinned = λ t c e. absurd (cc e);
    pins = λ c t e. absurd (cc e);
  };
  objects = record { stands = λ p. refl; position = λ p. refl };
  epochs = record {
    risen = refl;
    claimed = λ c e. absurd (cc e);
    claims = λ c e. absurd (cc e);
    released = λ c e. absurd (cc e);
    releases = λ c e. absurd (cc e);
  };
  tags = λ p d e. absurd (cc e);
}

run_lawful : (shape : Shape) (start : Start) (seats : ℕ) (steps : List Step) → IsShape shape → start.count < 2 ^ 32 → IsRun shape start seats steps
    → IsLawful start.epoch start.count [] (items_of (opening shape start seats) steps)
unfolding opening
run_lawful shape start seats steps is counts run =
    lawful start.epoch start.count steps [] (opening shape start seats) (opening_map shape start seats is counts) (opening_sound shape start seats is counts)
    (opening_loc shape start seats is counts (λ l. IsTold start.epoch start.count (view_of (opening shape start seats) l) []) (opening_told shape start seats is counts))
    (opening_loc shape start seats is counts (λ l. HasCounts (opening shape start seats) l) (opening_counts shape start seats))
    (opened shape start seats is) run
  where
    opened : (shape : Shape) (start : Start) (seats : ℕ) → IsShape shape → IsShape ((opening shape start seats).shape)
    opened shape start seats is = is

pub events_are_legal : EventsAreLegal
unfolding happenings
events_are_legal shape start seats steps is counts run = (run_lawful shape start seats steps is counts run).1

pub release_is_exact : ReleaseIsExact
release_is_exact shape start seats steps is counts run = (run_lawful shape start seats steps is counts run).0

-- steps behind others leave a state of which the same holds
steps_told : (first count : ℕ) (steps : List Step) (items : List Item) (s : State) (m : Map) → IsSound s m → IsElected s → AreHeld s → AreOwned s → account count items ≡ account_of s → HasCounts s m.loc → IsTold first count (view_of s m.loc) items → IsShape s.shape → AreAllowed s steps
    → IsReached first count (state_after s steps) (items ++ items_of s steps)
steps_told first count [] items s m sound elected held owned said current told is h =
    record { map = m; sound = sound; elected = elected; held = held; owned = owned; said = ap (account count) (append-nil items) ∙ said; current = current; told = subst (IsTold first count (view_of s m.loc)) (sym (append-nil items)) told }
steps_told first count (step ∷ steps) items s m sound elected held owned said current told is h =
    let x = outcome s step in
    let r = move_holds first count items s m sound told current is step.seat step.kind h.0 in
    let is' : IsShape x.next.shape = subst IsShape (sym (shape_kept s step.seat step.kind)) is in
    let e = move_elected s elected step.seat step.kind h.0 in
    let d = move_held s m sound held step.seat step.kind h.0 in
    let o = move_owned s owned step.seat step.kind h.0 in
    let a = account_more count items s step.seat step.kind said h.0 in
    ⊎_elim
    (λ t. subst (λ l. IsReached first count (state_after x.next steps) (items ++ (l ++ items_of x.next steps))) (sym t.0) (steps_told first count steps items x.next r.0 r.1 e d o (sym (ap (account count) (ap (λ l. items ++ l) t.0 ∙ append-nil items)) ∙ a) r.3 t.1 is' h.1))
    (λ t.
    subst (λ l. IsReached first count (state_after x.next steps) (items ++ (l ++ items_of x.next steps))) (sym t.1)
    (subst (IsReached first count (state_after x.next steps)) (append_assoc items (t.0 ∷ []) (items_of x.next steps)) (steps_told first count steps (items ++ t.0 ∷ []) x.next r.0 r.1 e d o (sym (ap (λ l. account count (items ++ l)) t.1) ∙ a) r.3 t.4 is' h.1)))
    r.2

pub states_are_sound : StatesAreSound
unfolding opening
states_are_sound shape start seats steps is counts run =
    let r = steps_told start.epoch start.count steps [] (opening shape start seats) (opening_map shape start seats is counts) (opening_sound shape start seats is counts) (opening_elected shape start seats) (opening_held shape start seats) (opening_owned shape start seats) (opening_accounts shape start seats)
    (opening_loc shape start seats is counts (λ l. HasCounts (opening shape start seats) l) (opening_counts shape start seats))
    (opening_loc shape start seats is counts (λ l. IsTold start.epoch start.count (view_of (opening shape start seats) l) []) (opening_told shape start seats is counts)) is run in
    r
