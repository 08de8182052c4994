-- A step of one seat leaves the words of what another seat has or holds.
use Rattle.std.proofs.Common.{◌≡◌, ◌≢◌, ◌⊎◌, ◌==◌, ℕ, ◌+◌, true, List, Some, refl, ap, sym, ◌∙◌, subst, inl, inr, ⊎_elim}
use Rattle.pool_core.specs.declared.headers.Header.{Header}
use Rattle.pool_core.specs.declared.headers.State.TheVariants.{Free, Shown, Worn}
use Rattle.epoch_laws.specs.declared.events.Item.{Item}
use Rattle.epoch_laws.specs.declared.steps.Kind.{Kind}
use Rattle.epoch_laws.specs.declared.steps.Step.{Step}
use Rattle.epoch_laws.specs.declared.steps.Kind.TheVariants.{Register, Unregister, PinLook, PinSet, Unpin, TakeLook, TakeTry, Show, Hold, Touch, Return, DeferLook, DeferSwap, DeferLink, ElectLocal, ElectGlobal, EpochLook, ScanToken, Advance, Spread, Collect, Walk, Release, Leave, StackLook, StackNext, StackPop, StackPut, HandLink, HomeSwap, HomeLink, HomeTake, HomeWalk}
use Rattle.epoch_laws.specs.Places.{Place, place_of, place_in, pending, is_among, with_place}
use Rattle.epoch_laws.specs.Seats.{DeferSwapped}
use Rattle.epoch_laws.specs.States.{State, opening}
use Rattle.epoch_laws.specs.Needs.{AllMet}
use Rattle.epoch_laws.specs.TokenSteps.{register, unregister, pin_look, pin_set, unpin}
use Rattle.epoch_laws.specs.TakeSteps.{take_look, take_try, show, give_back, is_free_with, look_count}
use Rattle.epoch_laws.specs.HoldSteps.{hold, touch}
use Rattle.epoch_laws.specs.DeferralSteps.{defer_look, defer_swap, defer_link}
use Rattle.epoch_laws.specs.ReclaimSteps.{elect_local, elect_global, epoch_look, scan_token, advance, spread, collect, walk, release, leave, has_global, last_count}
use Rattle.epoch_laws.specs.StackSteps.{stack_look, stack_next, stack_pop, stack_put, hand_link, same_head}
use Rattle.epoch_laws.specs.HomeSteps.{home_swap, home_link, home_take, home_walk, with_link}
use Rattle.epoch_laws.specs.Steps.{move}
use Rattle.epoch_laws.specs.Runs.{IsAllowed, outcome, state_after, items_of}
use Rattle.epoch_laws.specs.Laws.{IsReached, StepsLeaveOthers}
pub use Rattle.epoch_laws.specs.Frames.{HasAlone, LeavesOthers}
use Rattle.epoch_laws.proofs.Updates.{number_there, at_place}
use Rattle.epoch_laws.proofs.Lists.{truth}
use Rattle.epoch_laws.proofs.Locations.{Kind as LocationKind, InHand, IsOwned, InList, IsWalked, Location, at_}
use Rattle.epoch_laws.proofs.Links.{Wait, IsHomeKind}
use Rattle.epoch_laws.proofs.Sound.{phased, phased_at, home_wait, home_wait_at, Map, IsSound}
use Rattle.epoch_laws.proofs.Holds.{IsHeld, AreHeld, move_held, hand_not_shown, owned_not_shown}
use Rattle.epoch_laws.proofs.Theorem.{states_are_sound}

-- only this seat may have an object of such a location alone
abbrev pub IsAloneKind : LocationKind → Type 0
IsAloneKind InHand = Unit {0}
IsAloneKind IsOwned = Unit {0}
IsAloneKind IsWalked = Unit {0}
IsAloneKind _ = ⊥

abbrev pub OnlyOf : ℕ → Location → Type 0
OnlyOf c k = IsAloneKind k.kind → k.first ≡ c

home_not_alone : (k : LocationKind) → IsHomeKind k → IsAloneKind k → ⊥
home_not_alone k home alone = ⊎_elim (λ e. subst IsAloneKind e alone) (λ e. subst IsAloneKind e alone) home

list_not_alone : (k : LocationKind) → k ≡ InList → IsAloneKind k → ⊥
list_not_alone k e alone = subst IsAloneKind e alone

-- no other seat is changed
pub others_kept : (s : State) (c : ℕ) (k : Kind) (d : ℕ) → d ≢ c → (move s c k).outcome.next.seat d ≡ s.seat d
unfolding move register unregister pin_look pin_set unpin take_look take_try show give_back hold touch defer_look defer_swap defer_link elect_local elect_global epoch_look scan_token advance spread collect walk release leave stack_look stack_next stack_pop stack_put hand_link home_swap home_link home_take home_walk
others_kept s c (Register l n) d ne = ⊎_elim (λ z. rw z (number_there _ _ _ _ ne)) (λ z. rw z refl) (truth (s.words.token_word (record { locale = l; number = n }) == 0))
others_kept s c Unregister d ne = number_there _ _ _ _ ne
others_kept s c PinLook d ne = number_there _ _ _ _ ne
others_kept s c PinSet d ne = number_there _ _ _ _ ne
others_kept s c Unpin d ne = number_there _ _ _ _ ne
others_kept s c (TakeLook l i) d ne = number_there _ _ _ _ ne
others_kept s c (TakeTry l i) d ne = ⊎_elim (λ z. rw z (number_there _ _ _ _ ne)) (λ z. rw z refl) (truth (is_free_with (s.words.header (record { locale = l; index = i })) (look_count (s.seat c).free_look)))
others_kept s c (Show q) d ne = number_there _ _ _ _ ne
others_kept s c (Hold q) d ne = number_there _ _ _ _ ne
others_kept s c (Touch q) d ne = refl
others_kept s c (Return q) d ne = number_there _ _ _ _ ne
others_kept s c (DeferLook q) d ne = number_there _ _ _ _ ne
others_kept s c DeferSwap d ne = number_there _ _ _ _ ne
others_kept s c DeferLink d ne = number_there _ _ _ _ ne
others_kept s c ElectLocal d ne = ⊎_elim (λ z. rw z (number_there _ _ _ _ ne)) (λ z. rw z refl) (truth (s.words.election_of (s.seat c).token.locale == 0))
others_kept s c ElectGlobal d ne = ⊎_elim (λ z. rw z (number_there _ _ _ _ ne)) (λ z. rw z (number_there _ _ _ _ ne)) (truth (s.words.election == 0))
others_kept s c EpochLook d ne = number_there _ _ _ _ ne
others_kept s c ScanToken d ne = number_there _ _ _ _ ne
others_kept s c Advance d ne = number_there _ _ _ _ ne
others_kept s c Spread d ne = number_there _ _ _ _ ne
others_kept s c Collect d ne = number_there _ _ _ _ ne
others_kept s c Walk d ne = number_there _ _ _ _ ne
others_kept s c (Release q) d ne = ⊎_elim (λ z. rw z (number_there _ _ _ _ ne)) (λ z. rw z (number_there _ _ _ _ ne)) (truth (q.count == last_count))
others_kept s c Leave d ne = ⊎_elim (λ z. rw z (number_there _ _ _ _ ne)) (λ z. rw z (number_there _ _ _ _ ne)) (truth (has_global (s.seat c).phase))
others_kept s c (StackLook l) d ne = number_there _ _ _ _ ne
others_kept s c StackNext d ne = number_there _ _ _ _ ne
others_kept s c StackPop d ne = ⊎_elim (λ z. rw z (number_there _ _ _ _ ne)) (λ z. rw z (number_there _ _ _ _ ne)) (truth (same_head (s.words.free_head (s.seat c).stack.locale) (s.seat c).stack.head))
others_kept s c (StackPut top tail) d ne = ⊎_elim (λ z. rw z (number_there _ _ _ _ ne)) (λ z. rw z (number_there _ _ _ _ ne)) (truth (same_head (s.words.free_head (s.seat c).stack.locale) (s.seat c).stack.head))
others_kept s c (HandLink q word) d ne = refl
others_kept s c (HomeSwap top tail) d ne = number_there _ _ _ _ ne
others_kept s c HomeLink d ne = number_there _ _ _ _ ne
others_kept s c (HomeTake l) d ne = number_there _ _ _ _ ne
others_kept s c HomeWalk d ne = ⊎_elim (λ z. rw z refl) (λ z. rw z (number_there _ _ _ _ ne)) (truth (s.words.next (place_in ((s.seat c).homing.chain)) == pending))

module _ (s : State) (m : Map) (sound : IsSound s m) where
  -- where what a seat has alone is
  alone_at : (d : ℕ) (p : Place) → HasAlone (s.seat d) p → IsAloneKind ((m.loc p).kind) × ((m.loc p).first ≡ d)
  alone_at d p h =
      let l = sound.lists d in
      ⊎_elim
      (λ x. at IsOwned tt (subst (λ y. is_among p y ≡ true) (sym l.owned) x))
      (λ x.
      ⊎_elim
      (λ y. at InHand tt (subst (λ z. is_among p z ≡ true) (sym l.hand) y))
      (λ y. at IsWalked tt (subst (λ z. is_among p z ≡ true) (sym l.walked) y))
      x)
      h
    where
      at : (k : LocationKind) → IsAloneKind k → is_among p (m.content (at_ k d)) ≡ true → IsAloneKind ((m.loc p).kind) × ((m.loc p).first ≡ d)
      at k is h = let e = ((sound.listed (at_ k d)).all p h).0 in (subst IsAloneKind (sym (ap (λ x. x.kind) e)) is, ap (λ x. x.first) e)

  only_of : (d : ℕ) (p : Place) → HasAlone (s.seat d) p → OnlyOf d (m.loc p)
  only_of d p h is = (alone_at d p h).1

module _ (s : State) (m : Map) (sound : IsSound s m) (held : AreHeld s) (c : ℕ) where
  -- a header changes of an object that the seat alone has, and that isn't shown before or isn't shown after
  abbrev Reheads : Place → Header → Type 0
  Reheads p head = OnlyOf c (m.loc p) × (((s.words.header p).state ≢ Shown) ⊎ (head.state ≢ Shown))

  abbrev IsHead : Place → Header → Type 0
  IsHead p head = (head ≡ s.words.header p) ⊎ Reheads p head

  reheaded : (q : Place) (head : Header) → Reheads q head → (p : Place) → IsHead p (with_place s.words.header q head p)
  reheaded q head h = at_place IsHead s.words.header q head (inr h) (λ p ne. inl refl)

  in_hand : (p : Place) → is_among p ((s.seat c).hand) ≡ true → OnlyOf c (m.loc p)
  in_hand p h = only_of s m sound c p (inr (inl h))

  owns : (p : Place) → is_among p ((s.seat c).owned) ≡ true → OnlyOf c (m.loc p)
  owns p h = only_of s m sound c p (inl h)

  walked : (p : Place) → is_among p ((s.seat c).reclaim.walked) ≡ true → OnlyOf c (m.loc p)
  walked p h = only_of s m sound c p (inr (inr h))

  move_heads : (k : Kind) → AllMet ((move s c k).needs) → (p : Place) → IsHead p ((move s c k).outcome.next.words.header p)
  unfolding move register unregister pin_look pin_set unpin take_look take_try show give_back hold touch defer_look defer_swap defer_link elect_local elect_global epoch_look scan_token advance spread collect walk release leave stack_look stack_next stack_pop stack_put hand_link home_swap home_link home_take home_walk
  move_heads (Register l n) h p = ⊎_elim (λ z. rw z (inl refl)) (λ z. rw z (inl refl)) (truth (s.words.token_word (record { locale = l; number = n }) == 0))
  move_heads Unregister h p = inl refl
  move_heads PinLook h p = inl refl
  move_heads PinSet h p = inl refl
  move_heads Unpin h p = inl refl
  move_heads (TakeLook l i) h p = inl refl
  move_heads (TakeTry l i) h p =
      ⊎_elim
      (λ z. rw z (reheaded _ _ (in_hand _ h.1.1.1.1.0, inl (hand_not_shown s m sound held c _ h.1.1.1.1.0)) p)) (λ z. rw z (inl refl))
      (truth (is_free_with (s.words.header (record { locale = l; index = i })) (look_count (s.seat c).free_look)))
  move_heads (Show q) h p = reheaded _ _ (owns _ h.1.1.1.1.0, inl (owned_not_shown s m sound held c _ h.1.1.1.1.0)) p
  move_heads (Hold q) h p = inl refl
  move_heads (Touch q) h p = inl refl
  move_heads (Return q) h p = reheaded _ _ (owns _ h.1.1.1.1.0, inl (owned_not_shown s m sound held c _ h.1.1.1.1.0)) p
  move_heads (DeferLook q) h p = inl refl
  move_heads DeferSwap h p = inl refl
  move_heads DeferLink h p = inl refl
  move_heads ElectLocal h p = ⊎_elim (λ z. rw z (inl refl)) (λ z. rw z (inl refl)) (truth (s.words.election_of (s.seat c).token.locale == 0))
  move_heads ElectGlobal h p = ⊎_elim (λ z. rw z (inl refl)) (λ z. rw z (inl refl)) (truth (s.words.election == 0))
  move_heads EpochLook h p = inl refl
  move_heads ScanToken h p = inl refl
  move_heads Advance h p = inl refl
  move_heads Spread h p = inl refl
  move_heads Collect h p = inl refl
  move_heads Walk h p = inl refl
  move_heads (Release q) h p =
      ⊎_elim
      (λ z. rw z (reheaded _ (record { count = q.count; state = Worn }) (walked _ h.1.1.1.1.0, inr (λ e. absurd (cc e))) p))
      (λ z. rw z (reheaded _ (record { count = q.count + 1; state = Free }) (walked _ h.1.1.1.1.0, inr (λ e. absurd (cc e))) p))
      (truth (q.count == last_count))
  move_heads Leave h p = ⊎_elim (λ z. rw z (inl refl)) (λ z. rw z (inl refl)) (truth (has_global (s.seat c).phase))
  move_heads (StackLook l) h p = inl refl
  move_heads StackNext h p = inl refl
  move_heads StackPop h p = ⊎_elim (λ z. rw z (inl refl)) (λ z. rw z (inl refl)) (truth (same_head (s.words.free_head (s.seat c).stack.locale) (s.seat c).stack.head))
  move_heads (StackPut top tail) h p = ⊎_elim (λ z. rw z (inl refl)) (λ z. rw z (inl refl)) (truth (same_head (s.words.free_head (s.seat c).stack.locale) (s.seat c).stack.head))
  move_heads (HandLink q word) h p = inl refl
  move_heads (HomeSwap top tail) h p = inl refl
  move_heads HomeLink h p = inl refl
  move_heads (HomeTake l) h p = inl refl
  move_heads HomeWalk h p = ⊎_elim (λ z. rw z (inl refl)) (λ z. rw z (inl refl)) (truth (s.words.next (place_in ((s.seat c).homing.chain)) == pending))

  -- a next word changes of an object of the seat's hand, or of one that no seat has alone
  abbrev IsNext : Place → ℕ → Type 0
  IsNext p word = (word ≡ s.words.next p) ⊎ OnlyOf c (m.loc p)

  relinked : (q : Place) (word : ℕ) → OnlyOf c (m.loc q) → (p : Place) → IsNext p (with_place s.words.next q word p)
  relinked q word h = at_place IsNext s.words.next q word (inr h) (λ p ne. inl refl)

  -- the object of a deferral that waits for its link
  in_list : (s.seat c).phase ≡ DeferSwapped → OnlyOf c (m.loc (place_of ((s.seat c).deferral.pointer)))
  unfolding phased_at
  in_list at alone =
      let seat = s.seat c in
      let w : Wait = record { place = place_of seat.deferral.pointer; old = seat.deferral.old } in
      let waits : (phased seat).list_wait ≡ Some w = ap (λ x. (phased_at x seat.deferral seat.token seat.reclaim).list_wait) at in
      absurd (list_not_alone _ (sound.linked.list_waits c w waits).in_list alone)

  -- the tail that waits for its link
  at_home : (p : Place) → (s.seat c).homing.tail ≡ Some p → OnlyOf c (m.loc p)
  unfolding home_wait_at
  at_home p e alone =
      let w : Wait = record { place = p; old = (s.seat c).homing.old } in
      let waits : home_wait (s.seat c) ≡ Some w = ap (λ x. home_wait_at x (s.seat c).homing.old) e in
      absurd (home_not_alone _ (sound.linked.home_waits c w waits).at_home alone)

  linked_home : (q : Place) → (s.seat c).homing.tail ≡ Some q → (p : Place) → IsNext p (with_link s.words.next (s.seat c).homing.tail (s.seat c).homing.old p)
  unfolding with_link
  linked_home q e p = subst (λ x. IsNext p (with_link s.words.next x (s.seat c).homing.old p)) (sym e) (relinked q (s.seat c).homing.old (at_home q e) p)

  move_nexts : (k : Kind) → AllMet ((move s c k).needs) → (p : Place) → IsNext p ((move s c k).outcome.next.words.next p)
  unfolding move register unregister pin_look pin_set unpin take_look take_try show give_back hold touch defer_look defer_swap defer_link elect_local elect_global epoch_look scan_token advance spread collect walk release leave stack_look stack_next stack_pop stack_put hand_link home_swap home_link home_take home_walk
  move_nexts (Register l n) h p = ⊎_elim (λ z. rw z (inl refl)) (λ z. rw z (inl refl)) (truth (s.words.token_word (record { locale = l; number = n }) == 0))
  move_nexts Unregister h p = inl refl
  move_nexts PinLook h p = inl refl
  move_nexts PinSet h p = inl refl
  move_nexts Unpin h p = inl refl
  move_nexts (TakeLook l i) h p = inl refl
  move_nexts (TakeTry l i) h p = ⊎_elim (λ z. rw z (inl refl)) (λ z. rw z (inl refl)) (truth (is_free_with (s.words.header (record { locale = l; index = i })) (look_count (s.seat c).free_look)))
  move_nexts (Show q) h p = inl refl
  move_nexts (Hold q) h p = inl refl
  move_nexts (Touch q) h p = inl refl
  move_nexts (Return q) h p = inl refl
  move_nexts (DeferLook q) h p = inl refl
  move_nexts DeferSwap h p = inl refl
  move_nexts DeferLink h p = relinked _ _ (in_list h.1.0) p
  move_nexts ElectLocal h p = ⊎_elim (λ z. rw z (inl refl)) (λ z. rw z (inl refl)) (truth (s.words.election_of (s.seat c).token.locale == 0))
  move_nexts ElectGlobal h p = ⊎_elim (λ z. rw z (inl refl)) (λ z. rw z (inl refl)) (truth (s.words.election == 0))
  move_nexts EpochLook h p = inl refl
  move_nexts ScanToken h p = inl refl
  move_nexts Advance h p = inl refl
  move_nexts Spread h p = inl refl
  move_nexts Collect h p = inl refl
  move_nexts Walk h p = inl refl
  move_nexts (Release q) h p = ⊎_elim (λ z. rw z (inl refl)) (λ z. rw z (inl refl)) (truth (q.count == last_count))
  move_nexts Leave h p = ⊎_elim (λ z. rw z (inl refl)) (λ z. rw z (inl refl)) (truth (has_global (s.seat c).phase))
  move_nexts (StackLook l) h p = inl refl
  move_nexts StackNext h p = inl refl
  move_nexts StackPop h p = ⊎_elim (λ z. rw z (inl refl)) (λ z. rw z (inl refl)) (truth (same_head (s.words.free_head (s.seat c).stack.locale) (s.seat c).stack.head))
  move_nexts (StackPut top tail) h p = ⊎_elim (λ z. rw z (inl refl)) (λ z. rw z (inl refl)) (truth (same_head (s.words.free_head (s.seat c).stack.locale) (s.seat c).stack.head))
  move_nexts (HandLink q word) h p = relinked _ _ (in_hand _ h.1.1.1.0) p
  move_nexts (HomeSwap top tail) h p = inl refl
  move_nexts HomeLink h p = linked_home h.1.0.0 h.1.0.1 p
  move_nexts (HomeTake l) h p = inl refl
  move_nexts HomeWalk h p = ⊎_elim (λ z. rw z (inl refl)) (λ z. rw z (inl refl)) (truth (s.words.next (place_in ((s.seat c).homing.chain)) == pending))

  -- the step leaves what another seat has alone or holds
  pub move_leaves : (k : Kind) → AllMet ((move s c k).needs) → (d : ℕ) → d ≢ c → LeavesOthers s ((move s c k).outcome.next) d
  move_leaves k h d ne = record {
    headers = λ p x. ⊎_elim (λ e. e) (λ y. absurd (others p x y.0)) (move_heads k h p);
    held = λ p x. ⊎_elim (λ e. e) (λ y. ⊎_elim (λ z. absurd (z ((held d p x).shown))) (λ z. absurd (z ((after p x).shown))) y.1) (move_heads k h p);
    nexts = λ p x. ⊎_elim (λ e. e) (λ y. absurd (others p x y)) (move_nexts k h p);
    seat = stays;
  }
    where
      stays : (move s c k).outcome.next.seat d ≡ s.seat d
      stays = others_kept s c k d ne

      others : (p : Place) → HasAlone (s.seat d) p → OnlyOf c (m.loc p) → ⊥
      others p x only = let at = alone_at s m sound d p x in ne (sym at.1 ∙ only at.0)

      after : (p : Place) → is_among p ((s.seat d).held) ≡ true → IsHeld ((move s c k).outcome.next) d p
      after p x = move_held s m sound held c k h d p (subst (λ y. is_among p (y.held) ≡ true) (sym stays) x)

-- a step from a state that is reached
pub leaves_others : (first count : ℕ) (s : State) (items : List Item) → IsReached first count s items → (step : Step) → IsAllowed s step → (c : ℕ) → c ≢ step.seat → LeavesOthers s (outcome s step).next c
leaves_others first count s items reached step allowed c ne = move_leaves s reached.map reached.sound reached.held step.seat step.kind allowed c ne

pub steps_leave_others : StepsLeaveOthers
steps_leave_others shape start seats steps is counts run step allowed c ne =
    leaves_others start.epoch start.count (state_after (opening shape start seats) steps) (items_of (opening shape start seats) steps) (states_are_sound shape start seats steps is counts run) step allowed c ne
