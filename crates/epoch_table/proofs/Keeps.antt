-- What every step keeps: heads of stacks have small indexes, and an item is of the step's own seat.
use Rattle.std.proofs.Common.{◌≡◌, ◌⊎◌, ◌==◌, ◌<◌, ◌≤◌, ◌+◌, ◌/◌, ◌^◌, ℕ, [], ◌∷◌, refl, sym, subst, inl, inr, ⊎_elim, arith}
use Rattle.std.proofs.lemmas.Bool.{cases_Bool}
use Rattle.pool_core.specs.declared.free_words.FreeWord.{FreeWord}
use Rattle.epoch_laws.specs.declared.events.Item.{Item}
use Rattle.epoch_laws.specs.declared.steps.Kind.{Kind}
use Rattle.epoch_laws.specs.declared.steps.Kind.TheVariants.{Register, Unregister, PinLook, PinSet, Unpin, TakeLook, TakeTry, Show, Hold, Touch, Return, DeferLook, DeferSwap, DeferLink, ElectLocal, ElectGlobal, EpochLook, ScanToken, Advance, Spread, Collect, Walk, Release, Leave, StackLook, StackNext, StackPop, StackPut, HandLink, HomeSwap, HomeLink, HomeTake, HomeWalk}
use Rattle.epoch_laws.specs.Places.{place_in, index_in, pending, with_number}
use Rattle.epoch_laws.specs.States.{State}
use Rattle.epoch_laws.specs.Needs.{AllMet}
use Rattle.epoch_laws.specs.TokenSteps.{register, unregister, pin_look, pin_set, unpin}
use Rattle.epoch_laws.specs.TakeSteps.{take_look, take_try, show, give_back, is_free_with, look_count}
use Rattle.epoch_laws.specs.HoldSteps.{hold, touch}
use Rattle.epoch_laws.specs.DeferralSteps.{defer_look, defer_swap, defer_link}
use Rattle.epoch_laws.specs.ReclaimSteps.{passes, elect_local, elect_global, epoch_look, scan_token, advance, spread, collect, walk, release, leave, has_global, last_count}
use Rattle.epoch_laws.specs.StackSteps.{stack_look, stack_next, stack_pop, stack_put, hand_link, same_head}
use Rattle.epoch_laws.specs.HomeSteps.{home_swap, home_link, home_take, home_walk}
use Rattle.epoch_laws.specs.Steps.{move}
use Rattle.epoch_table.specs.Rule.{AreSmall}
use Rattle.std.proofs.lemmas.Nat.{mod_below}
use Rattle.pgas_base.specs.Shapes.{IsShape}
use Rattle.epoch_laws.specs.Words.{Words}
use Rattle.epoch_laws.specs.States.{with_words}
use Rattle.epoch_laws.proofs.Updates.{at_number}
use Rattle.pgas_base.specs.Pointers.{Pointer}
use Rattle.epoch_laws.specs.Seats.{Seat}
use Rattle.epoch_table.specs.Events.{AreOf}

index_low : (word : ℕ) → index_in word < 16777216
unfolding index_in
index_low word = mod_below (word / 2 ^ 32) 16777216 (omega arith)

-- small looks stay so where one seat's stays small
looks_with : (seat : ℕ → Seat) (c : ℕ) (new : Seat) → ((d : ℕ) → (seat d).stack.head.index < 16777216) → new.stack.head.index < 16777216 → (d : ℕ) → (with_number seat c new d).stack.head.index < 16777216
looks_with seat c new all one = at_number (λ d x. x.stack.head.index < 16777216) seat c new one (λ d ne. all d)

heads_with : (head : ℕ → FreeWord) (l : ℕ) (new : FreeWord) → ((k : ℕ) → (head k).index < 16777216) → new.index < 16777216 → (k : ℕ) → (with_number head l new k).index < 16777216
heads_with head l new all one = at_number (λ k x. x.index < 16777216) head l new one (λ k ne. all k)

module _ (s : State) (small : AreSmall s) (c : ℕ) where
  -- the same seat's look, and the same heads
  stay : (words : Words) (new : Seat) → ◌≡◌ {A = ℕ → FreeWord} words.free_head s.words.free_head → new.stack.head ≡ (s.seat c).stack.head → AreSmall (with_words s words c new)
  stay words new same look = record {
    heads = λ l. subst (λ (f : ℕ → FreeWord). (f l).index < 16777216) (sym same) (small.heads l);
    looks = looks_with s.seat c new small.looks (subst (λ (h : FreeWord). h.index < 16777216) (sym look) (small.looks c));
  }

  put_index : (top tail : Pointer) → AllMet (stack_put s c top tail).needs → top.index ≤ s.shape.objects
  unfolding stack_put
  put_index top tail h = h.1.0.index

  -- the indexes stay small
  pub small_kept : (k : Kind) → IsShape s.shape → AllMet (move s c k).needs → AreSmall (move s c k).outcome.next
  unfolding move register unregister pin_look pin_set unpin take_look take_try show give_back hold touch defer_look defer_swap defer_link elect_local elect_global epoch_look scan_token advance spread collect walk release leave stack_look stack_next stack_pop stack_put hand_link home_swap home_link home_take home_walk
  small_kept (Register l n) is h = ⊎_elim (λ e. rw e (stay _ _ refl refl)) (λ e. rw e small) (cases_Bool (s.words.token_word (record { locale = l; number = n }) == 0))
  small_kept Unregister is h = stay _ _ refl refl
  small_kept PinLook is h = stay _ _ refl refl
  small_kept PinSet is h = record { heads = small.heads; looks = looks_with s.seat c _ small.looks (small.looks c) }
  small_kept Unpin is h = stay _ _ refl refl
  small_kept (TakeLook l i) is h = stay _ _ refl refl
  small_kept (TakeTry l i) is h = ⊎_elim (λ e. rw e (stay _ _ refl refl)) (λ e. rw e small) (cases_Bool (is_free_with (s.words.header (record { locale = l; index = i })) (look_count (s.seat c).free_look)))
  small_kept (Show q) is h = stay _ _ refl refl
  small_kept (Hold q) is h = stay _ _ refl refl
  small_kept (Touch q) is h = small
  small_kept (Return q) is h = stay _ _ refl refl
  small_kept (DeferLook q) is h = record { heads = small.heads; looks = looks_with s.seat c _ small.looks (small.looks c) }
  small_kept DeferSwap is h = stay _ _ refl refl
  small_kept DeferLink is h = stay _ _ refl refl
  small_kept ElectLocal is h = ⊎_elim (λ e. rw e (stay _ _ refl refl)) (λ e. rw e small) (cases_Bool (s.words.election_of (s.seat c).token.locale == 0))
  small_kept ElectGlobal is h = ⊎_elim (λ e. rw e (stay _ _ refl refl)) (λ e. rw e (stay _ _ refl refl)) (cases_Bool (s.words.election == 0))
  small_kept EpochLook is h = stay _ _ refl refl
  small_kept ScanToken is h =
      let reclaim = (s.seat c).reclaim in
      ⊎_elim (λ e. rw e (stay _ _ refl refl)) (λ e. rw e (stay _ _ refl refl)) (cases_Bool (passes reclaim.epoch (s.words.token_word reclaim.scan)))
  small_kept Advance is h = stay _ _ refl refl
  small_kept Spread is h = stay _ _ refl refl
  small_kept Collect is h = stay _ _ refl refl
  small_kept Walk is h = stay _ _ refl refl
  small_kept (Release q) is h = ⊎_elim (λ e. rw e (record { heads = small.heads; looks = looks_with s.seat c _ small.looks (small.looks c) })) (λ e. rw e (record { heads = small.heads; looks = looks_with s.seat c _ small.looks (small.looks c) })) (cases_Bool (q.count == last_count))
  small_kept Leave is h = ⊎_elim (λ e. rw e (stay _ _ refl refl)) (λ e. rw e (stay _ _ refl refl)) (cases_Bool (has_global (s.seat c).phase))
  small_kept (StackLook l) is h = record { heads = small.heads; looks = looks_with s.seat c _ small.looks (small.heads l) }
  small_kept StackNext is h = stay _ _ refl refl
  small_kept StackPop is h = ⊎_elim (λ e. rw e (record { heads = heads_with s.words.free_head _ _ small.heads (index_low _); looks = looks_with s.seat c _ small.looks (small.looks c) })) (λ e. rw e (stay s.words _ refl refl)) (cases_Bool (same_head (s.words.free_head (s.seat c).stack.locale) (s.seat c).stack.head))
  small_kept (StackPut top tail) is h =
      let low = h.1.0.index in
      let most = is.2.1 in
      ⊎_elim (λ e. rw e (record { heads = heads_with s.words.free_head _ (record { count = (s.seat c).stack.head.count + 1; index = top.index }) small.heads (omega (arith, low, most)); looks = looks_with s.seat c _ small.looks (small.looks c) })) (λ e. rw e (stay s.words _ refl refl)) (cases_Bool (same_head (s.words.free_head (s.seat c).stack.locale) (s.seat c).stack.head))
  small_kept (HandLink q word) is h = record { heads = small.heads; looks = small.looks }
  small_kept (HomeSwap top tail) is h = stay _ _ refl refl
  small_kept HomeLink is h = stay _ _ refl refl
  small_kept (HomeTake l) is h = stay _ _ refl refl
  small_kept HomeWalk is h = ⊎_elim (λ e. rw e small) (λ e. rw e (stay _ _ refl refl)) (cases_Bool (s.words.next (place_in ((s.seat c).homing.chain)) == pending))

  -- each item is of the step's seat
  pub items_own : (k : Kind) → AreOf c (move s c k).outcome.items
  unfolding move register unregister pin_look pin_set unpin take_look take_try show give_back hold touch defer_look defer_swap defer_link elect_local elect_global epoch_look scan_token advance spread collect walk release leave stack_look stack_next stack_pop stack_put hand_link home_swap home_link home_take home_walk
  items_own (Register l n) = ⊎_elim (λ e. rw e (refl, tt)) (λ e. rw e tt) (cases_Bool (s.words.token_word (record { locale = l; number = n }) == 0))
  items_own Unregister = (refl, tt)
  items_own PinLook = tt
  items_own PinSet = (refl, tt)
  items_own Unpin = (refl, tt)
  items_own (TakeLook l i) = tt
  items_own (TakeTry l i) = ⊎_elim (λ e. rw e (refl, tt)) (λ e. rw e tt) (cases_Bool (is_free_with (s.words.header (record { locale = l; index = i })) (look_count (s.seat c).free_look)))
  items_own (Show q) = (refl, tt)
  items_own (Hold q) = (refl, tt)
  items_own (Touch q) = tt
  items_own (Return q) = (refl, tt)
  items_own (DeferLook q) = (refl, tt)
  items_own DeferSwap = tt
  items_own DeferLink = tt
  items_own ElectLocal = ⊎_elim (λ e. rw e (refl, tt)) (λ e. rw e tt) (cases_Bool (s.words.election_of (s.seat c).token.locale == 0))
  items_own ElectGlobal = ⊎_elim (λ e. rw e (refl, tt)) (λ e. rw e tt) (cases_Bool (s.words.election == 0))
  items_own EpochLook = tt
  items_own ScanToken = tt
  items_own Advance = (refl, tt)
  items_own Spread = tt
  items_own Collect = tt
  items_own Walk = tt
  items_own (Release q) = (refl, tt)
  items_own Leave = ⊎_elim (λ e. rw e (refl, tt)) (λ e. rw e (refl, tt)) (cases_Bool (has_global (s.seat c).phase))
  items_own (StackLook l) = tt
  items_own StackNext = tt
  items_own StackPop = ⊎_elim (λ e. rw e tt) (λ e. rw e tt) (cases_Bool (same_head (s.words.free_head (s.seat c).stack.locale) (s.seat c).stack.head))
  items_own (StackPut top tail) = ⊎_elim (λ e. rw e tt) (λ e. rw e tt) (cases_Bool (same_head (s.words.free_head (s.seat c).stack.locale) (s.seat c).stack.head))
  items_own (HandLink q word) = tt
  items_own (HomeSwap top tail) = tt
  items_own HomeLink = tt
  items_own (HomeTake l) = tt
  items_own HomeWalk = tt

  -- a step lists one item at most
  pub few : (k : Kind) → ((move s c k).outcome.items ≡ []) ⊎ ((x : Item) × ((move s c k).outcome.items ≡ x ∷ []))
  unfolding move register unregister pin_look pin_set unpin take_look take_try show give_back hold touch defer_look defer_swap defer_link elect_local elect_global epoch_look scan_token advance spread collect walk release leave stack_look stack_next stack_pop stack_put hand_link home_swap home_link home_take home_walk
  few (Register l n) = ⊎_elim (λ e. rw e (inr (_, refl))) (λ e. rw e (inl refl)) (cases_Bool (s.words.token_word (record { locale = l; number = n }) == 0))
  few Unregister = inr (_, refl)
  few PinLook = inl refl
  few PinSet = inr (_, refl)
  few Unpin = inr (_, refl)
  few (TakeLook l i) = inl refl
  few (TakeTry l i) = ⊎_elim (λ e. rw e (inr (_, refl))) (λ e. rw e (inl refl)) (cases_Bool (is_free_with (s.words.header (record { locale = l; index = i })) (look_count (s.seat c).free_look)))
  few (Show q) = inr (_, refl)
  few (Hold q) = inr (_, refl)
  few (Touch q) = inl refl
  few (Return q) = inr (_, refl)
  few (DeferLook q) = inr (_, refl)
  few DeferSwap = inl refl
  few DeferLink = inl refl
  few ElectLocal = ⊎_elim (λ e. rw e (inr (_, refl))) (λ e. rw e (inl refl)) (cases_Bool (s.words.election_of (s.seat c).token.locale == 0))
  few ElectGlobal = ⊎_elim (λ e. rw e (inr (_, refl))) (λ e. rw e (inl refl)) (cases_Bool (s.words.election == 0))
  few EpochLook = inl refl
  few ScanToken = inl refl
  few Advance = inr (_, refl)
  few Spread = inl refl
  few Collect = inl refl
  few Walk = inl refl
  few (Release q) = inr (_, refl)
  few Leave = ⊎_elim (λ e. rw e (inr (_, refl))) (λ e. rw e (inr (_, refl))) (cases_Bool (has_global (s.seat c).phase))
  few (StackLook l) = inl refl
  few StackNext = inl refl
  few StackPop = ⊎_elim (λ e. rw e (inl refl)) (λ e. rw e (inl refl)) (cases_Bool (same_head (s.words.free_head (s.seat c).stack.locale) (s.seat c).stack.head))
  few (StackPut top tail) = ⊎_elim (λ e. rw e (inl refl)) (λ e. rw e (inl refl)) (cases_Bool (same_head (s.words.free_head (s.seat c).stack.locale) (s.seat c).stack.head))
  few (HandLink q word) = inl refl
  few (HomeSwap top tail) = inl refl
  few HomeLink = inl refl
  few (HomeTake l) = inl refl
  few HomeWalk = inl refl
