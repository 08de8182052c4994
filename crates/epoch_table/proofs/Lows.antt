-- What every step keeps: no epoch is above the last.
use Rattle.std.proofs.Common.{◌≡◌, ◌==◌, ◌<◌, ◌≤◌, ℕ, subst, ⊎_elim, arith}
use Rattle.std.proofs.lemmas.Bool.{cases_Bool}
use Rattle.epoch_laws.specs.declared.steps.Kind.{Kind}
use Rattle.epoch_laws.specs.declared.steps.Kind.TheVariants.{Register, Unregister, PinLook, PinSet, Unpin, TakeLook, TakeTry, Show, Hold, Touch, Return, DeferLook, DeferSwap, DeferLink, ElectLocal, ElectGlobal, EpochLook, ScanToken, Advance, Spread, Collect, Walk, Release, Leave, StackLook, StackNext, StackPop, StackPut, HandLink, HomeSwap, HomeLink, HomeTake, HomeWalk}
use Rattle.epoch_laws.specs.Places.{place_in, pending, with_number}
use Rattle.epoch_laws.specs.States.{State}
use Rattle.epoch_laws.specs.Needs.{AllMet}
use Rattle.epoch_laws.specs.TokenSteps.{register, unregister, pin_look, pin_set, unpin}
use Rattle.epoch_laws.specs.TakeSteps.{take_look, take_try, show, give_back, is_free_with, look_count}
use Rattle.epoch_laws.specs.HoldSteps.{hold, touch}
use Rattle.epoch_laws.specs.DeferralSteps.{defer_look, defer_swap, defer_link}
use Rattle.epoch_laws.specs.ReclaimSteps.{passes, elect_local, elect_global, epoch_look, scan_token, advance, spread, collect, walk, release, leave, has_global, last_count}
use Rattle.epoch_laws.specs.StackSteps.{stack_look, stack_next, stack_pop, stack_put, hand_link, same_head}
use Rattle.epoch_laws.specs.HomeSteps.{home_swap, home_link, home_take, home_walk}
use Rattle.epoch_laws.specs.Steps.{move}
use Rattle.epoch_laws.proofs.Updates.{at_number}
use Rattle.epoch_laws.specs.Seats.{Seat}
use Rattle.epoch_laws.specs.Seats.{Phase, Scanning, Advanced}
use Rattle.epoch_laws.specs.ReclaimSteps.{last_epoch}
use Rattle.epoch_table.specs.Rule.{AreLow, IsLowAt}
use Rattle.std.specs.Prelude.{ltb}
use Rattle.std.proofs.lemmas.Bool.{ltb-true}

scans_low : (phase : Phase) (epoch : ℕ) → phase ≡ Scanning → IsLowAt phase epoch → epoch < last_epoch
scans_low phase epoch e low = subst (λ p. IsLowAt p epoch) e low

advances_low : (phase : Phase) (epoch : ℕ) → phase ≡ Advanced → IsLowAt phase epoch → epoch < last_epoch
advances_low phase epoch e low = subst (λ p. IsLowAt p epoch) e low

module _ (s : State) (low : AreLow s) (c : ℕ) where
  announced_with : (new : Seat) → new.announced ≤ last_epoch → (d : ℕ) → (with_number s.seat c new d).announced ≤ last_epoch
  announced_with new one = at_number (λ d x. x.announced ≤ last_epoch) s.seat c new one (λ d ne. low.announced d)

  scans_with : (new : Seat) → IsLowAt new.phase new.reclaim.epoch → (d : ℕ) → IsLowAt (with_number s.seat c new d).phase (with_number s.seat c new d).reclaim.epoch
  scans_with new one = at_number (λ d x. IsLowAt x.phase x.reclaim.epoch) s.seat c new one (λ d ne. low.scans d)

  pub low_kept : (k : Kind) → AllMet (move s c k).needs → AreLow (move s c k).outcome.next
  unfolding move register unregister pin_look pin_set unpin take_look take_try show give_back hold touch defer_look defer_swap defer_link elect_local elect_global epoch_look scan_token advance spread collect walk release leave stack_look stack_next stack_pop stack_put hand_link home_swap home_link home_take home_walk
  low_kept (Register l n) h = ⊎_elim (λ e. rw e (record { epoch = low.epoch; epochs = low.epochs; announced = announced_with _ (low.announced c); scans = scans_with _ tt })) (λ e. rw e low) (cases_Bool (s.words.token_word (record { locale = l; number = n }) == 0))
  low_kept Unregister h = record { epoch = low.epoch; epochs = low.epochs; announced = announced_with _ (low.announced c); scans = scans_with _ tt }
  low_kept PinLook h = record { epoch = low.epoch; epochs = low.epochs; announced = announced_with _ (low.epochs _); scans = scans_with _ tt }
  low_kept PinSet h = record { epoch = low.epoch; epochs = low.epochs; announced = announced_with _ (low.announced c); scans = scans_with _ tt }
  low_kept Unpin h = record { epoch = low.epoch; epochs = low.epochs; announced = announced_with _ (low.announced c); scans = scans_with _ tt }
  low_kept (TakeLook l i) h = record { epoch = low.epoch; epochs = low.epochs; announced = announced_with _ (low.announced c); scans = scans_with _ (low.scans c) }
  low_kept (TakeTry l i) h = ⊎_elim (λ e. rw e (record { epoch = low.epoch; epochs = low.epochs; announced = announced_with _ (low.announced c); scans = scans_with _ (low.scans c) })) (λ e. rw e low) (cases_Bool (is_free_with (s.words.header (record { locale = l; index = i })) (look_count (s.seat c).free_look)))
  low_kept (Show q) h = record { epoch = low.epoch; epochs = low.epochs; announced = announced_with _ (low.announced c); scans = scans_with _ (low.scans c) }
  low_kept (Hold q) h = record { epoch = low.epoch; epochs = low.epochs; announced = announced_with _ (low.announced c); scans = scans_with _ (low.scans c) }
  low_kept (Touch q) h = low
  low_kept (Return q) h = record { epoch = low.epoch; epochs = low.epochs; announced = announced_with _ (low.announced c); scans = scans_with _ (low.scans c) }
  low_kept (DeferLook q) h = record { epoch = low.epoch; epochs = low.epochs; announced = announced_with _ (low.announced c); scans = scans_with _ tt }
  low_kept DeferSwap h = record { epoch = low.epoch; epochs = low.epochs; announced = announced_with _ (low.announced c); scans = scans_with _ tt }
  low_kept DeferLink h = record { epoch = low.epoch; epochs = low.epochs; announced = announced_with _ (low.announced c); scans = scans_with _ tt }
  low_kept ElectLocal h = ⊎_elim (λ e. rw e (record { epoch = low.epoch; epochs = low.epochs; announced = announced_with _ (low.announced c); scans = scans_with _ tt })) (λ e. rw e low) (cases_Bool (s.words.election_of (s.seat c).token.locale == 0))
  low_kept ElectGlobal h = ⊎_elim (λ e. rw e (record { epoch = low.epoch; epochs = low.epochs; announced = announced_with _ (low.announced c); scans = scans_with _ tt })) (λ e. rw e (record { epoch = low.epoch; epochs = low.epochs; announced = announced_with _ (low.announced c); scans = scans_with _ tt })) (cases_Bool (s.words.election == 0))
  low_kept EpochLook h = ⊎_elim (λ e. rw e (record { epoch = low.epoch; epochs = low.epochs; announced = announced_with _ (low.announced c); scans = scans_with _ (ltb-true _ _ e) })) (λ e. rw e (record { epoch = low.epoch; epochs = low.epochs; announced = announced_with _ (low.announced c); scans = scans_with _ tt })) (cases_Bool (ltb s.words.epoch last_epoch))
  low_kept ScanToken h = ⊎_elim (λ e. rw e (record { epoch = low.epoch; epochs = low.epochs; announced = announced_with _ (low.announced c); scans = scans_with _ (low.scans c) })) (λ e. rw e (record { epoch = low.epoch; epochs = low.epochs; announced = announced_with _ (low.announced c); scans = scans_with _ tt })) (cases_Bool (passes (s.seat c).reclaim.epoch (s.words.token_word (s.seat c).reclaim.scan)))
  low_kept Advance h =
      let below = scans_low _ _ h.1.0.0 (low.scans c) in record { epoch = (omega (arith, below)); epochs = low.epochs; announced = announced_with _ (low.announced c); scans = scans_with _ below }
  low_kept Spread h =
      let below = advances_low _ _ h.1.0.0 (low.scans c) in record { epoch = low.epoch; epochs = at_number (λ l x. x ≤ last_epoch) s.words.epoch_of _ _ (omega (arith, below)) (λ l ne. low.epochs l); announced = announced_with _ (low.announced c); scans = scans_with _ (low.scans c) }
  low_kept Collect h = record { epoch = low.epoch; epochs = low.epochs; announced = announced_with _ (low.announced c); scans = scans_with _ (low.scans c) }
  low_kept Walk h = record { epoch = low.epoch; epochs = low.epochs; announced = announced_with _ (low.announced c); scans = scans_with _ (low.scans c) }
  low_kept (Release q) h = ⊎_elim (λ e. rw e (record { epoch = low.epoch; epochs = low.epochs; announced = announced_with _ (low.announced c); scans = scans_with _ (low.scans c) })) (λ e. rw e (record { epoch = low.epoch; epochs = low.epochs; announced = announced_with _ (low.announced c); scans = scans_with _ (low.scans c) })) (cases_Bool (q.count == last_count))
  low_kept Leave h = ⊎_elim (λ e. rw e (record { epoch = low.epoch; epochs = low.epochs; announced = announced_with _ (low.announced c); scans = scans_with _ tt })) (λ e. rw e (record { epoch = low.epoch; epochs = low.epochs; announced = announced_with _ (low.announced c); scans = scans_with _ tt })) (cases_Bool (has_global (s.seat c).phase))
  low_kept (StackLook l) h = record { epoch = low.epoch; epochs = low.epochs; announced = announced_with _ (low.announced c); scans = scans_with _ (low.scans c) }
  low_kept StackNext h = record { epoch = low.epoch; epochs = low.epochs; announced = announced_with _ (low.announced c); scans = scans_with _ (low.scans c) }
  low_kept StackPop h = ⊎_elim (λ e. rw e (record { epoch = low.epoch; epochs = low.epochs; announced = announced_with _ (low.announced c); scans = scans_with _ (low.scans c) })) (λ e. rw e (record { epoch = low.epoch; epochs = low.epochs; announced = announced_with _ (low.announced c); scans = scans_with _ (low.scans c) })) (cases_Bool (same_head (s.words.free_head (s.seat c).stack.locale) (s.seat c).stack.head))
  low_kept (StackPut top tail) h = ⊎_elim (λ e. rw e (record { epoch = low.epoch; epochs = low.epochs; announced = announced_with _ (low.announced c); scans = scans_with _ (low.scans c) })) (λ e. rw e (record { epoch = low.epoch; epochs = low.epochs; announced = announced_with _ (low.announced c); scans = scans_with _ (low.scans c) })) (cases_Bool (same_head (s.words.free_head (s.seat c).stack.locale) (s.seat c).stack.head))
  low_kept (HandLink q word) h = record { epoch = low.epoch; epochs = low.epochs; announced = low.announced; scans = low.scans }
  low_kept (HomeSwap top tail) h = record { epoch = low.epoch; epochs = low.epochs; announced = announced_with _ (low.announced c); scans = scans_with _ (low.scans c) }
  low_kept HomeLink h = record { epoch = low.epoch; epochs = low.epochs; announced = announced_with _ (low.announced c); scans = scans_with _ (low.scans c) }
  low_kept (HomeTake l) h = record { epoch = low.epoch; epochs = low.epochs; announced = announced_with _ (low.announced c); scans = scans_with _ (low.scans c) }
  low_kept HomeWalk h = ⊎_elim (λ e. rw e low) (λ e. rw e (record { epoch = low.epoch; epochs = low.epochs; announced = announced_with _ (low.announced c); scans = scans_with _ (low.scans c) })) (cases_Bool (s.words.next (place_in ((s.seat c).homing.chain)) == pending))
