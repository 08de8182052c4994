-- Every allowed step keeps what holds of every state, so it holds of every state that a run leaves.
use Rattle.std.proofs.Common.{ℕ, [], ◌∷◌, ⊎_elim}
use Rattle.std.proofs.lemmas.Bool.Decides.{eqb_tells}
use Rattle.pgas_base.specs.Shapes.{IsShape}
use Rattle.pgas_base.specs.Pointers.{Pointer}
use Rattle.epoch_laws.specs.declared.steps.Kind.{Kind}
use Rattle.epoch_laws.specs.declared.steps.Kind.TheVariants.{Register, Unregister, PinLook, PinSet, Unpin, TakeLook, TakeTry, Show, Hold, Touch, Return, DeferLook, DeferSwap, DeferLink, ElectLocal, ElectGlobal, EpochLook, ScanToken, Advance, Spread, Collect, Walk, Release, Leave, StackLook, StackNext, StackPop, StackPut, HandLink, HomeSwap, HomeLink, HomeTake, HomeWalk}
use Rattle.epoch_laws.specs.Places.{Place, place_of, place_in, pending}
use Rattle.epoch_laws.specs.States.{State}
use Rattle.epoch_laws.specs.Needs.{AllMet, Move}
use Rattle.epoch_laws.specs.TakeSteps.{take_try, show, give_back, is_free_with, look_count}
use Rattle.epoch_laws.specs.HoldSteps.{touch}
use Rattle.epoch_laws.specs.StackSteps.{stack_pop, stack_put, same_head}
use Rattle.epoch_laws.specs.HomeSteps.{home_walk}
use Rattle.epoch_laws.specs.Steps.{move}
use Rattle.epoch_laws.proofs.Lists.{truth}
use Rattle.epoch_laws.proofs.Locations.{InHand, IsOwned, IsLive, InDeferral, at_}
use Rattle.epoch_laws.proofs.Sound.{Map, IsSound}
use Rattle.epoch_laws.proofs.Moves.{moved_map}
use Rattle.epoch_laws.proofs.KeepsTokens.{keeps_register, keeps_unregister, keeps_pin_look, keeps_pin_set, keeps_unpin, keeps_take_look, keeps_hold, keeps_elect_local, keeps_elect_global, keeps_epoch_look, keeps_scan_token, keeps_spread}
use Rattle.epoch_laws.proofs.KeepsTakes.{keeps_take_try, keeps_show, keeps_give_back}
use Rattle.epoch_laws.proofs.KeepsDeferrals.{keeps_defer_look, swap_map, keeps_defer_swap, keeps_defer_link}
use Rattle.epoch_laws.proofs.KeepsReclaims.{keeps_advance, collect_map, keeps_collect, walk_map, keeps_walk, release_map, keeps_release, keeps_leave}
use Rattle.epoch_laws.proofs.KeepsStacks.{keeps_stack_look, keeps_stack_next, keeps_no_look, pop_map, keeps_stack_pop, put_map, keeps_stack_put, keeps_hand_link}
use Rattle.epoch_laws.proofs.KeepsHomes.{keeps_home_link, take_map, keeps_home_take, home_walk_map, keeps_home_walk, home_swap_map, keeps_home_swap}

-- the state that a move leaves is sound, by some map
abbrev pub Keeps : Move → Type 0
Keeps x = (m : Map) × IsSound x.outcome.next m

module _ (s : State) (m : Map) (sound : IsSound s m) (is_shape : IsShape s.shape) (c : ℕ) where
  take_try_keeps : (p : Place) → AllMet ((take_try s c p).needs) → Keeps (take_try s c p)
  unfolding take_try
  take_try_keeps p h =
      ⊎_elim
      (λ e. (moved_map m (p ∷ []) (at_ InHand c) (at_ IsOwned c), keeps_take_try s m sound c p h e))
      (λ e. (m, rw e sound))
      (truth (is_free_with (s.words.header p) (look_count (s.seat c).free_look)))

  show_keeps : (q : Pointer) → AllMet ((show s c q).needs) → Keeps (show s c q)
  unfolding show
  show_keeps q h = (moved_map m (place_of q ∷ []) (at_ IsOwned c) (at_ IsLive 0), keeps_show s m sound c q h.1.1.1.1.0 h.1.1.1.0)

  give_back_keeps : (q : Pointer) → AllMet ((give_back s c q).needs) → Keeps (give_back s c q)
  unfolding give_back
  give_back_keeps q h = (moved_map m (place_of q ∷ []) (at_ IsOwned c) (at_ InHand c), keeps_give_back s m sound c q h.1.1.1.1.0 h.1.1.1.0)

  touch_keeps : (q : Pointer) → Keeps (touch s c q)
  unfolding touch
  touch_keeps q = (m, sound)

  stack_pop_keeps : AllMet ((stack_pop s c).needs) → Keeps (stack_pop s c)
  unfolding stack_pop
  stack_pop_keeps h =
      ⊎_elim
      (λ e. (pop_map s m sound c, keeps_stack_pop s m sound c h e))
      (λ e. (m, rw e (keeps_no_look s m sound c)))
      (truth (same_head (s.words.free_head (s.seat c).stack.locale) (s.seat c).stack.head))

  stack_put_keeps : (top tail : Pointer) → AllMet ((stack_put s c top tail).needs) → Keeps (stack_put s c top tail)
  unfolding stack_put
  stack_put_keeps top tail h =
      ⊎_elim
      (λ e. (put_map s m sound c top tail, keeps_stack_put s m sound c top tail h e))
      (λ e. (m, rw e (keeps_no_look s m sound c)))
      (truth (same_head (s.words.free_head (s.seat c).stack.locale) (s.seat c).stack.head))

  home_walk_keeps : AllMet ((home_walk s c).needs) → Keeps (home_walk s c)
  unfolding home_walk
  home_walk_keeps h =
      ⊎_elim
      (λ e. (m, rw e.0 sound))
      (λ e. (home_walk_map s m sound is_shape c, rw e.0 (keeps_home_walk s m sound is_shape c h e.1)))
      (eqb_tells (s.words.next (place_in ((s.seat c).homing.chain))) pending)

  -- each kind of step
  pub move_keeps : (k : Kind) → AllMet ((move s c k).needs) → Keeps (move s c k)
  unfolding move
  move_keeps (Register l n) h = (m, keeps_register s m sound c _ h)
  move_keeps Unregister h = (m, keeps_unregister s m sound c h)
  move_keeps PinLook h = (m, keeps_pin_look s m sound c h)
  move_keeps PinSet h = (m, keeps_pin_set s m sound c h)
  move_keeps Unpin h = (m, keeps_unpin s m sound c h)
  move_keeps (TakeLook l i) h = (m, keeps_take_look s m sound c _)
  move_keeps (TakeTry l i) h = take_try_keeps _ h
  move_keeps (Show q) h = show_keeps q h
  move_keeps (Hold q) h = (m, keeps_hold s m sound c q)
  move_keeps (Touch q) h = touch_keeps q
  move_keeps (Return q) h = give_back_keeps q h
  move_keeps (DeferLook q) h = (moved_map m (place_of q ∷ []) (m.loc (place_of q)) (at_ InDeferral c), keeps_defer_look s m sound is_shape c q h)
  move_keeps DeferSwap h = (swap_map s m sound is_shape c, keeps_defer_swap s m sound is_shape c h)
  move_keeps DeferLink h = (m, keeps_defer_link s m sound is_shape c h)
  move_keeps ElectLocal h = (m, keeps_elect_local s m sound c h)
  move_keeps ElectGlobal h = (m, keeps_elect_global s m sound c h)
  move_keeps EpochLook h = (m, keeps_epoch_look s m sound c h)
  move_keeps ScanToken h = (m, keeps_scan_token s m sound c h)
  move_keeps Advance h = (m, keeps_advance s m sound c h)
  move_keeps Spread h = (m, keeps_spread s m sound c h)
  move_keeps Collect h = (collect_map s m sound c, keeps_collect s m sound c h)
  move_keeps Walk h = (walk_map s m sound c, keeps_walk s m sound c h)
  move_keeps (Release q) h = (release_map s m sound c q, keeps_release s m sound c q h)
  move_keeps Leave h = (m, keeps_leave s m sound c h)
  move_keeps (StackLook l) h = (m, keeps_stack_look s m sound c l h)
  move_keeps StackNext h = (m, keeps_stack_next s m sound c h)
  move_keeps StackPop h = stack_pop_keeps h
  move_keeps (StackPut top tail) h = stack_put_keeps top tail h
  move_keeps (HandLink q word) h = (m, keeps_hand_link s m sound c q word h)
  move_keeps (HomeSwap top tail) h = (home_swap_map s m sound is_shape c top tail, keeps_home_swap s m sound is_shape c top tail h)
  move_keeps HomeLink h = (m, keeps_home_link s m sound is_shape c h)
  move_keeps (HomeTake l) h = (take_map s m sound is_shape c l, keeps_home_take s m sound is_shape c l h)
  move_keeps HomeWalk h = home_walk_keeps h
