-- Each kind of step.
use Rattle.std.specs.Prelude.{ℕ}
use Rattle.epoch_laws.specs.declared.steps.Kind.{Kind}
use Rattle.epoch_laws.specs.declared.steps.Kind.TheVariants.{Register, Unregister, PinLook, PinSet, Unpin, TakeLook, TakeTry, Show, Hold, Touch, Return, DeferLook, DeferSwap, DeferLink, ElectLocal, ElectGlobal, EpochLook, ScanToken, Advance, Spread, Collect, Walk, Release, Leave, StackLook, StackNext, StackPop, StackPut, HandLink, HomeSwap, HomeLink, HomeTake, HomeWalk}
use Rattle.epoch_laws.specs.States.{State}
use Rattle.epoch_laws.specs.Needs.{Move}
use Rattle.epoch_laws.specs.TokenSteps.{register, unregister, pin_look, pin_set, unpin}
use Rattle.epoch_laws.specs.TakeSteps.{take_look, take_try, show, give_back}
use Rattle.epoch_laws.specs.HoldSteps.{hold, touch}
use Rattle.epoch_laws.specs.DeferralSteps.{defer_look, defer_swap, defer_link}
use Rattle.epoch_laws.specs.ReclaimSteps.{elect_local, elect_global, epoch_look, scan_token, advance, spread, collect, walk, release, leave}
use Rattle.epoch_laws.specs.StackSteps.{stack_look, stack_next, stack_pop, stack_put, hand_link}
use Rattle.epoch_laws.specs.HomeSteps.{home_swap, home_link, home_take, home_walk}

-- what a step of this kind by this seat needs and does
unfoldable pub move : State → ℕ → Kind → Move
move s c (Register locale number) = register s c (record { locale = locale; number = number })
move s c Unregister = unregister s c
move s c PinLook = pin_look s c
move s c PinSet = pin_set s c
move s c Unpin = unpin s c
move s c (TakeLook locale index) = take_look s c (record { locale = locale; index = index })
move s c (TakeTry locale index) = take_try s c (record { locale = locale; index = index })
move s c (Show pointer) = show s c pointer
move s c (Hold pointer) = hold s c pointer
move s c (Touch pointer) = touch s c pointer
move s c (Return pointer) = give_back s c pointer
move s c (DeferLook pointer) = defer_look s c pointer
move s c DeferSwap = defer_swap s c
move s c DeferLink = defer_link s c
move s c ElectLocal = elect_local s c
move s c ElectGlobal = elect_global s c
move s c EpochLook = epoch_look s c
move s c ScanToken = scan_token s c
move s c Advance = advance s c
move s c Spread = spread s c
move s c Collect = collect s c
move s c Walk = walk s c
move s c (Release pointer) = release s c pointer
move s c Leave = leave s c
move s c (StackLook locale) = stack_look s c locale
move s c StackNext = stack_next s c
move s c StackPop = stack_pop s c
move s c (StackPut top tail) = stack_put s c top tail
move s c (HandLink pointer word) = hand_link s c pointer word
move s c (HomeSwap top tail) = home_swap s c top tail
move s c HomeLink = home_link s c
move s c (HomeTake locale) = home_take s c locale
move s c HomeWalk = home_walk s c
