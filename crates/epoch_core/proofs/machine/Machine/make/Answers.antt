use Rattle.epoch_laws.specs.Steps.{move}
use Rattle.epoch_core.proofs.Runs.{of_kind}
use Rattle.epoch_core.proofs.machine.Machine.make.Goals as goal

pub returns-in-Register : goal.returns-in-Register
unfolding move
returns-in-Register c s sh fresh = of_kind s c.args.seat c.args.kind _ _ _ c.in-Register.is (c.register.ensures s sh)

pub returns-in-Unregister : goal.returns-in-Unregister
unfolding move
returns-in-Unregister c s sh fresh = of_kind s c.args.seat c.args.kind _ _ _ c.in-Unregister.is (c.unregister.ensures s sh)

pub returns-in-PinLook : goal.returns-in-PinLook
unfolding move
returns-in-PinLook c s sh fresh = of_kind s c.args.seat c.args.kind _ _ _ c.in-PinLook.is (c.pin_look.ensures s sh)

pub returns-in-PinSet : goal.returns-in-PinSet
unfolding move
returns-in-PinSet c s sh fresh = of_kind s c.args.seat c.args.kind _ _ _ c.in-PinSet.is (c.pin_set.ensures s sh)

pub returns-in-Unpin : goal.returns-in-Unpin
unfolding move
returns-in-Unpin c s sh fresh = of_kind s c.args.seat c.args.kind _ _ _ c.in-Unpin.is (c.unpin.ensures s sh)

pub returns-in-TakeLook : goal.returns-in-TakeLook
unfolding move
returns-in-TakeLook c s sh fresh = of_kind s c.args.seat c.args.kind _ _ _ c.in-TakeLook.is (c.take_look.ensures s sh)

pub returns-in-TakeTry : goal.returns-in-TakeTry
unfolding move
returns-in-TakeTry c s sh fresh = of_kind s c.args.seat c.args.kind _ _ _ c.in-TakeTry.is (c.take_try.ensures s sh)

pub returns-in-Show : goal.returns-in-Show
unfolding move
returns-in-Show c s sh fresh = of_kind s c.args.seat c.args.kind _ _ _ c.in-Show.is (c.show.ensures s sh)

pub returns-in-Hold : goal.returns-in-Hold
unfolding move
returns-in-Hold c s sh fresh = of_kind s c.args.seat c.args.kind _ _ _ c.in-Hold.is (c.hold.ensures s sh)

pub returns-in-Touch : goal.returns-in-Touch
unfolding move
returns-in-Touch c s sh fresh = of_kind s c.args.seat c.args.kind _ _ _ c.in-Touch.is (c.touch.ensures s sh)

pub returns-in-Return : goal.returns-in-Return
unfolding move
returns-in-Return c s sh fresh = of_kind s c.args.seat c.args.kind _ _ _ c.in-Return.is (c.give_back.ensures s sh)

pub returns-in-DeferLook : goal.returns-in-DeferLook
unfolding move
returns-in-DeferLook c s sh fresh = of_kind s c.args.seat c.args.kind _ _ _ c.in-DeferLook.is (c.defer_look.ensures s sh)

pub returns-in-DeferSwap : goal.returns-in-DeferSwap
unfolding move
returns-in-DeferSwap c s sh fresh = of_kind s c.args.seat c.args.kind _ _ _ c.in-DeferSwap.is (c.defer_swap.ensures s sh)

pub returns-in-DeferLink : goal.returns-in-DeferLink
unfolding move
returns-in-DeferLink c s sh fresh = of_kind s c.args.seat c.args.kind _ _ _ c.in-DeferLink.is (c.defer_link.ensures s sh)

pub returns-in-ElectLocal : goal.returns-in-ElectLocal
unfolding move
returns-in-ElectLocal c s sh fresh = of_kind s c.args.seat c.args.kind _ _ _ c.in-ElectLocal.is (c.elect_local.ensures s sh)

pub returns-in-ElectGlobal : goal.returns-in-ElectGlobal
unfolding move
returns-in-ElectGlobal c s sh fresh = of_kind s c.args.seat c.args.kind _ _ _ c.in-ElectGlobal.is (c.elect_global.ensures s sh)

pub returns-in-EpochLook : goal.returns-in-EpochLook
unfolding move
returns-in-EpochLook c s sh fresh = of_kind s c.args.seat c.args.kind _ _ _ c.in-EpochLook.is (c.epoch_look.ensures s sh)

pub returns-in-ScanToken : goal.returns-in-ScanToken
unfolding move
returns-in-ScanToken c s sh fresh = of_kind s c.args.seat c.args.kind _ _ _ c.in-ScanToken.is (c.scan_token.ensures s sh)

pub returns-in-Advance : goal.returns-in-Advance
unfolding move
returns-in-Advance c s sh fresh = of_kind s c.args.seat c.args.kind _ _ _ c.in-Advance.is (c.advance.ensures s sh)

pub returns-in-Spread : goal.returns-in-Spread
unfolding move
returns-in-Spread c s sh fresh = of_kind s c.args.seat c.args.kind _ _ _ c.in-Spread.is (c.spread.ensures s sh)

pub returns-in-Collect : goal.returns-in-Collect
unfolding move
returns-in-Collect c s sh fresh = of_kind s c.args.seat c.args.kind _ _ _ c.in-Collect.is (c.collect.ensures s sh)

pub returns-in-Walk : goal.returns-in-Walk
unfolding move
returns-in-Walk c s sh fresh = of_kind s c.args.seat c.args.kind _ _ _ c.in-Walk.is (c.walk.ensures s sh fresh.walked)

pub returns-in-Release : goal.returns-in-Release
unfolding move
returns-in-Release c s sh fresh = of_kind s c.args.seat c.args.kind _ _ _ c.in-Release.is (c.release.ensures s sh)

pub returns-in-Leave : goal.returns-in-Leave
unfolding move
returns-in-Leave c s sh fresh = of_kind s c.args.seat c.args.kind _ _ _ c.in-Leave.is (c.leave.ensures s sh)

pub returns-in-StackLook : goal.returns-in-StackLook
unfolding move
returns-in-StackLook c s sh fresh = of_kind s c.args.seat c.args.kind _ _ _ c.in-StackLook.is (c.stack_look.ensures s sh)

pub returns-in-StackNext : goal.returns-in-StackNext
unfolding move
returns-in-StackNext c s sh fresh = of_kind s c.args.seat c.args.kind _ _ _ c.in-StackNext.is (c.stack_next.ensures s sh)

pub returns-in-StackPop : goal.returns-in-StackPop
unfolding move
returns-in-StackPop c s sh fresh = of_kind s c.args.seat c.args.kind _ _ _ c.in-StackPop.is (c.stack_pop.ensures s sh fresh.popped)

pub returns-in-StackPut : goal.returns-in-StackPut
unfolding move
returns-in-StackPut c s sh fresh = of_kind s c.args.seat c.args.kind _ _ _ c.in-StackPut.is (c.stack_put.ensures s sh)

pub returns-in-HandLink : goal.returns-in-HandLink
unfolding move
returns-in-HandLink c s sh fresh = of_kind s c.args.seat c.args.kind _ _ _ c.in-HandLink.is (c.hand_link.ensures s sh)

pub returns-in-HomeSwap : goal.returns-in-HomeSwap
unfolding move
returns-in-HomeSwap c s sh fresh = of_kind s c.args.seat c.args.kind _ _ _ c.in-HomeSwap.is (c.home_swap.ensures s sh)

pub returns-in-HomeLink : goal.returns-in-HomeLink
unfolding move
returns-in-HomeLink c s sh fresh = of_kind s c.args.seat c.args.kind _ _ _ c.in-HomeLink.is (c.home_link.ensures s sh)

pub returns-in-HomeTake : goal.returns-in-HomeTake
unfolding move
returns-in-HomeTake c s sh fresh = of_kind s c.args.seat c.args.kind _ _ _ c.in-HomeTake.is (c.home_take.ensures s sh)

pub returns-in-HomeWalk : goal.returns-in-HomeWalk
unfolding move
returns-in-HomeWalk c s sh fresh = of_kind s c.args.seat c.args.kind _ _ _ c.in-HomeWalk.is (c.home_walk.ensures s sh fresh.taken)
