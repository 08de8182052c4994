-- Where a running seat stands.
use Rattle.epoch_laws.specs.Seats.{Phase, StackPhase}
use Rattle.epoch_laws.specs.Seats as laws
use Rattle.epoch_core.specs.declared.seats.Phase.{Phase as RunningPhase}
use Rattle.epoch_core.specs.declared.seats.Phase.TheVariants.{Idle, Registered, PinLooked, Pinned, DeferLooked, DeferSwapped, WonLocal, LostGlobal, WonGlobal, Scanning, Stopped, Advanced, LeftGlobal}
use Rattle.epoch_core.specs.declared.seats.StackPhase.{StackPhase as RunningStackPhase}
use Rattle.epoch_core.specs.declared.seats.StackPhase.TheVariants.{NoLook, Looked, NextRead}

abbrev pub phase_of : RunningPhase → Phase
phase_of Idle = laws.Idle
phase_of Registered = laws.Registered
phase_of PinLooked = laws.PinLooked
phase_of Pinned = laws.Pinned
phase_of DeferLooked = laws.DeferLooked
phase_of DeferSwapped = laws.DeferSwapped
phase_of WonLocal = laws.WonLocal
phase_of LostGlobal = laws.LostGlobal
phase_of WonGlobal = laws.WonGlobal
phase_of Scanning = laws.Scanning
phase_of Stopped = laws.Stopped
phase_of Advanced = laws.Advanced
phase_of LeftGlobal = laws.LeftGlobal

abbrev pub stack_phase_of : RunningStackPhase → StackPhase
stack_phase_of NoLook = laws.NoLook
stack_phase_of Looked = laws.Looked
stack_phase_of NextRead = laws.NextRead
