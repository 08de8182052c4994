-- A caller's phase, from how its pass keeps it.
use Rattle.epoch_laws.specs.declared.tokens.Token.{Token}
use Rattle.epoch_manager.specs.declared.phases.Phase.{Phase}
use Rattle.epoch_manager.specs.declared.phases.Phase.TheVariants.{Idle as IdlePhase, Registered as RegisteredPhase, Pinned as PinnedPhase}
use Rattle.epoch_manager.specs.declared.stances.Standing.{Standing}
use Rattle.epoch_manager.specs.declared.stances.Standing.TheVariants.{Idle, Registered, Pinned}

-- how the caller stands, with the token that it has or had last
abbrev pub phase_at : Standing → Token → Phase
phase_at Idle token = IdlePhase
phase_at Registered token = RegisteredPhase token
phase_at Pinned token = PinnedPhase token
