use Rattle.std.proofs.Common.{◌≡◌}
use Rattle.epoch_laws.specs.declared.tokens.Token.{Token}
use Rattle.epoch_manager.specs.declared.phases.Phase.TheVariants.{Registered}
use Rattle.epoch_manager.specs.Managers.{phase_of, IsSamePass}
use Rattle.examples.proofs.cells.Rows.replace_often.Given as goal

abbrev pub invariant-loop-number : goal.invariant-loop-number
invariant-loop-number g l = IsSamePass l.fn.pass l.pass × ((token : Token) × (phase_of l.pass ≡ Registered token))
