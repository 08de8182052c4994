use Rattle.std.proofs.Common.{◌≡◌}
use Rattle.epoch_laws.specs.declared.tokens.Token.{Token}
use Rattle.epoch_manager.specs.declared.phases.Phase.TheVariants.{Registered}
use Rattle.epoch_manager.specs.Managers.{pass_opening, phase_of}
use Rattle.epoch_tests.proofs.managers.homes.defer_objects.Given as goal

abbrev pub invariant-loop : goal.invariant-loop
invariant-loop g l = record {
  opening : pass_opening l.pass ≡ pass_opening l.fn.pass;
  phase : (token : Token) × (phase_of l.pass ≡ Registered token);
}
