use Rattle.std.proofs.Common.{ap, ◌∙◌, sym, map}
use Rattle.pass_table.specs.Passes.{pass_view}
use Rattle.epoch_manager.proofs.PassClauses.{kept_fits}
use Rattle.epoch_manager.proofs.PhaseFits.{placed_same}
use Rattle.epoch_manager.specs.HeldNumbers.{number_of}
use Rattle.epoch_manager.proofs.managers.Manager.note.Goals as goal

pub invariant_of-pass : goal.invariant_of-pass
invariant_of-pass g c =
    let same = c.split.ensures.pass in
    record { fits = kept_fits (pass_view c.args.pass.now.pass) (pass_view c.split.new.pass) c.args.pass.now.phase c.args.pass.now.fits (ap (λ o. o.plan) same.0.0) same.0.1 same.2; placed = placed_same (pass_view c.args.pass.now.pass).plan (pass_view c.split.new.pass).plan c.args.pass.now.phase c.args.pass.now.place (ap (λ o. o.plan) same.0.0) c.args.pass.now.placed; holds = c.args.pass.now.holds ∙ ap (λ x. map number_of x.seat.held) (sym same.2) }
