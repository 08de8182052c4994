use Rattle.std.proofs.Common.{ap, sym, ◌∙◌}
use Rattle.epoch_core.specs.declared.marks.Keeper.TheVariants.{Nobody}
use Rattle.epoch_core.specs.Marks.{is_kept}
use Rattle.epoch_core.proofs.machine.Machine.is_kept.Goals as goal

pub returns : goal.returns
returns c s sh low place = c.keeps.ensures ∙ ap (λ k. is_kept c.args.role c.args.seat k) c.keeper_of.ensures ∙ sym (sh.marks.kept c.args.role c.args.seat _ Nobody low place)
