use Rattle.std.proofs.Common.{◌<◌, ◌%◌, ap, ◌∙◌, slice_index, arith}
use Rattle.epoch_core.specs.Tables.{ListName}
use Rattle.epoch_core.proofs.machine.Machine.list_head.Goals as goal

pub returns : goal.returns
returns c s sh inside =
    let list : c.args.tag % 4 < 4 = omega arith in
    let name : ListName = record { locale = c.args.locale; list = c.args.tag % 4 } in
    c.read.ensures ∙ ap (λ n. slice_index c.args.self.now.lists.items n) c.list_at.ensures ∙ sh.words.lists.at name 0 (inside, list)
