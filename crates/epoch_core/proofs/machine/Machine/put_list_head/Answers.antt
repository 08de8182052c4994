use Rattle.std.proofs.Common.{◌<◌, ◌%◌, slice_set, ap, ◌∙◌, arith}
use Rattle.epoch_core.proofs.Stores.{list_head_stored}
use Rattle.epoch_core.proofs.machine.Machine.put_list_head.Goals as goal

pub returns-clause-shown : goal.returns-clause-shown
returns-clause-shown c s sh inside =
    let list : c.args.tag % 4 < 4 = omega arith in
    list_head_stored _ s sh c.write.new.words c.args.locale (c.args.tag % 4) c.args.word inside list (c.write.ensures ∙ ap (λ n. slice_set c.args.self.now.lists.items n c.args.word) c.list_at-at.ensures)
