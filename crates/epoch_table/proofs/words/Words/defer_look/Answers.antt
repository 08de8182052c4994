use Rattle.std.proofs.Common.{◌<◌, ap, ◌∙◌, subst}
use Rattle.epoch_laws.specs.Words.{local_epoch}
use Rattle.epoch_table.specs.Layout.{named_place}
use Rattle.epoch_table.proofs.words.Words.defer_look.Goals as goal

pub load-requires-clause-at : goal.load-requires-clause-at
load-requires-clause-at g c =
    let shape = c.args.self.now.shape in
    let l = c.requires.locale in (subst (λ n. n < shape.locales) l.0 l.1, c.epoch_at.ensures shape ∙ ap (λ n. named_place shape (local_epoch n)) l.0)
