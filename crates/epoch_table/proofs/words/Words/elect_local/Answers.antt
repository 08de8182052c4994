use Rattle.std.proofs.Common.{◌<◌, ap, refl, ◌∙◌, subst}
use Rattle.epoch_laws.specs.Words.{local_election}
use Rattle.epoch_table.specs.Layout.{named_place}
use Rattle.epoch_table.proofs.words.Words.elect_local.Goals as goal

pub exchange-requires-clause-at : goal.exchange-requires-clause-at
exchange-requires-clause-at g c =
    let shape = c.args.self.now.shape in
    let l = c.requires.locale in (subst (λ n. n < shape.locales) l.0 l.1, c.election_at.ensures shape ∙ ap (λ n. named_place shape (local_election n)) l.0, refl, refl)
