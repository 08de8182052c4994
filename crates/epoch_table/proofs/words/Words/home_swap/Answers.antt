use Rattle.std.proofs.Common.{ap, ◌∙◌}
use Rattle.epoch_laws.specs.Words.{home_chain}
use Rattle.epoch_table.specs.Layout.{named_place}
use Rattle.epoch_table.proofs.words.Words.home_swap.Goals as goal

pub swap-requires-clause-at : goal.swap-requires-clause-at
swap-requires-clause-at g c =
    let shape = c.args.self.now.shape in (c.requires.locale, c.home_at.ensures shape ∙ ap (λ n. named_place shape (home_chain n)) c.locale.ensures.value, c.word.ensures.value)
