use Rattle.std.proofs.Common.{◌<◌, ◌+◌, ◌%◌, ap₂, refl, ◌∙◌, subst, arith}
use Rattle.std.proofs.lemmas.Nat.{mod_below}
use Rattle.epoch_laws.specs.Words.{list}
use Rattle.epoch_table.specs.Layout.{named_place}
use Rattle.epoch_table.proofs.words.Words.collect.Goals as goal

pub swap-requires-clause-at : goal.swap-requires-clause-at
swap-requires-clause-at g c =
    let shape = c.args.self.now.shape in
    let l = c.requires.locale in
    let e = c.requires.epoch in (
      (subst (λ n. n < shape.locales) l.0 l.1, mod_below _ 4 (omega arith)),
      c.list_at.ensures shape ∙ ap₂ (λ n m. named_place shape (list n ((m + 2) % 4))) l.0 e.0,
      refl,
    )
