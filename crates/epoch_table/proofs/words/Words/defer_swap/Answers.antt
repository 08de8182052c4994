use Rattle.std.proofs.Common.{◌<◌, ◌%◌, ap, ap₂, ◌∙◌, subst, arith}
use Rattle.std.proofs.lemmas.Nat.{mod_below}
use Rattle.pgas_base.specs.Pointers.{word_of}
use Rattle.epoch_laws.specs.Words.{list}
use Rattle.epoch_table.specs.Layout.{named_place}
use Rattle.epoch_table.proofs.words.Words.defer_swap.Goals as goal

pub swap-requires-clause-at : goal.swap-requires-clause-at
swap-requires-clause-at g c =
    let shape = c.args.self.now.shape in
    let l = c.requires.locale in (
      (subst (λ n. n < shape.locales) l.0 l.1, mod_below _ 4 (omega arith)),
      c.list_at.ensures shape ∙ ap₂ (λ n m. named_place shape (list n (m % 4))) l.0 c.requires.tag,
      c.word.ensures.value ∙ ap word_of c.requires.pointer,
    )
