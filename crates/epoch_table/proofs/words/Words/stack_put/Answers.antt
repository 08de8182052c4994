use Rattle.std.proofs.Common.{◌<◌, ◌+◌, ap, ap₂, ◌∙◌, subst}
use Rattle.pool_core.specs.declared.free_words.FreeWord.{FreeWord}
use Rattle.pool_core.specs.FreeWords.{free_head_word}
use Rattle.epoch_laws.specs.Words.{free_stack}
use Rattle.epoch_table.specs.Layout.{named_place}
use Rattle.epoch_table.proofs.words.Words.stack_put.Goals as goal

pub exchange-requires-clause-at : goal.exchange-requires-clause-at
exchange-requires-clause-at g c =
    let shape = c.args.self.now.shape in
    let l = c.requires.locale in
    let head = c.requires.head in (
      subst (λ n. n < shape.locales) l.0 l.1,
      c.stack_at.ensures shape ∙ ap (λ n. named_place shape (free_stack n)) l.0,
      c.free_word-old.ensures.value ∙ ap (λ (h : FreeWord). free_head_word h.count h.index) head,
      c.free_word-new.ensures.value ∙ ap₂ (λ (h : FreeWord) n. free_head_word (h.count + 1) n) head c.index.ensures.value,
    )
