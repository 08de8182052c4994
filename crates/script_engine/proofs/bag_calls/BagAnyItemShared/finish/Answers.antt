use Rattle.std.proofs.Common.{ℕ, subst}
use Rattle.std.proofs.lemmas.List.Sorted.{IsNonDecreasingBy-from_sort}
use Rattle.pass_book.specs.Histories.{IsOfCallers}
use Rattle.script_engine.proofs.bag_calls.BagAnyItemShared.finish.Goals as goal

pub returns-in-Ok : goal.returns-in-Ok
returns-in-Ok c =
    let closes = c.in-Ok.ensures.ok in
    let sorts = c.sort_unstable.ensures in (
      closes.book.history,
      (c.in-Ok.closed.items.items, closes.leaves, (sorts.permutation, IsNonDecreasingBy-from_sort (λ (n : ℕ). n) _ sorts.sorted)),
      subst (λ (n : ℕ). IsOfCallers n closes.book.history) closes.callers closes.legal.callers,
      closes.pages,
    )
