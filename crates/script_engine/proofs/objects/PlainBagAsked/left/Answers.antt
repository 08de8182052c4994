use Rattle.std.proofs.Common.{ℕ, List, IsPermutation, ◌∙◌, subst}
use Rattle.std.proofs.lemmas.List.Sorted.{IsNonDecreasingBy-from_sort}
use Rattle.script_engine.proofs.objects.PlainBagAsked.left.Goals as goal

pub returns : goal.returns
returns c =
    let copied = c.in_ok-items.ensures.items ∙ c.items.ensures in (
      subst (λ (items : List ℕ). IsPermutation items c.sort_unstable.new.self.items) copied c.sort_unstable.ensures.permutation,
      IsNonDecreasingBy-from_sort (λ (n : ℕ). n) _ c.sort_unstable.ensures.sorted,
    )
