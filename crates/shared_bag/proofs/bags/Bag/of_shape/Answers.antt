use Rattle.std.proofs.Common.{ap, ◌∙◌}
use Rattle.std.specs.Prelude.{replicate}
use Rattle.shared_bag.specs.Layout.{words_of, slots_in}
use Rattle.shared_bag.proofs.LastStates.{opens_with, blank}
use Rattle.shared_bag.proofs.bags.Bag.of_shape.Goals as goal

pub open-requires-clause-rule : goal.open-requires-clause-rule
open-requires-clause-rule g c =
    opens_with g.K.Keeps.keeps _ _ _ c.requires (c.as_slice.ensures.value ∙ (c.in_ok-words.ensures ∙ ap (λ n. replicate (words_of n) 0) c.all_segments.ensures.count))
    (c.in_ok-slots.ensures ∙ ap (λ n. replicate (slots_in n) blank) c.all_segments-2.ensures.count)
