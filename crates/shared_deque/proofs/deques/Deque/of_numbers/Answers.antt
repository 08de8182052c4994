use Rattle.std.proofs.Common.{◌∙◌, arith}
use Rattle.shared_deque.proofs.LastStates.{opens_with}
use Rattle.shared_deque.proofs.deques.Deque.of_numbers.Goals as goal

pub open-requires-clause-rule : goal.open-requires-clause-rule
open-requires-clause-rule g c = opens_with g.K.Keeps.keeps _ _ _ (omega (arith, c.requires.0)) c.requires.0.1 (c.as_slice.ensures.value ∙ c.in_ok-words.ensures)
