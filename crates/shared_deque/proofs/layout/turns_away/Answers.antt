use Rattle.std.proofs.Common.{arith}
use Rattle.std.proofs.lemmas.Bool.Decides.{nat_tests}
use Rattle.shared_deque.proofs.layout.turns_away.Goals as goal

pub returns-in-Push : goal.returns-in-Push
returns-in-Push c = grind (arith, nat_tests)
