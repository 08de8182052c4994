use Rattle.std.proofs.Common.{arith}
use Rattle.std.proofs.lemmas.Slice.{take-put_mid_below}
use Rattle.levels_engine.proofs.Marking.{IsPermutation-tail}
use Rattle.levels_engine.proofs.marks.sort_tail.Goals as goal

pub returns-clause-front : goal.returns-clause-front
returns-clause-front c = take-put_mid_below c.args.begin _ c.args.numbers.now _ c.args.begin (omega arith) c.requires

pub returns-clause-rest : goal.returns-clause-rest
returns-clause-rest c = IsPermutation-tail c.args.numbers.now c.sort_unstable.new.self c.args.begin c.requires c.sort_unstable.ensures.permutation
