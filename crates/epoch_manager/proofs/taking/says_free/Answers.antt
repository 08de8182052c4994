use Rattle.std.proofs.Common.{◌/◌, ◌%◌, arith}
use Rattle.std.proofs.lemmas.Bool.{eqb-true}
use Rattle.epoch_manager.proofs.taking.says_free.Goals as goal

pub returns-clause-free : goal.returns-clause-free
returns-clause-free c = λ is. let none = eqb-true (c.args.header % 8) 0 is in (c.args.header / 8, omega (arith, none))
