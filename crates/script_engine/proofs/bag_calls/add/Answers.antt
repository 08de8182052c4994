use Rattle.std.proofs.Common.{Bool, sym, subst}
use Rattle.script_engine.specs.BagCalls.{AddAnswers}
use Rattle.script_engine.proofs.bag_calls.add.Goals as goal

pub returns-else-once-clause-answers : goal.returns-else-once-clause-answers
returns-else-once-clause-answers g c =
    let says = c.add.ensures in
    subst (λ (once : Bool). AddAnswers c.args.bag.now c.args.pass.now c.add.new.pass c.args.item c.add.result once) (sym c.if-once.false) ((says.history, says.full_alone, says.room), says.cause)
