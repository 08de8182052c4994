use Rattle.std.proofs.Common.{sym, subst}
use Rattle.std.proofs.lemmas.Result.{IfOk-weaker}
use Rattle.pass_table.specs.Passes.{caller_of, page}
use Rattle.shared_bag.specs.Bags.{callers_of, shape_of}
use Rattle.script_text.specs.declared.scripts.Call.{Call}
use Rattle.script_text.specs.declared.scripts.Call.TheVariants.{Bag as OfBag}
use Rattle.script_engine.specs.Rounds.{Makes}
use Rattle.script_engine.specs.Says.{SaysBag}
use Rattle.script_engine.proofs.BagMakes.{gives_makes}
use Rattle.script_engine.proofs.bag_calls.BagAnyItemShared.make.Goals as goal

pub returns-clause-made : goal.returns-clause-made
returns-clause-made g c =
    let bag = c.args.self.now in
    let old = c.args.pass.now in
    let new = c.make_call.new.pass in
    IfOk-weaker c.make_call.result _ _
    (λ reply gives. subst (λ (call : Call). Makes (SaysBag (callers_of bag) (shape_of bag).segments (shape_of bag).room) (caller_of old) (page old) call reply (page new)) (sym c.in-Bag.is) (gives_makes bag old new (OfBag c.in-Bag.call c.in-Bag.once) reply gives))
    c.make_call.ensures.gives
