use Rattle.script_engine.proofs.Chains.{has-next}
use Rattle.script_engine.proofs.alone.ask_calls.Goals as goal

pub loop-call-preserved : goal.loop-call-preserved
loop-call-preserved g c = has-next g.O.Asked.does _ _ _ c.args.calls.now _ _ _ _ _ _ c.loop-call-test.true c.loop-call.invariant c.in_ok-ask.ensures c.in_ok-push.ensures.items
