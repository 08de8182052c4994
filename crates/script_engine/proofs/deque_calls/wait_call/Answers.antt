use Rattle.std.proofs.Common.{sym, subst}
use Rattle.seq_objects.specs.declared.deques.DequeCall.{DequeCall}
use Rattle.script_engine.specs.DequeCalls.{DequeWaits}
use Rattle.script_engine.proofs.deque_calls.wait_call.Goals as goal

pub returns-in-PushBack-clause-gives : goal.returns-in-PushBack-clause-gives
returns-in-PushBack-clause-gives g c =
    subst (λ (call : DequeCall). DequeWaits c.args.deque.now c.args.pass.now call c.show_waited_push.result c.push_back.new.pass) (sym c.in-PushBack.is)
    (c.push_back.result, c.show_waited_push.ensures, c.push_back.ensures.history, c.push_back.ensures.cause)

pub returns-in-PushFront-clause-gives : goal.returns-in-PushFront-clause-gives
returns-in-PushFront-clause-gives g c =
    subst (λ (call : DequeCall). DequeWaits c.args.deque.now c.args.pass.now call c.show_waited_push-in-PushFront.result c.push_front.new.pass) (sym c.in-PushFront.is)
    (c.push_front.result, c.show_waited_push-in-PushFront.ensures, c.push_front.ensures.history, c.push_front.ensures.cause)
