use Rattle.std.proofs.Common.{take}
use Rattle.script_engine.specs.Replied.{HasReplied}
use Rattle.script_engine.proofs.alone.ask_calls.Given as goal

abbrev pub invariant-loop-call : goal.invariant-loop-call
invariant-loop-call g l = HasReplied g.O.Asked.does l.fn.object (take l.call-index l.calls) l.object l.fn.replies.items l.replies.items
