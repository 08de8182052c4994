use Rattle.std.proofs.Common.{take, map}
use Rattle.script_engine.specs.Replied.{HasReplied, first_calls}
use Rattle.script_text.specs.Scripts.{plain_round}
use Rattle.script_engine.proofs.alone.ask_rounds.Given as goal

abbrev pub invariant-loop-round : goal.invariant-loop-round
invariant-loop-round g l =
    HasReplied g.O.Asked.does l.fn.object (first_calls (map plain_round (take l.round-index l.rounds))) l.object l.fn.replies.items l.replies.items
