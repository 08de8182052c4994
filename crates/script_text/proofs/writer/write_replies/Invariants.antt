use Rattle.std.proofs.Common.{◌≡◌, ◌++◌, drop, map, string_bytes}
use Rattle.script_text.specs.Replies.{callers_text, reply_lists}
use Rattle.script_text.proofs.writer.write_replies.Given as goal

abbrev pub invariant-loop-caller : goal.invariant-loop-caller
invariant-loop-caller l =
    string_bytes l.text ++ callers_text l.caller (map (λ list. list.items) (drop l.caller l.replies.callers.items)) ≡ callers_text 0 (reply_lists l.replies)
