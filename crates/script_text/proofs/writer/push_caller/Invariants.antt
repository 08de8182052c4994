use Rattle.std.proofs.Common.{◌≡◌, ◌∷◌, ◌++◌, [], take, string_bytes, codes, decimal}
use Rattle.std.specs.List.{flat_map}
use Rattle.script_text.specs.Replies.{reply_text}
use Rattle.script_text.proofs.writer.push_caller.Given as goal

abbrev pub invariant-loop-reply : goal.invariant-loop-reply
invariant-loop-reply l =
    string_bytes l.text ≡ (string_bytes l.fn.text ++ (codes "caller " ++ (decimal l.fn.caller ++ 10 ∷ []))) ++ flat_map (λ reply. reply_text reply ++ 10 ∷ []) (take l.reply-index l.replies)
