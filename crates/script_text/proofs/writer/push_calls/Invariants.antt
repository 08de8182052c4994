use Rattle.std.proofs.Common.{◌≡◌, ◌++◌, take, string_bytes}
use Rattle.std.specs.List.{flat_map}
use Rattle.script_text.specs.declared.lines.Line.TheVariants.{Caller, Call as ACall}
use Rattle.script_text.specs.Rows.{written_line}
use Rattle.script_text.proofs.writer.push_calls.Given as goal

abbrev pub invariant-loop-call : goal.invariant-loop-call
invariant-loop-call l =
    string_bytes l.text ≡ (string_bytes l.fn.text ++ written_line (Caller l.fn.caller)) ++ flat_map (λ call. written_line (ACall call)) (take l.call-index l.calls)
