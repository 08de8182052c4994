use Rattle.std.proofs.Common.{◌≡◌, ◌++◌, drop, map, string_bytes}
use Rattle.script_text.specs.Scripts.{written_callers, plain_round}
use Rattle.script_text.proofs.writer.push_round.Given as goal

abbrev pub invariant-loop-caller : goal.invariant-loop-caller
invariant-loop-caller l =
    string_bytes l.text ++ written_callers l.caller (map (λ calls. calls.items) (drop l.caller l.round.calls.items)) ≡ string_bytes l.fn.text ++ written_callers 0 (plain_round l.round)
