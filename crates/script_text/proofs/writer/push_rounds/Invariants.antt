use Rattle.std.proofs.Common.{◌≡◌, ◌++◌, drop, map, string_bytes}
use Rattle.std.specs.List.{flat_map}
use Rattle.script_text.specs.declared.lines.Line.TheVariants.{Round}
use Rattle.script_text.specs.Rows.{written_line}
use Rattle.script_text.specs.Scripts.{written_callers, plain_round, written_rounds}
use Rattle.script_text.proofs.writer.push_rounds.Given as goal

abbrev pub invariant-loop-round : goal.invariant-loop-round
invariant-loop-round l =
    string_bytes l.text ++ flat_map (λ round. written_line Round ++ written_callers 0 round) (map plain_round (drop l.round-index l.others))
    ≡ string_bytes l.fn.text ++ written_rounds (map plain_round l.fn.rounds)
