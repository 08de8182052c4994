use Rattle.std.proofs.Common.{map, sym, ◌∙◌}
use Rattle.std.proofs.lemmas.Bool.{false≢true}
use Rattle.std.specs.String.{string_bytes}
use Rattle.pgas_top.specs.Commands.{Run}
use Rattle.pgas_top.proofs.Outcomes.{outcome_ran, outcome_all}
use Rattle.pgas_top.proofs.program.run.Goals as goal

pub returns-then-is_run : goal.returns-then-is_run
returns-then-is_run g c =
    let words = map string_bytes c.args.words.now in
    let named = c.is_run.ensures.0 c.if-is_run.true in
    record { outcome = outcome_ran (λ request. Unit {0}) words Run _ _ _ c.run_script.result c.report.result tt named c.run_script.ensures.ran c.report.ensures.told c.report.ensures.status }

pub returns-else-is_run : goal.returns-else-is_run
returns-else-is_run g c =
    let words = map string_bytes c.args.words.now in
    record { outcome = outcome_all words _ _ _ c.run_plain.result (λ named. absurd (false≢true (sym c.if-is_run.false ∙ c.is_run.ensures.1 named))) c.run_plain.ensures.outcome }
