use Rattle.std.proofs.Common.{map}
use Rattle.std.specs.List.{slice_split}
use Rattle.std.specs.String.{string_bytes}
use Rattle.pgas_top.specs.Commands.{Check, Make, Names, NeedsOneThread, Plain, is_comma}
use Rattle.pgas_top.proofs.Outcomes.{are_ids, outcome_ran}
use Rattle.pgas_top.proofs.program.run_plain.Goals as goal

pub run_levels-requires : goal.run_levels-requires
run_levels-requires g c =
    let words = map string_bytes c.args.words.now in
    let told = rw c.in-Some-Plain.is at c.in-Ok.ensures in
    let fits = rw c.in-Some-Plain.field-0-is at told.1 in
    let named : Names words (Plain c.in-Some-Plain.sources.items) = fits in
    rw c.as_slice.ensures.value (are_ids (slice_split is_comma named.2.0) c.in-Some-Plain.sources.items named.2.2)

pub returns-in-Some-Plain : goal.returns-in-Some-Plain
returns-in-Some-Plain g c =
    let words = map string_bytes c.args.words.now in
    let sources = c.in-Some-Plain.sources.items in
    let told = rw c.in-Some-Plain.is at c.in-Ok.ensures in
    let fits = rw c.in-Some-Plain.field-0-is at told.1 in
    let named : Names words (Plain sources) = fits in
    let ran = rw c.as_slice.ensures.value at c.run_levels.ensures.ran in
    record { outcome = outcome_ran NeedsOneThread words (Plain sources) _ _ _ c.run_levels.result c.report-in-Some-Plain.result tt named ran c.report-in-Some-Plain.ensures.told c.report-in-Some-Plain.ensures.status }

pub returns-in-Some-Make : goal.returns-in-Some-Make
returns-in-Some-Make g c =
    let words = map string_bytes c.args.words.now in
    let made = Make c.in-Some-Make.seed c.in-Some-Make.vertices c.in-Some-Make.edges in
    let told = rw c.in-Some-Make.is at c.in-Ok.ensures in
    let fits = rw c.in-Some-Make.field-0-is at told.1 in
    let named : Names words made = fits in
    let ran = c.run_make.ensures.ran (g.S.Source.left c.args.source.now) (g.S.Source.faults c.args.source.now) in
    record { outcome = outcome_ran NeedsOneThread words made _ _ _ c.run_make.result c.report-in-Some-Make.result tt named ran c.report-in-Some-Make.ensures.told c.report-in-Some-Make.ensures.status }

pub returns-in-Some-Check : goal.returns-in-Some-Check
returns-in-Some-Check g c =
    let words = map string_bytes c.args.words.now in
    let told = rw c.in-Some-Check.is at c.in-Ok.ensures in
    let fits = rw c.in-Some-Check.field-0-is at told.1 in
    let named : Names words Check = fits in
    record { outcome = outcome_ran NeedsOneThread words Check _ _ _ c.run_check.result c.report-in-Some-Check.result tt named c.run_check.ensures.ran c.report-in-Some-Check.ensures.told c.report-in-Some-Check.ensures.status }
