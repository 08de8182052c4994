use Rattle.std.proofs.Common.{◌≡◌, List, [], length, map, subst, sym, ap, ◌∙◌}
use Rattle.std.specs.Global.{Vec}
use Rattle.script_text.specs.declared.replies.Reply.{Reply}
use Rattle.script_text.specs.declared.replies.Left.TheVariants.{Items}
use Rattle.script_engine.specs.declared.rounds.Worker.{Worker}
use Rattle.script_engine.specs.Runs.{HaveRun, AreDismissed}
use Rattle.script_text.specs.Scripts.{plain_round}
use Rattle.script_engine.proofs.WholeScripts.{not_run, fit_still, still_in_order, finished, hired_count, all_written}
use Rattle.script_engine.proofs.many.run_shared.Goals as goal

pub run_rounds-requires-clause-new : goal.run_rounds-requires-clause-new
run_rounds-requires-clause-new g c κs bounds =
    let new =
    not_run (g.O.Shared.fits c.args.object) g.O.Shared.caller g.O.Shared.page (g.O.Shared.says c.args.object) (g.O.Shared.callers c.args.object) c.args.passes.items c.in_ok-workers.workers.items c.requires.new c.in_ok-workers.ensures in
    subst (HaveRun (g.O.Shared.fits c.args.object) g.O.Shared.caller g.O.Shared.page (g.O.Shared.says c.args.object) []) (sym c.as_mut_slice.ensures.value) new

pub finish-requires-clause-passes : goal.finish-requires-clause-passes
finish-requires-clause-passes g c =
    let count : length c.run_rounds.new.workers ≡ length c.in_ok-workers.workers.items = c.run_rounds.auto.workers ∙ ap length c.as_mut_slice.ensures.value in
    let same = all_written c.in_ok-workers.workers.items c.run_rounds.new.workers c.in_ok-workers.workers.len c.in_ok-workers.workers.ok.0 count in
    let told = map (λ (v : Vec Reply). v.items) c.in_ok-passes.callers.items in
    let gone = subst (λ (l : List (Worker g.row.P.Denot)). AreDismissed l c.in_ok-passes.passes.items told) same c.in_ok-passes.ensures in
    fit_still (g.O.Shared.fits c.args.object) g.O.Shared.caller g.O.Shared.page (g.O.Shared.says c.args.object) (map plain_round c.args.rounds.now) c.run_rounds.new.workers c.in_ok-passes.passes.items told c.in_ok-run_rounds.ensures gone

pub finish-requires-clause-numbers : goal.finish-requires-clause-numbers
finish-requires-clause-numbers g c =
    let count : length c.run_rounds.new.workers ≡ length c.in_ok-workers.workers.items = c.run_rounds.auto.workers ∙ ap length c.as_mut_slice.ensures.value in
    let same = all_written c.in_ok-workers.workers.items c.run_rounds.new.workers c.in_ok-workers.workers.len c.in_ok-workers.workers.ok.0 count in
    let told = map (λ (v : Vec Reply). v.items) c.in_ok-passes.callers.items in
    let gone = subst (λ (l : List (Worker g.row.P.Denot)). AreDismissed l c.in_ok-passes.passes.items told) same c.in_ok-passes.ensures in
    still_in_order (g.O.Shared.fits c.args.object) g.O.Shared.caller g.O.Shared.page (g.O.Shared.says c.args.object) (map plain_round c.args.rounds.now) c.run_rounds.new.workers c.in_ok-passes.passes.items told c.in_ok-run_rounds.ensures gone

pub returns : goal.returns
returns g c =
    let many : length c.run_rounds.new.workers ≡ length c.in_ok-workers.workers.items = c.run_rounds.auto.workers ∙ ap length c.as_mut_slice.ensures.value in
    let same = all_written c.in_ok-workers.workers.items c.run_rounds.new.workers c.in_ok-workers.workers.len c.in_ok-workers.workers.ok.0 many in
    let told = map (λ (v : Vec Reply). v.items) c.in_ok-passes.callers.items in
    let gone = subst (λ (l : List (Worker g.row.P.Denot)). AreDismissed l c.in_ok-passes.passes.items told) same c.in_ok-passes.ensures in
    let count = many ∙ (hired_count c.args.passes.items c.in_ok-workers.workers.items c.in_ok-workers.ensures ∙ c.requires.new.count) in
    let end = c.in_ok-items.ensures in
    finished (g.O.Shared.fits c.args.object) g.O.Shared.caller g.O.Shared.page (g.O.Shared.says c.args.object) (g.O.Shared.leaves c.args.object) (g.O.Shared.callers c.args.object) (map plain_round c.args.rounds.now) c.run_rounds.new.workers
    c.in_ok-passes.passes.items record { callers = c.in_ok-passes.callers; left = Items c.in_ok-items.items } end.0 c.requires.some count c.in_ok-run_rounds.ensures gone end.1 end.2 end.3
