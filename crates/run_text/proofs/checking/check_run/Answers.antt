use Rattle.std.proofs.Common.{sym}
use Rattle.run_text.specs.Runs.{plain_run}
use Rattle.run_text.proofs.CheckedRuns.{exact, legal, verdict}
use Rattle.run_text.proofs.checking.check_run.Goals as goal

pub returns-clause-checked : goal.returns-clause-checked
returns-clause-checked c = c.in_ok-end.ensures (plain_run c.args.run.now) (sym c.as_slice-steps.ensures.value) c.in_ok-machine.ensures c.new-items.ensures.items

pub returns-clause-verdict : goal.returns-clause-verdict
returns-clause-verdict c = verdict (plain_run c.args.run.now) c.make_steps.new.items.items c.in_ok-end.end (returns-clause-checked c)

pub returns-clause-legal : goal.returns-clause-legal
returns-clause-legal c =
    legal (plain_run c.args.run.now) c.make_steps.new.items.items c.in_ok-end.end c.in_ok-machine.ensures.shaped c.in_ok-machine.ensures.count (returns-clause-checked c) c.events_are_legal.ensures

pub returns-clause-exact : goal.returns-clause-exact
returns-clause-exact c =
    exact (plain_run c.args.run.now) c.make_steps.new.items.items c.in_ok-end.end c.in_ok-machine.ensures.shaped c.in_ok-machine.ensures.count (returns-clause-checked c) c.release_is_exact.ensures
