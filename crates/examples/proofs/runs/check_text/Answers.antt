use Rattle.run_text.specs.Runs.{plain_run}
use Rattle.examples.proofs.runs.check_text.Goals as goal

pub returns : goal.returns
returns g c = (plain_run c.in_ok-steps.steps, c.in_ok-checked.checked, c.in_ok-checked.ensures.verdict, c.in_ok-checked.ensures.legal, _, c.in_ok-text.ensures)
