use Rattle.script_text.specs.Scripts.{plain_script}
use Rattle.examples.proofs.scripts.replies_to.Goals as goal

pub returns : goal.returns
returns g c = (plain_script c.in_ok-script.script, c.in_ok-replies.replies, c.in_ok-replies.ensures.answer, c.in_ok-text.ensures)
