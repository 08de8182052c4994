use Rattle.std.proofs.Common.{ap₂, rules, ◌∙◌}
use Rattle.clap.specs.Simple.{with_rule}
use Rattle.pgas_top.proofs.forms.plain_form.Goals as goal

pub returns : goal.returns
returns c = c.in_ok-plain.ensures.shape (search rules) ∙ ap₂ with_rule c.form.ensures c.word.ensures.rule
