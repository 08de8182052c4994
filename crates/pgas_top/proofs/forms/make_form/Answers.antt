use Rattle.std.proofs.Common.{ap₂, rules, ◌∙◌}
use Rattle.clap.specs.Simple.{with_rule}
use Rattle.pgas_top.proofs.forms.make_form.Goals as goal

pub returns : goal.returns
returns c =
    c.in_ok-make.ensures.shape (search rules)
    ∙ ap₂ with_rule (c.in_ok-arg-2.ensures.shape (search rules) ∙ ap₂ with_rule (c.in_ok-arg.ensures.shape (search rules) ∙ ap₂ with_rule c.form.ensures c.option.ensures.rule) c.option-2.ensures.rule) c.option-3.ensures.rule
