use Rattle.std.proofs.Common.{[]}
use Rattle.line_text.proofs.Said.{rest_said}
use Rattle.line_text.proofs.states.said_by.Goals as goal

pub returns-in-Ends-clause-said : goal.returns-in-Ends-clause-said
returns-in-Ends-clause-said g c = rest_said g.F.Form.grammar g.F.Form.is_form g.met.F.Form.sound c.args.state [] c.in-Ends.said c.requires c.in-Ends.ensures.1
