use Rattle.std.proofs.Common.{slice_set, ap, ◌∙◌}
use Rattle.epoch_core.proofs.Stores.{token_stored}
use Rattle.epoch_core.proofs.machine.Machine.put_token.Goals as goal

pub returns-clause-shown : goal.returns-clause-shown
returns-clause-shown c s sh inside = token_stored _ s sh c.write.new.words c.args.token c.args.word inside (c.write.ensures ∙ ap (λ n. slice_set c.args.self.now.tokens.items n c.args.word) c.token_at-at.ensures)
