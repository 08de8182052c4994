use Rattle.std.proofs.lemmas.List.Elements.{All-set}
use Rattle.epoch_tests.specs.Carrying.{Carries}
use Rattle.epoch_tests.proofs.managers.scripts.noted_by.Goals as goal

pub returns-clause-carries : goal.returns-clause-carries
returns-clause-carries c = All-set (λ a. Carries c.args.manager.now a.cells a.pass a.hand a.cut a.held) c.args.callers.now c.args.giver c.note_of.new.caller c.note_of.ensures.carries c.requires.carries
