use Rattle.std.proofs.lemmas.List.Elements.{All-set}
use Rattle.epoch_tests.specs.Carrying.{Carries}
use Rattle.epoch_tests.proofs.managers.scripts.hand_on.Goals as goal

pub returns-then-taker-callers : goal.returns-then-taker-callers
returns-then-taker-callers c =
    All-set (λ a. Carries c.args.manager.now a.cells a.pass a.hand a.cut a.held) c.noted_by-note.new.callers c.args.taker c.take_in.new.caller c.take_in.ensures c.noted_by-note.ensures.carries
