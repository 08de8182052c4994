use Rattle.epoch_core.proofs.Runs.{after_takes_fresh, goes}
use Rattle.epoch_core.proofs.machine.Machine.step.Goals as goal

pub returns : goal.returns
returns c shape start seats steps after =
    goes c.args.self.now c.make.new.self shape start seats steps c.args.step c.make.result after
    (c.make.ensures _ after.shows (after_takes_fresh _ shape start seats steps after c.args.step.seat))
