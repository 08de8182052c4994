use Rattle.epoch_core.specs.Opened.{AreFirstLinks}
use Rattle.epoch_core.proofs.machine.opening_links.Given as goal

abbrev pub invariant-loop-at : goal.invariant-loop-at
invariant-loop-at l = AreFirstLinks l.shape l.count l.at l.links.items
