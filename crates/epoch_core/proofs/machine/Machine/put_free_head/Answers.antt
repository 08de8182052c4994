use Rattle.std.proofs.Common.{refl}
use Rattle.epoch_core.proofs.Stores.{free_head_stored}
use Rattle.epoch_core.proofs.machine.Machine.put_free_head.Goals as goal

pub returns-then-at-len-clause-shown : goal.returns-then-at-len-clause-shown
returns-then-at-len-clause-shown c s sh inside low index = free_head_stored _ s sh _ _ _ inside low index refl
