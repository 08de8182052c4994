use Rattle.std.proofs.Common.{ap, sym, subst}
use Rattle.epoch_laws.specs.Seats.{Seat}
use Rattle.epoch_laws.specs.StackSteps.{in_hand_of}
use Rattle.epoch_core.specs.Answers.{Checks}
use Rattle.epoch_core.proofs.SeatStores.{seat_read, low_read}
use Rattle.epoch_core.proofs.machine.Machine.in_looked_hand.Goals as goal

pub returns : goal.returns
returns c s sh place =
    let own = seat_read _ s sh c.args.seat c.index.result.now (low_read _ s sh c.args.seat c.requires) c.index.ensures in
    subst (λ l. Checks (in_hand_of s c.args.seat c.args.ptr l) c.in_hand_of_locale.result) (sym (ap (λ (q : Seat). q.stack.locale) own.same)) (c.in_hand_of_locale.ensures s sh place)
