use Rattle.std.proofs.Common.{◌≡◌, ◌≤◌, ap, arith}
use Rattle.epoch_laws.specs.Seats.{Seat}
use Rattle.epoch_core.proofs.SeatStores.{low_read, seat_read}
use Rattle.epoch_core.proofs.machine.Machine.pin_word.Goals as goal

pub returns : goal.returns
returns c s sh =
    let own = seat_read _ s sh c.args.seat c.index.result.now (low_read _ s sh c.args.seat c.requires) c.index.ensures in
    let low : c.index.result.now.announced ≤ 4611686018427387904 = own.in_range.announced in
    let is : (s.seat c.args.seat).announced ≡ c.index.result.now.announced = ap (λ (q : Seat). q.announced) own.same in
    omega arith
