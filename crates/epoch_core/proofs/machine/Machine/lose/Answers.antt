use Rattle.std.proofs.Common.{refl}
use Rattle.epoch_laws.specs.Seats.{Seat, NoLook}
use Rattle.epoch_core.proofs.SeatStores.{seat_changed, low_read}
use Rattle.epoch_core.proofs.machine.Machine.lose.Goals as goal

pub returns : goal.returns
returns c s sh =
    seat_changed _ s sh _ c.args.seat c.index_mut.result.now _ (λ (q : Seat). record q { stack = record q.stack { phase = NoLook } }) (low_read _ s sh c.args.seat c.requires) c.index_mut.ensures.value refl
    (λ o h w. refl) (λ q. refl) (λ q. refl) (λ q. refl) refl refl
    (λ w o. record {
      token = o.token;
      announced = o.announced;
      looked = o.looked;
      swapped = o.swapped;
      scans = o.scans;
      advances = o.advances;
      rests = o.rests;
      scan_locale = o.scan_locale;
      scan_number = o.scan_number;
      stack_locale = o.stack_locale;
      stack_index = o.stack_index;
      tail = o.tail;
    })
