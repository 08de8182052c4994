use Rattle.std.proofs.Common.{refl, ap, sym}
use Rattle.std.specs.Vec.{with_item}
use Rattle.epoch_laws.specs.declared.steps.Seen.TheVariants.{Word}
use Rattle.epoch_laws.specs.Seats.{Seat}
use Rattle.epoch_laws.specs.HomeSteps.{home_take}
use Rattle.epoch_core.specs.Seated.{seat_with}
use Rattle.epoch_core.proofs.SeatStores.{seat_changed}
use Rattle.epoch_core.proofs.machine.Machine.home_take.Goals as goal

pub returns : goal.returns
unfolding home_take
returns c s sh =
    let needs = c.in_ok-home_take_needs.ensures.tells s sh in
    let inside = c.in_ok-home_take_needs.ensures.locale in
    let read = c.home_head-word.ensures s sh inside in
    let stored = c.put_home_head.ensures.shown s sh inside in (
      needs,
      ap Word read,
      seat_changed _ _ stored (with_item c.put_home_head.new.self.seats c.args.seat (record c.index_mut.result.now { homing = record c.index_mut.result.now.homing { chain = c.home_head-word.result } })) c.args.seat c.index_mut.result.now (record c.index_mut.result.now { homing = record c.index_mut.result.now.homing { chain = c.home_head-word.result } }) (λ (q : Seat). record q { homing = record q.homing { chain = s.words.home_head c.args.locale } }) needs.0 c.index_mut.ensures.value refl
          (λ o h w. ap (λ n. seat_with (record c.index_mut.result.now { homing = record c.index_mut.result.now.homing { chain = n } }) o h w) (sym read)) (λ q. refl) (λ q. refl) (λ q. refl) refl refl (λ w o. record { token = o.token; announced = o.announced; looked = o.looked; swapped = o.swapped; scans = o.scans; advances = o.advances; rests = o.rests; scan_locale = o.scan_locale; scan_number = o.scan_number; stack_locale = o.stack_locale; stack_index = o.stack_index; tail = o.tail }),
    )
