use Rattle.std.proofs.Common.{if◌then◌else◌, Option, Some, None, refl, ap, sym, ◌∙◌}
use Rattle.std.specs.Vec.{with_item}
use Rattle.pgas_base.specs.Pointers.{Pointer}
use Rattle.epoch_laws.specs.declared.steps.Seen.TheVariants.{Word}
use Rattle.epoch_laws.specs.Seats.{Seat}
use Rattle.epoch_laws.specs.TakeSteps.{take_look, is_free}
use Rattle.epoch_core.specs.Objects.{object_place}
use Rattle.epoch_core.specs.Seated.{seat_with}
use Rattle.epoch_core.proofs.SeatStores.{seat_changed}
use Rattle.pool_core.specs.declared.headers.Header.{Header}
use Rattle.epoch_laws.specs.Places.{pointer_at}
use Rattle.epoch_core.proofs.machine.Machine.take_look.Goals as goal

pub returns : goal.returns
unfolding take_look
returns c s sh =
    let needs = c.in_ok-take_look_needs.ensures.tells s sh in
    let place = c.in_ok-take_look_needs.ensures.place in
    let header_is = c.header_at-found.ensures s sh place in
    let look_is = c.look_of.ensures ∙ ap (λ (d : Header). if is_free d.state then Some (pointer_at (object_place c.args.at) d.count) else None) header_is in (
      needs,
      ap Word (c.header_word_at-word.ensures s sh place),
      seat_changed _ _ sh (with_item c.args.self.now.seats c.args.seat (record c.index_mut.result.now { free_look = c.look_of.result })) c.args.seat c.index_mut.result.now (record c.index_mut.result.now { free_look = c.look_of.result }) (λ (q : Seat). record q { free_look = if is_free (s.words.header (object_place c.args.at)).state then Some (pointer_at (object_place c.args.at) (s.words.header (object_place c.args.at)).count) else None }) needs.0 c.index_mut.ensures.value refl
          (λ o h w. ap (λ (f : Option Pointer). record (seat_with c.index_mut.result.now o h w) { free_look = f }) (sym look_is)) (λ q. refl) (λ q. refl) (λ q. refl) refl refl (λ w o. record { token = o.token; announced = o.announced; looked = o.looked; swapped = o.swapped; scans = o.scans; advances = o.advances; rests = o.rests; scan_locale = o.scan_locale; scan_number = o.scan_number; stack_locale = o.stack_locale; stack_index = o.stack_index; tail = o.tail }),
    )
