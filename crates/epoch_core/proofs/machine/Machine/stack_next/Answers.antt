use Rattle.std.proofs.Common.{◌≡◌, ◌<◌, ◌≤◌, refl, ap, sym, ◌∙◌, subst}
use Rattle.std.specs.Vec.{with_item}
use Rattle.epoch_laws.specs.declared.steps.Seen.TheVariants.{Word}
use Rattle.epoch_laws.specs.Seats.{Seat, NextRead}
use Rattle.epoch_laws.specs.States.{IsPlace}
use Rattle.epoch_laws.specs.StackSteps.{stack_next, looked_top}
use Rattle.epoch_core.specs.declared.seats.StackPhase.TheVariants.{NextRead as RunNextRead}
use Rattle.epoch_core.specs.Objects.{object_place}
use Rattle.epoch_core.specs.Seated.{seat_with}
use Rattle.epoch_core.proofs.SeatStores.{seat_changed, seat_read}
use Rattle.epoch_core.proofs.Decided.{positive}
use Rattle.epoch_core.proofs.machine.Machine.stack_next.Goals as goal

pub returns : goal.returns
unfolding stack_next
returns c s sh =
    let needs = c.in_ok-stack_next_needs.ensures.tells s sh in
    let own = seat_read _ s sh c.args.seat c.index.result.now needs.0 c.index.ensures in
    let look = c.index.result.now.stack in
    let some = needs.1.0.2 in
    let index_is = ap (λ (q : Seat). q.stack.head.index) own.same in
    let place : IsPlace c.args.self.now.shape (object_place c.top_of.result) = record {
      locale = subst (λ l. l < c.args.self.now.shape.locales) (sym c.top_of.ensures.locale) own.in_range.stack_locale;
      some_object = subst (λ i. 1 ≤ i) (sym c.top_of.ensures.index) (positive _ (λ zero_is. some (index_is ∙ zero_is)));
      index = subst (λ i. i ≤ c.args.self.now.shape.objects) (sym c.top_of.ensures.index) own.in_range.stack_index;
    } in
    let top_is : object_place c.top_of.result ≡ looked_top ((s.seat c.args.seat).stack) = (λ i. record { locale = (c.top_of.ensures.locale ∙ sym (ap (λ (q : Seat). q.stack.locale) own.same)) i; index = (c.top_of.ensures.index ∙ sym index_is) i }) in
    let next_is = c.next_of-word.ensures s sh place ∙ ap (λ p. s.words.next p) top_is in (
      needs,
      ap Word next_is,
      seat_changed _ _ sh (with_item c.args.self.now.seats c.args.seat (record c.index_mut-own.result.now { stack = record c.index_mut-own.result.now.stack { phase = RunNextRead; next = c.next_of-word.result } })) c.args.seat c.index_mut-own.result.now (record c.index_mut-own.result.now { stack = record c.index_mut-own.result.now.stack { phase = RunNextRead; next = c.next_of-word.result } }) (λ (q : Seat). record q { stack = record q.stack { phase = NextRead; next = s.words.next (looked_top ((s.seat c.args.seat).stack)) } }) needs.0 c.index_mut-own.ensures.value refl
          (λ o h w. ap (λ n. seat_with (record c.index_mut-own.result.now { stack = record c.index_mut-own.result.now.stack { phase = RunNextRead; next = n } }) o h w) (sym next_is)) (λ q. refl) (λ q. refl) (λ q. refl) refl refl (λ w o. record { token = o.token; announced = o.announced; looked = o.looked; swapped = o.swapped; scans = o.scans; advances = o.advances; rests = o.rests; scan_locale = o.scan_locale; scan_number = o.scan_number; stack_locale = o.stack_locale; stack_index = o.stack_index; tail = o.tail }),
    )
