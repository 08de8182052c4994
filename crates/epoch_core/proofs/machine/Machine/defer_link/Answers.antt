use Rattle.std.proofs.Common.{◌≡◌, ℕ, refl, ap, sym, ◌∙◌, subst}
use Rattle.std.specs.Vec.{with_item}
use Rattle.pgas_base.specs.Pointers.{Pointer}
use Rattle.epoch_laws.specs.Places.{Place, place_of, with_place}
use Rattle.epoch_laws.specs.Seats.{Seat, Pinned, DeferSwapped}
use Rattle.epoch_laws.specs.States.{IsPlace}
use Rattle.epoch_laws.specs.DeferralSteps.{defer_link}
use Rattle.epoch_core.specs.declared.seats.Phase.TheVariants.{Pinned as RunPinned}
use Rattle.epoch_core.specs.Phases.{phase_of}
use Rattle.epoch_core.specs.Shown.{IsShowing}
use Rattle.epoch_core.proofs.SeatStores.{seat_changed, seat_read}
use Rattle.epoch_core.specs.Seated.{pointer_or_none}
use Rattle.epoch_core.proofs.machine.Machine.defer_link.Goals as goal

pub returns : goal.returns
unfolding defer_link
returns c s sh =
    let needs = c.in_ok-stands_in.ensures.tells s sh in
    let own = seat_read _ s sh c.args.seat c.index.result.now needs.0 c.index.ensures in
    let phase_now : phase_of c.index.result.now.phase ≡ DeferSwapped = sym (ap (λ (q : Seat). q.phase) own.same) ∙ needs.1.0 in
    let points = own.in_range.swapped phase_now in
    let at_is = c.object_named-at.ensures points.0 points.1 in
    let pointer_is : place_of points.0 ≡ place_of (s.seat c.args.seat).deferral.pointer = ap (λ (q : Pointer). place_of q) (sym (ap pointer_or_none points.1)) ∙ sym (ap (λ (q : Seat). place_of q.deferral.pointer) own.same) in
    let old_is = ap (λ (q : Seat). q.deferral.old) own.same in
    let P : Place → ℕ → Type 0 = λ p w. IsShowing c.put_next.new.self (record s { words = record s.words { next = with_place s.words.next p w } }) in
    let stored = subst (λ w. P (place_of (s.seat c.args.seat).deferral.pointer) w) (sym old_is) (subst (λ p. P p c.index.result.now.deferral.old) (at_is ∙ pointer_is) (c.put_next.ensures.shown s sh (subst (IsPlace c.args.self.now.shape) (sym at_is) points.2))) in
    let run = seat_read _ _ stored c.args.seat c.index_mut.result.now needs.0 c.index_mut.ensures.value in
    let phase : phase_of c.index_mut.result.now.phase ≡ DeferSwapped = sym (ap (λ (q : Seat). q.phase) run.same) ∙ needs.1.0 in (
      needs,
      refl,
      seat_changed _ _ stored (with_item c.put_next.new.self.seats c.args.seat (record c.index_mut.result.now { phase = RunPinned })) c.args.seat c.index_mut.result.now (record c.index_mut.result.now { phase = RunPinned }) (λ (q : Seat). record q { phase = Pinned }) needs.0 c.index_mut.ensures.value refl
          (λ o h w. refl) (λ q. refl) (λ q. refl) (λ q. refl) refl refl (λ w o. record { token = o.token; announced = o.announced; looked = λ a. absurd (cc a); swapped = λ a. absurd (cc a); scans = λ a. absurd (cc a); advances = λ a. absurd (cc a); rests = λ _. o.rests (λ a. absurd (cc (phase, a))); scan_locale = o.scan_locale; scan_number = o.scan_number; stack_locale = o.stack_locale; stack_index = o.stack_index; tail = o.tail }),
    )
