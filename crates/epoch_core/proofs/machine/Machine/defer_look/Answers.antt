use Rattle.std.proofs.Common.{◌≡◌, ℕ, Some, refl, ap, sym, ◌∙◌, subst}
use Rattle.std.specs.Vec.{with_item}
use Rattle.epoch_laws.specs.declared.steps.Seen.TheVariants.{Word}
use Rattle.epoch_laws.specs.Places.{Place, place_of, with_place}
use Rattle.epoch_laws.specs.Seats.{Seat, Pinned, DeferLooked}
use Rattle.epoch_laws.specs.States.{IsPlace}
use Rattle.epoch_laws.specs.DeferralSteps.{defer_look}
use Rattle.epoch_core.specs.declared.seats.Phase.TheVariants.{DeferLooked as RunDeferLooked}
use Rattle.epoch_core.specs.Phases.{phase_of}
use Rattle.epoch_core.specs.Seated.{seat_with}
use Rattle.epoch_core.specs.Shown.{IsShowing}
use Rattle.epoch_core.proofs.SeatStores.{seat_changed, seat_read, same_shape}
use Rattle.epoch_core.proofs.machine.Machine.defer_look.Goals as goal

pub returns : goal.returns
unfolding defer_look
returns c s sh =
    let needs = c.in_ok-reader_needs.ensures.tells s sh in
    let own = seat_read _ s sh c.args.seat c.index.result.now needs.0 c.index.ensures in
    let inside = own.in_range.token.locale in
    let read = c.epoch_of-tag.ensures s sh inside in
    let locale_is = ap (λ (q : Seat). q.token.locale) own.same in
    let epoch_is = read ∙ ap (λ l. s.words.epoch_of l) (sym locale_is) in
    let place = c.in_ok-reader_needs.ensures.place in
    let at_is = c.object_of-at.ensures.value in
    let P : Place → ℕ → Type 0 = λ p e. IsShowing c.put_tag.new.self (record s { tag = with_place s.tag p (Some e) }) in
    let stored = subst (λ e. P (place_of c.args.ptr) e) epoch_is (subst (λ p. P p c.epoch_of-tag.result) at_is (c.put_tag.ensures.shown s sh (subst (IsPlace c.args.self.now.shape) (sym at_is) place))) in
    let phase : phase_of c.index_mut-own.result.now.phase ≡ Pinned = sym (ap (λ (q : Seat). q.phase) (seat_read _ _ stored c.args.seat c.index_mut-own.result.now needs.0 c.index_mut-own.ensures.value).same) ∙ needs.1.1.0 in (
      needs,
      ap Word epoch_is,
      seat_changed _ _ stored (with_item c.put_tag.new.self.seats c.args.seat (record c.index_mut-own.result.now { phase = RunDeferLooked; deferral = record { pointer = Some c.args.ptr; tag = c.epoch_of-tag.result; old = 0 } })) c.args.seat c.index_mut-own.result.now (record c.index_mut-own.result.now { phase = RunDeferLooked; deferral = record { pointer = Some c.args.ptr; tag = c.epoch_of-tag.result; old = 0 } }) (λ (q : Seat). record q { phase = DeferLooked; deferral = record { pointer = c.args.ptr; tag = s.words.epoch_of (s.seat c.args.seat).token.locale; old = 0 } }) needs.0 c.index_mut-own.ensures.value refl
          (λ o h w. ap (λ e. seat_with (record c.index_mut-own.result.now { phase = RunDeferLooked; deferral = record { pointer = Some c.args.ptr; tag = e; old = 0 } }) o h w) (sym epoch_is)) (λ q. refl) (λ q. refl) (λ q. refl) refl refl (λ w o. record { token = o.token; announced = o.announced; looked = λ _. (c.args.ptr, refl, same_shape _ _ _ _ sh stored refl (λ d. IsPlace d (place_of c.args.ptr)) place); swapped = λ a. absurd (cc a); scans = λ a. absurd (cc a); advances = λ a. absurd (cc a); rests = λ _. o.rests (λ a. absurd (cc (phase, a))); scan_locale = o.scan_locale; scan_number = o.scan_number; stack_locale = o.stack_locale; stack_index = o.stack_index; tail = o.tail }),
    )
