use Rattle.std.proofs.Common.{◌≡◌, ◌≤◌, refl, ap, sym, ◌∙◌, subst}
use Rattle.std.specs.Vec.{with_item}
use Rattle.epoch_laws.specs.declared.steps.Seen.TheVariants.{Word}
use Rattle.epoch_laws.specs.Seats.{Seat, Registered, PinLooked}
use Rattle.epoch_laws.specs.TokenSteps.{pin_look}
use Rattle.epoch_core.specs.declared.seats.Phase.TheVariants.{PinLooked as RunPinLooked}
use Rattle.epoch_core.specs.Phases.{phase_of}
use Rattle.epoch_core.specs.Seated.{seat_with}
use Rattle.epoch_core.proofs.SeatStores.{seat_changed, seat_read}
use Rattle.epoch_core.proofs.machine.Machine.pin_look.Goals as goal

pub returns : goal.returns
unfolding pin_look
returns c s sh =
    let needs = c.in_ok-stands_in.ensures.tells s sh in
    let own = seat_read _ s sh c.args.seat c.index.result.now needs.0 c.index.ensures in
    let phase : phase_of c.index_mut-own.result.now.phase ≡ Registered = sym (ap (λ (q : Seat). q.phase) (seat_read _ _ sh c.args.seat c.index_mut-own.result.now needs.0 c.index_mut-own.ensures.value).same) ∙ needs.1.0 in
    let inside = own.in_range.token.locale in
    let read = c.epoch_of-word.ensures s sh inside in
    let locale_is = ap (λ (q : Seat). q.token.locale) own.same in
    let epoch_is = read ∙ ap (λ l. s.words.epoch_of l) (sym locale_is) in
    let low = subst (λ e. e ≤ 4611686018427387904) (sym read) (sh.low.epoch_of _ inside) in (
      needs,
      ap Word epoch_is,
      seat_changed _ _ sh (with_item c.args.self.now.seats c.args.seat (record c.index_mut-own.result.now { phase = RunPinLooked; announced = c.epoch_of-word.result })) c.args.seat c.index_mut-own.result.now (record c.index_mut-own.result.now { phase = RunPinLooked; announced = c.epoch_of-word.result }) (λ (q : Seat). record q { phase = PinLooked; announced = s.words.epoch_of (s.seat c.args.seat).token.locale }) needs.0 c.index_mut-own.ensures.value refl
          (λ o h w. ap (λ e. seat_with (record c.index_mut-own.result.now { phase = RunPinLooked; announced = e }) o h w) (sym epoch_is)) (λ q. refl) (λ q. refl) (λ q. refl) refl refl (λ w o. record { token = o.token; announced = low; looked = λ a. absurd (cc a); swapped = λ a. absurd (cc a); scans = λ a. absurd (cc a); advances = λ a. absurd (cc a); rests = λ _. o.rests (λ a. absurd (cc (phase, a))); scan_locale = o.scan_locale; scan_number = o.scan_number; stack_locale = o.stack_locale; stack_index = o.stack_index; tail = o.tail }),
    )
