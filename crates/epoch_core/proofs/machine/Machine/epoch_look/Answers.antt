use Rattle.std.proofs.Common.{◌≡◌, ◌≤◌, ltb, if◌then◌else◌, refl, ap, sym, ◌∙◌, arith, subst}
use Rattle.std.specs.Vec.{with_item}
use Rattle.epoch_laws.specs.declared.steps.Seen.TheVariants.{Word}
use Rattle.epoch_laws.specs.Seats.{Seat, WonGlobal, Scanning, Stopped}
use Rattle.epoch_laws.specs.ReclaimSteps.{epoch_look, last_epoch}
use Rattle.epoch_core.specs.Phases.{phase_of}
use Rattle.epoch_core.specs.Seated.{seat_with}
use Rattle.epoch_core.proofs.SeatStores.{seat_changed, seat_read}
use Rattle.epoch_core.proofs.machine.Machine.epoch_look.Goals as goal

pub returns : goal.returns
unfolding epoch_look
returns c s sh =
    let needs = c.in_ok-reclaims_in.ensures.tells s sh in
    let epoch_is = sh.words.epoch in
    let phase_is = c.phase_at-own.ensures.phase ∙ ap (λ e. if ltb e last_epoch then Scanning else Stopped) epoch_is in
    let low = subst (λ e. e ≤ 4611686018427387904) (sym epoch_is) sh.low.epoch in
    let few_tokens = sh.shaped.1.0 in
    let phase : phase_of c.index_mut-own.result.now.phase ≡ WonGlobal = sym (ap (λ (q : Seat). q.phase) (seat_read _ _ sh c.args.seat c.index_mut-own.result.now needs.0 c.index_mut-own.ensures.value).same) ∙ needs.1.0 in (
      needs,
      ap Word epoch_is,
      seat_changed _ _ sh (with_item c.args.self.now.seats c.args.seat (record c.index_mut-own.result.now { phase = c.phase_at-own.result; reclaim = record c.index_mut-own.result.now.reclaim { epoch = c.args.self.now.epoch; scan = record { locale = 0; number = 0 } } })) c.args.seat c.index_mut-own.result.now (record c.index_mut-own.result.now { phase = c.phase_at-own.result; reclaim = record c.index_mut-own.result.now.reclaim { epoch = c.args.self.now.epoch; scan = record { locale = 0; number = 0 } } }) (λ (q : Seat). record q { phase = if ltb s.words.epoch last_epoch then Scanning else Stopped; reclaim = record q.reclaim { epoch = s.words.epoch; scan = record { locale = 0; number = 0 } } }) needs.0 c.index_mut-own.ensures.value refl
          (λ o h w. (λ i. record (seat_with (record c.index_mut-own.result.now { reclaim = record c.index_mut-own.result.now.reclaim { epoch = sym epoch_is i; scan = record { locale = 0; number = 0 } } }) o h w) { phase = sym phase_is i })) (λ q. refl) (λ q. refl) (λ q. refl) refl refl (λ w o. record { token = o.token; announced = o.announced; looked = λ a. absurd (c.phase_at-own.ensures.no_deferral.0 a); swapped = λ a. absurd (c.phase_at-own.ensures.no_deferral.1 a); scans = c.phase_at-own.ensures.low; advances = λ a. absurd (c.phase_at-own.ensures.no_deferral.2 a); rests = λ _. o.rests (λ a. absurd (cc (phase, a))); scan_locale = omega arith; scan_number = few_tokens; stack_locale = o.stack_locale; stack_index = o.stack_index; tail = o.tail }),
    )
