use Rattle.std.proofs.Common.{◌≡◌, ◌==◌, true, false, refl, ap, sym, ◌∙◌, eq-eqb}
use Rattle.std.specs.Vec.{with_item}
use Rattle.epoch_laws.specs.declared.steps.Seen.TheVariants.{Lost}
use Rattle.epoch_laws.specs.Seats.{Seat, WonLocal, LostGlobal, WonGlobal}
use Rattle.epoch_laws.specs.ReclaimSteps.{elect_global}
use Rattle.epoch_core.specs.declared.seats.Phase.TheVariants.{LostGlobal as RunLostGlobal, WonGlobal as RunWonGlobal}
use Rattle.epoch_core.specs.Phases.{phase_of}
use Rattle.epoch_core.proofs.SeatStores.{seat_changed, seat_read}
use Rattle.epoch_core.proofs.Stores.{election_stored}
use Rattle.epoch_core.proofs.Decided.{eqb-no}
use Rattle.epoch_core.proofs.machine.Machine.elect_global.Goals as goal

pub returns-then-word-ne0 : goal.returns-then-word-ne0
unfolding elect_global
returns-then-word-ne0 c s sh =
    let needs = c.in_ok-reclaims_in.ensures.tells s sh in
    let phase : phase_of c.index_mut-own.result.now.phase ≡ WonLocal = sym (ap (λ (q : Seat). q.phase) (seat_read _ _ sh c.args.seat c.index_mut-own.result.now needs.0 c.index_mut-own.ensures.value).same) ∙ needs.1.0 in
    let taken : (s.words.election == 0) ≡ false = eqb-no (s.words.election) 0 (λ e. c.if-word-ne0.true (sh.words.election ∙ e)) in
    rw taken (
      needs,
      ap Lost sh.words.election,
      seat_changed _ _ sh (with_item c.args.self.now.seats c.args.seat (record c.index_mut-own.result.now { phase = RunLostGlobal })) c.args.seat c.index_mut-own.result.now (record c.index_mut-own.result.now { phase = RunLostGlobal }) (λ (q : Seat). record q { phase = LostGlobal }) needs.0 c.index_mut-own.ensures.value refl
          (λ o h w. refl) (λ q. refl) (λ q. refl) (λ q. refl) refl refl (λ w o. record { token = o.token; announced = o.announced; looked = λ a. absurd (cc a); swapped = λ a. absurd (cc a); scans = λ a. absurd (cc a); advances = λ a. absurd (cc a); rests = λ _. o.rests (λ a. absurd (cc (phase, a))); scan_locale = o.scan_locale; scan_number = o.scan_number; stack_locale = o.stack_locale; stack_index = o.stack_index; tail = o.tail }),
    )

pub returns : goal.returns
unfolding elect_global
returns c s sh =
    let needs = c.in_ok-reclaims_in.ensures.tells s sh in
    let phase : phase_of c.index_mut-own.result.now.phase ≡ WonLocal = sym (ap (λ (q : Seat). q.phase) (seat_read _ _ sh c.args.seat c.index_mut-own.result.now needs.0 c.index_mut-own.ensures.value).same) ∙ needs.1.0 in
    let free : (s.words.election == 0) ≡ true = eq-eqb (s.words.election) 0 (sym sh.words.election ∙ c.if-word-ne0.false) in
    rw free (
      needs,
      refl,
      election_stored _ _ (seat_changed _ _ sh (with_item c.args.self.now.seats c.args.seat (record c.index_mut-own.result.now { phase = RunWonGlobal })) c.args.seat c.index_mut-own.result.now (record c.index_mut-own.result.now { phase = RunWonGlobal }) (λ (q : Seat). record q { phase = WonGlobal }) needs.0 c.index_mut-own.ensures.value refl
          (λ o h w. refl) (λ q. refl) (λ q. refl) (λ q. refl) refl refl (λ w o. record { token = o.token; announced = o.announced; looked = λ a. absurd (cc a); swapped = λ a. absurd (cc a); scans = λ a. absurd (cc a); advances = λ a. absurd (cc a); rests = λ _. o.rests (λ a. absurd (cc (phase, a))); scan_locale = o.scan_locale; scan_number = o.scan_number; stack_locale = o.stack_locale; stack_index = o.stack_index; tail = o.tail })) 1,
    )
