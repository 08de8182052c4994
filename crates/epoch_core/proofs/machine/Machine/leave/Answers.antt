use Rattle.std.proofs.Common.{◌≡◌, ℕ, true, false, refl, ap, sym, ◌∙◌, subst}
use Rattle.std.specs.Vec.{with_item}
use Rattle.epoch_laws.specs.Places.{with_number}
use Rattle.epoch_laws.specs.Seats.{Seat, Registered, LeftGlobal}
use Rattle.epoch_laws.specs.ReclaimSteps.{leave}
use Rattle.epoch_core.specs.declared.seats.Phase.TheVariants.{Registered as RunRegistered, LeftGlobal as RunLeftGlobal}
use Rattle.epoch_core.specs.Shown.{IsShowing}
use Rattle.epoch_core.proofs.SeatStores.{seat_read}
use Rattle.epoch_core.proofs.Stores.{election_stored}
use Rattle.epoch_laws.specs.ReclaimSteps.{has_global}
use Rattle.epoch_core.proofs.SeatStores.{seat_changed_all}
use Rattle.epoch_core.proofs.Frees.{leaves_nothing}
use Rattle.epoch_core.proofs.machine.Machine.leave.Goals as goal

pub returns-then-has_global : goal.returns-then-has_global
unfolding leave
returns-then-has_global c s sh =
    let needs = c.in_ok-leave_needs.ensures.tells s sh in
    let run = seat_read _ _ sh c.args.seat c.index_mut-own.result.now needs.0 c.index_mut-own.ensures.value in
    let phase_is = ap (λ (q : Seat). q.phase) run.same in
    let on : has_global (s.seat c.args.seat).phase ≡ true = ap has_global phase_is ∙ sym c.if-has_global.ensures in
    let walked = leaves_nothing s.shape.locales (s.seat c.args.seat).phase (s.seat c.args.seat).reclaim needs.1.0.0 in
    rw on (
      needs,
      refl,
      election_stored _ _ (seat_changed_all _ _ sh (with_item c.args.self.now.seats c.args.seat (record c.index_mut-own.result.now { phase = RunLeftGlobal })) c.args.seat c.index_mut-own.result.now (record c.index_mut-own.result.now { phase = RunLeftGlobal }) (λ (q : Seat). record q { phase = LeftGlobal }) needs.0 c.index_mut-own.ensures.value refl
          (λ o h w. refl) (λ q. refl) (λ q. refl) (λ q. refl) refl refl (λ o. record { token = o.token; announced = o.announced; looked = λ a. absurd (cc a); swapped = λ a. absurd (cc a); scans = λ a. absurd (cc a); advances = λ a. absurd (cc a); rests = λ _. walked (λ a. run.in_range.rests (λ b. absurd (a (phase_is ∙ b)))); scan_locale = o.scan_locale; scan_number = o.scan_number; stack_locale = o.stack_locale; stack_index = o.stack_index; tail = o.tail })) 0,
    )

pub returns : goal.returns
unfolding leave
returns c s sh =
    let needs = c.in_ok-leave_needs.ensures.tells s sh in
    let run = seat_read _ _ sh c.args.seat c.index_mut-own.result.now needs.0 c.index_mut-own.ensures.value in
    let phase_is = ap (λ (q : Seat). q.phase) run.same in
    let off : has_global (s.seat c.args.seat).phase ≡ false = ap has_global phase_is ∙ sym c.if-has_global.ensures in
    let walked = leaves_nothing s.shape.locales (s.seat c.args.seat).phase (s.seat c.args.seat).reclaim needs.1.0.0 in
    let changed = seat_changed_all _ _ sh (with_item c.args.self.now.seats c.args.seat (record c.index_mut-own.result.now { phase = RunRegistered })) c.args.seat c.index_mut-own.result.now (record c.index_mut-own.result.now { phase = RunRegistered }) (λ (q : Seat). record q { phase = Registered }) needs.0 c.index_mut-own.ensures.value refl
    (λ o h w. refl) (λ q. refl) (λ q. refl) (λ q. refl) refl refl (λ o. record { token = o.token; announced = o.announced; looked = λ a. absurd (cc a); swapped = λ a. absurd (cc a); scans = λ a. absurd (cc a); advances = λ a. absurd (cc a); rests = λ _. walked (λ a. run.in_range.rests (λ b. absurd (a (phase_is ∙ b)))); scan_locale = o.scan_locale; scan_number = o.scan_number; stack_locale = o.stack_locale; stack_index = o.stack_index; tail = o.tail }) in
    let locale_is = ap (λ (q : Seat). q.token.locale) run.same in
    let P : ℕ → Type 0 = λ l. IsShowing c.put_election_of.new.self (record s { words = record s.words { election_of = with_number s.words.election_of l 0 }; seat = with_number s.seat c.args.seat (record (s.seat c.args.seat) { phase = Registered }) }) in
    rw off (needs, refl, subst P (sym locale_is) (c.put_election_of.ensures.shown _ changed run.in_range.token.locale))
