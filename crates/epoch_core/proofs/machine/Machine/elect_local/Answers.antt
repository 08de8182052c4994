use Rattle.std.proofs.Common.{◌≡◌, ◌==◌, ℕ, true, refl, ap, sym, ◌∙◌, subst, eq-eqb}
use Rattle.std.specs.Vec.{with_item}
use Rattle.epoch_laws.specs.Places.{with_number}
use Rattle.epoch_laws.specs.Seats.{Seat, Registered, WonLocal}
use Rattle.epoch_laws.specs.ReclaimSteps.{elect_local}
use Rattle.epoch_core.specs.declared.seats.Phase.TheVariants.{WonLocal as RunWonLocal}
use Rattle.epoch_core.specs.Phases.{phase_of}
use Rattle.epoch_core.specs.Shown.{IsShowing}
use Rattle.epoch_core.proofs.SeatStores.{seat_changed, seat_read}
use Rattle.epoch_core.proofs.machine.Machine.elect_local.Goals as goal

pub returns : goal.returns
unfolding elect_local
returns c s sh =
    let needs = c.in_ok-reclaims_in.ensures.tells s sh in
    let own = seat_read _ s sh c.args.seat c.index.result.now needs.0 c.index.ensures in
    let inside = own.in_range.token.locale in
    let locale_is = ap (λ (q : Seat). q.token.locale) own.same in
    let free : (s.words.election_of (s.seat c.args.seat).token.locale == 0) ≡ true = eq-eqb (s.words.election_of (s.seat c.args.seat).token.locale) 0 (ap (λ l. s.words.election_of l) locale_is ∙ sym (c.election_of-word.ensures s sh inside) ∙ c.if-word-ne0.false) in
    let P : ℕ → Type 0 = λ l. IsShowing c.put_election_of.new.self (record s { words = record s.words { election_of = with_number s.words.election_of l 1 } }) in
    let stored = subst P (sym locale_is) (c.put_election_of.ensures.shown s sh inside) in
    let phase : phase_of c.index_mut.result.now.phase ≡ Registered = sym (ap (λ (q : Seat). q.phase) (seat_read _ _ stored c.args.seat c.index_mut.result.now needs.0 c.index_mut.ensures.value).same) ∙ needs.1.0 in
    rw free (
      needs,
      refl,
      seat_changed _ _ stored (with_item c.put_election_of.new.self.seats c.args.seat (record c.index_mut.result.now { phase = RunWonLocal })) c.args.seat c.index_mut.result.now (record c.index_mut.result.now { phase = RunWonLocal }) (λ (q : Seat). record q { phase = WonLocal }) needs.0 c.index_mut.ensures.value refl
          (λ o h w. refl) (λ q. refl) (λ q. refl) (λ q. refl) refl refl (λ w o. record { token = o.token; announced = o.announced; looked = λ a. absurd (cc a); swapped = λ a. absurd (cc a); scans = λ a. absurd (cc a); advances = λ a. absurd (cc a); rests = λ _. o.rests (λ a. absurd (cc (phase, a))); scan_locale = o.scan_locale; scan_number = o.scan_number; stack_locale = o.stack_locale; stack_index = o.stack_index; tail = o.tail }),
    )
