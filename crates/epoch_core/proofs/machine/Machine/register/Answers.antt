use Rattle.std.proofs.Common.{◌≡◌, ◌==◌, true, refl, ap, sym, ◌∙◌, eq-eqb}
use Rattle.std.specs.Vec.{with_item}
use Rattle.epoch_laws.specs.Seats.{Seat, Idle, Registered}
use Rattle.epoch_laws.specs.TokenSteps.{register}
use Rattle.epoch_core.specs.declared.seats.Phase.TheVariants.{Registered as RunRegistered}
use Rattle.epoch_core.specs.Phases.{phase_of}
use Rattle.epoch_core.specs.Tables.{IsToken}
use Rattle.epoch_core.proofs.SeatStores.{seat_changed, seat_read, same_shape}
use Rattle.epoch_core.proofs.machine.Machine.register.Goals as goal

pub returns : goal.returns
unfolding register
returns c s sh =
    let needs = c.in_ok-register_needs.ensures.tells s sh in
    let free : (s.words.token_word c.args.token == 0) ≡ true = eq-eqb (s.words.token_word c.args.token) 0 (sym (c.word_of_token-word.ensures s sh c.in_ok-register_needs.ensures.token) ∙ c.if-word-ne0.false) in
    let stored = c.put_token.ensures.shown s sh c.in_ok-register_needs.ensures.token in
    let phase : phase_of c.index_mut-own.result.now.phase ≡ Idle = sym (ap (λ (q : Seat). q.phase) (seat_read _ _ stored c.args.seat c.index_mut-own.result.now needs.0 c.index_mut-own.ensures.value).same) ∙ needs.1.1.1.0 in
    rw free (
      needs,
      refl,
      seat_changed _ _ stored (with_item c.put_token.new.self.seats c.args.seat (record c.index_mut-own.result.now { phase = RunRegistered; token = c.args.token })) c.args.seat c.index_mut-own.result.now (record c.index_mut-own.result.now { phase = RunRegistered; token = c.args.token }) (λ (q : Seat). record q { phase = Registered; token = c.args.token }) needs.0 c.index_mut-own.ensures.value refl
          (λ o h w. refl) (λ q. refl) (λ q. refl) (λ q. refl) refl refl (λ w o. record { token = same_shape _ _ _ _ sh stored refl (λ d. IsToken d c.args.token) c.in_ok-register_needs.ensures.token; announced = o.announced; looked = λ a. absurd (cc a); swapped = λ a. absurd (cc a); scans = λ a. absurd (cc a); advances = λ a. absurd (cc a); rests = λ _. o.rests (λ a. absurd (cc (phase, a))); scan_locale = o.scan_locale; scan_number = o.scan_number; stack_locale = o.stack_locale; stack_index = o.stack_index; tail = o.tail }),
    )
