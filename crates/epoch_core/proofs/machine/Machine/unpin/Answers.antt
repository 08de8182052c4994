use Rattle.std.proofs.Common.{◌≡◌, ℕ, List, [], refl, ap, sym, ◌∙◌, subst, map, reverse}
use Rattle.std.specs.Vec.{with_item}
use Rattle.epoch_laws.specs.declared.tokens.Token.{Token}
use Rattle.epoch_laws.specs.Places.{place_in, with_token}
use Rattle.epoch_laws.specs.Seats.{Seat, Registered, Pinned}
use Rattle.epoch_laws.specs.TokenSteps.{unpin}
use Rattle.epoch_core.specs.declared.seats.Phase.TheVariants.{Registered as RunRegistered}
use Rattle.epoch_core.specs.Phases.{phase_of}
use Rattle.epoch_core.specs.Seated.{seat_with}
use Rattle.epoch_core.specs.Shown.{IsShowing}
use Rattle.epoch_core.proofs.SeatStores.{seat_changed, seat_read}
use Rattle.epoch_core.proofs.machine.Machine.unpin.Goals as goal

pub returns : goal.returns
unfolding unpin
returns c s sh =
    let needs = c.in_ok-stands_in.ensures.tells s sh in
    let own = seat_read _ s sh c.args.seat c.index.result.now needs.0 c.index.ensures in
    let token_is = ap (λ (q : Seat). q.token) own.same in
    let P : Token → Type 0 = λ t. IsShowing c.put_token.new.self (record s { words = record s.words { token_word = with_token s.words.token_word t 1 } }) in
    let stored = subst P (sym token_is) (c.put_token.ensures.shown s sh own.in_range.token) in
    let phase : phase_of c.index_mut-own.result.now.phase ≡ Pinned = sym (ap (λ (q : Seat). q.phase) (seat_read _ _ stored c.args.seat c.index_mut-own.result.now needs.0 c.index_mut-own.ensures.value).same) ∙ needs.1.0 in (
      needs,
      refl,
      seat_changed _ _ stored (with_item c.put_token.new.self.seats c.args.seat (record c.index_mut-own.result.now { phase = RunRegistered; held = c.clear.new.self })) c.args.seat c.index_mut-own.result.now (record c.index_mut-own.result.now { phase = RunRegistered; held = c.clear.new.self }) (λ (q : Seat). record q { phase = Registered; held = [] }) needs.0 c.index_mut-own.ensures.value refl
          (λ o h w. ap (λ (l : List ℕ). record (seat_with (record c.index_mut-own.result.now { phase = RunRegistered }) o h w) { held = map place_in (reverse l) }) (sym c.clear.ensures)) (λ q. refl) (λ q. refl) (λ q. refl) refl refl (λ w o. record { token = o.token; announced = o.announced; looked = λ a. absurd (cc a); swapped = λ a. absurd (cc a); scans = λ a. absurd (cc a); advances = λ a. absurd (cc a); rests = λ _. o.rests (λ a. absurd (cc (phase, a))); scan_locale = o.scan_locale; scan_number = o.scan_number; stack_locale = o.stack_locale; stack_index = o.stack_index; tail = o.tail }),
    )
