use Rattle.std.proofs.Common.{◌≡◌, ℕ, refl, ap, sym, ◌∙◌, subst}
use Rattle.std.specs.Vec.{with_item}
use Rattle.epoch_laws.specs.declared.tokens.Token.{Token}
use Rattle.epoch_laws.specs.Places.{with_token}
use Rattle.epoch_laws.specs.Seats.{Seat, PinLooked, Pinned}
use Rattle.epoch_laws.specs.TokenSteps.{pin_set}
use Rattle.epoch_core.specs.declared.seats.Phase.TheVariants.{Pinned as RunPinned}
use Rattle.epoch_core.specs.Phases.{phase_of}
use Rattle.epoch_core.specs.Shown.{IsShowing}
use Rattle.epoch_core.proofs.SeatStores.{seat_changed, seat_read}
use Rattle.epoch_core.proofs.Stores.{born_kept}
use Rattle.epoch_core.proofs.machine.Machine.pin_set.Goals as goal

pub returns : goal.returns
unfolding pin_set
returns c s sh =
    let needs = c.in_ok-stands_in.ensures.tells s sh in
    let own = seat_read _ s sh c.args.seat c.index.result.now needs.0 c.index.ensures in
    let word_is = c.pin_word-word.ensures s sh in
    let token_is = ap (λ (q : Seat). q.token) own.same in
    let P : Token → Type 0 = λ t. IsShowing c.put_token.new.self (record s { words = record s.words { token_word = with_token s.words.token_word t c.pin_word-word.result } }) in
    let Q : ℕ → Type 0 = λ w. IsShowing c.put_token.new.self (record s { words = record s.words { token_word = with_token s.words.token_word (s.seat c.args.seat).token w } }) in
    let stored = subst Q word_is (subst P (sym token_is) (c.put_token.ensures.shown s sh own.in_range.token)) in
    let phase : phase_of c.index_mut.result.now.phase ≡ PinLooked = sym (ap (λ (q : Seat). q.phase) (seat_read _ _ stored c.args.seat c.index_mut.result.now needs.0 c.index_mut.ensures.value).same) ∙ needs.1.0 in (
      needs,
      refl,
      born_kept _ _ (seat_changed _ _ stored (with_item c.put_token.new.self.seats c.args.seat (record c.index_mut.result.now { phase = RunPinned })) c.args.seat c.index_mut.result.now (record c.index_mut.result.now { phase = RunPinned }) (λ (q : Seat). record q { phase = Pinned }) needs.0 c.index_mut.ensures.value refl
          (λ o h w. refl) (λ q. refl) (λ q. refl) (λ q. refl) refl refl (λ w o. record { token = o.token; announced = o.announced; looked = λ a. absurd (cc a); swapped = λ a. absurd (cc a); scans = λ a. absurd (cc a); advances = λ a. absurd (cc a); rests = λ _. o.rests (λ a. absurd (cc (phase, a))); scan_locale = o.scan_locale; scan_number = o.scan_number; stack_locale = o.stack_locale; stack_index = o.stack_index; tail = o.tail })) (with_token s.born (s.seat c.args.seat).token s.words.epoch),
    )
