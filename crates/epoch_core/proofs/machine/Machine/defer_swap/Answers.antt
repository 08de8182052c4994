use Rattle.std.proofs.Common.{◌≡◌, ◌%◌, ℕ, refl, ap, sym, ◌∙◌, subst}
use Rattle.std.specs.Vec.{with_item}
use Rattle.pgas_base.specs.Pointers.{Pointer, word_of}
use Rattle.epoch_laws.specs.declared.steps.Seen.TheVariants.{Word}
use Rattle.epoch_laws.specs.Seats.{Seat, DeferLooked, DeferSwapped}
use Rattle.epoch_laws.specs.DeferralSteps.{defer_swap}
use Rattle.epoch_core.specs.declared.seats.Phase.TheVariants.{DeferSwapped as RunDeferSwapped}
use Rattle.epoch_core.specs.Phases.{phase_of}
use Rattle.epoch_core.specs.Seated.{seat_with}
use Rattle.epoch_core.specs.Shown.{IsShowing}
use Rattle.epoch_core.proofs.SeatStores.{seat_changed, seat_read}
use Rattle.epoch_laws.specs.DeferralSteps.{with_list}
use Rattle.epoch_core.specs.Seated.{pointer_or_none}
use Rattle.epoch_core.proofs.machine.Machine.defer_swap.Goals as goal

pub returns : goal.returns
unfolding defer_swap
returns c s sh =
    let needs = c.in_ok-stands_in.ensures.tells s sh in
    let own = seat_read _ s sh c.args.seat c.index-own.result.now needs.0 c.index-own.ensures in
    let inside = own.in_range.token.locale in
    let phase_now : phase_of c.index-own.result.now.phase ≡ DeferLooked = sym (ap (λ (q : Seat). q.phase) own.same) ∙ needs.1.0 in
    let points = own.in_range.looked phase_now in
    let word_is : c.word_named-pointer.result ≡ word_of (s.seat c.args.seat).deferral.pointer = c.word_named-pointer.ensures points.0 points.1 ∙ ap (λ (q : Pointer). word_of q) (sym (ap pointer_or_none points.1)) ∙ sym (ap (λ (q : Seat). word_of q.deferral.pointer) own.same) in
    let locale_is = ap (λ (q : Seat). q.token.locale) own.same in
    let tag_is = ap (λ (q : Seat). q.deferral.tag) own.same in
    let read_is = c.list_head-word.ensures s sh inside ∙ ap (λ t. s.words.list_head c.index-own.result.now.token.locale (t % 4)) (sym tag_is) ∙ ap (λ l. s.words.list_head l ((s.seat c.args.seat).deferral.tag % 4)) (sym locale_is) in
    let P : ℕ → ℕ → ℕ → Type 0 = λ l t w. IsShowing c.put_list_head.new.self (record s { words = record s.words { list_head = with_list s.words.list_head l (t % 4) w } }) in
    let Q = (s.seat c.args.seat) in
    let stored = subst (λ l. P l Q.deferral.tag (word_of Q.deferral.pointer)) (sym locale_is) (subst (λ t. P c.index-own.result.now.token.locale t (word_of Q.deferral.pointer)) (sym tag_is) (subst (λ w. P c.index-own.result.now.token.locale c.index-own.result.now.deferral.tag w) word_is (c.put_list_head.ensures.shown s sh inside))) in
    let run = seat_read _ _ stored c.args.seat c.index_mut-own.result.now needs.0 c.index_mut-own.ensures.value in
    let phase : phase_of c.index_mut-own.result.now.phase ≡ DeferLooked = sym (ap (λ (q : Seat). q.phase) run.same) ∙ needs.1.0 in (
      needs,
      ap Word read_is,
      seat_changed _ _ stored (with_item c.put_list_head.new.self.seats c.args.seat (record c.index_mut-own.result.now { phase = RunDeferSwapped; deferral = record c.index_mut-own.result.now.deferral { old = c.list_head-word.result } })) c.args.seat c.index_mut-own.result.now (record c.index_mut-own.result.now { phase = RunDeferSwapped; deferral = record c.index_mut-own.result.now.deferral { old = c.list_head-word.result } }) (λ (q : Seat). record q { phase = DeferSwapped; deferral = record q.deferral { old = s.words.list_head (s.seat c.args.seat).token.locale ((s.seat c.args.seat).deferral.tag % 4) } }) needs.0 c.index_mut-own.ensures.value refl
          (λ o h w. ap (λ e. seat_with (record c.index_mut-own.result.now { phase = RunDeferSwapped; deferral = record c.index_mut-own.result.now.deferral { old = e } }) o h w) (sym read_is)) (λ q. refl) (λ q. refl) (λ q. refl) refl refl (λ w o. record { token = o.token; announced = o.announced; looked = λ a. absurd (cc a); swapped = λ _. o.looked phase; scans = λ a. absurd (cc a); advances = λ a. absurd (cc a); rests = λ _. o.rests (λ a. absurd (cc (phase, a))); scan_locale = o.scan_locale; scan_number = o.scan_number; stack_locale = o.stack_locale; stack_index = o.stack_index; tail = o.tail }),
    )
