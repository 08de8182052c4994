use Rattle.std.proofs.Common.{◌≡◌, ◌<◌, ◌≤◌, refl, ap, sym, ◌∙◌, arith, subst}
use Rattle.std.specs.Vec.{with_item}
use Rattle.pgas_base.specs.declared.shapes.Shape.{Shape}
use Rattle.epoch_laws.specs.declared.tokens.Token.{Token}
use Rattle.epoch_laws.specs.declared.steps.Seen.TheVariants.{Word}
use Rattle.epoch_laws.specs.Seats.{Seat, Scanning, Stopped}
use Rattle.epoch_laws.specs.ReclaimSteps.{scan_token, passes, token_after}
use Rattle.epoch_core.specs.declared.seats.Phase.TheVariants.{Stopped as RunStopped}
use Rattle.epoch_core.specs.Phases.{phase_of}
use Rattle.epoch_core.specs.Seated.{seat_with}
use Rattle.epoch_core.specs.Tables.{IsToken}
use Rattle.epoch_core.proofs.SeatStores.{seat_changed, seat_read}
use Rattle.epoch_core.proofs.Scans.{scan_after, token_some}
use Rattle.epoch_core.proofs.machine.Machine.scan_token.Goals as goal

pub returns-then-lets_pass : goal.returns-then-lets_pass
unfolding scan_token
returns-then-lets_pass c s sh =
    let needs = c.in_ok-scan_needs.ensures.tells s sh in
    let own = seat_read _ s sh c.args.seat c.index.result.now needs.0 c.index.ensures in
    let phase_now : phase_of c.index.result.now.phase ≡ Scanning = sym (ap (λ (q : Seat). q.phase) own.same) ∙ needs.1.0.0 in
    let low : c.index.result.now.reclaim.epoch < 4611686018427387904 = own.in_range.scans phase_now in
    let most : c.index.result.now.reclaim.epoch ≤ 4611686018427387904 = omega arith in
    let scan_is = ap (λ (q : Seat). q.reclaim.scan) own.same in
    let epoch_is = ap (λ (q : Seat). q.reclaim.epoch) own.same in
    let locales_are = ap (λ (d : Shape). d.locales) sh.shape in
    let tokens_are = ap (λ (d : Shape). d.tokens) sh.shape in
    let inside = subst (λ (t : Token). t.locale < c.args.self.now.shape.locales) scan_is (subst (λ n. (s.seat c.args.seat).reclaim.scan.locale < n) locales_are needs.1.0.1) in
    let token : IsToken c.args.self.now.shape c.index.result.now.reclaim.scan = record { locale = inside; number = own.in_range.scan_number } in
    let read_is = c.word_of_token-word.ensures s sh token ∙ ap (λ t. s.words.token_word t) (sym scan_is) in
    let few_locales = sh.shaped.0.1 in
    let small : c.index.result.now.reclaim.scan.locale < 255 = omega arith in
    let after_is = c.token_behind-after.ensures own.in_range.scan_number small ∙ ap (λ n. token_after n c.index.result.now.reclaim.scan) (sym tokens_are) ∙ ap (λ t. token_after s.shape.tokens t) (sym scan_is) in
    let passes_is = c.if-lets_pass.ensures most ∙ ap (λ e. passes e c.word_of_token-word.result) (sym epoch_is) ∙ ap (λ w. passes (s.seat c.args.seat).reclaim.epoch w) read_is in
    let run = seat_read _ _ sh c.args.seat c.index_mut-own.result.now needs.0 c.index_mut-own.ensures.value in
    let phase = sym (ap (λ (q : Seat). q.phase) run.same) ∙ needs.1.0.0 in
    let run_scan = ap (λ (q : Seat). q.reclaim.scan) run.same in
    let next_low = scan_after s.shape.locales s.shape.tokens (s.seat c.args.seat).reclaim.scan needs.1.0.1 (token_some sh) in
    rw (sym passes_is) (
      needs,
      ap Word read_is,
      seat_changed _ _ sh (with_item c.args.self.now.seats c.args.seat (record c.index_mut-own.result.now { reclaim = record c.index_mut-own.result.now.reclaim { scan = c.token_behind-after.result } })) c.args.seat c.index_mut-own.result.now (record c.index_mut-own.result.now { reclaim = record c.index_mut-own.result.now.reclaim { scan = c.token_behind-after.result } }) (λ (q : Seat). record q { reclaim = record q.reclaim { scan = token_after s.shape.tokens (s.seat c.args.seat).reclaim.scan } }) needs.0 c.index_mut-own.ensures.value refl
          (λ o h w. ap (λ (t : Token). seat_with (record c.index_mut-own.result.now { reclaim = record c.index_mut-own.result.now.reclaim { scan = t } }) o h w) (sym after_is)) (λ q. refl) (λ q. refl) (λ q. refl) refl refl (λ w o. record { token = o.token; announced = o.announced; looked = o.looked; swapped = o.swapped; scans = o.scans; advances = o.advances; rests = o.rests; scan_locale = subst (λ (t : Token). t.locale ≤ c.args.self.now.shape.locales) (sym after_is) (subst (λ n. (token_after s.shape.tokens (s.seat c.args.seat).reclaim.scan).locale ≤ n) locales_are next_low.0); scan_number = subst (λ (t : Token). t.number < c.args.self.now.shape.tokens) (sym after_is) (subst (λ n. (token_after s.shape.tokens (s.seat c.args.seat).reclaim.scan).number < n) tokens_are next_low.1); stack_locale = o.stack_locale; stack_index = o.stack_index; tail = o.tail }),
    )

pub returns-else-lets_pass : goal.returns-else-lets_pass
unfolding scan_token
returns-else-lets_pass c s sh =
    let needs = c.in_ok-scan_needs.ensures.tells s sh in
    let own = seat_read _ s sh c.args.seat c.index.result.now needs.0 c.index.ensures in
    let phase_now : phase_of c.index.result.now.phase ≡ Scanning = sym (ap (λ (q : Seat). q.phase) own.same) ∙ needs.1.0.0 in
    let low : c.index.result.now.reclaim.epoch < 4611686018427387904 = own.in_range.scans phase_now in
    let most : c.index.result.now.reclaim.epoch ≤ 4611686018427387904 = omega arith in
    let scan_is = ap (λ (q : Seat). q.reclaim.scan) own.same in
    let epoch_is = ap (λ (q : Seat). q.reclaim.epoch) own.same in
    let locales_are = ap (λ (d : Shape). d.locales) sh.shape in
    let tokens_are = ap (λ (d : Shape). d.tokens) sh.shape in
    let inside = subst (λ (t : Token). t.locale < c.args.self.now.shape.locales) scan_is (subst (λ n. (s.seat c.args.seat).reclaim.scan.locale < n) locales_are needs.1.0.1) in
    let token : IsToken c.args.self.now.shape c.index.result.now.reclaim.scan = record { locale = inside; number = own.in_range.scan_number } in
    let read_is = c.word_of_token-word.ensures s sh token ∙ ap (λ t. s.words.token_word t) (sym scan_is) in
    let few_locales = sh.shaped.0.1 in
    let small : c.index.result.now.reclaim.scan.locale < 255 = omega arith in
    let after_is = c.token_behind-after.ensures own.in_range.scan_number small ∙ ap (λ n. token_after n c.index.result.now.reclaim.scan) (sym tokens_are) ∙ ap (λ t. token_after s.shape.tokens t) (sym scan_is) in
    let passes_is = c.if-lets_pass.ensures most ∙ ap (λ e. passes e c.word_of_token-word.result) (sym epoch_is) ∙ ap (λ w. passes (s.seat c.args.seat).reclaim.epoch w) read_is in
    let run = seat_read _ _ sh c.args.seat c.index_mut-own.result.now needs.0 c.index_mut-own.ensures.value in
    let phase = sym (ap (λ (q : Seat). q.phase) run.same) ∙ needs.1.0.0 in
    rw (sym passes_is) (
      needs,
      ap Word read_is,
      seat_changed _ _ sh (with_item c.args.self.now.seats c.args.seat (record c.index_mut-own.result.now { phase = RunStopped })) c.args.seat c.index_mut-own.result.now (record c.index_mut-own.result.now { phase = RunStopped }) (λ (q : Seat). record q { phase = Stopped }) needs.0 c.index_mut-own.ensures.value refl
          (λ o h w. refl) (λ q. refl) (λ q. refl) (λ q. refl) refl refl (λ w o. record { token = o.token; announced = o.announced; looked = λ a. absurd (cc a); swapped = λ a. absurd (cc a); scans = λ a. absurd (cc a); advances = λ a. absurd (cc a); rests = λ _. o.rests (λ a. absurd (cc (phase, a))); scan_locale = o.scan_locale; scan_number = o.scan_number; stack_locale = o.stack_locale; stack_index = o.stack_index; tail = o.tail }),
    )
