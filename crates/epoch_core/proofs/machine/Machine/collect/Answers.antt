use Rattle.std.proofs.Common.{◌≡◌, ◌<◌, ◌+◌, ◌%◌, ℕ, refl, ap, sym, ◌∙◌, arith, subst}
use Rattle.std.specs.Vec.{with_item}
use Rattle.pgas_base.specs.declared.shapes.Shape.{Shape}
use Rattle.epoch_laws.specs.declared.steps.Seen.TheVariants.{Word}
use Rattle.epoch_laws.specs.Seats.{Seat, Advanced}
use Rattle.epoch_laws.specs.ReclaimSteps.{collect}
use Rattle.epoch_core.specs.Phases.{phase_of}
use Rattle.epoch_core.specs.Seated.{seat_with}
use Rattle.epoch_core.specs.Shown.{IsShowing}
use Rattle.epoch_core.proofs.SeatStores.{seat_changed, seat_read}
use Rattle.epoch_laws.specs.DeferralSteps.{with_list}
use Rattle.epoch_core.proofs.machine.Machine.collect.Goals as goal

pub returns : goal.returns
unfolding collect
returns c s sh =
    let needs = c.in_ok-collect_needs.ensures.tells s sh in
    let own = seat_read _ s sh c.args.seat c.index.result.now needs.0 c.index.ensures in
    let phase_now : phase_of c.index.result.now.phase ≡ Advanced = sym (ap (λ (q : Seat). q.phase) own.same) ∙ needs.1.0.0 in
    let low : c.index.result.now.reclaim.epoch < 4611686018427387904 = own.in_range.advances phase_now in
    let epoch_is = ap (λ (q : Seat). q.reclaim.epoch) own.same in
    let collected_is = ap (λ (q : Seat). q.reclaim.collected) own.same in
    let raised_is : c.raised-list.result ≡ c.index.result.now.reclaim.epoch + 2 = c.raised-list.ensures (omega arith) (omega arith) in
    let list_is : c.raised-list.result % 4 ≡ ((s.seat c.args.seat).reclaim.epoch + 2) % 4 = ap (λ e. e % 4) (raised_is ∙ ap (λ e. e + 2) (sym epoch_is)) in
    let locales_are = ap (λ (d : Shape). d.locales) sh.shape in
    let inside = subst (λ l. l < c.args.self.now.shape.locales) collected_is (subst (λ n. (s.seat c.args.seat).reclaim.collected < n) locales_are needs.1.0.2) in
    let read_is = c.list_head-word.ensures s sh inside ∙ ap (λ k. s.words.list_head c.index.result.now.reclaim.collected k) list_is ∙ ap (λ l. s.words.list_head l (((s.seat c.args.seat).reclaim.epoch + 2) % 4)) (sym collected_is) in
    let P : ℕ → ℕ → Type 0 = λ l k. IsShowing c.put_list_head.new.self (record s { words = record s.words { list_head = with_list s.words.list_head l k 0 } }) in
    let stored = subst (λ l. P l (((s.seat c.args.seat).reclaim.epoch + 2) % 4)) (sym collected_is) (subst (λ k. P c.index.result.now.reclaim.collected k) list_is (c.put_list_head.ensures.shown s sh inside)) in
    let run = seat_read _ _ stored c.args.seat c.index_mut-own.result.now needs.0 c.index_mut-own.ensures.value in
    let run_collected = ap (λ (q : Seat). q.reclaim.collected) run.same in
    let most = sh.shaped.0.1 in
    let small : (s.seat c.args.seat).reclaim.collected < 16 = omega arith in
    let more : c.saturating_add-own.result ≡ c.index_mut-own.result.now.reclaim.collected + 1 = omega (arith, c.saturating_add-own.ensures) in (
      needs,
      ap Word read_is,
      seat_changed _ _ stored (with_item c.put_list_head.new.self.seats c.args.seat (record c.index_mut-own.result.now { reclaim = record c.index_mut-own.result.now.reclaim { collected = c.saturating_add-own.result; chain = c.list_head-word.result } })) c.args.seat c.index_mut-own.result.now (record c.index_mut-own.result.now { reclaim = record c.index_mut-own.result.now.reclaim { collected = c.saturating_add-own.result; chain = c.list_head-word.result } }) (λ (q : Seat). record q { reclaim = record q.reclaim { collected = q.reclaim.collected + 1; chain = s.words.list_head (s.seat c.args.seat).reclaim.collected (((s.seat c.args.seat).reclaim.epoch + 2) % 4) } }) needs.0 c.index_mut-own.ensures.value refl
          (λ o h w. (λ i. seat_with (record c.index_mut-own.result.now { reclaim = record c.index_mut-own.result.now.reclaim { collected = sym more i; chain = sym read_is i } }) o h w)) (λ q. refl) (λ q. refl) (λ q. refl) refl refl (λ w o. record { token = o.token; announced = o.announced; looked = o.looked; swapped = o.swapped; scans = o.scans; advances = o.advances; rests = o.rests; scan_locale = o.scan_locale; scan_number = o.scan_number; stack_locale = o.stack_locale; stack_index = o.stack_index; tail = o.tail }),
    )
