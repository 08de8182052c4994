use Rattle.std.proofs.Common.{◌≡◌, ◌<◌, ◌≤◌, ◌+◌, ℕ, refl, ap, sym, ◌∙◌, arith, subst}
use Rattle.std.specs.Vec.{with_item}
use Rattle.pgas_base.specs.declared.shapes.Shape.{Shape}
use Rattle.epoch_laws.specs.Places.{with_number}
use Rattle.epoch_laws.specs.Seats.{Seat, Advanced}
use Rattle.epoch_laws.specs.ReclaimSteps.{spread}
use Rattle.epoch_core.specs.Phases.{phase_of}
use Rattle.epoch_core.specs.Seated.{seat_with}
use Rattle.epoch_core.specs.Shown.{IsShowing}
use Rattle.epoch_core.proofs.SeatStores.{seat_changed, seat_read}
use Rattle.epoch_core.proofs.machine.Machine.spread.Goals as goal

pub returns : goal.returns
unfolding spread
returns c s sh =
    let needs = c.in_ok-spread_needs.ensures.tells s sh in
    let own = seat_read _ s sh c.args.seat c.index.result.now needs.0 c.index.ensures in
    let phase_now : phase_of c.index.result.now.phase ≡ Advanced = sym (ap (λ (q : Seat). q.phase) own.same) ∙ needs.1.0.0 in
    let low : c.index.result.now.reclaim.epoch < 4611686018427387904 = own.in_range.advances phase_now in
    let epoch_is = ap (λ (q : Seat). q.reclaim.epoch) own.same in
    let spread_is = ap (λ (q : Seat). q.reclaim.spread) own.same in
    let raised_is : c.raised-epoch.result ≡ c.index.result.now.reclaim.epoch + 1 = c.raised-epoch.ensures (omega arith) (omega arith) in
    let next_is : c.raised-epoch.result ≡ (s.seat c.args.seat).reclaim.epoch + 1 = raised_is ∙ ap (λ e. e + 1) (sym epoch_is) in
    let low_next : c.raised-epoch.result ≤ 4611686018427387904 = omega arith in
    let locales_are = ap (λ (d : Shape). d.locales) sh.shape in
    let inside = subst (λ l. l < c.args.self.now.shape.locales) spread_is (subst (λ n. (s.seat c.args.seat).reclaim.spread < n) locales_are needs.1.0.1) in
    let P : ℕ → Type 0 = λ l. IsShowing c.put_epoch_of.new.self (record s { words = record s.words { epoch_of = with_number s.words.epoch_of l c.raised-epoch.result } }) in
    let Q : ℕ → Type 0 = λ e. IsShowing c.put_epoch_of.new.self (record s { words = record s.words { epoch_of = with_number s.words.epoch_of (s.seat c.args.seat).reclaim.spread e } }) in
    let stored = subst Q next_is (subst P (sym spread_is) (c.put_epoch_of.ensures.shown s sh inside low_next)) in
    let run = seat_read _ _ stored c.args.seat c.index_mut-own.result.now needs.0 c.index_mut-own.ensures.value in
    let run_spread = ap (λ (q : Seat). q.reclaim.spread) run.same in
    let most = sh.shaped.0.1 in
    let small : (s.seat c.args.seat).reclaim.spread < 16 = omega arith in
    let more : c.saturating_add-own.result ≡ c.index_mut-own.result.now.reclaim.spread + 1 = omega (arith, c.saturating_add-own.ensures) in (
      needs,
      refl,
      seat_changed _ _ stored (with_item c.put_epoch_of.new.self.seats c.args.seat (record c.index_mut-own.result.now { reclaim = record c.index_mut-own.result.now.reclaim { spread = c.saturating_add-own.result } })) c.args.seat c.index_mut-own.result.now (record c.index_mut-own.result.now { reclaim = record c.index_mut-own.result.now.reclaim { spread = c.saturating_add-own.result } }) (λ (q : Seat). record q { reclaim = record q.reclaim { spread = q.reclaim.spread + 1 } }) needs.0 c.index_mut-own.ensures.value refl
          (λ o h w. ap (λ n. seat_with (record c.index_mut-own.result.now { reclaim = record c.index_mut-own.result.now.reclaim { spread = n } }) o h w) (sym more)) (λ q. refl) (λ q. refl) (λ q. refl) refl refl (λ w o. record { token = o.token; announced = o.announced; looked = o.looked; swapped = o.swapped; scans = o.scans; advances = o.advances; rests = o.rests; scan_locale = o.scan_locale; scan_number = o.scan_number; stack_locale = o.stack_locale; stack_index = o.stack_index; tail = o.tail }),
    )
