use Rattle.std.proofs.Common.{◌≡◌, ◌<◌, ◌≤◌, ◌+◌, List, [], refl, ap, sym, ◌∙◌, arith, subst}
use Rattle.std.specs.Vec.{with_item}
use Rattle.epoch_laws.specs.Places.{Place, with_number}
use Rattle.epoch_laws.specs.Seats.{Seat, Scanning, Advanced}
use Rattle.epoch_laws.specs.ReclaimSteps.{advance}
use Rattle.epoch_core.specs.declared.seats.Phase.TheVariants.{Advanced as RunAdvanced}
use Rattle.epoch_core.specs.Phases.{phase_of}
use Rattle.epoch_core.specs.Shown.{IsShowing}
use Rattle.epoch_core.proofs.SeatStores.{seat_changed, seat_read}
use Rattle.epoch_core.proofs.Stores.{epoch_stored}
use Rattle.epoch_core.proofs.machine.Machine.advance.Goals as goal

pub returns : goal.returns
unfolding advance
returns c s sh =
    let needs = c.in_ok-advance_needs.ensures.tells s sh in
    let phase : phase_of c.index_mut-own.result.now.phase ≡ Scanning = sym (ap (λ (q : Seat). q.phase) (seat_read _ _ sh c.args.seat c.index_mut-own.result.now needs.0 c.index_mut-own.ensures.value).same) ∙ needs.1.0.0 in
    let run = seat_read _ s sh c.args.seat c.index_mut-own.result.now needs.0 c.index_mut-own.ensures.value in
    let low : c.index_mut-own.result.now.reclaim.epoch < 4611686018427387904 = run.in_range.scans phase in
    let epoch_is = ap (λ (q : Seat). q.reclaim.epoch) run.same in
    let raised_is : c.raised-self.result ≡ c.index_mut-own.result.now.reclaim.epoch + 1 = c.raised-self.ensures (omega arith) (omega arith) in
    let next_is : c.raised-self.result ≡ (s.seat c.args.seat).reclaim.epoch + 1 = raised_is ∙ ap (λ e. e + 1) (sym epoch_is) in
    let low_next : c.raised-self.result ≤ 4611686018427387904 = omega arith in
    let none = run.in_range.rests (λ a. absurd (cc (phase, a))) in
    let kept : (s.seat c.args.seat).reclaim.walked ≡ [] = none in
    let changed = (seat_changed _ _ sh (with_item c.args.self.now.seats c.args.seat (record c.index_mut-own.result.now { phase = RunAdvanced; reclaim = record c.index_mut-own.result.now.reclaim { spread = 0; collected = 0; chain = 0 } })) c.args.seat c.index_mut-own.result.now (record c.index_mut-own.result.now { phase = RunAdvanced; reclaim = record c.index_mut-own.result.now.reclaim { spread = 0; collected = 0; chain = 0 } }) (λ (q : Seat). record q { phase = Advanced; reclaim = record q.reclaim { spread = 0; collected = 0; chain = 0 } }) needs.0 c.index_mut-own.ensures.value refl
    (λ o h w. refl) (λ q. refl) (λ q. refl) (λ q. refl) refl refl (λ w o. record { token = o.token; announced = o.announced; looked = λ a. absurd (cc a); swapped = λ a. absurd (cc a); scans = λ a. absurd (cc a); advances = λ _. o.scans phase; rests = λ no. absurd (no refl); scan_locale = o.scan_locale; scan_number = o.scan_number; stack_locale = o.stack_locale; stack_index = o.stack_index; tail = o.tail })) in
    let P : List Place → Type 0 = λ l. IsShowing (record c.args.self.now { seats = with_item c.args.self.now.seats c.args.seat (record c.index_mut-own.result.now { phase = RunAdvanced; reclaim = record c.index_mut-own.result.now.reclaim { spread = 0; collected = 0; chain = 0 } }); epoch = c.raised-self.result }) (record s { words = record s.words { epoch = (s.seat c.args.seat).reclaim.epoch + 1 }; seat = with_number s.seat c.args.seat (record (s.seat c.args.seat) { phase = Advanced; reclaim = record (s.seat c.args.seat).reclaim { spread = 0; collected = 0; chain = 0; walked = l } }) }) in
    (needs, refl, subst P kept (subst (λ e. IsShowing (record c.args.self.now { seats = with_item c.args.self.now.seats c.args.seat (record c.index_mut-own.result.now { phase = RunAdvanced; reclaim = record c.index_mut-own.result.now.reclaim { spread = 0; collected = 0; chain = 0 } }); epoch = c.raised-self.result }) (record s { words = record s.words { epoch = e }; seat = with_number s.seat c.args.seat (record (s.seat c.args.seat) { phase = Advanced; reclaim = record (s.seat c.args.seat).reclaim { spread = 0; collected = 0; chain = 0 } }) })) next_is (epoch_stored _ _ changed c.raised-self.result low_next)))
