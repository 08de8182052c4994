use Rattle.std.proofs.Common.{◌≡◌, ◌<◌, ℕ, List, ◌∷◌, refl, ap, sym, ◌∙◌, subst, map, reverse}
use Rattle.std.specs.Vec.{with_item}
use Rattle.epoch_laws.specs.declared.steps.Seen.TheVariants.{Word}
use Rattle.epoch_laws.specs.Places.{Place, place_of, place_in}
use Rattle.epoch_laws.specs.Seats.{Seat}
use Rattle.epoch_laws.specs.HoldSteps.{hold}
use Rattle.epoch_core.specs.Seated.{seat_with}
use Rattle.epoch_core.specs.Shown.{IsShowing}
use Rattle.epoch_core.proofs.SeatStores.{seat_changed, seat_read}
use Rattle.std.proofs.Common.{length}
use Rattle.epoch_laws.specs.States.{with_seat}
use Rattle.epoch_laws.specs.Places.{is_among, joined_by}
use Rattle.epoch_core.proofs.HeldWords.{joined_there, joined_new, unchanged, length-held, place_in-word, held-push, pushes}
use Rattle.epoch_core.proofs.machine.Machine.hold.Goals as goal

pub returns-then-holds : goal.returns-then-holds
unfolding hold
returns-then-holds c s sh =
    let needs = c.in_ok-hold_needs.ensures.tells s sh in
    let place = c.in_ok-hold_needs.ensures.place in
    let at_is = c.object_of.ensures.value in
    let held_is : c.holds.result ≡ is_among (place_of c.args.ptr) (s.seat c.args.seat).held = c.holds.ensures s sh ∙ ap (λ p. is_among p (s.seat c.args.seat).held) at_is in
    let on = sym held_is ∙ c.if-holds.true in
    let same : joined_by (place_of c.args.ptr) (s.seat c.args.seat).held ≡ (s.seat c.args.seat).held = joined_there _ _ on in
    let P : List Place → Type 0 = λ l. IsShowing c.args.self.now (with_seat s c.args.seat (record (s.seat c.args.seat) { held = l })) in
    (needs, ap Word c.word-word.ensures.value, subst P (sym same) (unchanged _ s sh c.args.seat))

pub returns : goal.returns
unfolding hold
returns c s sh =
    let needs = c.in_ok-hold_needs.ensures.tells s sh in
    let place = c.in_ok-hold_needs.ensures.place in
    let at_is = c.object_of.ensures.value in
    let held_is : c.holds.result ≡ is_among (place_of c.args.ptr) (s.seat c.args.seat).held = c.holds.ensures s sh ∙ ap (λ p. is_among p (s.seat c.args.seat).held) at_is in
    let off = sym held_is ∙ c.if-holds.false in
    let run = seat_read _ _ sh c.args.seat c.index_mut-own.result.now needs.0 c.index_mut-own.ensures.value in
    let held_was = ap (λ (q : Seat). q.held) run.same in
    let room : length c.index_mut-own.result.now.held.items < 4 = subst (λ n. n < 4) (ap length held_was ∙ length-held _) needs.1.1.1.1.1.0 in
    let pushed = pushes _ _ _ _ c.try_push.ensures.variant c.try_push.ensures.ok room in
    let word_is : place_in c.word-word.result ≡ place_of c.args.ptr = ap place_in c.word-word.ensures.value ∙ place_in-word c.args.ptr c.word-word.ensures.pointer in
    let held_now : map place_in (reverse c.try_push.new.self.items) ≡ joined_by (place_of c.args.ptr) (s.seat c.args.seat).held =
    ap (λ (l : List ℕ). map place_in (reverse l)) pushed ∙ held-push c.index_mut-own.result.now.held.items c.word-word.result ∙ (λ i. word_is i ∷ sym held_was i) ∙ sym (joined_new _ _ off) in (
      needs,
      ap Word c.word-word.ensures.value,
      seat_changed _ _ sh (with_item c.args.self.now.seats c.args.seat (record c.index_mut-own.result.now { held = c.try_push.new.self })) c.args.seat c.index_mut-own.result.now (record c.index_mut-own.result.now { held = c.try_push.new.self }) (λ (q : Seat). record q { held = joined_by (place_of c.args.ptr) (s.seat c.args.seat).held }) needs.0 c.index_mut-own.ensures.value refl
          (λ o h w. ap (λ (l : List Place). record (seat_with c.index_mut-own.result.now o h w) { held = l }) (sym held_now)) (λ q. refl) (λ q. refl) (λ q. refl) refl refl (λ w o. record { token = o.token; announced = o.announced; looked = o.looked; swapped = o.swapped; scans = o.scans; advances = o.advances; rests = o.rests; scan_locale = o.scan_locale; scan_number = o.scan_number; stack_locale = o.stack_locale; stack_index = o.stack_index; tail = o.tail }),
    )
