use Rattle.std.proofs.Common.{◌≡◌, ℕ, Option, Some, None, refl, ap, sym, ◌∙◌, subst}
use Rattle.std.specs.Vec.{with_item}
use Rattle.std.specs.Option.{option_map}
use Rattle.epoch_laws.specs.Places.{Place, place_of, with_place}
use Rattle.epoch_laws.specs.Seats.{Seat}
use Rattle.epoch_laws.specs.States.{IsPlace}
use Rattle.epoch_laws.specs.HomeSteps.{home_link, with_link}
use Rattle.epoch_core.specs.Shown.{IsShowing}
use Rattle.epoch_core.proofs.SeatStores.{seat_changed, seat_read}
use Rattle.epoch_laws.specs.HomeSteps.{Waits}
use Rattle.epoch_core.specs.Seated.{TailInside}
use Rattle.epoch_core.proofs.Frees.{tail_cases}
use Rattle.epoch_core.proofs.machine.Machine.home_link.Goals as goal

pub returns : goal.returns
unfolding home_link with_link
returns c s sh =
    let needs = c.in_ok-home_link_needs.ensures.tells s sh in
    let own = seat_read _ s sh c.args.seat c.index.result.now needs.0 c.index.ensures in
    let tail_is = ap (λ (q : Seat). q.homing.tail) own.same in
    let tail = tail_cases c.index.result.now.homing.tail (subst (λ t. Waits t) tail_is needs.1.0) in
    let place = subst (TailInside c.args.self.now.shape) tail.1 own.in_range.tail in
    let at_is = c.object_named-at.ensures tail.0 tail.1 in
    let old_is = ap (λ (q : Seat). q.homing.old) own.same in
    let whole : (s.seat c.args.seat).homing.tail ≡ Some (place_of tail.0) = tail_is ∙ ap (λ t. option_map place_of t) tail.1 in
    let P : Place → ℕ → Type 0 = λ p w. IsShowing c.put_next.new.self (record s { words = record s.words { next = with_place s.words.next p w } }) in
    let S : Option Place → Type 0 = λ t. IsShowing c.put_next.new.self (record s { words = record s.words { next = with_link s.words.next t (s.seat c.args.seat).homing.old } }) in
    let stored = subst S (sym whole) (subst (λ w. P (place_of tail.0) w) (sym old_is) (subst (λ p. P p c.index.result.now.homing.old) at_is (c.put_next.ensures.shown s sh (subst (IsPlace c.args.self.now.shape) (sym at_is) place)))) in (
      needs,
      refl,
      seat_changed _ _ stored (with_item c.put_next.new.self.seats c.args.seat (record c.index_mut.result.now { homing = record c.index_mut.result.now.homing { tail = None } })) c.args.seat c.index_mut.result.now (record c.index_mut.result.now { homing = record c.index_mut.result.now.homing { tail = None } }) (λ (q : Seat). record q { homing = record q.homing { tail = None } }) needs.0 c.index_mut.ensures.value refl
          (λ o h w. refl) (λ q. refl) (λ q. refl) (λ q. refl) refl refl (λ w o. record { token = o.token; announced = o.announced; looked = o.looked; swapped = o.swapped; scans = o.scans; advances = o.advances; rests = o.rests; scan_locale = o.scan_locale; scan_number = o.scan_number; stack_locale = o.stack_locale; stack_index = o.stack_index; tail = tt }),
    )
