use Rattle.std.proofs.Common.{◌≡◌, ◌∷◌, refl, ap, sym, ◌∙◌, subst}
use Rattle.std.specs.Vec.{with_item}
use Rattle.pgas_base.specs.declared.shapes.Shape.{Shape}
use Rattle.epoch_laws.specs.declared.steps.Seen.TheVariants.{Word}
use Rattle.epoch_laws.specs.Places.{place_in, with_number}
use Rattle.epoch_laws.specs.Seats.{Seat}
use Rattle.epoch_laws.specs.States.{IsPlace}
use Rattle.epoch_laws.specs.ReclaimSteps.{walk}
use Rattle.epoch_core.specs.Objects.{object_place}
use Rattle.epoch_core.specs.Seated.{seat_with}
use Rattle.epoch_core.specs.Shown.{IsShowing}
use Rattle.epoch_core.proofs.SeatStores.{seat_changed, seat_read}
use Rattle.epoch_laws.specs.States.{with_seat}
use Rattle.epoch_laws.proofs.Updates.{number_here}
use Rattle.epoch_core.specs.Fresh.{IsFresh}
use Rattle.epoch_core.proofs.SeatStores.{fresh_stays, seat_twice}
use Rattle.epoch_core.proofs.machine.Machine.walk.Goals as goal

pub returns : goal.returns
unfolding walk
returns c s sh fresh =
    let needs = c.in_ok-walk_needs.ensures.tells s sh in
    let own = seat_read _ s sh c.args.seat c.index.result.now needs.0 c.index.ensures in
    let fresh_there = fresh needs in
    let chain_is = ap (λ (q : Seat). q.reclaim.chain) own.same in
    let at_is : object_place c.object_in-at.result ≡ place_in (s.seat c.args.seat).reclaim.chain = c.object_in-at.ensures ∙ ap place_in (sym chain_is) in
    let fresh_at = subst (IsFresh s) (sym at_is) fresh_there in
    let place = subst (λ (d : Shape). IsPlace d (object_place c.object_in-at.result)) sh.shape fresh_at.place in
    let next_is : c.next_of-word.result ≡ s.words.next (place_in (s.seat c.args.seat).reclaim.chain) = c.next_of-word.ensures s sh place ∙ ap (λ p. s.words.next p) at_is in
    let changed = seat_changed _ _ sh (with_item c.args.self.now.seats c.args.seat (record c.index_mut.result.now { reclaim = record c.index_mut.result.now.reclaim { chain = c.next_of-word.result } })) c.args.seat c.index_mut.result.now (record c.index_mut.result.now { reclaim = record c.index_mut.result.now.reclaim { chain = c.next_of-word.result } }) (λ (q : Seat). record q { reclaim = record q.reclaim { chain = s.words.next (place_in (s.seat c.args.seat).reclaim.chain) } }) needs.0 c.index_mut.ensures.value refl
    (λ o h w. ap (λ n. seat_with (record c.index_mut.result.now { reclaim = record c.index_mut.result.now.reclaim { chain = n } }) o h w) (sym next_is)) (λ q. refl) (λ q. refl) (λ q. refl) refl refl (λ w o. record { token = o.token; announced = o.announced; looked = o.looked; swapped = o.swapped; scans = o.scans; advances = o.advances; rests = o.rests; scan_locale = o.scan_locale; scan_number = o.scan_number; stack_locale = o.stack_locale; stack_index = o.stack_index; tail = o.tail }) in
    let still = fresh_stays s c.args.seat (λ (q : Seat). record q { reclaim = record q.reclaim { chain = s.words.next (place_in (s.seat c.args.seat).reclaim.chain) } }) (λ q. refl) (λ q. refl) (λ q. refl) (object_place c.object_in-at.result) fresh_at in
    let phase_there = ap (λ (q : Seat). q.phase) (number_here s.seat c.args.seat (record (s.seat c.args.seat) { reclaim = record (s.seat c.args.seat).reclaim { chain = s.words.next (place_in (s.seat c.args.seat).reclaim.chain) } })) ∙ needs.1.0.0 in
    let moved = c.none_to_walked.ensures.shown _ changed still phase_there in
    let there = subst (λ p. IsShowing c.none_to_walked.new.self (with_seat (with_seat s c.args.seat (record (s.seat c.args.seat) { reclaim = record (s.seat c.args.seat).reclaim { chain = s.words.next (place_in (s.seat c.args.seat).reclaim.chain) } })) c.args.seat ((λ (q : Seat). record q { reclaim = record q.reclaim { walked = p ∷ q.reclaim.walked } }) (with_number s.seat c.args.seat (record (s.seat c.args.seat) { reclaim = record (s.seat c.args.seat).reclaim { chain = s.words.next (place_in (s.seat c.args.seat).reclaim.chain) } }) c.args.seat)))) at_is moved in
    let once = subst (λ t. IsShowing c.none_to_walked.new.self t) (seat_twice s c.args.seat (record (s.seat c.args.seat) { reclaim = record (s.seat c.args.seat).reclaim { chain = s.words.next (place_in (s.seat c.args.seat).reclaim.chain) } }) (λ (q : Seat). record q { reclaim = record q.reclaim { walked = place_in (s.seat c.args.seat).reclaim.chain ∷ q.reclaim.walked } })) there in
    (needs, ap Word next_is, once)
