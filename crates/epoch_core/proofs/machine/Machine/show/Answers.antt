use Rattle.std.proofs.Common.{◌≡◌, true, refl, sym, subst}
use Rattle.epoch_laws.specs.Places.{place_of, with_place}
use Rattle.epoch_laws.specs.States.{IsPlace}
use Rattle.epoch_laws.specs.TakeSteps.{show}
use Rattle.epoch_core.specs.Shown.{IsShowing}
use Rattle.pool_core.specs.declared.headers.State.TheVariants.{Shown}
use Rattle.epoch_laws.specs.States.{with_seat}
use Rattle.epoch_laws.specs.Places.{is_among, without}
use Rattle.epoch_core.proofs.Decided.{is_true}
use Rattle.epoch_core.proofs.machine.Machine.show.Goals as goal

pub returns : goal.returns
unfolding show
returns c s sh =
    let needs = c.in_ok-owner_needs.ensures.tells s sh in
    let inside = c.in_ok-owner_needs.ensures.place in
    let at_is = c.object_of-at.ensures.value in
    let at_inside = subst (IsPlace c.args.self.now.shape) (sym at_is) inside in
    let stored = c.put_header.ensures.shown s sh at_inside in
    let has = subst (λ p. is_among p ((s.seat c.args.seat).owned) ≡ true) (sym at_is) (is_true needs.1.1.1.1.0) in
    let moved = c.own_to_none.ensures.shown _ stored has in
    (needs, refl, subst (λ n. IsShowing c.own_to_none.new.self (with_seat (record s { words = record s.words { header = with_place s.words.header (place_of c.args.ptr) (record { count = n; state = Shown }) } }) c.args.seat (record (s.seat c.args.seat) { owned = without (place_of c.args.ptr) (s.seat c.args.seat).owned }))) c.count.ensures (subst (λ p. IsShowing c.own_to_none.new.self (with_seat (record s { words = record s.words { header = with_place s.words.header p (record { count = c.count.result; state = Shown }) } }) c.args.seat (record (s.seat c.args.seat) { owned = without p (s.seat c.args.seat).owned }))) at_is moved))
